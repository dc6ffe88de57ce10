-- `runner_text::refusals::torn` meets its contract: nothing of no byte, else the refusal. Assumes nothing.
use Prim.Native.Nat.{ℕ, zero, suc}
use mathlib.Core.Path.{◌≡◌, refl, sym, ap}
use native.Mathlib.Omega.{arith}
use Rattle.runner_text.specs.Text.{events_refused}
use Rattle.runner_text.specs.Output.{torn_text}
use Rattle.runner_text.proofs.Laws
use Rattle.runner_text.proofs.refusals.torn.Goals as goal

some-tail : (tail : ℕ) → (tail ≡ 0 → ⊥) → torn_text tail ≡ events_refused
some-tail zero some = absurd (some refl)
some-tail (suc n) some = refl

pub returns-then-tail-ne0 : goal.returns-then-tail-ne0
unfolding events_refused
returns-then-tail-ne0 c = Laws.adds_same (sym (some-tail c.args.tail c.if-tail-ne0.true)) c.text.ensures

pub returns-else-tail-ne0 : goal.returns-else-tail-ne0
returns-else-tail-ne0 c = Laws.adds_as (omega arith) (sym (ap torn_text c.if-tail-ne0.false)) (Laws.adds_none c.args.page.now)
