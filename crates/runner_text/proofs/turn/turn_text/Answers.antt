-- `runner_text::turn::turn_text` meets its contract: the lines of the whole records, and then the broken tail. Assumes nothing.
use Prim.Native.Nat.{◌*◌, ◌-◌, ◌/◌, ◌%◌}
use mathlib.Core.Path.{◌≡◌, refl, sym, ap, ◌∙◌}
use mathlib.Core.List.{◌++◌}
use native.Mathlib.Omega.{arith}
use borrow.Author.Rules.{rules}
use lib.ListN.{length, take}
use Rattle.model.specs.Run.{after_all, events_of}
use Rattle.states.specs.Shown.{shown_state}
use Rattle.runner_text.specs.Output.{lines_from, torn_text}
use Rattle.runner_text.proofs.Laws
use Rattle.runner_text.proofs.Turns
use Rattle.runner_text.proofs.turn.turn_text.Goals as goal

pub returns : goal.returns
returns c =
    let a = c.args in
    let t = a.t.now in
    let shown = shown_state t a.state in
    let read = a.read.now in
    let whole : length read - length read % 80 ≡ 80 * (length read / 80) = omega arith in
    let answered = c.answer_events-after.ensures in
    let written = Laws.adds_then (omega (arith, c.requires.3)) answered.wrote c.torn.ensures in
    let split = ap (λ n. lines_from t shown a.first (take n read) ++ torn_text (length read % 80)) whole ∙ sym (Turns.text-split read t shown a.first) in
    record {
      wrote = Laws.wrote-same split (Laws.adds_all refl refl written (search (rules, written.same)));
      after = answered.after ∙ ap (after_all t shown) (ap (λ n. events_of (take n read)) whole ∙ Turns.events-whole read);
      sound = answered.sound;
    }
