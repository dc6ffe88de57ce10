-- The refusal of a list and the state after it, told as a result: the result has that number and leaves that state.
-- Assumes nothing.
use Rattle.std.specs.Prelude.{if◌then◌else◌}
use Prim.Native.Nat.{ℕ}
use mathlib.Core.Path.{◌≡◌, refl, sym, ◌∙◌, subst}
use mathlib.Core.Bool.{Bool, true, false, not}
use mathlib.Core.List.{List}
use lib.Dec.{ltb}
use lib.ListN.{length}
use Rattle.model.specs.Run.{list_fault}
use Rattle.model.proofs.Tests.{by-test}
use Rattle.states.specs.declared.State.{State}
use Rattle.kernel.specs.Shown.{refusal_of, state_kept}
use Rattle.kernel.specs.Meets.{state_after, answers_after, ListMeets}
use Rattle.demands.specs.Told.{told}

module _ (whole : Bool) (events room : List ℕ) (sound : Bool) where
  refusal-told : (st : State) → refusal_of (told (list_fault whole events room sound) st) ≡ list_fault whole events room sound
  unfolding list_fault
  refusal-told st = go (not whole) (ltb (length room) (length events)) (not sound)
    where
      P : ℕ → Type 0
      P f = refusal_of (told f st) ≡ f

      go : (a b c : Bool) → P (if a then 27 else if b then 28 else if c then 29 else 0)
      go true b c = refl
      go false true c = refl
      go false false true = refl
      go false false false = refl

  kept-told : (t : List ℕ) (st : State) → state_kept st (told (list_fault whole events room sound) (state_after (list_fault whole events room sound) t st events)) ≡ state_after (list_fault whole events room sound) t st events
  unfolding list_fault state_after
  kept-told t st =
      by-test P (not whole) (λ e. refl) (λ e. by-test P (ltb (length room) (length events)) (λ e. refl) (λ e. by-test P (not sound) (λ e. refl) (λ e. refl)))
    where
      P : ℕ → Type 0
      P f = state_kept st (told f (state_after f t st events)) ≡ state_after f t st events

  module _ (t : List ℕ) (st : State) {r : ℕ} (numbered : r ≡ list_fault whole events room sound) where
    pub told-refusal : (st' : State) → refusal_of (told r st') ≡ r
    told-refusal st' = subst (λ f. refusal_of (told f st') ≡ f) (sym numbered) (refusal-told st')

    module _ {st' : State} (left : st' ≡ state_after (list_fault whole events room sound) t st events) where
      pub told-kept : state_kept st (told r st') ≡ st'
      told-kept = rw (numbered, left) (kept-told t st)

      pub told-meets : {a : List ℕ} → a ≡ answers_after (list_fault whole events room sound) t st events room → ListMeets (list_fault whole events room sound) t st events room (told r st') a
      told-meets answered = record { refusal = told-refusal st' ∙ numbered; state = told-kept ∙ left; answered = answered }
