-- One body for demand 2: whatever meets the contract of a public call is the model's call. The refusal, the state that is shown and every byte of the
-- answers are those of `run` and `step` (model/specs/Run), on the state that the handed-in state shows.
-- A state of the code keeps one number more than the model's, the slot of each port's oldest message. Where one of them is no slot the kernel
-- refuses 29, after 27 and 28; no state that the public calls give is such.
-- Assumes nothing.
use Rattle.std.specs.Prelude.{Result, Ok, Err, IsOkAnd}
use Prim.Native.Nat.{ℕ, ◌%◌}
use mathlib.Core.Path.{◌≡◌, refl, ◌∙◌, ap}
use mathlib.Core.Bool.{Bool, true, false, ◌&&◌, false≢true}
use mathlib.Core.List.{List}
use lib.Dec.{eqb}
use lib.ListN.{length}
use borrow.Author.Tests.{eqb-true, eqb-false, ne_eqb}
use Rattle.model.specs.Tables.{Tables}
use Rattle.model.specs.Load.{accepts}
use Rattle.model.specs.State.{in_range, loaded}
use Rattle.model.specs.Events.{event_size}
use Rattle.model.specs.Run.{list_fault, ran_or, run, step}
use Rattle.model.specs.Run as Model
use Rattle.model.proofs.Tests.{both_right}
use Rattle.state_test.specs.Tested.{indexed}
use Rattle.states.specs.declared.State.{State}
use Rattle.states.specs.Shown.{shown_state, state_fits, is_sound}
use Rattle.states.proofs.Load.{load-shown}
use Rattle.loader.specs.declared.refusal.Refused.{Refused}
use Rattle.loader.proofs.Accepts.{is_ok-accepts}
use Rattle.kernel.specs.declared.refusal.ListRefusal.{ListRefusal}
use Rattle.kernel.specs.Shown.{refusal_of, state_kept}
use Rattle.kernel.specs.Meets.{LoadMeets, ListMeets, RunMeets, StepMeets, state_after, answers_after}
use Rattle.kernel.specs.Given.{Given}
use Rattle.kernel.proofs.GivenStates.{given-sound, run-leaves, run-answers}
use Rattle.demands.proofs.Steps.{not-refused}

-- an outcome of a call on a state is the model's
pub record IsModel (t : Tables) (st : State) (m : Model.Ran) (r : Result State ListRefusal) (answers : List ℕ) : Type 0 where
  pub refusal : refusal_of r ≡ m.refusal
  pub state : shown_state t (state_kept st r) ≡ m.state
  pub answered : answers ≡ m.buffer

-- test 29 of the code is the model's, and that each slot is one
and_assoc : (a b c : Bool) → (a && (b && c)) ≡ (a && b && c)
and_assoc true b c = refl
and_assoc false b c = refl

and-true : (b : Bool) → (b && true) ≡ b
and-true true = refl
and-true false = refl

and-false : (b : Bool) → (b && false) ≡ false
and-false true = refl
and-false false = refl

pub sound-is-model : (t : Tables) (st : State) → is_sound t st ≡ (Model.is_sound t (shown_state t st) && indexed t st.numbers)
unfolding is_sound
sound-is-model t st = and_assoc (accepts t) (in_range t (shown_state t st)) (indexed t st.numbers)

same-sound : (t : Tables) (st : State) → indexed t st.numbers ≡ true → is_sound t st ≡ Model.is_sound t (shown_state t st)
same-sound t st i = sound-is-model t st ∙ (rw i (and-true (Model.is_sound t (shown_state t st))))

module _ (t : Tables) (st : State) (events room : List ℕ) {r : Result State ListRefusal} {answers : List ℕ} where
  run-as : (f : ℕ) → f ≡ 0 → is_sound t st ≡ true → ListMeets f t st events room r answers → IsModel t st (ran_or f t (shown_state t st) events room) r answers
  unfolding ran_or
  run-as f z sound m =
      record {
        refusal = m.refusal ∙ z ∙ (rw z);
        state = run-leaves sound m (m.refusal ∙ z) ∙ (rw z);
        answered = run-answers m (m.refusal ∙ z) ∙ (rw z);
      }

  refused_as : (f : ℕ) → (f ≡ 0 → ⊥) → ListMeets f t st events room r answers → IsModel t st (ran_or f t (shown_state t st) events room) r answers
  unfolding ran_or state_after answers_after
  refused_as f z m =
      record {
        refusal = m.refusal ∙ (rw (ne_eqb f 0 z));
        state = ap (shown_state t) m.state ∙ (rw (ne_eqb f 0 z));
        answered = m.answered ∙ (rw (ne_eqb f 0 z));
      }

  is-model : (whole : Bool) → indexed t st.numbers ≡ true → ListMeets (list_fault whole events room (is_sound t st)) t st events room r answers
      → IsModel t st (ran_or (list_fault whole events room (Model.is_sound t (shown_state t st))) t (shown_state t st) events room) r answers
  is-model whole i m = rw (← (same-sound t st i)) (go (eqb fault 0) refl)
    where
      fault : ℕ
      fault = list_fault whole events room (is_sound t st)

      go : (b : Bool) → eqb fault 0 ≡ b → IsModel t st (ran_or fault t (shown_state t st) events room) r answers
      go true e = let z = eqb-true fault 0 e in run-as fault z (not-refused whole events room (is_sound t st) z).is_sound m
      go false e = refused_as fault (eqb-false fault 0 e) m

pub run-is-model : (t : Tables) (st : State) → indexed t st.numbers ≡ true
    → (events room : List ℕ) (r : Result State ListRefusal) (answers : List ℕ) → RunMeets t st events room r answers
    → IsModel t st (run t (shown_state t st) events room) r answers
unfolding run
run-is-model t st i events room r answers m = is-model t st events room (eqb (length events % event_size) 0) i m

pub step-is-model : (t : Tables) (st : State) → indexed t st.numbers ≡ true
    → (event room : List ℕ) (r : Result State ListRefusal) (answers : List ℕ) → StepMeets t st event room r answers
    → IsModel t st (step t (shown_state t st) event room) r answers
unfolding step
step-is-model t st i event room r answers m = is-model t st event room (eqb (length event) event_size) i m

-- a load of accepted tables shows the model's state at load
pub load-is-model : (t : Tables) (r : Result State Refused) → LoadMeets t r → accepts t ≡ true → IsOkAnd r (λ st. shown_state t st ≡ loaded t)
load-is-model t (Ok st) m ok = ap (shown_state t) m.state ∙ load-shown t
load-is-model t (Err e) m ok = absurd (false≢true (is_ok-accepts {A = State} t (Err e) m.verdict ∙ ok))

-- the states that the public calls give have their slots in range
pub given-indexed : (t : Tables) (st : State) → Given t st → indexed t st.numbers ≡ true
unfolding is_sound
given-indexed t st g = both_right (in_range t (shown_state t st)) (indexed t st.numbers) (both_right (accepts t) (state_fits t st) (given-sound t st g))

-- any other state is refused: 27 and 28 where they apply, else 29; the state and every byte of the answers stay
unindexed : (t : Tables) (st : State) → indexed t st.numbers ≡ false → is_sound t st ≡ false
unindexed t st i = sound-is-model t st ∙ (rw i (and-false (Model.is_sound t (shown_state t st))))

pub record HandsBack (refusal : ℕ) (st : State) (room : List ℕ) (r : Result State ListRefusal) (answers : List ℕ) : Type 0 where
  pub refused : refusal_of r ≡ refusal
  pub state : state_kept st r ≡ st
  pub answered : answers ≡ room

module _ (t : Tables) (st : State) (i : indexed t st.numbers ≡ false) (events room : List ℕ) (r : Result State ListRefusal) (answers : List ℕ) where
  hands-back : (whole : Bool) → ListMeets (list_fault whole events room (is_sound t st)) t st events room r answers → HandsBack (list_fault whole events room false) st room r answers
  unfolding state_after answers_after
  hands-back whole m =
      let fault : list_fault whole events room (is_sound t st) ≡ list_fault whole events room false = ap (list_fault whole events room) (unindexed t st i) in
      let some = ne_eqb (list_fault whole events room false) 0 (λ z. false≢true (not-refused whole events room false z).is_sound) in
      record { refused = m.refusal ∙ fault; state = m.state ∙ (rw (fault, some)); answered = m.answered ∙ (rw (fault, some)) }

  pub run-unindexed : RunMeets t st events room r answers → HandsBack (list_fault (eqb (length events % event_size) 0) events room false) st room r answers
  run-unindexed = hands-back (eqb (length events % event_size) 0)

  pub step-unindexed : StepMeets t st events room r answers → HandsBack (list_fault (eqb (length events) event_size) events room false) st room r answers
  step-unindexed = hands-back (eqb (length events) event_size)
