-- What the kernel's run gives of whole records, from a state that passes test 29: the model's lines, and the state after, which passes it again.
-- Assumes nothing.
use Rattle.std.specs.Prelude.{Result, Ok, Err, IsOk}
use Prim.Native.Nat.{ℕ, ◌/◌, ◌%◌, ◌≤◌}
use mathlib.Core.Path.{◌≡◌, refl, ap, ◌∙◌}
use mathlib.Core.Bool.{true}
use mathlib.Core.List.{List}
use native.Mathlib.Omega.{arith}
use lib.Dec.{eqb}
use lib.ListN.{length, drop}
use borrow.Author.Tests.{eq-eqb}
use Rattle.model.specs.Run.{answers, after_all, events_of, joined, list_fault}
use Rattle.states.specs.declared.State.{State}
use Rattle.states.specs.Shown.{shown_state, is_sound}
use Rattle.kernel.specs.declared.refusal.ListRefusal.{ListRefusal}
use Rattle.kernel.specs.Shown.{refusal_of, state_kept}
use Rattle.kernel.specs.Meets.{RunMeets, state_after}
use Rattle.kernel.proofs.Laws.{fault-0, unnumbered}
use Rattle.kernel.proofs.GivenStates.{list-sound, run-leaves, run-answers}
use Rattle.runner_text.specs.Text.{lines}
use Rattle.runner_text.specs.Output.{lines_from}
use Rattle.runner_text.proofs.Turns.{lines-answers, answers-length}

-- a result that is no refusal
given : (r : Result State ListRefusal) → refusal_of r ≡ 0 → IsOk r
given (Ok st) z = refl
given (Err e) z = absurd (unnumbered e z)

module _ {t : List ℕ} {st : State} {events buffer buffer' : List ℕ} {r : Result State ListRefusal}
    (sound : is_sound t st ≡ true) (whole : length events % 80 ≡ 0) (room : length events ≤ length buffer) (m : RunMeets t st events buffer r buffer') where
  no-fault : list_fault (eqb (length events % 80) 0) events buffer (is_sound t st) ≡ 0
  no-fault =
      ap (λ w. list_fault w events buffer (is_sound t st)) (eq-eqb (length events % 80) 0 whole) ∙ fault-0 events buffer (is_sound t st) room sound

  pub run-given : IsOk r
  run-given = given r (m.refusal ∙ no-fault)

  pub run-shown : shown_state t (state_kept st r) ≡ after_all t (shown_state t st) (events_of events)
  run-shown = run-leaves sound m (m.refusal ∙ no-fault)

  pub run_sound : is_sound t (state_kept st r) ≡ true
  run_sound = ap (is_sound t) (m.state ∙ ap (λ f. state_after f t st events) no-fault) ∙ list-sound t st sound events

  pub run-lines : (first : ℕ) → lines first events buffer' (length events / 80) ≡ lines_from t (shown_state t st) first events
  unfolding lines_from
  run-lines first =
      let model = joined (answers t (shown_state t st) (events_of events)) in
      ap (λ b. lines first events b (length events / 80)) (run-answers m (m.refusal ∙ no-fault))
      ∙ lines-answers first events model (drop (length events) buffer) (length events / 80) (omega (arith, answers-length t (shown_state t st) events))
