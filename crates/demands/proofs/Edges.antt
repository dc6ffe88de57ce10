-- P1 to P10 of the public step: each row of the model's one table (`edges`), for any state that shows the row's state and any outcome that meets the
-- contract. Such a state exists for each row (`edges-shown`).
-- Assumes nothing.
use Rattle.std.specs.Prelude.{Result, Ok, Err, IsOkAnd}
use Prim.Native.Nat.{ℕ}
use mathlib.Core.Path.{◌≡◌, refl, sym, ◌∙◌, ap, subst}
use mathlib.Core.Bool.{Bool, true, false}
use mathlib.Core.List.Memᴰ
use mathlib.Core.List.{List, Memᴰ}
use mathlib.Core.Logic.{⊎_elim}
use lib.Dec.{eqb}
use lib.ListN.{length}
use borrow.Author.Tests.{eqb-true, eqb-false, ne_eqb}
use Rattle.model.specs.Words.{zeros}
use Rattle.model.specs.Tables.{Tables}
use Rattle.model.specs.Load.{accepts}
use Rattle.model.specs.State.{in_range}
use Rattle.model.specs.State as model
use Rattle.model.specs.Events.{event_size}
use Rattle.model.specs.Ranged.{Ranged}
use Rattle.model.specs.Run.{list_fault, ran_or, step}
use Rattle.model.specs.Run as Model
use Rattle.model.proofs.Tests.{both_right}
use Rattle.model.proofs.Ranges.{ranged}
use Rattle.model.proofs.Edges.{Edge, Holds, Hold, none, also, edges, edges-hold}
use Rattle.state_test.specs.Tested.{indexed}
use Rattle.states.specs.declared.State.{State}
use Rattle.states.specs.Shown.{shown_state, settled_as, all_zero}
use Rattle.states.proofs.Settled.{settled-indexed}
use Rattle.kernel.specs.declared.refusal.ListRefusal.{ListRefusal}
use Rattle.kernel.proofs.Laws.{unnumbered}
use Rattle.kernel.specs.Shown.{refusal_of, state_kept}
use Rattle.kernel.specs.Meets.{StepMeets}
use Rattle.kernel.proofs.GivenStates.{settled-shown}
use Rattle.demands.proofs.Steps.{not-refused}
use Rattle.demands.proofs.Body.{step-is-model}

-- what a row asks of an outcome: it is not refused, the state shown is the one that the row leaves, and the 80 bytes are the row's answer
pub record Gives (x : Edge) (r : Result State ListRefusal) (answers : List ℕ) : Type 0 where
  pub left : IsOkAnd r (λ st. shown_state x.tables st ≡ x.left)
  pub answered : answers ≡ x.answered

-- a state of the code that shows a row's state
pub record Shows (x : Edge) (st : State) : Type 0 where
  pub state : shown_state x.tables st ≡ x.state
  pub slots : indexed x.tables st.numbers ≡ true

-- a row of a table that holds
holds_at : {xs : List Edge} → Hold xs → (x : Edge) → Memᴰ x xs → Holds x
holds_at none x m = absurd (Memᴰ.not-nil m)
holds_at (also h hs) x m = ⊎_elim (λ e. subst Holds (sym e) h) (holds_at hs x) (Memᴰ.cases_cons m)

gives : (x : Edge) → Holds x → (st : State) → Shows x st → (r : Result State ListRefusal) (answers : List ℕ) → StepMeets x.tables st x.asked (zeros event_size) r answers → Gives x r answers
gives x h st s r answers m =
    let is = step-is-model x.tables st s.slots x.asked (zeros event_size) r answers m in
    let same : step x.tables (shown_state x.tables st) x.asked (zeros event_size) ≡ record { refusal = 0; state = x.left; buffer = x.answered } =
    ap (λ a. step x.tables a x.asked (zeros event_size)) s.state ∙ h.stepped
    in
    record {
      left = left r (is.refusal ∙ ap (λ ran. ran.refusal) same) (is.state ∙ ap (λ ran. ran.state) same);
      answered = is.answered ∙ ap (λ ran. ran.buffer) same;
    }
  where
    left : (r : Result State ListRefusal) → refusal_of r ≡ 0 → shown_state x.tables (state_kept st r) ≡ x.left → IsOkAnd r (λ st'. shown_state x.tables st' ≡ x.left)
    left (Ok st') z e = e
    left (Err n) z e = absurd (unnumbered n z)

-- a row's state is in range: its step is not refused
ran-fault : (fault : ℕ) (t : Tables) (s : model.State) (events room : List ℕ) → (ran_or fault t s events room).refusal ≡ 0 → fault ≡ 0
unfolding ran_or
ran-fault fault t s events room z = go (eqb fault 0) refl
  where
    go : (b : Bool) → eqb fault 0 ≡ b → fault ≡ 0
    go true e = eqb-true fault 0 e
    go false e = rw (ne_eqb fault 0 (eqb-false fault 0 e)) at z

step-ranged : (t : Tables) (s : model.State) (event room : List ℕ) → (step t s event room).refusal ≡ 0 → Ranged t s
unfolding step
step-ranged t s event room z =
    let fault = ran-fault (list_fault (eqb (length event) event_size) event room (Model.is_sound t s)) t s event room z in
    ranged t s (both_right (accepts t) (in_range t s) (not-refused (eqb (length event) event_size) event room (Model.is_sound t s) fault).is_sound)

row-ranged : (x : Edge) → Holds x → Ranged x.tables x.state
row-ranged x h = step-ranged x.tables x.state x.asked (zeros event_size) (ap (λ ran. ran.refusal) h.stepped)

shows : (x : Edge) → Holds x → Shows x (settled_as all_zero x.state)
unfolding settled_as
shows x h =
    let r = row-ranged x h in
    record { state = settled-shown x.tables h.accepted all_zero x.state r; slots = settled-indexed x.tables x.state.ports all_zero.numbers r.whole }

pub edges-stepped :
    (x : Edge) → Memᴰ x edges  -- each row of the table,
    → (st : State) → Shows x st  -- any state of the code that shows the row's state,
    → (r : Result State ListRefusal) (answers : List ℕ) → StepMeets x.tables st x.asked (zeros event_size) r answers  -- and any outcome that meets the contract of step:
    → Gives x r answers
edges-stepped x m = gives x (holds_at edges-hold x m)

-- there is such a state: the row's own, in settled form
pub edges-shown : (x : Edge) → Memᴰ x edges → Shows x (settled_as all_zero x.state)
edges-shown x m = shows x (holds_at edges-hold x m)

-- the tables of a row are accepted, and its state is in range
pub edges-accepted : (x : Edge) → Memᴰ x edges → accepts x.tables ≡ true
edges-accepted x m = (holds_at edges-hold x m).accepted

pub edges-ranged : (x : Edge) → Memᴰ x edges → Ranged x.tables x.state
edges-ranged x m = row-ranged x (holds_at edges-hold x m)
