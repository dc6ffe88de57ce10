-- Demands 1 and 2 of what hosts link. On a buffer of a state's size with its slots in range, an exported run or step is the model's: its refusal, the state in
-- the buffer afterwards and every byte of the answers. So P1 to P10 hold of the exported step, and an event that is not answered 0 changes no state and
-- tells code and doer alone. Every buffer that the exported functions give is such a buffer (`given-sits`, `given-slots`); of others, every one whose
-- elements are bytes has its numbers as the layout keeps them (`bytes-sit`).
-- Assumes nothing.
use Rattle.std.specs.Prelude.{IsOkAnd}
use Prim.Native.Nat.{ℕ, zero, suc, ◌<◌}
use mathlib.Core.Path.{◌≡◌, refl, sym, ◌∙◌, ap, subst}
use mathlib.Core.Bool.{Bool, true, false, ◌&&◌}
use mathlib.Core.List.Memᴰ
use mathlib.Core.List.{List, [], ◌∷◌, Memᴰ}
use mathlib.Core.Logic.{⊎_elim}
use native.Mathlib.Omega.{arith}
use lib.Dec.{eqb, ltb}
use lib.ListN.{length, get_or, take}
use borrow.Author.Tests.{eqb-true, ltb-true}
use Rattle.model.specs.Words.{byte, zeros, all_in}
use Rattle.model.specs.Tables.{Tables}
use Rattle.model.specs.State.{Port, fresh, loaded}
use Rattle.model.specs.Events.{event_size}
use Rattle.model.specs.Run.{events_of, run, step}
use Rattle.model.specs.Run as Model
use Rattle.model.proofs.Tests.{both_left, both_right}
use Rattle.model.proofs.Computing.{stepping}
use Rattle.model.proofs.Edges.{Edge, edges}
use Rattle.state_test.specs.Tested.{indexed}
use Rattle.states.specs.declared.State.{State}
use Rattle.states.specs.Shown.{shown_state, settled_as, all_zero}
use Rattle.states.proofs.Load.{load-shown}
use Rattle.state_buffer.specs.Layout.{state_of, bytes_of}
use Rattle.state_buffer.proofs.Round.{state-back}
use Rattle.host.specs.Exports.{HostLoad, HostRun, HostStep}
use Rattle.demands.specs.Told.{told}
use Rattle.demands.specs.Calls.{HostGiven, state_in}
use Rattle.demands.proofs.Body.{run-is-model, step-is-model, given-indexed}
use Rattle.demands.proofs.Edges.{Shows, edges-stepped, edges-shown, edges-accepted, edges-ranged}
use Rattle.demands.proofs.Refusals.{record_at, event_at, before, DidNothing, run-refused, step-refused}
use Rattle.demands.proofs.Times.{most, Timed}
use Rattle.demands.proofs.Widths.{zero-typed, settled-typed}
use Rattle.demands.proofs.Buffers.{Sits, laid-sits, given-keeps, host-load-is-load, host-run-is-run, host-step-is-step, host-run-told, host-step-told, host-run-kept, host-step-kept}

-- given buffers: the slots of the state in them are in range
pub given-sits : (t b : List ℕ) → HostGiven t b → Sits b
given-sits t b g = (given-keeps t b g).sits

pub given-slots : (t b : List ℕ) → HostGiven t b → indexed t (state_of b).numbers ≡ true
given-slots t b g = given-indexed t (state_of b) (given-keeps t b g).given

-- an outcome of an exported call is the model's
pub record HostIsModel (t : Tables) (m : Model.Ran) (r : ℕ) (b' answers : List ℕ) : Type 0 where
  pub refusal : r ≡ m.refusal
  pub state : state_in t b' ≡ m.state
  pub answered : answers ≡ m.buffer

module _ (t b : List ℕ) (sits : Sits b) (slots : indexed t (state_of b).numbers ≡ true) (events room : List ℕ) (r : ℕ) (b' answers : List ℕ) where
  pub host-run-is-model : HostRun t b events room r b' answers → HostIsModel t (run t (state_in t b) events room) r b' answers
  host-run-is-model h =
      let m = run-is-model t (state_of b) slots events room (told r (state_of b')) answers (host-run-is-run t b sits events room r b' answers h).meets in
      record {
        refusal = sym (host-run-told t b sits events room r b' answers h) ∙ m.refusal;
        state = ap (shown_state t) (sym (host-run-kept t b sits events room r b' answers h)) ∙ m.state;
        answered = m.answered;
      }

  pub host-step-is-model : HostStep t b events room r b' answers → HostIsModel t (step t (state_in t b) events room) r b' answers
  host-step-is-model h =
      let m = step-is-model t (state_of b) slots events room (told r (state_of b')) answers (host-step-is-step t b sits events room r b' answers h).meets in
      record {
        refusal = sym (host-step-told t b sits events room r b' answers h) ∙ m.refusal;
        state = ap (shown_state t) (sym (host-step-kept t b sits events room r b' answers h)) ∙ m.state;
        answered = m.answered;
      }

-- an exported load that gives 0 leaves the model's state at load
pub host-load-is-model : (t b : List ℕ) (r : ℕ) (b' : List ℕ) → HostLoad t b r b' → r ≡ 0 → state_in t b' ≡ loaded t
host-load-is-model t b r b' h z = ap (shown_state t) (host-load-is-load t b r b' h z) ∙ load-shown t

-- demand 1
pub host-run-refused :
    (t b : List ℕ) → Sits b → (events room b' answers : List ℕ) → HostRun t b events room 0 b' answers  -- a list that is run,
    → (i : ℕ) → i < length (events_of events)  -- and an event of it
    → (byte (record_at answers i) 0 ≡ 0 → ⊥)  -- that is not answered 0:
    → DidNothing t (before t (state_of b) events i) (event_at events i) (before t (state_of b) events (suc i)) (record_at answers i)
host-run-refused t b sits events room b' answers h =
    run-refused t (state_of b) events room (state_of b') answers (host-run-is-run t b sits events room 0 b' answers h).meets

pub host-step-refused :
    (t b : List ℕ) → Sits b → (event room b' answers : List ℕ) → HostStep t b event room 0 b' answers  -- a step that is not refused,
    → (byte (take 80 answers) 0 ≡ 0 → ⊥)  -- whose event is not answered 0:
    → DidNothing t (state_in t b) event (state_in t b') (take 80 answers)
host-step-refused t b sits event room b' answers h =
    step-refused t (state_of b) event room (state_of b') answers (host-step-is-step t b sits event room 0 b' answers h).meets

-- P1 to P10: what a row asks of an exported step
pub record HostGives (x : Edge) (r : ℕ) (b' answers : List ℕ) : Type 0 where
  pub refusal : r ≡ 0
  pub left : state_in x.tables b' ≡ x.left
  pub answered : answers ≡ x.answered

pub host-edges-stepped :
    (x : Edge) → Memᴰ x edges  -- each row of the table,
    → (b : List ℕ) → Sits b → Shows x (state_of b)  -- any buffer whose state shows the row's,
    → (r : ℕ) (b' answers : List ℕ) → HostStep x.tables b x.asked (zeros event_size) r b' answers  -- and any outcome of the exported step:
    → HostGives x r b' answers
host-edges-stepped x m b sits shows r b' answers h =
    let gives = edges-stepped x m (state_of b) shows (told r (state_of b')) answers (host-step-is-step x.tables b sits x.asked (zeros event_size) r b' answers h).meets in
    let is = of-told (eqb r 0) refl gives.left in
    record { refusal = is.0; left = is.1; answered = gives.answered }
  where
    P : State → Type 0
    P st = shown_state x.tables st ≡ x.left

    of-told : (c : Bool) → eqb r 0 ≡ c → IsOkAnd (told r (state_of b')) P → (r ≡ 0) × P (state_of b')
    of-told true e i = (eqb-true r 0 e, rw e at i)
    of-told false e i = absurd (rw e at i)

-- there is such a buffer: that of the row's own state, in settled form. Its times fit 32 bits
timely : Edge → Bool
timely x = ltb x.state.clock.time most && all_in (λ (q : Port). ltb q.arrival most) x.state.ports

edges-timely : all_in timely edges ≡ true
unfolding timely stepping
edges-timely = refl

timely-at : (xs : List Edge) → all_in timely xs ≡ true → (x : Edge) → Memᴰ x xs → timely x ≡ true
timely-at [] h x m = absurd (Memᴰ.not-nil m)
timely-at (y ∷ ys) h x m =
    ⊎_elim (λ e. ap timely e ∙ both_left (timely y) (all_in timely ys) h) (timely-at ys (both_right (timely y) (all_in timely ys) h) x) (Memᴰ.cases_cons m)

arrivals-at : (ps : List Port) → all_in (λ (q : Port). ltb q.arrival most) ps ≡ true → (k : ℕ) → (get_or ps k fresh).arrival < most
arrivals-at [] h k = omega arith
arrivals-at (q ∷ ps) h zero = ltb-true q.arrival most (both_left (ltb q.arrival most) (all_in (λ (p : Port). ltb p.arrival most) ps) h)
arrivals-at (q ∷ ps) h (suc k) = arrivals-at ps (both_right (ltb q.arrival most) (all_in (λ (p : Port). ltb p.arrival most) ps) h) k

edges-timed : (x : Edge) → Memᴰ x edges → Timed x.state
unfolding timely
edges-timed x m =
    let h = timely-at edges edges-timely x m in
    let first = ltb x.state.clock.time most in
    let second = all_in (λ (q : Port). ltb q.arrival most) x.state.ports in
    record { time = ltb-true x.state.clock.time most (both_left first second h); arrivals = arrivals-at x.state.ports (both_right first second h) }

pub host-edges-shown : (x : Edge) → Memᴰ x edges → Sits (bytes_of (settled_as all_zero x.state)) × Shows x (state_of (bytes_of (settled_as all_zero x.state)))
host-edges-shown x m =
    let fits = settled-typed x.tables (edges-accepted x m) all_zero zero-typed x.state (edges-ranged x m) (edges-timed x m) in
    (laid-sits (settled_as all_zero x.state) fits, subst (Shows x) (sym (state-back (settled_as all_zero x.state) fits)) (edges-shown x m))
