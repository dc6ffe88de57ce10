-- Demand 3 of what hosts link: two exported calls, runs or steps, from buffers that the exported functions gave. And the same of the kernel's own calls,
-- runs or steps, of which `isolation` (kernel/proofs/Isolation) has the runs.
-- Any outcomes that meet the contracts are meant, and no other premise is asked: a host that hands back the buffers that it was given meets it.
-- Assumes nothing.
use Rattle.std.specs.Prelude.{Ok}
use Prim.Native.Nat.{ℕ, ◌<◌}
use mathlib.Core.Path.{◌≡◌, refl}
use mathlib.Core.Bool.{true}
use mathlib.Core.List.{List}
use Rattle.model.specs.Tables.{Tables}
use Rattle.model.specs.Run.{events_of}
use Rattle.model.specs.Walk.{is_member}
use Rattle.model.specs.Flow.{holds, set_of, mattering_to}
use Rattle.states.specs.declared.State.{State}
use Rattle.states.specs.Shown.{shown_state}
use Rattle.kernel.specs.Meets.{RunMeets}
use Rattle.kernel.specs.Given.{Given, records_to}
use Rattle.kernel.proofs.Isolation.{SameBytes, isolation}
use Rattle.state_buffer.specs.Layout.{state_of}
use Rattle.demands.specs.Calls.{Called, by_run, by_step, HostCalled, HostGiven, state_in}
use Rattle.demands.proofs.Steps.{step-is-run, step-length}
use Rattle.demands.proofs.Buffers.{given-keeps, host-call-is-call}

-- a call that is not refused is a run
called-run : {t : Tables} {st : State} {events room : List ℕ} {st' : State} {answers : List ℕ} → Called t st events room st' answers → RunMeets t st events room (Ok st') answers
called-run (by_run m) = m
called-run (by_step m) = step-is-run (step-length m refl) m

-- the kernel's calls
pub call-isolation :
    (t : List ℕ) (p : ℕ) → p < 16  -- fix tables, a partition,
    → (st : State) → Given t st  -- a state that the public calls gave
    → (events room : List ℕ) (after : State) (answers : List ℕ) → Called t st events room after answers  -- and a run or a step that is not refused;
    → (st' : State) → Given t st'  -- take a second such state under the same tables
    → ((d : ℕ) → is_member d (set_of t p (shown_state t st) (events_of events)) ≡ true → holds t (shown_state t st) d ≡ holds t (shown_state t st') d)  -- that agrees on what each final member holds,
    → (events' room' : List ℕ) (after' : State) (answers' : List ℕ) → Called t st' events' room' after' answers'  -- and a second such call,
    → mattering_to t p (shown_state t st) (events_of events) ≡ mattering_to t p (shown_state t st') (events_of events')  -- whose mattering events from there are the same records in the same order:
    → SameBytes t p st events after answers st' events' after' answers'
call-isolation t p few st g events room after answers c st' g' agree events' room' after' answers' c' =
    isolation t p few st g events room after answers (called-run c) st' g' agree events' room' after' answers' (called-run c')

-- what the partition sees of an exported call, bytes and all: the 80-byte records that answer its calls, and what it holds in the buffer afterwards
pub record SameToHost (t : List ℕ) (p : ℕ) (b events after answers b' events' after' answers' : List ℕ) : Type 0 where
  pub answered : records_to t p (state_in t b) (events_of events) answers ≡ records_to t p (state_in t b') (events_of events') answers'
  pub holding : holds t (state_in t after) p ≡ holds t (state_in t after') p

pub host-isolation :
    (t : List ℕ) (p : ℕ) → p < 16  -- fix tables, a partition,
    → (b : List ℕ) → HostGiven t b  -- a buffer that the exported functions gave
    → (events room after answers : List ℕ) → HostCalled t b events room after answers  -- and an exported run or step that is not refused;
    → (b' : List ℕ) → HostGiven t b'  -- take a second such buffer under the same tables
    → ((d : ℕ) → is_member d (set_of t p (state_in t b) (events_of events)) ≡ true → holds t (state_in t b) d ≡ holds t (state_in t b') d)  -- that agrees on what each final member holds,
    → (events' room' after' answers' : List ℕ) → HostCalled t b' events' room' after' answers'  -- and a second such call,
    → mattering_to t p (state_in t b) (events_of events) ≡ mattering_to t p (state_in t b') (events_of events')  -- whose mattering events from there are the same records in the same order:
    → SameToHost t p b events after answers b' events' after' answers'  -- the partition is answered the same, byte for byte, and holds the same
host-isolation t p few b g events room after answers c b' g' agree events' room' after' answers' c' matter =
    let k = given-keeps t b g in
    let k' = given-keeps t b' g' in
    let same =
    call-isolation t p few (state_of b) k.given events room (state_of after) answers (host-call-is-call t b k.sits events room after answers c)
    (state_of b') k'.given agree events' room' (state_of after') answers' (host-call-is-call t b' k'.sits events' room' after' answers' c') matter
    in
    record { answered = same.answered; holding = same.holding }
