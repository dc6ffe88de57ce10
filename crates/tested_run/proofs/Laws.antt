-- What the proofs of a list lean on: test 29 by its two halves, a state that passes it, and the list carried out.
-- Assumes nothing.
use Prim.Native.Nat.{ℕ, ◌*◌, ◌/◌, ◌%◌}
use mathlib.Core.Path.{◌≡◌, sym, ◌∙◌, ap}
use mathlib.Core.Bool.{Bool, true, false}
use mathlib.Core.List.{List, ◌++◌}
use native.Mathlib.Omega.{arith}
use lib.ListN.{length, drop}
use Rattle.model.specs.Tables.{Tables}
use Rattle.model.specs.Tables.{ports as port_count}
use Rattle.model.specs.Load.{accepts}
use Rattle.model.specs.State as model
use Rattle.model.specs.Run.{answers, events_of, joined}
use Rattle.model.proofs.Tests.{both_left, both_right}
use Rattle.model.proofs.Ranges.{ranged}
use Rattle.events.specs.declared.clock.Clock.{Clock}
use Rattle.service_contracts.proofs.Holding.{held_of}
use Rattle.event_step.specs.Turned.{Ready}
use Rattle.event_list.specs.Stepped.{Runs}
use Rattle.state_test.specs.Tested.{indexed}
use Rattle.settled_form.specs.Settled.{PutTogether}
use Rattle.states.specs.declared.State.{State}
use Rattle.states.specs.Shown.{shown_state, state_fits, is_sound, settled_as}
use Rattle.tested_run.specs.Carried.{CarriedOut}

-- test 29: refused tables, and accepted tables with the state's own test
pub sound-not : (t : List ℕ) (st : State) → accepts t ≡ false → is_sound t st ≡ false
unfolding is_sound
sound-not t st a = rw a

pub sound-is : (t : List ℕ) (st : State) → accepts t ≡ true → {b : Bool} → b ≡ state_fits t st → is_sound t st ≡ b
unfolding is_sound
sound-is t st a e = (rw a) ∙ sym e

-- what a state that passes test 29 meets
pub sound-parts : (t : List ℕ) (st : State) → is_sound t st ≡ true → (accepts t ≡ true) × (state_fits t st ≡ true)
unfolding is_sound
sound-parts t st s = (both_left (accepts t) (state_fits t st) s, both_right (accepts t) (state_fits t st) s)

-- a state that passes test 29 is ready
pub ready_of : (t : Tables) (st : State) → accepts t ≡ true → state_fits t st ≡ true → Ready t (record { window = st.window; time = st.time }) st.modes st.numbers st.bytes
ready_of t st a f =
    let r = ranged t (shown_state t st) (both_left (model.in_range t (shown_state t st)) (indexed t st.numbers) f) in
    record { held = held_of a r; ranged = r }

-- the events run and the ports put together: the list is carried out
pub carried-out :
    (t : Tables) (st : State) (events buffer : List ℕ) {clock : Clock} {modes numbers bytes buffer' numbers' bytes' : List ℕ} {n : ℕ} → length events % 80 ≡ 0 → n ≡ port_count t
    → Runs t events (record { window = st.window; time = st.time }) st.modes st.numbers st.bytes buffer clock modes numbers bytes buffer'
    → PutTogether numbers bytes n st.numbers st.bytes numbers' bytes'
    → CarriedOut t st events buffer (record { window = clock.window; time = clock.time; modes = modes; numbers = numbers'; bytes = bytes' }) buffer'
unfolding settled_as events_of
carried-out t st events buffer whole n run put =
    let all : 80 * (length events / 80) ≡ length events = omega (arith, whole) in
    record {
      state = (rw (put.numbers_put, put.bytes_put, n)) ∙ ap (settled_as st) run.left;
      answered = run.answered ∙ ap (λ k. joined (answers t (shown_state t st) (events_of events)) ++ drop k buffer) all;
    }
