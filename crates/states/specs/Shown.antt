-- What a state shows of the model's, test 29 of it, its settled form, the state at load, and the state of zeros.
-- Assumes nothing.
use Rattle.std.specs.Prelude.{ℕ, Bool, ◌&&◌, List, replicate}
use Rattle.model.specs.Words.{zeros}
use Rattle.model.specs.Tables.{Tables}
use Rattle.model.specs.Load.{accepts}
use Rattle.model.specs.State.{partitions, cold_start, in_range}
use Rattle.model.specs.State as model
use Rattle.ports.specs.Held.{all_numbers, all_bytes}
use Rattle.service_contracts.specs.Did.{shown}
use Rattle.state_test.specs.Tested.{indexed}
use Rattle.settled_form.specs.Settled.{settled_numbers, settled_bytes}
use Rattle.states.specs.declared.State.{State}

-- the model's state: of the port rows those of the tables' ports
abbrev pub shown_state : Tables → State → model.State
shown_state t st = shown t (record { window = st.window; time = st.time }) st.modes st.numbers st.bytes

-- test 29 of a state, for tables that are accepted
abbrev pub state_fits : Tables → State → Bool
state_fits t st = in_range t (shown_state t st) && indexed t st.numbers

-- test 29: the tables are accepted, and the state fits them
unfoldable pub is_sound : List ℕ → State → Bool
is_sound t st = accepts t && state_fits t st

-- the state that shows a model's state, in settled form; rows beyond the tables' ports are as they were handed in
unfoldable pub settled_as : State → model.State → State
settled_as st s =
    record {
      window = s.clock.window;
      time = s.clock.time;
      modes = s.modes;
      numbers = settled_numbers s.ports st.numbers;
      bytes = settled_bytes s.ports st.bytes;
    }

unfoldable pub at_load : State
at_load = record { window = 0; time = 0; modes = replicate partitions cold_start; numbers = zeros all_numbers; bytes = zeros all_bytes }

unfoldable pub all_zero : State
all_zero = record { window = 0; time = 0; modes = zeros partitions; numbers = zeros all_numbers; bytes = zeros all_bytes }
