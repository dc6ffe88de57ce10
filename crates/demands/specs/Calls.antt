-- Calls that are not refused, of the kernel and of the exported functions: a run of a list, or a step, which is a run of one event.
-- Assumes nothing.
use Rattle.std.specs.Prelude.{ℕ, List, Ok}
use Rattle.model.specs.Tables.{Tables}
use Rattle.model.specs.State as model
use Rattle.states.specs.declared.State.{State}
use Rattle.states.specs.Shown.{shown_state}
use Rattle.kernel.specs.Meets.{RunMeets, StepMeets}
use Rattle.state_buffer.specs.Layout.{state_of}
use Rattle.host.specs.Exports.{HostLoad, HostRun, HostStep}

-- the kernel's: any outcome that meets the contract, with this state and these answers
pub data Called (t : Tables) (st : State) (events room : List ℕ) (st' : State) (answers : List ℕ) : Type 0 where
  by_run : RunMeets t st events room (Ok st') answers → Called t st events room st' answers
  by_step : StepMeets t st events room (Ok st') answers → Called t st events room st' answers

-- the exported functions': the state stands in a buffer
pub data HostCalled (t b events room b' answers : List ℕ) : Type 0 where
  by_host_run : HostRun t b events room 0 b' answers → HostCalled t b events room b' answers
  by_host_step : HostStep t b events room 0 b' answers → HostCalled t b events room b' answers

-- a buffer is given if an exported load and calls on lists, none of them refused, lead to it
pub data HostGiven (t : Tables) : List ℕ → Type 0 where
  by_load : {b b' : List ℕ} → HostLoad t b 0 b' → HostGiven t b'
  by_call : {b events room b' answers : List ℕ} → HostGiven t b → HostCalled t b events room b' answers → HostGiven t b'

-- the model's state that stands in a buffer
abbrev pub state_in : Tables → List ℕ → model.State
state_in t b = shown_state t (state_of b)
