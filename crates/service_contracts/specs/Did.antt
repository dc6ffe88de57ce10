-- A doer's act over the lent arrays, against the model's: what may be counted on before it, the answer that it gives, and the state that it leaves.
-- Assumes nothing.
use Rattle.std.specs.Prelude.{ℕ, ◌<◌, ◌≡◌, true, List}
use Rattle.model.specs.Tables.{Tables, row}
use Rattle.model.specs.Tables.{ports as port_count}
use Rattle.model.specs.Load.{accepts}
use Rattle.model.specs.State.{Clock, State}
use Rattle.model.specs.Services.{Reply}
use Rattle.model.specs.Step.{state_of}
use Rattle.model.specs.Ranged.{PortRanged}
use Rattle.events.specs.declared.answers.Answer.{Answer}
use Rattle.events.specs.Shown.{replied}
use Rattle.ports.specs.Held.{port_at, ports_of}

-- accepted tables, and numbers and bytes that hold each of their ports in its ranges
pub record Held (t : Tables) (numbers bytes : List ℕ) : Type 0 where
  pub accepted : accepts t ≡ true
  pub each : (k : ℕ) → k < port_count t → PortRanged (row t k) (port_at numbers bytes k)

-- the state that clock, modes and lent arrays show
abbrev pub shown : Tables → Clock → List ℕ → List ℕ → List ℕ → State
shown t clock modes numbers bytes = record { clock = clock; modes = modes; ports = ports_of numbers bytes (port_count t) }

-- an act whose model is `reply` in the state before: it gives that answer and leaves that state
pub record Does (before : State) (reply : Reply) (doer : ℕ) (r : Answer) (after : State) : Type 0 where
  pub answered : r ≡ replied doer reply
  pub left : after ≡ state_of before reply
