-- A channel's move over the numbers and bytes of ports, against the model's: one destination, all of them, and the whole.
-- Assumes nothing.
use Rattle.std.specs.Prelude.{ℕ, ◌+◌, ◌≡◌, true, List}
use Rattle.model.specs.Tables.{Tables, Row, row, source_port, destinations}
use Rattle.model.specs.State.{Message, Clock}
use Rattle.model.specs.Services.{arrived, delivered, transmit}
use Rattle.model.specs.Step.{first_channel}
use Rattle.model.specs.State.{fits}
use Rattle.events.specs.declared.answers.Answer.{Answer}
use Rattle.ports.specs.Held.{port_at, PortPut}
use Rattle.service_contracts.specs.Did.{shown, Does}

-- the message has come to port k, of that row, at that time
abbrev pub Arrived : (time : ℕ) → Row → Message → (k : ℕ) → (numbers bytes numbers' bytes' : List ℕ) → Type 0
Arrived time r m k numbers bytes numbers' bytes' =
    PortPut numbers bytes numbers' bytes' k (arrived time r m (port_at numbers bytes k))

-- a message of channel c: it fits the source's row, so that it fits each destination's
abbrev pub Carried : Tables → ℕ → Message → Type 0
Carried t c m = fits (row t (source_port t c)) m ≡ true

-- the message has come to all destinations of channel c. Clock and modes have no part in it, so it is said for any
abbrev pub Delivered : (t : Tables) → (time c : ℕ) → Message → (numbers bytes numbers' bytes' : List ℕ) → Type 0
Delivered t time c m numbers bytes numbers' bytes' =
    (clock : Clock) (modes : List ℕ)
    → shown t clock modes numbers' bytes' ≡ delivered t (λ k. time) c m (destinations t c) 0 (shown t clock modes numbers bytes)

-- the move of channel c at that time: its answer, and the ports that it leaves
abbrev pub Moved : (t : Tables) → (time c : ℕ) → Answer → (numbers bytes numbers' bytes' : List ℕ) → Type 0
Moved t time c r numbers bytes numbers' bytes' =
    (clock : Clock) (modes : List ℕ)
    → Does (shown t clock modes numbers bytes) (transmit t (λ k. time) (shown t clock modes numbers bytes) c) (first_channel + c) r (shown t clock modes numbers' bytes')
