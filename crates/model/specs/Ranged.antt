-- Ranges as facts, for the contracts of functions that may count on them: of a port row of accepted tables, and, as test 29 has them, of a port and of a state.
-- Assumes nothing.
use Rattle.std.specs.Prelude.{ℕ, ◌≤◌, ◌<◌, ◌≡◌, true, ◌||◌, ◌⊎◌, leb, eqb, length}
use Rattle.model.specs.Words.{all_in}
use Rattle.model.specs.Tables.{Tables, windows, Row, row, room, sampling, queuing, source, destination}
use Rattle.model.specs.Tables.{ports as port_count}
use Rattle.model.specs.State.{Port, State, partitions, normal, port, is_created, fits}

-- the ranges of a port row
pub record RowRanges (r : Row) : Type 0 where
  pub owned : r.owner < 16
  pub moded : (r.mode ≡ sampling) ⊎ (r.mode ≡ queuing)
  pub directed : (r.direction ≡ source) ⊎ (r.direction ≡ destination)
  pub some : 1 ≤ r.largest
  pub few_bytes : r.largest ≤ 64
  pub keeps : 1 ≤ room r
  pub keeps_few : room r ≤ 8
  pub no_depth : r.mode ≡ sampling → r.depth ≡ 0
  pub no_refresh : r.mode ≡ queuing → r.refresh ≡ 0
  pub short_period : r.refresh ≤ 1_000_000

-- the facts of a port in range
pub record PortRanged (r : Row) (q : Port) : Type 0 where
  pub marked : q.created ≤ 1
  pub judged : q.validity ≤ 1
  pub counted : length q.queue ≤ room r
  pub sized : all_in (fits r) q.queue ≡ true
  pub made : (is_created q || eqb (length q.queue) 0) ≡ true

-- the facts of a state in range
pub record Ranged (t : Tables) (s : State) : Type 0 where
  pub in_window : s.clock.window < windows t
  pub sixteen : length s.modes ≡ partitions
  pub moded : all_in (λ m. leb m normal) s.modes ≡ true
  pub whole : length s.ports ≡ port_count t
  pub each : (k : ℕ) → k < port_count t → PortRanged (row t k) (port s k)
