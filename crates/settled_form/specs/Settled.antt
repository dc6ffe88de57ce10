-- A state in settled form: in each port's row the oldest message is in slot 0, and zeros stand wherever no message does.
-- Assumes nothing.
use Rattle.std.specs.Prelude.{ℕ, ◌*◌, ◌≤◌, ◌<◌, ◌≡◌, List, ◌∷◌, ◌++◌, map, length, drop}
use Rattle.model.specs.Words.{filled}
use Rattle.model.specs.Run.{joined}
use Rattle.model.specs.State.{Port}
use Rattle.stores.specs.Ring.{slots, all_filled, pasted, Sized, Short}
use Rattle.ports.specs.Held.{row_size, block_size, store_at, port_at, ports_of}

-- the thirteen numbers of a port, and its block of message bytes
unfoldable pub port_numbers : Port → List ℕ
port_numbers q =
    q.created ∷ q.validity ∷ q.arrival ∷ 0 ∷ length q.queue ∷ filled slots (map length q.queue)

unfoldable pub port_bytes : Port → List ℕ
port_bytes q = filled block_size (all_filled q.queue)

-- the numbers and the message bytes of a state: those of these ports, and behind them what was there before
unfoldable pub settled_numbers : List Port → List ℕ → List ℕ
settled_numbers ports old = joined (map port_numbers ports) ++ drop (row_size * length ports) old

unfoldable pub settled_bytes : List Port → List ℕ → List ℕ
settled_bytes ports old = joined (map port_bytes ports) ++ drop (block_size * length ports) old

-- a port that a settled row can hold: at most eight messages of at most 64 bytes
pub record Storable (q : Port) : Type 0 where
  pub few : length q.queue ≤ slots
  pub short : Short q.queue

-- the first n ports, of at most 64, have stores that hold what a store can
pub record Stored (numbers bytes : List ℕ) (n : ℕ) : Type 0 where
  pub few : n ≤ 64
  pub each : (k : ℕ) → k < n → Sized (store_at numbers bytes k)

-- port k laid into its row and its block of other arrays, and the first n ports
pub record PortLaid (numbers bytes : List ℕ) (k : ℕ) (out_numbers out_bytes out_numbers' out_bytes' : List ℕ) : Type 0 where
  pub numbers_laid : out_numbers' ≡ pasted out_numbers (row_size * k) (port_numbers (port_at numbers bytes k))
  pub bytes_laid : out_bytes' ≡ pasted out_bytes (block_size * k) (port_bytes (port_at numbers bytes k))

pub record PutTogether (numbers bytes : List ℕ) (n : ℕ) (out_numbers out_bytes out_numbers' out_bytes' : List ℕ) : Type 0 where
  pub numbers_put : out_numbers' ≡ settled_numbers (ports_of numbers bytes n) out_numbers
  pub bytes_put : out_bytes' ≡ settled_bytes (ports_of numbers bytes n) out_bytes
