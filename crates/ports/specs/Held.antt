-- The ports of a state as two arrays of numbers: thirteen numbers for each port, and a block of 512 message bytes.
--     0 created mark   1 last validity   2 arrival time   3 oldest slot   4 message count   5..12 the lengths in the eight slots
-- Assumes nothing.
use Rattle.std.specs.Prelude.{ℕ, zero, suc, ◌+◌, ◌*◌, ◌≡◌, List, [], ◌∷◌, get_or, take, drop}
use Rattle.model.specs.State.{Port}
use Rattle.stores.specs.Ring.{queue_of}
use Rattle.stores.specs.declared.Store.{Store}

abbrev pub row_size : ℕ
row_size = 13

abbrev pub block_size : ℕ
block_size = 512

-- how many numbers and how many message bytes all 64 ports have
abbrev pub all_numbers : ℕ
all_numbers = 832

abbrev pub all_bytes : ℕ
all_bytes = 32768

-- the numbers of port k
abbrev pub numbers_from : List ℕ → ℕ → ℕ → List ℕ
numbers_from numbers zero at = []
numbers_from numbers (suc n) at = get_or numbers at 0 ∷ numbers_from numbers n (at + 1)

unfoldable pub row_of : List ℕ → ℕ → List ℕ
row_of numbers k = numbers_from numbers row_size (row_size * k)

-- the message bytes of port k
unfoldable pub block_of : List ℕ → ℕ → List ℕ
block_of bytes k = take block_size (drop (block_size * k) bytes)

-- the store, and the port, that a row and a block hold
abbrev pub store_in : List ℕ → List ℕ → Store
store_in row block = record { bytes = block; lengths = drop 5 row; oldest = get_or row 3 0; count = get_or row 4 0 }

abbrev pub port_in : List ℕ → List ℕ → Port
port_in row block =
    record { created = get_or row 0 0; arrival = get_or row 2 0; validity = get_or row 1 0; queue = queue_of (store_in row block) }

unfoldable pub store_at : List ℕ → List ℕ → ℕ → Store
store_at numbers bytes k = store_in (row_of numbers k) (block_of bytes k)

unfoldable pub port_at : List ℕ → List ℕ → ℕ → Port
port_at numbers bytes k = port_in (row_of numbers k) (block_of bytes k)

-- the n ports from k on
abbrev pub ports_from : List ℕ → List ℕ → ℕ → ℕ → List Port
ports_from numbers bytes zero k = []
ports_from numbers bytes (suc n) k = port_at numbers bytes k ∷ ports_from numbers bytes n (suc k)

unfoldable pub ports_of : List ℕ → List ℕ → ℕ → List Port
ports_of numbers bytes n = ports_from numbers bytes n 0

-- row k is now this one, and every other port's is as it was
pub record RowPut (numbers numbers' : List ℕ) (k : ℕ) (row : List ℕ) : Type 0 where
  pub here : row_of numbers' k ≡ row
  pub elsewhere : (j : ℕ) → (j ≡ k → ⊥) → row_of numbers' j ≡ row_of numbers j

-- the same of a block
pub record BlockPut (bytes bytes' : List ℕ) (k : ℕ) (block : List ℕ) : Type 0 where
  pub here : block_of bytes' k ≡ block
  pub elsewhere : (j : ℕ) → (j ≡ k → ⊥) → block_of bytes' j ≡ block_of bytes j

-- port k is now q, and every other port is as it was
pub record PortPut (numbers bytes numbers' bytes' : List ℕ) (k : ℕ) (q : Port) : Type 0 where
  pub here : port_at numbers' bytes' k ≡ q
  pub elsewhere : (j : ℕ) → (j ≡ k → ⊥) → port_at numbers' bytes' j ≡ port_at numbers bytes j
