-- Test 29 as the code makes it: of the modes, of each port's thirteen numbers, and of the state that they belong to.
-- Assumes nothing.
use Rattle.std.specs.Prelude.{ℕ, ◌+◌, ◌%◌, ◌≡◌, Bool, ◌&&◌, ◌||◌, List, leb, ltb, eqb, length, get_or}
use Rattle.model.specs.Words.{between, all, all_in}
use Rattle.model.specs.Tables.{Tables, Row, row, room, ports}
use Rattle.model.specs.State.{normal, shortest, in_range}
use Rattle.stores.specs.Ring.{slots}
use Rattle.ports.specs.Held.{row_of, all_bytes}
use Rattle.service_contracts.specs.Did.{shown}

abbrev pub modes_fit : List ℕ → Bool
modes_fit modes = all_in (λ m. leb m normal) modes

-- the stored length of the message that is i places behind the oldest, and those of all messages
abbrev pub length_fits : ℕ → List ℕ → ℕ → ℕ → Bool
length_fits largest numbers oldest i = between shortest largest (get_or numbers (5 + (oldest + i) % slots) 0)

abbrev pub lengths_fit : ℕ → List ℕ → ℕ → ℕ → Bool
lengths_fit largest numbers oldest count = all (length_fits largest numbers oldest) count 0

-- a port's numbers: created mark, last validity, oldest slot, count, a message in an uncreated port, stored lengths
unfoldable pub numbers_fit : Row → List ℕ → Bool
numbers_fit r numbers =
    leb (get_or numbers 0 0) 1
    && leb (get_or numbers 1 0) 1
    && ltb (get_or numbers 3 0) slots
    && leb (get_or numbers 4 0) (room r)
    && (eqb (get_or numbers 0 0) 1 || eqb (get_or numbers 4 0) 0)
    && lengths_fit r.largest numbers (get_or numbers 3 0) (get_or numbers 4 0)

-- port k of the tables, and each of them
abbrev pub port_fits : Tables → List ℕ → ℕ → Bool
port_fits t numbers k = numbers_fit (row t k) (row_of numbers k)

unfoldable pub each_fits : Tables → List ℕ → Bool
each_fits t numbers = all (port_fits t numbers) (ports t) 0

-- the one store index that a state keeps, the slot of the oldest message, is one of the eight, for each of the tables' ports
unfoldable pub indexed : Tables → List ℕ → Bool
indexed t numbers = all (λ k. ltb (get_or (row_of numbers k) 3 0) slots) (ports t) 0

-- r is test 29 of each state with this window, these modes and these port numbers
abbrev pub Judges : Tables → ℕ → List ℕ → List ℕ → Bool → Type 0
Judges t window modes numbers r =
    (time : ℕ) (bytes : List ℕ) → length bytes ≡ all_bytes
    → r ≡ (in_range t (shown t (record { window = window; time = time }) modes numbers bytes) && indexed t numbers)
