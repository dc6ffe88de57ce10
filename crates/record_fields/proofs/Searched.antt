-- The tests that the searches carry out, by name.
-- Assumes nothing.
use Prim.Native.Nat.{ℕ, suc, ◌+◌, ◌-◌}
use mathlib.Core.Path.{◌≡◌}
use mathlib.Core.Bool.{Bool, ◌||◌, not}
use native.Mathlib.Numerals.{add-one}
use native.Mathlib.Omega.{arith}
use lib.Dec.{eqb}
use Rattle.model.specs.Words.{all, byte}
use Rattle.model.specs.Tables.{Tables, start, name_start, end_at}
use Rattle.record_fields.specs.Pieces.{unused_blank}

-- an id of a channel is zero
abbrev pub is_unused : Tables → ℕ → ℕ → Bool
is_unused t r j = eqb (end_at t r j) 0

after-count : (count : ℕ) → 9 - suc count ≡ 8 - count
after-count count = omega arith

pub unused-whole : (t : Tables) (r count : ℕ) → unused_blank t r count ≡ all (is_unused t r) (9 - (count + 1)) (count + 1)
unused-whole t r count = rw (add-one, after-count)

-- after a zero of a name comes a zero
abbrev pub follows : Tables → ℕ → ℕ → Bool
follows t at k = not (eqb (byte t (at + k)) 0) || eqb (byte t (at + suc k)) 0

-- where byte k of a record's name stands, and the byte after it
pub here : (r k : ℕ) → name_start r + k ≡ start r + (16 + k)
here r k = omega arith

pub next : (r k : ℕ) → name_start r + suc k ≡ start r + (16 + k + 1)
next r k = omega arith
