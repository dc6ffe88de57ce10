-- The tests that the searches carry out, by name.
-- Assumes nothing.
use Prim.Native.Nat.{ℕ, suc, ◌-◌}
use mathlib.Core.Path.{◌≡◌}
use mathlib.Core.Bool.{Bool}
use native.Mathlib.Nat.{sub-zero}
use native.Mathlib.Omega.{arith}
use lib.Dec.{eqb}
use Rattle.model.specs.Words.{any, all}
use Rattle.model.specs.Tables.{Tables, end_at}
use Rattle.model.specs.Load.{ends, end_fits, named_among, named_before}
use Rattle.channel_ends.specs.Pieces.{destinations_fit, named_again}

-- past end 0 the destinations are left
after-source : (end count : ℕ) → end ≡ suc count → end - 1 ≡ count
after-source end count e = omega arith

pub destinations-whole : (t : Tables) (r end : ℕ) → end ≡ ends t r → destinations_fit t r ≡ all (end_fits t r) (end - 1) 1
destinations-whole t r end e = rw (after-source _ _ e)

-- an end of a channel is the id
abbrev pub is_end : Tables → ℕ → ℕ → ℕ → Bool
is_end t id q i = eqb (end_at t q i) id

pub among-whole : (t : Tables) (id n q : ℕ) → named_among t id n q ≡ any (is_end t id q) (n - 0) 0
unfolding named_among
among-whole t id n q = rw sub-zero

-- a channel names the id
abbrev pub names : Tables → ℕ → ℕ → Bool
names t id q = named_among t id (ends t q) q

pub again-whole : (t : Tables) (r end : ℕ) → end ≡ ends t r → named_again t r ≡ any (named_before t r) (end - 0) 0
again-whole t r end e = rw (sub-zero, e)
