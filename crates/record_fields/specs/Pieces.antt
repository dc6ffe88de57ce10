-- Pieces of the model's tests, each of which a function of its own carries out.
-- Assumes nothing.
use Rattle.std.specs.Prelude.{ℕ, suc, ◌+◌, ◌-◌, Bool, ◌||◌, not, eqb}
use Rattle.model.specs.Words.{any, all, byte}
use Rattle.model.specs.Tables.{Tables, windows, end_at}
use Rattle.model.specs.Load.{same_owner_and_name}

-- of a channel with so many destinations the other ids are zero
abbrev pub unused_blank : Tables → ℕ → ℕ → Bool
unused_blank t r count = all (λ j. eqb (end_at t r j) 0) (8 - count) (suc count)

-- after the first zero of the name at a place all is zero
abbrev pub ended : Tables → ℕ → Bool
ended t at = all (λ k. not (eqb (byte t (at + k)) 0) || eqb (byte t (at + suc k)) 0) 29 0

-- an earlier port has the same owner and name
abbrev pub named_earlier : Tables → ℕ → Bool
named_earlier t r = any (same_owner_and_name t r) (r - windows t) (windows t)
