-- Where a run of records of one kind ends.
-- Assumes nothing.
use Rattle.std.specs.Prelude.{ℕ, ◌-◌, Bool, not, eqb}
use Rattle.model.specs.Words.{first}
use Rattle.model.specs.Tables.{Tables, records, kind}

-- a record is not of kind m
abbrev pub other_kind : ℕ → Tables → ℕ → Bool
other_kind m t r = not (eqb (kind t r) m)

-- the first record from k on that is not of kind m, or the number of records
abbrev pub run_end : ℕ → Tables → ℕ → ℕ
run_end m t k = first (other_kind m t) (records t - k) k
