-- The number of a create.
-- Assumes nothing.
use Rattle.std.specs.Prelude.{if◌then◌else◌, ℕ, eqb}
use Rattle.model.specs.Tables.{Row, sampling}

-- the number of a create that must be like the row's: refresh period or depth
abbrev pub period_of : Row → ℕ
period_of r = if eqb r.mode sampling then r.refresh else r.depth
