-- The test of an own port, as the code makes it.
-- Assumes nothing.
use Rattle.std.specs.Prelude.{ℕ, ◌-◌, Bool, ◌&&◌, List, eqb, get_or}
use Rattle.model.specs.Words.{between}
use Rattle.model.specs.Tables.{Tables, ports, row}
use Rattle.model.specs.Events.{Call, need}
use Rattle.ports.specs.Held.{row_of}

-- the test of an own port, with the created mark where it stands
unfoldable pub own_at : Tables → List ℕ → ℕ → Call → Bool
own_at t numbers p f =
    between 1 (ports t) f.id
    && eqb (row t (f.id - 1)).owner p
    && eqb (row t (f.id - 1)).mode (need f.code).mode
    && eqb (get_or (row_of numbers (f.id - 1)) 0 0) 1
