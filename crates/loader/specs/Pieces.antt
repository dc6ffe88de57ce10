-- What the search for a fault finds.
-- Assumes nothing.
use Rattle.std.specs.Prelude.{◌≡◌, ◌<◌}
use Rattle.model.specs.Tables.{Tables, records}
use Rattle.model.specs.Load.{fault, first_fault}
use Rattle.loader.specs.declared.refusal.Refused.{Refused}
use Rattle.loader.specs.Shown.{number_of}

-- the first offending record of tables, which has one, and its fault
pub record IsFirst (t : Tables) (r : Refused) : Type 0 where
  pub first : r.«record» ≡ first_fault t
  pub within : r.«record» < records t
  pub number : number_of r.fault ≡ fault t r.«record»
