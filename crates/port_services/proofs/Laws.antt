-- What the proofs of a port's status lean on.
-- Assumes nothing.
use Rattle.std.specs.Prelude.{if◌then◌else◌}
use Prim.Native.Nat.{ℕ}
use mathlib.Core.Path.{◌≡◌}
use mathlib.Core.List.{[]}
use lib.ListN.{length}
use lib.Dec.{eqb}
use Rattle.model.specs.State.{Port}
use Rattle.model.specs.Services.{status}
use Rattle.tables.specs.Shown.{row_of}
use Rattle.tables.specs.declared.PortRow.{PortRow}
use Rattle.tables.specs.declared.Transfer.TheVariants.{Sampling, Queuing}

-- a port's status, by the case of its row
pub status-sampling : (row : PortRow) (p : ℕ) (q : Port) → row.transfer ≡ Sampling p
    → status (row_of row) q
    ≡ record { id = 0; number = p; size = row.largest; validity = q.validity; direction = row.direction; depth = 0; message = [] }
unfolding status
status-sampling row p q e = rw e

pub status-queuing : (row : PortRow) (d : ℕ) (q : Port) → row.transfer ≡ Queuing d
    → status (row_of row) q
    ≡ record { id = 0; number = if eqb row.direction 0 then 0 else length q.queue; size = row.largest; validity = 0; direction = row.direction; depth = d; message = [] }
unfolding status
status-queuing row d q e = rw e
