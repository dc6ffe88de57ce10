-- What the code's values show of the model: the kind of a record, the mode of a port with what belongs to it, and a port row.
-- Assumes nothing.
use Rattle.std.specs.Prelude.{if◌then◌else◌, ℕ, eqb}
use Rattle.model.specs.Tables.{sampling, queuing, Row}
use Rattle.model.specs.Load.{by_kind}
use Rattle.tables.specs.declared.Transfer.{Transfer}
use Rattle.tables.specs.declared.Transfer.TheVariants.{Sampling, Queuing}
use Rattle.tables.specs.declared.PortRow.{PortRow}
use Rattle.tables.specs.declared.RecordKind.{RecordKind}
use Rattle.tables.specs.declared.RecordKind.TheVariants.{Window, Port, Channel}

-- the kind that byte 0 of a record says: the model's cases
abbrev pub kind_of : ℕ → RecordKind
kind_of byte = by_kind byte Window Port Channel

-- the paper's mode, depth and refresh period for each case of a transfer
abbrev pub mode_of : Transfer → ℕ
mode_of (Sampling period) = sampling
mode_of (Queuing messages) = queuing

abbrev pub depth_of : Transfer → ℕ
depth_of (Sampling period) = 0
depth_of (Queuing messages) = messages

abbrev pub refresh_of : Transfer → ℕ
refresh_of (Sampling period) = period
refresh_of (Queuing messages) = 0

-- the row that a decoded row shows
abbrev pub row_of : PortRow → Row
row_of p =
    record {
      owner = p.owner;
      mode = mode_of p.transfer;
      direction = p.direction;
      largest = p.largest;
      depth = depth_of p.transfer;
      refresh = refresh_of p.transfer;
    }

-- the other way: what a row is decoded to. Of a row in its ranges nothing is lost
abbrev pub transfer_of : ℕ → ℕ → ℕ → Transfer
transfer_of mode depth refresh = if eqb mode sampling then Sampling refresh else Queuing depth

abbrev pub decoded : Row → PortRow
decoded row =
    record {
      owner = row.owner;
      transfer = transfer_of row.mode row.depth row.refresh;
      direction = row.direction;
      largest = row.largest;
    }
