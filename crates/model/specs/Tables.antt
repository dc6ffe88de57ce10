-- 01, "Tables": records of 48 bytes, windows, then ports, then channels. A row is read from the bytes where it stands; no list of rows is made.
-- Records, windows, ports and channels are numbered from 0. A port's id is its number plus 1.
-- Assumes nothing.
use Rattle.std.specs.Prelude.{if◌then◌else◌, ℕ, suc, ◌+◌, ◌-◌, ◌*◌, ◌/◌, Bool, not, List, eqb, length}
use Rattle.model.specs.Words.{first, all, byte, word16, word32}

abbrev pub Tables : Type 0
Tables = List ℕ

abbrev pub record_size : ℕ
record_size = 48

abbrev pub records : Tables → ℕ
records t = length t / record_size

-- where a record starts
abbrev pub start : ℕ → ℕ
start r = record_size * r

-- byte 0: 1 window, 2 port, 3 channel
abbrev pub kind : Tables → ℕ → ℕ
kind t r = byte t (start r)

-- windows come first: the number of the first record that is none is how many there are
unfoldable pub windows : Tables → ℕ
windows t = first (λ r. not (eqb (kind t r) 1)) (records t) 0

-- after them the ports: the number of the first record past them
unfoldable pub ports_end : Tables → ℕ
ports_end t = first (λ r. not (eqb (kind t r) 2)) (records t - windows t) (windows t)

unfoldable pub ports : Tables → ℕ
ports t = ports_end t - windows t

-- what is left are channels
unfoldable pub channels : Tables → ℕ
channels t = records t - ports_end t

-- Window: byte 1 partition 0..15, or 32 for a mover window; 2-3 length
abbrev pub mover : ℕ
mover = 32

abbrev pub window_partition : Tables → ℕ → ℕ
window_partition t w = byte t (start w + 1)

abbrev pub window_length : Tables → ℕ → ℕ
window_length t w = word16 t (start w + 2)

-- Port: byte 1 owner; 2 mode; 3 direction; 4-7 largest message; 8-11 depth; 12-15 refresh period; 16-45 name
abbrev pub sampling : ℕ
sampling = 0

abbrev pub queuing : ℕ
queuing = 1

abbrev pub source : ℕ
source = 0

abbrev pub destination : ℕ
destination = 1

pub record Row : Type 0 where
  pub owner : ℕ
  pub mode : ℕ
  pub direction : ℕ
  pub largest : ℕ
  pub depth : ℕ
  pub refresh : ℕ

-- the row in record r
unfoldable pub row_at : Tables → ℕ → Row
row_at t r =
    record {
      owner = byte t (start r + 1);
      mode = byte t (start r + 2);
      direction = byte t (start r + 3);
      largest = word32 t (start r + 4);
      depth = word32 t (start r + 8);
      refresh = word32 t (start r + 12);
    }

-- how many messages a port keeps: one if sampling, else its depth
abbrev pub room : Row → ℕ
room row = if eqb row.mode sampling then 1 else row.depth

-- the record of port k, its row, and where its name starts
abbrev pub port_record : Tables → ℕ → ℕ
port_record t k = windows t + k

abbrev pub row : Tables → ℕ → Row
row t k = row_at t (port_record t k)

abbrev pub name_length : ℕ
name_length = 30

abbrev pub name_start : ℕ → ℕ
name_start r = start r + 16

-- names are the same if all 30 bytes are, whether they stand in a row or in an event
unfoldable pub same_name : List ℕ → ℕ → List ℕ → ℕ → Bool
same_name a at b bt = all (λ k. eqb (byte a (at + k)) (byte b (bt + k))) name_length 0

-- Channel: byte 1 destination count; 2-3 source id; 4-19 destination ids. So its ends are ids in a row: end 0 is the source, ends 1 to count the destinations
abbrev pub destinations_at : Tables → ℕ → ℕ
destinations_at t r = byte t (start r + 1)

abbrev pub end_at : Tables → ℕ → ℕ → ℕ
end_at t r j = word16 t (start r + 2 + 2 * j)

-- the record of channel c, its source port, how many destinations it has, and its destination ports
abbrev pub channel_record : Tables → ℕ → ℕ
channel_record t c = ports_end t + c

unfoldable pub source_port : Tables → ℕ → ℕ
source_port t c = end_at t (channel_record t c) 0 - 1

unfoldable pub destinations : Tables → ℕ → ℕ
destinations t c = destinations_at t (channel_record t c)

unfoldable pub destination_port : Tables → ℕ → ℕ → ℕ
destination_port t c j = end_at t (channel_record t c) (suc j) - 1
