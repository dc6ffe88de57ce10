-- 01, "Load refusals": what is wrong with a record, and the verdict on tables.
-- Assumes nothing.
use Rattle.std.specs.Prelude.{if◌then◌else◌, ℕ, suc, ◌+◌, ◌-◌, ◌%◌, Bool, true, false, ◌&&◌, ◌||◌, not, leb, ltb, eqb, length}
use Rattle.model.specs.Words.{between, any, all, first, byte, blank}
use Rattle.model.specs.Tables.{Tables, record_size, records, start, kind, windows, ports_end, ports, mover, window_partition, window_length}
use Rattle.model.specs.Tables.{sampling, queuing, source, destination, Row, row_at, row, name_start, same_name, destinations_at, end_at}

-- 20: length 0 or not a multiple of 48
unfoldable pub length_fault : Tables → Bool
length_fault t = eqb (length t) 0 || not (eqb (length t % record_size) 0)

-- 21: kind not 1..3, or below the kind before
unfoldable pub kind_fault : Tables → ℕ → Bool
kind_fault t r = not (between 1 3 (kind t r)) || ltb 0 r && ltb (kind t r) (kind t (r - 1))

-- what goes by the kind of a record that is no 21
abbrev pub by_kind : {A : Type 0} → ℕ → A → A → A → A
by_kind k window port channel = if eqb k 1 then window else if eqb k 2 then port else channel

-- 22: a 65th window or port, or a 33rd channel
abbrev pub most_windows : ℕ
most_windows = 64

abbrev pub most_ports : ℕ
most_ports = 64

abbrev pub most_channels : ℕ
most_channels = 32

unfoldable pub count_fault : Tables → ℕ → Bool
count_fault t r = by_kind (kind t r) (leb most_windows r) (leb most_ports (r - windows t)) (leb most_channels (r - ports_end t))

-- 23: a field outside its range, or a byte outside a port's name that should be zero
unfoldable pub window_fits : Tables → ℕ → Bool
window_fits t r =
    (leb (window_partition t r) 15 || eqb (window_partition t r) mover)
    && between 1 10_000 (window_length t r)
    && blank t 44 (start r + 4)

unfoldable pub row_fits : Row → Bool
row_fits p =
    leb p.owner 15
    && leb p.mode 1
    && leb p.direction 1
    && between 1 64 p.largest
    && (if eqb p.mode queuing then between 1 8 p.depth else eqb p.depth 0)
    && (if eqb p.mode sampling && eqb p.direction destination then between 1 1_000_000 p.refresh else eqb p.refresh 0)

unfoldable pub port_fits : Tables → ℕ → Bool
port_fits t r = row_fits (row_at t r) && blank t 2 (start r + 46)

unfoldable pub channel_fits : Tables → ℕ → Bool
channel_fits t r =
    between 1 8 (destinations_at t r)
    && all (λ j. eqb (end_at t r j) 0) (8 - destinations_at t r) (suc (destinations_at t r))
    && blank t 28 (start r + 20)

unfoldable pub field_fault : Tables → ℕ → Bool
field_fault t r = not (by_kind (kind t r) (window_fits t r) (port_fits t r) (channel_fits t r))

-- 24: name empty or nonzero after a zero, or an earlier port has the same owner and name
unfoldable pub name_fits : Tables → ℕ → Bool
name_fits t at = not (eqb (byte t at) 0) && all (λ k. not (eqb (byte t (at + k)) 0) || eqb (byte t (at + suc k)) 0) 29 0

unfoldable pub same_owner_and_name : Tables → ℕ → ℕ → Bool
same_owner_and_name t r q = eqb (row_at t q).owner (row_at t r).owner && same_name t (name_start q) t (name_start r)

unfoldable pub port_name_fault : Tables → ℕ → Bool
port_name_fault t r = not (name_fits t (name_start r)) || any (same_owner_and_name t r) (r - windows t) (windows t)

unfoldable pub name_fault : Tables → ℕ → Bool
name_fault t r = by_kind (kind t r) false (port_name_fault t r) false

-- 25: channel end. The row of an id:
abbrev pub id_row : Tables → ℕ → Row
id_row t id = row t (id - 1)

-- an id with no row, wrong direction, mixed modes, a destination's largest message below the source's
unfoldable pub end_fits : Tables → ℕ → ℕ → Bool
end_fits t r j =
    between 1 (ports t) (end_at t r j)
    && eqb (id_row t (end_at t r j)).direction (if eqb j 0 then source else destination)
    && eqb (id_row t (end_at t r j)).mode (id_row t (end_at t r 0)).mode
    && leb (id_row t (end_at t r 0)).largest (id_row t (end_at t r j)).largest

-- the ends of a channel are numbered 0 to its destination count
abbrev pub ends : Tables → ℕ → ℕ
ends t r = suc (destinations_at t r)

-- a queuing channel with a count other than 1
unfoldable pub count_fits : Tables → ℕ → Bool
count_fits t r = not (eqb (id_row t (end_at t r 0)).mode queuing) || eqb (destinations_at t r) 1

-- a port named twice, here or in an earlier channel
unfoldable pub named_among : Tables → ℕ → ℕ → ℕ → Bool
named_among t id n q = any (λ i. eqb (end_at t q i) id) n 0

unfoldable pub named_before : Tables → ℕ → ℕ → Bool
named_before t r j =
    named_among t (end_at t r j) j r
    || any (λ q. named_among t (end_at t r j) (ends t q) q) (r - ports_end t) (ports_end t)

unfoldable pub channel_ends_fit : Tables → ℕ → Bool
channel_ends_fit t r = all (end_fits t r) (ends t r) 0 && count_fits t r && not (any (named_before t r) (ends t r) 0)

unfoldable pub end_fault : Tables → ℕ → Bool
end_fault t r = by_kind (kind t r) false false (not (channel_ends_fit t r))

-- within a record the lower number is reported; 0 where there is no fault
unfoldable pub fault : Tables → ℕ → ℕ
fault t r =
    if kind_fault t r then 21
    else if count_fault t r then 22
    else if field_fault t r then 23
    else if name_fault t r then 24
    else if end_fault t r then 25
    else 0

-- the first offending record, or the number of records
unfoldable pub first_fault : Tables → ℕ
first_fault t = first (λ r. not (eqb (fault t r) 0)) (records t) 0

pub data Verdict : Type 0 where
  accepted : Verdict
  refused : (number rec : ℕ) → Verdict

-- 20 is tested first, 26 (no window at all) last
unfoldable pub load_of : Tables → Verdict
load_of t =
    if length_fault t then refused 20 0
    else if ltb (first_fault t) (records t) then refused (fault t (first_fault t)) (first_fault t)
    else if eqb (windows t) 0 then refused 26 (records t)
    else accepted

abbrev pub is_accepted : Verdict → Bool
is_accepted accepted = true
is_accepted (refused number rec) = false

unfoldable pub accepts : Tables → Bool
accepts t = is_accepted (load_of t)
