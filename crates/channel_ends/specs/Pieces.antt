-- Pieces of the model's tests of a channel's ends, each of which a function of its own carries out.
-- Assumes nothing.
use Rattle.std.specs.Prelude.{if◌then◌else◌, ℕ, ◌-◌, ◌≡◌, Bool, ◌&&◌, leb, eqb, Option, None, Some}
use Rattle.model.specs.Words.{between, any, all}
use Rattle.model.specs.Tables.{Tables, ports_end, ports, port_record, destination, Row, destinations_at}
use Rattle.model.specs.Load.{ends, end_fits, named_among, named_before}

-- the record of the row that an id has
abbrev pub record_of : Tables → ℕ → Option ℕ
record_of t id = if between 1 (ports t) id then Some (port_record t (id - 1)) else None

-- record q of tables u is the row that an id has in tables t
pub record IsRow (t : Tables) (id : ℕ) (u : Tables) (q : ℕ) : Type 0 where
  pub has : record_of t id ≡ Some q
  pub same : u ≡ t

-- a row is that of a destination, of its source's mode, for messages as large as the source's
abbrev pub takes_from : Row → Row → Bool
takes_from to from = eqb to.direction destination && eqb to.mode from.mode && leb from.largest to.largest

-- each destination of the channel in record r fits
abbrev pub destinations_fit : Tables → ℕ → Bool
destinations_fit t r = all (end_fits t r) (destinations_at t r) 1

-- an earlier channel names the id
abbrev pub named_in_earlier : Tables → ℕ → ℕ → Bool
named_in_earlier t id r = any (λ q. named_among t id (ends t q) q) (r - ports_end t) (ports_end t)

-- a port that the channel in record r names is named twice
abbrev pub named_again : Tables → ℕ → Bool
named_again t r = any (named_before t r) (ends t r) 0
