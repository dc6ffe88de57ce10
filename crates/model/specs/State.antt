-- 01, "State and clock": the state, the state at load, the clock, a sample's age, and the ranges of test 29.
-- Two states of one set of tables are the same, in 01's words, if they are equal here: a state holds nothing but what those words name.
-- Assumes nothing.
use Rattle.std.specs.Prelude.{if◌then◌else◌, ℕ, suc, ◌+◌, ◌-◌, ◌^◌, ◌%◌, Bool, true, ◌&&◌, ◌||◌, List, [], ◌∷◌, ◌++◌, leb, ltb, eqb, length, get_or, set, replicate}
use Rattle.model.specs.Words.{between, all_in}
use Rattle.model.specs.Tables.{Tables, windows, window_length, Row, row, room}
use Rattle.model.specs.Tables.{ports as port_count}

-- a message is its bytes; its length is how many
abbrev pub Message : Type 0
Message = List ℕ

-- the clock: the current window and the tick count
pub record Clock : Type 0 where
  pub window : ℕ
  pub time : ℕ

-- a port: its created mark (0 or 1), the arrival time, the validity of the last read (0 or 1), and its messages, oldest first
pub record Port : Type 0 where
  pub created : ℕ
  pub arrival : ℕ
  pub validity : ℕ
  pub queue : List Message

-- the sixteen partition modes, and a port for each row of the tables
pub record State : Type 0 where
  pub clock : Clock
  pub modes : List ℕ
  pub ports : List Port

abbrev pub partitions : ℕ
partitions = 16

abbrev pub idle : ℕ
idle = 0

abbrev pub cold_start : ℕ
cold_start = 1

abbrev pub warm_start : ℕ
warm_start = 2

abbrev pub normal : ℕ
normal = 3

-- a port that is not created
abbrev pub fresh : Port
fresh = record { created = 0; arrival = 0; validity = 0; queue = [] }

-- at load: window 0, time 0, each partition COLD_START, no port created, all stores empty
unfoldable pub loaded : Tables → State
loaded t = record { clock = record { window = 0; time = 0 }; modes = replicate partitions cold_start; ports = replicate (port_count t) fresh }

-- what stands at a partition and at a port, and the state with one of them replaced
abbrev pub mode_of : State → ℕ → ℕ
mode_of s p = get_or s.modes p 0

abbrev pub port : State → ℕ → Port
port s k = get_or s.ports k fresh

abbrev pub with_port : State → ℕ → Port → State
with_port s k q = record { clock = s.clock; modes = s.modes; ports = set s.ports k q }

abbrev pub with_queue : Port → List Message → Port
with_queue q messages = record { created = q.created; arrival = q.arrival; validity = q.validity; queue = messages }

abbrev pub is_created : Port → Bool
is_created q = eqb q.created 1

-- time returns to 0 after 4,294,967,295
abbrev pub wrap : ℕ → ℕ
wrap n = n % 2 ^ 32

-- time grows by the current window's length; next window, after the last the first
unfoldable pub tick : Tables → Clock → Clock
tick t c =
    record {
      window = if ltb (suc c.window) (windows t) then suc c.window else 0;
      time = wrap (c.time + window_length t c.window);
    }

-- the age of a sample is time minus arrival, modulo 2^32; it is valid exactly if its age is at most the refresh period
abbrev pub age : ℕ → ℕ → ℕ
age time arrival = wrap (time + 2 ^ 32 - arrival)

abbrev pub valid : ℕ → ℕ → ℕ → Bool
valid refresh time arrival = leb (age time arrival) refresh

-- a store is full when it holds its depth; a message offered to a full store is lost
abbrev pub full : ℕ → List Message → Bool
full depth queue = leb depth (length queue)

unfoldable pub offer : ℕ → List Message → Message → List Message
offer depth queue message = if full depth queue then queue else queue ++ message ∷ []

-- test 29: a port's numbers are in their ranges. The shortest stored message has one byte
abbrev pub shortest : ℕ
shortest = 1

-- a stored message fits the row
abbrev pub fits : Row → Message → Bool
fits r m = between shortest r.largest (length m)

unfoldable pub port_in_range : Row → Port → Bool
port_in_range r q =
    leb q.created 1
    && leb q.validity 1
    && leb (length q.queue) (room r)
    && all_in (fits r) q.queue
    && (is_created q || eqb (length q.queue) 0)

abbrev pub ports_in_range : Tables → ℕ → List Port → Bool
ports_in_range t k [] = true
ports_in_range t k (q ∷ qs) = port_in_range (row t k) q && ports_in_range t (suc k) qs

-- test 29 of a state: window, modes, and each port of the tables
unfoldable pub in_range : Tables → State → Bool
in_range t s =
    ltb s.clock.window (windows t)
    && eqb (length s.modes) partitions
    && all_in (λ m. leb m normal) s.modes
    && eqb (length s.ports) (port_count t)
    && ports_in_range t 0 s.ports
