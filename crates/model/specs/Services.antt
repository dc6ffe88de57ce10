-- 01, the services: each of codes 1 to 14 once its doer is known. Tests run in the order written.
-- Most services look at one port of the caller: they are functions of its row and of what it keeps, and give what it keeps afterwards.
-- Assumes nothing.
use Rattle.std.specs.Prelude.{if◌then◌else◌, ℕ, zero, suc, ◌-◌, Bool, true, false, ◌&&◌, ◌||◌, not, List, [], ◌∷◌, ltb, eqb, length, set}
use Rattle.model.specs.Words.{between, first}
use Rattle.model.specs.Tables.{Tables, ports, Row, row, port_record, name_start, same_name, sampling, source, source_port, destinations, destination_port}
use Rattle.model.specs.State.{Message, Port, State, fresh, idle, cold_start, warm_start, normal, mode_of, port, with_port, with_queue, is_created, tick, valid, offer}
use Rattle.model.specs.Events.{Event, Need, Call, need, either, body_start, message_of}
use Rattle.model.specs.Events.{create_sampling_port, write_sampling_message, read_sampling_message, get_sampling_port_id}
use Rattle.model.specs.Events.{create_queuing_port, send_queuing_message, receive_queuing_message, get_queuing_port_id, clear_queuing_port, set_partition_mode}
use Rattle.model.specs.Answers.{Told, nothing_told, told_id, told_number, told_message, no_action, not_available, invalid_param, invalid_config, invalid_mode}

-- a service refuses with a code, which changes no state, or is done: it tells something and leaves a state
pub data Reply : Type 0 where
  refuse : ℕ → Reply
  done : Told → State → Reply

-- the same of a service at one port
pub data Served : Type 0 where
  refuses : ℕ → Served
  serves : Told → Port → Served

abbrev pub at_port : State → ℕ → Served → Reply
at_port s k (refuses code) = refuse code
at_port s k (serves v q) = done v (with_port s k q)

-- the row's direction is the one that the code needs
abbrev pub directed : Need → Row → Bool
directed n r = eqb n.direction either || eqb r.direction n.direction

-- the port of that name, owner and mode, or the number of ports where there is none: the one name look-up
unfoldable pub is_named : Tables → ℕ → ℕ → Event → ℕ → Bool
is_named t p mode e k =
    eqb (row t k).owner p && eqb (row t k).mode mode && same_name t (name_start (port_record t k)) e body_start

unfoldable pub look_up : Tables → ℕ → ℕ → Event → ℕ
look_up t p mode e = first (is_named t p mode e) (ports t) 0

-- Create: no row of that name, owner and mode, 4 (`create`, below, which asks that first); already created, 1; largest message, direction, or refresh or
-- depth unlike the row, 4; partition in NORMAL, 5; else created, answer id
unfoldable pub like_row : Row → Call → Bool
like_row r f =
    eqb f.size r.largest
    && eqb f.choice r.direction
    && eqb f.number (if eqb r.mode sampling then r.refresh else r.depth)

unfoldable pub made : ℕ → ℕ → Row → Call → Port → Served
made id mode r f q =
    if is_created q then refuses no_action
    else if not (like_row r f) then refuses invalid_config
    else if eqb mode normal then refuses invalid_mode
    else serves (told_id id) (record { created = 1; arrival = q.arrival; validity = q.validity; queue = q.queue })

-- no row of that name, owner and mode, 4; the rest is asked of the row that there is
unfoldable pub create : Tables → State → ℕ → Event → Call → Reply
create t s p e f =
    let k = look_up t p (need f.code).mode e in
    if ltb k (ports t) then at_port s k (made (suc k) (mode_of s p) (row t k) f (port s k)) else refuse invalid_config

-- Get id: no created own port of that name, 4; else id
unfoldable pub get_id : Tables → State → ℕ → Event → Call → Reply
get_id t s p e f =
    let k = look_up t p (need f.code).mode e in
    if ltb k (ports t) && is_created (port s k) then done (told_id (suc k)) s else refuse invalid_config

-- own port: a created port of the caller, of the service's mode. Codes 2, 3, 5, 7, 8, 10 and 11 begin with "not own port, 3": `use_own`, below, asks that first,
-- and what stands between is of an own port
unfoldable pub own : Tables → State → ℕ → Call → Bool
own t s p f =
    between 1 (ports t) f.id
    && eqb (row t (f.id - 1)).owner p
    && eqb (row t (f.id - 1)).mode (need f.code).mode
    && is_created (port s (f.id - 1))

-- a sampling store keeps the new message; a queuing store takes it, or loses it when it holds its depth
unfoldable pub stored : Row → List Message → Message → List Message
stored r queue message = if eqb r.mode sampling then message ∷ [] else offer r.depth queue message

-- 2 and 7, of an own port: length 0, 3; length above the largest, 4; not a source, 5; else stored
unfoldable pub put : Row → Event → Call → Port → Served
put r e f q =
    if eqb f.size 0 then refuses invalid_param
    else if ltb r.largest f.size then refuses invalid_config
    else if not (directed (need f.code) r) then refuses invalid_mode
    else serves nothing_told (with_queue q (stored r q.queue (message_of e f.size)))

abbrev pub mark : Bool → ℕ
mark true = 1
mark false = 0

-- Read: empty, 1; else message and validity, which becomes the last validity; the message stays
abbrev pub read_oldest : ℕ → ℕ → Port → List Message → Served
read_oldest refresh time q [] = refuses no_action
read_oldest refresh time q (m ∷ rest) =
    let v = mark (valid refresh time q.arrival) in
    serves (told_message m v) (record { created = q.created; arrival = q.arrival; validity = v; queue = q.queue })

-- Receive: empty, 2; else the oldest message, removed
abbrev pub take_oldest : Port → List Message → Served
take_oldest q [] = refuses not_available
take_oldest q (m ∷ rest) = serves (told_message m 0) (with_queue q rest)

-- 3 and 8, of an own port: not a destination, 5
unfoldable pub get : ℕ → Row → Call → Port → Served
get time r f q =
    if not (directed (need f.code) r) then refuses invalid_mode
    else if eqb f.code read_sampling_message then read_oldest r.refresh time q q.queue
    else take_oldest q q.queue

-- the message count of a source port is always given as 0
abbrev pub count_told : Row → Port → ℕ
count_told r q = if eqb r.direction source then 0 else length q.queue

-- 5 and 10, of an own port: the row's numbers, with the last validity (5) or the message count (10)
unfoldable pub status : Row → Port → Told
status r q =
    if eqb r.mode sampling
    then record { id = 0; number = r.refresh; size = r.largest; validity = q.validity; direction = r.direction; depth = 0; message = [] }
    else record { id = 0; number = count_told r q; size = r.largest; validity = 0; direction = r.direction; depth = r.depth; message = [] }

-- 11, of an own port: not a destination, 5; else emptied
unfoldable pub cleared : Row → Call → Port → Served
cleared r f q = if not (directed (need f.code) r) then refuses invalid_mode else serves nothing_told (with_queue q [])

-- the services of an own port, by code
unfoldable pub serve : ℕ → Row → Event → Call → Port → Served
serve time r e f q =
    if eqb f.code write_sampling_message || eqb f.code send_queuing_message then put r e f q
    else if eqb f.code read_sampling_message || eqb f.code receive_queuing_message then get time r f q
    else if eqb f.code clear_queuing_port then cleared r f q
    else serves (status r q) q

-- not own port, 3; else the service of the code
unfoldable pub use_own : Tables → ℕ → State → ℕ → Event → Call → Reply
use_own t time s p e f =
    if own t s p f then at_port s (f.id - 1) (serve time (row t (f.id - 1)) e f (port s (f.id - 1)))
    else refuse invalid_param

-- 12: modes 0..2 also empty all the caller's ports, unmake them, and set last validities and arrival times to 0
abbrev pub unmade : Tables → ℕ → ℕ → List Port → List Port
unmade t p k [] = []
unmade t p k (q ∷ qs) = (if eqb (row t k).owner p then fresh else q) ∷ unmade t p (suc k) qs

unfoldable pub with_mode : Tables → State → ℕ → ℕ → State
with_mode t s p m =
    record {
      clock = s.clock;
      modes = set s.modes p m;
      ports = if eqb m normal then s.ports else unmade t p 0 s.ports;
    }

-- mode above 3, 3; NORMAL in NORMAL, 1; WARM_START in COLD_START, 5; else set
unfoldable pub set_mode : Tables → State → ℕ → ℕ → Reply
set_mode t s p m =
    if ltb normal m then refuse invalid_param
    else if eqb m normal && eqb (mode_of s p) normal then refuse no_action
    else if eqb m warm_start && eqb (mode_of s p) cold_start then refuse invalid_mode
    else done nothing_told (with_mode t s p m)

-- a partition's call: in IDLE 15, else the service of its code
unfoldable pub service : Tables → ℕ → State → ℕ → Event → Call → Reply
service t time s p e f =
    if eqb (mode_of s p) idle then refuse 15
    else if eqb f.code create_sampling_port || eqb f.code create_queuing_port then create t s p e f
    else if eqb f.code get_sampling_port_id || eqb f.code get_queuing_port_id then get_id t s p e f
    else if eqb f.code set_partition_mode then set_mode t s p f.choice
    else use_own t time s p e f

-- 13: the clock's step, told as the new time
unfoldable pub schedule : Tables → State → Reply
schedule t s =
    done (told_number (tick t s.clock).time) (record { clock = tick t s.clock; modes = s.modes; ports = s.ports })

-- 14: a destination that is created gets the message: sampling replaces and sets the arrival time, queuing appends if there is room. Otherwise it is lost
unfoldable pub arrived : ℕ → Row → Message → Port → Port
arrived time r m d =
    if is_created d
    then record {
      created = d.created;
      arrival = if eqb r.mode sampling then time else d.arrival;
      validity = d.validity;
      queue = stored r d.queue m;
    }
    else d

-- the message handed to port k, which has its own arrival time
abbrev pub handed_to : Tables → (ℕ → ℕ) → Message → ℕ → State → State
handed_to t time_at m k s = with_port s k (arrived (time_at k) (row t k) m (port s k))

-- and to the n destinations of channel c from number j on, one after the other
abbrev pub delivered : Tables → (ℕ → ℕ) → ℕ → Message → ℕ → ℕ → State → State
delivered t time_at c m zero j s = s
delivered t time_at c m (suc n) j s = delivered t time_at c m n (suc j) (handed_to t time_at m (destination_port t c j) s)

-- source empty, 1; else the oldest message leaves the source and goes to each destination
abbrev pub transmit_oldest : Tables → (ℕ → ℕ) → State → ℕ → List Message → Reply
transmit_oldest t time_at s c [] = refuse no_action
transmit_oldest t time_at s c (m ∷ rest) =
    let k = source_port t c in
    done nothing_told (delivered t time_at c m (destinations t c) 0 (with_port s k (with_queue (port s k) rest)))

unfoldable pub transmit : Tables → (ℕ → ℕ) → State → ℕ → Reply
transmit t time_at s c = transmit_oldest t time_at s c (port s (source_port t c)).queue
