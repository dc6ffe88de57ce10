-- 01, "Events": the constant table of the codes, and what an 80-byte record asks for.
-- Assumes nothing.
use Rattle.std.specs.Prelude.{if◌then◌else◌, ℕ, ◌-◌, Bool, List, [], ◌∷◌, eqb, length, get_or, take, drop}
use Rattle.model.specs.Words.{between, byte, word16, word32}
use Rattle.model.specs.Tables.{sampling, queuing, source, destination}

-- an event: 80 bytes
abbrev pub Event : Type 0
Event = List ℕ

abbrev pub event_size : ℕ
event_size = 80

-- what a code needs: the port's mode, its direction, and who may do it
pub record Need : Type 0 where
  pub mode : ℕ
  pub direction : ℕ
  pub caller : ℕ

abbrev pub either : ℕ
either = 2

abbrev pub by_partition : ℕ
by_partition = 0

abbrev pub by_scheduler : ℕ
by_scheduler = 1

abbrev pub by_mover : ℕ
by_mover = 2

abbrev needs : ℕ → ℕ → ℕ → Need
needs m d c = record { mode = m; direction = d; caller = c }

abbrev pub create_sampling_port : ℕ
create_sampling_port = 1

abbrev pub write_sampling_message : ℕ
write_sampling_message = 2

abbrev pub read_sampling_message : ℕ
read_sampling_message = 3

abbrev pub get_sampling_port_id : ℕ
get_sampling_port_id = 4

abbrev pub get_sampling_port_status : ℕ
get_sampling_port_status = 5

abbrev pub create_queuing_port : ℕ
create_queuing_port = 6

abbrev pub send_queuing_message : ℕ
send_queuing_message = 7

abbrev pub receive_queuing_message : ℕ
receive_queuing_message = 8

abbrev pub get_queuing_port_id : ℕ
get_queuing_port_id = 9

abbrev pub get_queuing_port_status : ℕ
get_queuing_port_status = 10

abbrev pub clear_queuing_port : ℕ
clear_queuing_port = 11

abbrev pub set_partition_mode : ℕ
set_partition_mode = 12

-- the constant table: a row for each code, from 1 on
abbrev pub codes : List Need
codes =
    needs sampling either by_partition  -- 1 CREATE_SAMPLING_PORT
    ∷ needs sampling source by_partition  -- 2 WRITE_SAMPLING_MESSAGE
    ∷ needs sampling destination by_partition  -- 3 READ_SAMPLING_MESSAGE
    ∷ needs sampling either by_partition  -- 4 GET_SAMPLING_PORT_ID
    ∷ needs sampling either by_partition  -- 5 GET_SAMPLING_PORT_STATUS
    ∷ needs queuing either by_partition  -- 6 CREATE_QUEUING_PORT
    ∷ needs queuing source by_partition  -- 7 SEND_QUEUING_MESSAGE
    ∷ needs queuing destination by_partition  -- 8 RECEIVE_QUEUING_MESSAGE
    ∷ needs queuing either by_partition  -- 9 GET_QUEUING_PORT_ID
    ∷ needs queuing either by_partition  -- 10 GET_QUEUING_PORT_STATUS
    ∷ needs queuing destination by_partition  -- 11 CLEAR_QUEUING_PORT
    ∷ needs either either by_partition  -- 12 SET_PARTITION_MODE
    ∷ needs either either by_scheduler  -- 13 SCHEDULE
    ∷ needs either either by_mover  -- 14 TRANSMIT
    ∷ []

abbrev pub known : ℕ → Bool
known code = between 1 (length codes) code

abbrev pub need : ℕ → Need
need code = get_or codes (code - 1) (needs either either by_partition)

-- the fields of a call: byte 1 direction or new mode; 2-3 port id; 4-7 refresh or depth; 8-11 message length or largest message
pub record Call : Type 0 where
  pub code : ℕ
  pub choice : ℕ
  pub id : ℕ
  pub number : ℕ
  pub size : ℕ

-- an event is a clock step, a partition's call, a move of a channel, or a record of no known code
pub data Asked : Type 0 where
  clock_step : Asked
  call : Call → Asked
  move : ℕ → Asked
  unknown : Asked

abbrev pub call_of : Event → Call
call_of e = record { code = byte e 0; choice = byte e 1; id = word16 e 2; number = word32 e 4; size = word32 e 8 }

unfoldable pub decode : Event → Asked
decode e =
    if known (byte e 0)
    then (if eqb (need (byte e 0)).caller by_partition then call (call_of e)
    else if eqb (need (byte e 0)).caller by_scheduler then clock_step
    else move (word16 e 2))
    else unknown

-- 16-79 message, or name (30 bytes)
abbrev pub body_start : ℕ
body_start = 16

abbrev pub message_of : Event → ℕ → List ℕ
message_of e size = take size (drop body_start e)
