-- 01, "Tests before any service": who does an event, its answer, and the state after it.
-- Assumes nothing.
use Rattle.std.specs.Prelude.{if◌then◌else◌, ℕ, ◌+◌, List, ltb, eqb}
use Rattle.model.specs.Tables.{Tables, mover, window_partition, channels}
use Rattle.model.specs.State.{State}
use Rattle.model.specs.Events.{Event, Call, Asked, clock_step, call, move, unknown, decode}
use Rattle.model.specs.Answers.{refusal, told}
use Rattle.model.specs.Services.{Reply, refuse, done, service, schedule, transmit}

-- whose turn it is: nobody's, with the code that is answered; the scheduler's; a partition's, with its call; a channel's
pub data Turn : Type 0 where
  no_turn : ℕ → Turn
  clock_turn : Turn
  call_turn : ℕ → Call → Turn
  move_turn : ℕ → Turn

-- code not 1..14, 19; codes 1..12 in a mover window, 16; code 14 in a partition's window, 17; code 14 naming no channel, 18
unfoldable pub turn_in : Tables → ℕ → Asked → Turn
turn_in t owner unknown = no_turn 19
turn_in t owner clock_step = clock_turn
turn_in t owner (call f) = if eqb owner mover then no_turn 16 else call_turn owner f
turn_in t owner (move c) = if eqb owner mover then (if ltb c (channels t) then move_turn c else no_turn 18) else no_turn 17

unfoldable pub turn : Tables → State → Event → Turn
turn t s e = turn_in t (window_partition t s.clock.window) (decode e)

-- doers: a partition 0..15, the scheduler 32, a channel 64 plus its number, nobody 255
abbrev pub scheduler : ℕ
scheduler = 32

abbrev pub first_channel : ℕ
first_channel = 64

abbrev pub nobody : ℕ
nobody = 255

abbrev pub doer_in : Turn → ℕ
doer_in (no_turn code) = nobody
doer_in clock_turn = scheduler
doer_in (call_turn p f) = p
doer_in (move_turn c) = first_channel + c

unfoldable pub doer : Tables → State → Event → ℕ
doer t s e = doer_in (turn t s e)

-- what that doer does, at the state's time
unfoldable pub reply_in : Tables → State → Event → Turn → Reply
reply_in t s e (no_turn code) = refuse code
reply_in t s e clock_turn = schedule t s
reply_in t s e (call_turn p f) = service t s.clock.time s p e f
reply_in t s e (move_turn c) = transmit t (λ k. s.clock.time) s c

unfoldable pub reply : Tables → State → Event → Reply
reply t s e = reply_in t s e (turn t s e)

-- the answer's 80 bytes and the state after it, of a reply
abbrev pub answer_of : ℕ → Reply → List ℕ
answer_of d (refuse code) = refusal code d
answer_of d (done v s) = told d v

abbrev pub state_of : State → Reply → State
state_of s (refuse code) = s
state_of s (done v s') = s'

-- the step: the answer to one event, and the state after it
unfoldable pub answer : Tables → State → Event → List ℕ
answer t s e = answer_of (doer t s e) (reply t s e)

unfoldable pub after : Tables → State → Event → State
after t s e = state_of s (reply t s e)
