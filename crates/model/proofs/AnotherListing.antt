-- A second listing beside that of 01: events over small tables, each with the 80 bytes that 01 has it answered, written by hand, and the state that is left.
-- Computed from a state that is handed in and whose time comes round on the way. What is pinned here and not by the listing of 01: the numbers 15 to 19 and
-- their doers, the order of the tests, which message is lost, replaced or taken, what 10 tells, what a mode change unmakes, and the high bytes of numbers.
-- Assumes nothing.
use Prim.Native.Nat.{ℕ}
use mathlib.Core.Path.{◌≡◌, refl}
use mathlib.Core.Bool.{true}
use mathlib.Core.List.{List, [], ◌∷◌, ◌++◌}
use lib.ListN.{replicate}
use Rattle.model.specs.Tables.{Tables}
use Rattle.model.specs.Load.{accepts}
use Rattle.model.specs.State.{Message, Port, State, fresh}
use Rattle.model.specs.Events.{Event}
use Rattle.model.proofs.Computing.{computing, stepping}
use Rattle.model.proofs.Laid.{blanks, window_row, port_row, channel_row, event, answer_row}
use Rattle.model.proofs.Stretches.{Row, ◌gets◌, Stretch, stretch, Gives, given}

abbrev S : List ℕ
S = 83 ∷ []

abbrev Q : List ℕ
Q = 81 ∷ []

abbrev X : List ℕ
X = 88 ∷ []

-- partition 0 has a sampling source (id 1) and a queuing source (3); partition 1 an end of each channel (2 and 4) and a queuing source in no channel (5);
-- partition 2, which has no window, the other end of the sampling channel (6)
abbrev tables : Tables
tables =
    window_row 0 258
    ++ (window_row 1 7
    ++ (window_row 32 5
    ++ (port_row 0 0 0 4 0 0 S
    ++ (port_row 1 0 1 5 0 262 S
    ++ (port_row 0 1 0 4 3 0 Q
    ++ (port_row 1 1 1 4 3 0 Q
    ++ (port_row 1 1 0 4 1 0 X
    ++ (port_row 2 0 1 4 0 9 S
    ++ (channel_row 1 (2 ∷ 6 ∷ [])
    ++ channel_row 3 (4 ∷ []))))))))))

abbrev made : ℕ → ℕ → List Message → Port
made arrival validity queue = record { created = 1; arrival = arrival; validity = validity; queue = queue }

-- a state, by window, time, the modes of partitions 0 and 1, and the ports
abbrev at : ℕ → ℕ → ℕ → ℕ → List Port → State
at window time mode₀ mode₁ ports =
    record { clock = record { window = window; time = time }; modes = mode₀ ∷ mode₁ ∷ replicate 14 1; ports = ports }

tables-accepted : accepts tables ≡ true
unfolding computing
tables-accepted = refl

-- an answer that tells nothing but its code
abbrev code : ℕ → ℕ → List ℕ
code c doer = c ∷ doer ∷ blanks 78

abbrev clock : Event
clock = event 13 0 0 0 0 []

-- an event of which a code looks at the first four bytes at most. Fields a code doesn't use are not looked at: in some rows they are full
abbrev brief : ℕ → ℕ → ℕ → Event
brief c choice id = c ∷ choice ∷ id ∷ 0 ∷ replicate 76 255

-- handed in: partition 0 starts; partition 1 is in NORMAL, its destinations created, its last read valid, and a message waiting
abbrev handed_in : State
handed_in = at 0 0xFFFFFEFA 1 3 (fresh ∷ made 0xFFFFFE00 1 [] ∷ fresh ∷ made 0 0 ((9 ∷ []) ∷ []) ∷ fresh ∷ made 5 0 [] ∷ [])

-- Create and get id, by partition 0 in COLD_START
abbrev create_rows : List Row
create_rows =
    event 1 1 0 0 4 S gets code 4 0  -- another direction
    ∷ event 1 0 0 0 5 S gets code 4 0  -- another largest message
    ∷ event 1 0 0 0x01000000 4 S gets code 4 0  -- another refresh, by its high byte
    ∷ event 1 0 0 0 4 Q gets code 4 0  -- a name of the other mode
    ∷ event 1 0 0 0 4 X gets code 4 0  -- a name of another's, in either mode
    ∷ event 6 0 0 1 4 X gets code 4 0
    ∷ event 4 0 0 0 0 S gets code 4 0  -- not created yet
    ∷ event 2 0 1 0 1 (64 ∷ []) gets code 3 0
    ∷ event 1 0 0 0 4 S gets answer_row 0 0 1 0 0 0 0 0 []
    ∷ event 1 1 0 0 4 S gets code 1 0  -- already created, whatever is asked
    ∷ event 6 0 0 2 4 Q gets code 4 0  -- another depth
    ∷ event 6 0 255 3 4 Q gets answer_row 0 0 3 0 0 0 0 0 []
    ∷ event 4 255 255 255 255 (83 ∷ blanks 29 ++ 255 ∷ []) gets answer_row 0 0 1 0 0 0 0 0 []
    ∷ event 4 0 0 0 0 (83 ∷ blanks 28 ++ 255 ∷ []) gets code 4 0  -- another name, by its thirtieth byte
    ∷ event 9 0 0 0 0 Q gets answer_row 0 0 3 0 0 0 0 0 []
    ∷ event 9 0 0 0 0 S gets code 4 0
    ∷ []

abbrev created : State
created = at 0 0xFFFFFEFA 1 3 (made 0 0 [] ∷ made 0xFFFFFE00 1 [] ∷ made 0 0 [] ∷ made 0 0 ((9 ∷ []) ∷ []) ∷ fresh ∷ made 5 0 [] ∷ [])

-- Write, send and status, by partition 0: the second write replaces, and the fourth send is lost
abbrev put_rows : List Row
put_rows =
    event 2 0 1 0 2 (65 ∷ 66 ∷ []) gets code 0 0
    ∷ event 2 255 1 255 3 (67 ∷ 68 ∷ 69 ∷ 255 ∷ []) gets code 0 0
    ∷ (2 ∷ 0 ∷ 1 ∷ 0 ∷ 0 ∷ 0 ∷ 0 ∷ 0 ∷ 2 ∷ 0 ∷ 0 ∷ 1 ∷ blanks 68) gets code 4 0  -- length 16,777,218
    ∷ (2 ∷ 0 ∷ 1 ∷ 1 ∷ 0 ∷ 0 ∷ 0 ∷ 0 ∷ 2 ∷ 0 ∷ 0 ∷ 0 ∷ blanks 68) gets code 3 0  -- id 257
    ∷ event 2 0 0 0 1 [] gets code 3 0  -- id 0
    ∷ event 7 0 1 0 1 [] gets code 3 0  -- a port of the other mode
    ∷ event 3 0 1 0 0 [] gets code 5 0  -- read at a source
    ∷ event 3 0 2 0 0 [] gets code 3 0  -- another's port
    ∷ event 5 0 1 0 0 [] gets answer_row 0 0 0 0 4 0 0 0 []
    ∷ event 7 0 3 0 1 (71 ∷ []) gets code 0 0
    ∷ event 7 0 3 0 2 (72 ∷ 73 ∷ []) gets code 0 0
    ∷ event 7 0 3 0 1 (74 ∷ []) gets code 0 0
    ∷ event 7 0 3 0 1 (75 ∷ []) gets code 0 0
    ∷ brief 10 255 3 gets answer_row 0 0 0 0 4 0 0 3 []  -- a source's count is 0
    ∷ event 8 0 3 0 0 [] gets code 5 0  -- receive and clear at a source
    ∷ event 11 0 3 0 0 [] gets code 5 0
    ∷ []

abbrev sent : List Message
sent = (71 ∷ []) ∷ (72 ∷ 73 ∷ []) ∷ (74 ∷ []) ∷ []

abbrev written : Message
written = 67 ∷ 68 ∷ 69 ∷ []

abbrev put : ℕ → ℕ → ℕ → State
put window time mode₀ =
    at window time mode₀ 3 (made 0 0 (written ∷ []) ∷ made 0xFFFFFE00 1 [] ∷ made 0 0 sent ∷ made 0 0 ((9 ∷ []) ∷ []) ∷ fresh ∷ made 5 0 [] ∷ [])

-- Nobody's events in a partition's window, 17 before 18; then modes: NORMAL leaves the ports
abbrev start_rows : List Row
start_rows =
    event 14 0 0 0 0 [] gets code 17 255
    ∷ event 14 0 9 0 0 [] gets code 17 255
    ∷ event 0 0 0 0 0 [] gets code 19 255
    ∷ event 15 0 0 0 0 [] gets code 19 255
    ∷ event 12 4 0 0 0 [] gets code 3 0
    ∷ event 12 2 0 0 0 [] gets code 5 0
    ∷ brief 12 3 255 gets code 0 0
    ∷ event 12 3 0 0 0 [] gets code 1 0
    ∷ clock gets (0 ∷ 32 ∷ 0 ∷ 0 ∷ 252 ∷ 255 ∷ 255 ∷ 255 ∷ blanks 72)
    ∷ []

-- Refusals to partition 1, in NORMAL: a message too long, and a port unlike its row, are 4 before 5; then time comes round
abbrev refusal_rows : List Row
refusal_rows =
    event 6 0 0 2 4 X gets code 4 1
    ∷ event 6 0 0 1 4 X gets code 5 1
    ∷ event 2 0 2 0 6 [] gets code 4 1
    ∷ event 2 0 2 0 5 [] gets code 5 1
    ∷ event 7 0 4 0 5 [] gets code 4 1
    ∷ event 7 0 4 0 4 [] gets code 5 1
    ∷ event 2 0 2 0 0 [] gets code 3 1
    ∷ event 3 0 2 0 0 [] gets code 1 1  -- nothing to read
    ∷ clock gets answer_row 32 0 0 3 0 0 0 0 []
    ∷ []

-- The mover: nobody's events, then both channels; the third message finds partition 1's store full. Two clock steps to partition 1's next window
abbrev move_rows : List Row
move_rows =
    event 1 0 0 0 4 S gets code 16 255
    ∷ event 12 3 0 0 0 [] gets code 16 255
    ∷ event 14 0 2 0 0 [] gets code 18 255
    ∷ (14 ∷ 0 ∷ 0 ∷ 1 ∷ blanks 76) gets code 18 255  -- channel 256
    ∷ event 14 0 0 0 0 [] gets code 0 64
    ∷ event 14 0 0 0 0 [] gets code 1 64
    ∷ event 14 0 1 0 0 [] gets code 0 65
    ∷ brief 14 255 1 gets code 0 65
    ∷ event 14 0 1 0 0 [] gets code 0 65
    ∷ event 14 0 1 0 0 [] gets code 1 65
    ∷ brief 13 255 255 gets answer_row 32 0 0 8 0 0 0 0 []
    ∷ clock gets answer_row 32 0 0 266 0 0 0 0 []
    ∷ []

-- both destinations have the sample, that arrived at 3, and their last validities as they were
abbrev moved : List Message → ℕ → State
moved queue validity =
    at 1 266 3 3
    (made 0 0 [] ∷ made 3 validity (written ∷ []) ∷ made 0 0 [] ∷ made 0 0 queue ∷ fresh ∷ made 3 0 (written ∷ []) ∷ [])

abbrev arrived : List Message
arrived = (9 ∷ []) ∷ (71 ∷ []) ∷ (72 ∷ 73 ∷ []) ∷ []

-- Read, receive, status and clear, by partition 1: the sample is 263 old, one too many
abbrev take_rows : List Row
take_rows =
    event 5 0 2 0 0 [] gets answer_row 1 0 0 262 5 1 1 0 []
    ∷ event 3 0 2 0 0 [] gets (0 ∷ 1 ∷ 0 ∷ 0 ∷ 0 ∷ 0 ∷ 0 ∷ 0 ∷ 3 ∷ 0 ∷ 0 ∷ 0 ∷ 0 ∷ 0 ∷ 0 ∷ 0 ∷ 67 ∷ 68 ∷ 69 ∷ blanks 61)
    ∷ (5 ∷ 0 ∷ 2 ∷ blanks 77) gets (0 ∷ 1 ∷ 0 ∷ 0 ∷ 6 ∷ 1 ∷ 0 ∷ 0 ∷ 5 ∷ 0 ∷ 0 ∷ 0 ∷ 0 ∷ 1 ∷ 0 ∷ 0 ∷ blanks 64)
    ∷ event 8 0 4 0 0 [] gets answer_row 1 0 0 0 1 0 0 0 (9 ∷ [])
    ∷ (10 ∷ 0 ∷ 4 ∷ blanks 77) gets (0 ∷ 1 ∷ 0 ∷ 0 ∷ 2 ∷ 0 ∷ 0 ∷ 0 ∷ 4 ∷ 0 ∷ 0 ∷ 0 ∷ 0 ∷ 1 ∷ 3 ∷ 0 ∷ blanks 64)
    ∷ brief 8 255 4 gets answer_row 1 0 0 0 1 0 0 0 (71 ∷ [])
    ∷ event 11 0 4 0 0 [] gets code 0 1
    ∷ event 8 0 4 0 0 [] gets code 2 1
    ∷ []

-- Modes 0, 1 and 2 unmake the caller's ports, and no others; a start mode may be set again
abbrev unmade : ℕ → State
unmade mode = at 1 266 3 mode (made 0 0 [] ∷ fresh ∷ made 0 0 [] ∷ fresh ∷ fresh ∷ made 3 0 (written ∷ []) ∷ [])

abbrev setting : ℕ → Row
setting mode = event 12 mode 0 0 0 [] gets code 0 1

abbrev cold_rows : List Row
cold_rows = setting 1 ∷ event 12 2 0 0 0 [] gets code 5 1 ∷ []

-- A partition in IDLE gets 15 for every call and is still the doer; nobody's events are still nobody's
abbrev stopped_rows : List Row
stopped_rows =
    event 5 0 2 0 0 [] gets code 15 1
    ∷ event 1 1 0 0 4 Q gets code 15 1
    ∷ event 12 3 0 0 0 [] gets code 15 1
    ∷ event 14 0 0 0 0 [] gets code 17 255
    ∷ event 99 0 0 0 0 [] gets code 19 255
    ∷ []

-- all four bytes of a time, read off the state and told
abbrev late : ℕ → ℕ → State
late window time = at window time 1 1 (fresh ∷ fresh ∷ fresh ∷ fresh ∷ fresh ∷ fresh ∷ [])

abbrev creates : Stretch
creates = stretch handed_in create_rows created

abbrev puts : Stretch
puts = stretch created put_rows (put 0 0xFFFFFEFA 1)

abbrev starts : Stretch
starts = stretch (put 0 0xFFFFFEFA 1) start_rows (put 1 0xFFFFFFFC 3)

abbrev refusals : Stretch
refusals = stretch (put 1 0xFFFFFFFC 3) refusal_rows (put 2 3 3)

abbrev moves : Stretch
moves = stretch (put 2 3 3) move_rows (moved arrived 1)

abbrev takes : Stretch
takes = stretch (moved arrived 1) take_rows (moved [] 0)

abbrev sets : ℕ → List Row → Stretch
sets mode rows = stretch (moved arrived 1) (setting mode ∷ rows) (unmade mode)

abbrev ticks : Stretch
ticks = stretch (late 0 0x01020304) (clock gets (0 ∷ 32 ∷ 0 ∷ 0 ∷ 6 ∷ 4 ∷ 2 ∷ 1 ∷ blanks 72) ∷ []) (late 1 0x01020406)

creates-answered : Gives tables creates
unfolding stepping
creates-answered = given tables tables-accepted creates refl

puts-answered : Gives tables puts
unfolding stepping
puts-answered = given tables tables-accepted puts refl

starts-answered : Gives tables starts
unfolding stepping
starts-answered = given tables tables-accepted starts refl

refusals-answered : Gives tables refusals
unfolding stepping
refusals-answered = given tables tables-accepted refusals refl

moves-answered : Gives tables moves
unfolding stepping
moves-answered = given tables tables-accepted moves refl

takes-answered : Gives tables takes
unfolding stepping
takes-answered = given tables tables-accepted takes refl

idle-unmakes : Gives tables (sets 0 stopped_rows)
unfolding stepping
idle-unmakes = given tables tables-accepted (sets 0 stopped_rows) refl

cold-start-unmakes : Gives tables (sets 1 cold_rows)
unfolding stepping
cold-start-unmakes = given tables tables-accepted (sets 1 cold_rows) refl

warm-start-unmakes : Gives tables (sets 2 (setting 2 ∷ []))
unfolding stepping
warm-start-unmakes = given tables tables-accepted (sets 2 (setting 2 ∷ [])) refl

time-told : Gives tables ticks
unfolding stepping
time-told = given tables tables-accepted ticks refl

abbrev G : Stretch → Type 0
G = Gives tables

pub another-listing :
    G creates × G puts × G starts × G refusals × G moves × G takes × G (sets 0 stopped_rows) × G (sets 1 cold_rows) × G (sets 2 (setting 2 ∷ [])) × G ticks
another-listing =
    (creates-answered, puts-answered, starts-answered, refusals-answered, moves-answered, takes-answered, idle-unmakes, cold-start-unmakes, warm-start-unmakes, time-told)
