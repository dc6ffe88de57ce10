-- P1 to P10 of 01, "Both sides of each edge": one table, and one theorem that computes it through the model's step.
-- Each row: tables that the load accepts, a state, an event, and the state and the answer's 80 bytes that the step must give.
-- Assumes nothing.
use Prim.Native.Nat.{ℕ}
use mathlib.Core.Path.{◌≡◌, refl}
use mathlib.Core.Bool.{true}
use mathlib.Core.List.{List, [], ◌∷◌, ◌++◌}
use lib.Dec.{eqb}
use lib.ListN.{length, replicate}
use Rattle.model.specs.Words.{zeros}
use Rattle.model.specs.Tables.{Tables}
use Rattle.model.specs.Load.{accepts}
use Rattle.model.specs.State.{Message, Port, State, fresh, in_range}
use Rattle.model.specs.Events.{Event, event_size}
use Rattle.model.specs.Step.{after}
use Rattle.model.specs.Run.{list_fault, ran_or, step}
use Rattle.model.proofs.Computing.{computing, stepping}
use Rattle.model.proofs.Laid.{window_row, port_row, channel_row, event, answer_row}

pub record Edge : Type 0 where
  pub tables : Tables
  pub state : State
  pub asked : Event
  pub answered : List ℕ
  pub left : State

-- a row holds: the tables are accepted, and the step, with 80 bytes for the answer, gives just that
pub record Holds (x : Edge) : Type 0 where
  pub accepted : accepts x.tables ≡ true
  pub stepped : step x.tables x.state x.asked (zeros event_size) ≡ record { refusal = 0; state = x.left; buffer = x.answered }

pub data Hold : List Edge → Type 0 where
  none : Hold []
  also : {x : Edge} {xs : List Edge} → Holds x → Hold xs → Hold (x ∷ xs)

abbrev edge : Tables → State → Event → List ℕ → State → Edge
edge t s e a s' = record { tables = t; state = s; asked = e; answered = a; left = s' }

abbrev sky : List ℕ
sky = 83 ∷ 75 ∷ 89 ∷ []

-- partition 0 has a source port (id 1) and partition 1 a destination port (id 2), with a channel from one to the other; window 0 is partition 0's, 1 partition 1's, 2 the mover's
abbrev window_rows : List ℕ
window_rows = window_row 0 10 ++ (window_row 1 20 ++ window_row 32 5)

abbrev samples : ℕ → Tables
samples refresh = window_rows ++ (port_row 0 0 0 4 0 0 sky ++ (port_row 1 0 1 4 0 refresh sky ++ channel_row 1 (2 ∷ [])))

abbrev queues : Tables
queues = window_rows ++ (port_row 0 1 0 4 8 0 sky ++ (port_row 1 1 1 4 8 0 sky ++ channel_row 1 (2 ∷ [])))

abbrev state : ℕ → ℕ → Port → Port → State
state window time from to =
    record { clock = record { window = window; time = time }; modes = replicate 16 3; ports = from ∷ to ∷ [] }

abbrev holding : List Message → Port
holding messages = record { created = 1; arrival = 0; validity = 0; queue = messages }

-- the destination's sample: one message, that came at a time, with a last validity
abbrev sample : ℕ → ℕ → Port
sample arrival validity = record { created = 1; arrival = arrival; validity = validity; queue = (65 ∷ 66 ∷ []) ∷ [] }

abbrev message : Message
message = 67 ∷ []

-- seven messages, no two alike and none the one sent, and the same with one more at the end
abbrev seven : List Message
seven = (1 ∷ []) ∷ (2 ∷ 1 ∷ []) ∷ (3 ∷ []) ∷ (4 ∷ 1 ∷ []) ∷ (5 ∷ []) ∷ (6 ∷ 1 ∷ []) ∷ (7 ∷ []) ∷ []

abbrev seven_and : Message → List Message
seven_and m = seven ++ m ∷ []

-- the read of the sample of id 2, and what it answers
abbrev read : Event
read = event 3 0 2 0 0 []

abbrev read_as : ℕ → List ℕ
read_as validity = answer_row 1 0 0 0 2 validity 0 0 (65 ∷ 66 ∷ [])

abbrev send : ℕ → ℕ → Event
send id size = event 7 0 id 0 size (replicate size 67)

abbrev transmit : Event
transmit = event 14 0 0 0 0 []

-- the sample is in the source, and the destination is created
abbrev waiting : State
waiting = state 2 7 (holding (message ∷ [])) (holding [])

abbrev pub edges : List Edge
edges =
    -- P1 age 20, refresh 20: valid
    edge (samples 20) (state 1 40 fresh (sample 20 0)) read (read_as 1) (state 1 40 fresh (sample 20 1))
    -- P2 age 21: not
    ∷ edge (samples 20) (state 1 41 fresh (sample 20 1)) read (read_as 0) (state 1 41 fresh (sample 20 0))
    -- P3 time 5, arrival 4,294,967,290: age 11; valid at refresh 11, not at 10
    ∷ edge (samples 11) (state 1 5 fresh (sample 4_294_967_290 0)) read (read_as 1) (state 1 5 fresh (sample 4_294_967_290 1))
    ∷ edge (samples 10) (state 1 5 fresh (sample 4_294_967_290 1)) read (read_as 0) (state 1 5 fresh (sample 4_294_967_290 0))
    -- P4 send at depth 8 holding 7: stored, as the newest
    ∷ edge queues (state 0 0 (holding seven) fresh) (send 1 1) (answer_row 0 0 0 0 0 0 0 0 []) (state 0 0 (holding (seven_and message)) fresh)
    -- P5 holding 8: lost, answer 0; the eight stay as they are
    ∷ edge queues (state 0 0 (holding (seven_and (8 ∷ 1 ∷ []))) fresh) (send 1 1) (answer_row 0 0 0 0 0 0 0 0 []) (state 0 0 (holding (seven_and (8 ∷ 1 ∷ []))) fresh)
    -- P6 length 0: 3
    ∷ edge queues (state 0 0 (holding []) fresh) (send 1 0) (answer_row 0 3 0 0 0 0 0 0 []) (state 0 0 (holding []) fresh)
    -- P7 length 5, largest 4: 4
    ∷ edge queues (state 0 0 (holding []) fresh) (send 1 5) (answer_row 0 4 0 0 0 0 0 0 []) (state 0 0 (holding []) fresh)
    -- P8 another's id: 3
    ∷ edge queues (state 0 0 (holding []) (holding [])) (send 2 1) (answer_row 0 3 0 0 0 0 0 0 []) (state 0 0 (holding []) (holding []))
    -- P9 transmit of a stored message to an uncreated port: 0
    ∷ edge queues (state 2 7 (holding (message ∷ [])) fresh) transmit (answer_row 64 0 0 0 0 0 0 0 []) (state 2 7 (holding []) fresh)
    -- P10 a second transmit of one sample: 1
    ∷ edge (samples 20) (after (samples 20) waiting transmit) transmit (answer_row 64 1 0 0 0 0 0 0 [])
    (state 2 7 (holding []) (record { created = 1; arrival = 7; validity = 0; queue = message ∷ [] }))
    ∷ []

-- each of the four tables is accepted
at-20 : accepts (samples 20) ≡ true
unfolding computing
at-20 = refl

at-11 : accepts (samples 11) ≡ true
unfolding computing
at-11 = refl

at-10 : accepts (samples 10) ≡ true
unfolding computing
at-10 = refl

queued : accepts queues ≡ true
unfolding computing
queued = refl

-- a row of accepted tables: its step is computed without another look at them
row : {x : Edge} → accepts x.tables ≡ true
    → ran_or (list_fault (eqb (length x.asked) event_size) x.asked (zeros event_size) (in_range x.tables x.state)) x.tables x.state x.asked (zeros event_size)
    ≡ record { refusal = 0; state = x.left; buffer = x.answered }
    → Holds x
unfolding step
row ok given = record { accepted = ok; stepped = rw ok given }

pub edges-hold : Hold edges
unfolding stepping
edges-hold =
    also (row at-20 refl) (also (row at-20 refl) (also (row at-11 refl) (also (row at-10 refl) (also (row queued refl) (also (row queued refl)
    (also (row queued refl) (also (row queued refl) (also (row queued refl) (also (row queued refl) (also (row at-20 refl) none))))))))))
