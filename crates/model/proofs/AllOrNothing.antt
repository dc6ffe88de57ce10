-- Calls on lists refuse the whole list, by hand and computed: 27 before 28 before 29, with the state and the answers as they came; what a single step refuses
-- and a run does not; and test 29 of a state, both sides of each range.
-- Assumes nothing.
use Prim.Native.Nat.{ℕ}
use mathlib.Core.Path.{◌≡◌, refl}
use mathlib.Core.Bool.{Bool, true, false}
use mathlib.Core.List.{List, [], ◌∷◌, ◌++◌}
use lib.ListN.{replicate, take}
use Rattle.model.specs.Tables.{Tables}
use Rattle.model.specs.State.{Message, Port, State, fresh, in_range}
use Rattle.model.specs.Run.{Ran, run, step}
use Rattle.model.proofs.Computing.{computing, stepping}
use Rattle.model.proofs.Laid.{blanks, window_row, port_row, event}

-- two windows; a sampling destination and a queuing source, of partition 0
abbrev tables : Tables
tables = window_row 0 10 ++ (window_row 32 5 ++ (port_row 0 0 1 4 0 20 (65 ∷ []) ++ port_row 0 1 0 3 2 0 (66 ∷ [])))

abbrev port : ℕ → ℕ → List Message → Port
port created validity queue = record { created = created; arrival = 0xFFFFFFFF; validity = validity; queue = queue }

abbrev at : ℕ → List ℕ → List Port → State
at window modes ports = record { clock = record { window = window; time = 3 }; modes = modes; ports = ports }

abbrev modes : List ℕ
modes = replicate 16 3

-- window 1 is the mover's, and there is no window 2
abbrev good : State
good = at 1 modes (port 1 1 [] ∷ fresh ∷ [])

abbrev bad : State
bad = at 2 modes (port 1 1 [] ∷ fresh ∷ [])

-- the clock's step, what it is answered, and the state after it
abbrev clock : List ℕ
clock = event 13 0 0 0 0 []

abbrev ticked : List ℕ
ticked = 0 ∷ 32 ∷ 0 ∷ 0 ∷ 8 ∷ blanks 75

abbrev later : State
later = record { clock = record { window = 0; time = 8 }; modes = modes; ports = good.ports }

abbrev bytes : ℕ → List ℕ
bytes n = replicate n 255

-- a call, and what it gives: it refuses with a number and leaves state and answers, or runs
record Row : Type 0 where
  got : Ran
  given : Ran

abbrev Call : Type 0
Call = Tables → State → List ℕ → List ℕ → Ran

abbrev refuses : Call → ℕ → Tables → State → List ℕ → List ℕ → Row
refuses call number t s events buffer = record { got = call t s events buffer; given = record { refusal = number; state = s; buffer = buffer } }

abbrev runs : Call → List ℕ → List ℕ → State → List ℕ → Row
runs call events buffer s' buffer' = record { got = call tables good events buffer; given = record { refusal = 0; state = s'; buffer = buffer' } }

abbrev rows : List Row
rows =
    refuses run 27 tables bad (take 79 clock) []
    ∷ refuses run 27 tables good (clock ++ 0 ∷ []) (bytes 160)
    ∷ refuses run 28 tables bad clock (bytes 79)
    ∷ refuses run 28 tables good (clock ++ clock) (bytes 159)
    ∷ refuses run 29 tables bad clock (bytes 80)
    ∷ refuses run 29 tables bad [] []
    ∷ refuses run 29 (take 191 tables) good clock (bytes 80)
    ∷ runs run [] (bytes 2) good (bytes 2)
    ∷ runs run clock (bytes 80) later ticked
    ∷ runs run clock (bytes 82) later (ticked ++ bytes 2)
    ∷ refuses step 27 tables bad [] []
    ∷ refuses step 27 tables good (take 79 clock) (bytes 80)
    ∷ refuses step 27 tables good (clock ++ clock) (bytes 160)
    ∷ refuses step 28 tables bad clock (bytes 79)
    ∷ refuses step 29 tables bad clock (bytes 80)
    ∷ runs step clock (bytes 81) later (ticked ++ bytes 1)
    ∷ []

abbrev gotten : List Row → List Ran
gotten [] = []
gotten (r ∷ rs) = r.got ∷ gotten rs

abbrev written : List Row → List Ran
written [] = []
written (r ∷ rs) = r.given ∷ written rs

-- test 29: window; modes; created mark; last validity; stored count, up to the depth or 1 for sampling; stored length, 1 to the largest; a message in an
-- uncreated port. At time and arrival it does not look
record Judged : Type 0 where
  state : State
  fine : Bool

infix 70 ◌is◌
abbrev ◌is◌ : State → Bool → Judged
s is b = record { state = s; fine = b }

abbrev message : ℕ → Message
message n = replicate n 67

abbrev sampling : Port → State
sampling q = at 0 modes (q ∷ fresh ∷ [])

abbrev queuing : Port → State
queuing q = at 0 modes (fresh ∷ q ∷ [])

abbrev states : List Judged
states =
    good is true
    ∷ bad is false
    ∷ at 0 (replicate 15 3 ++ 4 ∷ []) good.ports is false
    ∷ at 0 (replicate 15 3) good.ports is false
    ∷ at 0 modes (fresh ∷ []) is false
    ∷ sampling (port 2 0 []) is false
    ∷ sampling (port 1 2 []) is false
    ∷ sampling (port 1 0 (message 4 ∷ [])) is true
    ∷ sampling (port 1 0 (message 5 ∷ [])) is false
    ∷ sampling (port 1 0 (message 1 ∷ message 1 ∷ [])) is false
    ∷ sampling (port 0 1 []) is true
    ∷ sampling (port 0 0 (message 1 ∷ [])) is false
    ∷ queuing (port 1 0 (message 3 ∷ message 1 ∷ [])) is true
    ∷ queuing (port 1 0 (message 3 ∷ message 0 ∷ [])) is false
    ∷ queuing (port 1 0 (message 1 ∷ message 4 ∷ [])) is false
    ∷ queuing (port 1 0 (message 1 ∷ message 1 ∷ message 1 ∷ [])) is false
    ∷ []

abbrev judged : List Judged → List Bool
judged [] = []
judged (x ∷ xs) = in_range tables x.state ∷ judged xs

abbrev right : List Judged → List Bool
right [] = []
right (x ∷ xs) = x.fine ∷ right xs

lists-refused : gotten rows ≡ written rows
unfolding computing
lists-refused = refl

states-judged : judged states ≡ right states
unfolding stepping
states-judged = refl

pub all-or-nothing : (gotten rows ≡ written rows) × (judged states ≡ right states)
all-or-nothing = (lists-refused, states-judged)
