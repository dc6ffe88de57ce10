-- A worked pair for demand 3, computed. Partition 0 sends over channel 0 to partition 1, which sends on what it received over channel 1 to partition 2.
-- Partition 2's view is compared. Partition 3 acts in the second list only, and the second state has its mode, its port and a message of its.
-- What partition 2 is told depends on partition 0's send: it changes with the message, and where nothing is sent nothing is sent on.
-- Assumes nothing.
use Prim.Native.Nat.{ℕ}
use native.Mathlib.Omega.{arith}
use mathlib.Core.Path.{◌≡◌, refl, sym, ap, subst, ◌∙◌}
use mathlib.Core.Bool.{Bool, true, false, false≢true}
use mathlib.Core.List.{List, [], ◌∷◌, ◌++◌}
use lib.Dec.{eqb, lit<}
use lib.ListN.{length, get_or, set, replicate}
use borrow.Author.Tests.{eqb-true}
use Rattle.model.proofs.Computing.{computing}
use Rattle.model.proofs.Tests.{both_left, both_right}
use Rattle.model.proofs.NonInterference.{SameView, noninterference}
use Rattle.model.proofs.Laid.{window_row, port_row, channel_row, event}
use Rattle.model.specs.Words.{zeros, all_in}
use Rattle.model.specs.Tables.{Tables}
use Rattle.model.specs.Load.{accepts}
use Rattle.model.specs.State.{Message, State, fresh, loaded}
use Rattle.model.specs.Events.{Event}
use Rattle.model.specs.Answers.{refusal, told, told_id, told_message, not_available, handed}
use Rattle.model.specs.Step.{answer}
use Rattle.model.specs.Run.{Reached, by_load, by_run, after_all, joined, run}
use Rattle.model.specs.Walk.{is_member}
use Rattle.model.specs.Flow.{Holding, clock_held, queue_held, part_held, nothing_held, holds, set_of, mattering_to, answers_to}

-- ports 1 to 5: 0's end and 1's end of channel 0, 1's end and 2's end of channel 1, and a port of 3's that stands in no channel
abbrev flow_tables : Tables
flow_tables =
    window_row 3 10
    ++ (window_row 2 10
    ++ (window_row 1 10
    ++ (window_row 0 10
    ++ (window_row 32 5
    ++ (window_row 1 10
    ++ (window_row 32 5
    ++ (window_row 2 10
    ++ (port_row 0 1 0 4 2 0 (65 ∷ [])
    ++ (port_row 1 1 1 4 2 0 (65 ∷ [])
    ++ (port_row 1 1 0 4 2 0 (66 ∷ [])
    ++ (port_row 2 1 1 4 2 0 (66 ∷ [])
    ++ (port_row 3 1 0 4 2 0 (67 ∷ [])
    ++ (channel_row 1 (2 ∷ [])
    ++ channel_row 3 (4 ∷ []))))))))))))))

abbrev clock : Event
clock = event 13 0 0 0 0 []

abbrev create : ℕ → ℕ → Event
create direction name = event 6 direction 0 2 4 (name ∷ [])

abbrev send : ℕ → Message → Event
send id m = event 7 0 id 0 (length m) m

abbrev receive : ℕ → Event
receive id = event 8 0 id 0 0 []

abbrev transmit : ℕ → Event
transmit channel = event 14 0 channel 0 0 []

-- from partition 2's first window on: the ports are created, 0 sends or does not, channel 0 moves
abbrev opening : List Event → List Event
opening sends =
    clock
    ∷ create 1 66
    ∷ clock
    ∷ create 1 65
    ∷ create 0 66
    ∷ clock
    ∷ create 0 65
    ∷ sends
    ++ (clock ∷ transmit 0 ∷ clock ∷ [])

-- then 1 receives, and sends on or does not; channel 1 moves, 2 receives twice
abbrev ending : List Event → List Event
ending sends = receive 2 ∷ sends ++ (clock ∷ transmit 1 ∷ clock ∷ receive 4 ∷ receive 4 ∷ [])

-- 0 sends a message, and 1 sends on the same
abbrev relayed : Message → List Event
relayed m = opening (send 1 m ∷ []) ++ ending (send 3 m ∷ [])

-- 0 sends nothing, and 1 has nothing to send on
abbrev silent : List Event
silent = opening [] ++ ending []

abbrev hi : Message
hi = 72 ∷ 73 ∷ []

abbrev no : Message
no = 78 ∷ 79 ∷ []

abbrev onwards : List Event
onwards = relayed hi

abbrev mode_held : Holding → ℕ
mode_held (clock_held clock) = 0
mode_held (queue_held queue) = 0
mode_held (part_held mode ports) = mode
mode_held nothing_held = 0

-- partition 3 alone: creates its port, sends, goes to NORMAL
abbrev early : List Event
early = create 0 67 ∷ send 5 hi ∷ event 12 3 0 0 0 [] ∷ []

-- the two states: as loaded, and after partition 3's events
abbrev at : ℕ → List ℕ → List (List ℕ) → State
at created modes queue =
    record {
      clock = record { window = 0; time = 0 };
      modes = modes;
      ports = fresh ∷ fresh ∷ fresh ∷ fresh ∷ record { created = created; arrival = 0; validity = 0; queue = queue } ∷ [];
    }

abbrev first : State
first = at 0 (replicate 16 1) []

abbrev second : State
second = at 1 (set (replicate 16 1) 3 3) (hi ∷ [])

-- the second list has two more events of partition 3's
abbrev more : List Event
more = send 5 hi ∷ event 10 0 5 0 0 [] ∷ onwards

pub flow-accepted : accepts flow_tables ≡ true
unfolding computing
flow-accepted = refl

first-loaded : loaded flow_tables ≡ first
unfolding computing
first-loaded = refl

second-ran : (run flow_tables first (joined early) (zeros 240)).state ≡ second
unfolding computing
second-ran = refl

early-run : (run flow_tables first (joined early) (zeros 240)).refusal ≡ 0
unfolding computing
early-run = refl

first-reached : Reached flow_tables first
first-reached = subst (Reached flow_tables) first-loaded (by_load flow-accepted)

second-reached : Reached flow_tables second
second-reached = subst (Reached flow_tables) second-ran (by_run (joined early) (zeros 240) early-run first-reached)

-- the first walk's set: every doer but partition 3
abbrev members : List ℕ
members = 32 ∷ 2 ∷ 32 ∷ 1 ∷ 1 ∷ 32 ∷ 0 ∷ 0 ∷ 32 ∷ 64 ∷ 32 ∷ 1 ∷ 1 ∷ 32 ∷ 65 ∷ 32 ∷ 2 ∷ 2 ∷ 2 ∷ 32 ∷ []

pub flow-set : set_of flow_tables 2 first onwards ≡ members
unfolding computing
flow-set = refl

-- the premises. Each member of that set holds the same in both states: the six doers that stand in it
abbrev doers : List ℕ
doers = 32 ∷ 2 ∷ 1 ∷ 0 ∷ 64 ∷ 65 ∷ []

abbrev Each : (ℕ → Type 0) → List ℕ → Type 0
Each P [] = Unit {0}
Each P (d ∷ ds) = P d × Each P ds

each : (P : ℕ → Type 0) (ds : List ℕ) → Each P ds → (d : ℕ) → is_member d ds ≡ true → P d
each P [] all d h = absurd (false≢true h)
each P (x ∷ xs) all d h = go (eqb d x) refl (each P xs all.1 d)
  where
    go : (b : Bool) → eqb d x ≡ b → (is_member d xs ≡ true → P d) → P d
    go true e later = rw (eqb-true d x e) all.0
    go false e later = later (rw e at h)

within : (xs ys : List ℕ) → all_in (λ x. is_member x ys) xs ≡ true → (d : ℕ) → is_member d xs ≡ true → is_member d ys ≡ true
within [] ys all d h = absurd (false≢true h)
within (x ∷ xs) ys all d h = go (eqb d x) refl (within xs ys (both_right (is_member x ys) (all_in (λ z. is_member z ys) xs) all) d)
  where
    go : (b : Bool) → eqb d x ≡ b → (is_member d xs ≡ true → is_member d ys ≡ true) → is_member d ys ≡ true
    go true e later = rw (eqb-true d x e) (both_left (is_member x ys) (all_in (λ z. is_member z ys) xs) all)
    go false e later = later (rw e at h)

abbrev Agrees : ℕ → Type 0
Agrees d = holds flow_tables first d ≡ holds flow_tables second d

each-agrees : Each Agrees doers
unfolding computing
each-agrees = (refl, (refl, (refl, (refl, (refl, (refl, tt))))))

members-agree : (d : ℕ) → is_member d (set_of flow_tables 2 first onwards) ≡ true → Agrees d
members-agree =
    subst (λ l. (d : ℕ) → is_member d l ≡ true → Agrees d) (sym flow-set)
    (λ d h. each Agrees doers each-agrees d (within members doers refl d h))

-- the same events matter: all of the first list, and of the second what stands in the first
first-mattering : mattering_to flow_tables 2 first onwards ≡ onwards
unfolding computing
first-mattering = refl

second-mattering : mattering_to flow_tables 2 second more ≡ onwards
unfolding computing
second-mattering = refl

-- the conclusions, computed: partition 2 is told its port's id, then the message, then that there is none; and holds its port, empty
abbrev view_of : Message → List (List ℕ)
view_of m = told 2 (told_id 4) ∷ told 2 (told_message m 0) ∷ refusal not_available 2 ∷ []

abbrev view : List (List ℕ)
view = view_of hi

abbrev left : Holding
left = part_held 1 (fresh ∷ fresh ∷ fresh ∷ record { created = 1; arrival = 0; validity = 0; queue = [] } ∷ fresh ∷ [])

pub first-told : answers_to flow_tables 2 first onwards ≡ view
unfolding computing
first-told = refl

pub second-told : answers_to flow_tables 2 second more ≡ view
unfolding computing
second-told = refl

pub first-left : holds flow_tables (after_all flow_tables first onwards) 2 ≡ left
unfolding computing
first-left = refl

pub second-left : holds flow_tables (after_all flow_tables second more) 2 ≡ left
unfolding computing
second-left = refl

-- partition 3 holds other things in the two states
pub three-differs : holds flow_tables first 3 ≡ holds flow_tables second 3 → ⊥
unfolding computing
three-differs same = let z : ◌≡◌ {A = ℕ} 1 3 = ap mode_held same in omega arith

-- partition 0's send is what partition 2 hears of. Partition 1 is answered its receive with the message that 0 sent, which is what it then sends on
abbrev to_one : List Event → List ℕ
to_one sends = answer flow_tables (after_all flow_tables first (opening sends)) (receive 2)

pub one-receives : (to_one (send 1 hi ∷ []) ≡ told 1 (told_message hi 0)) × (to_one (send 1 no ∷ []) ≡ told 1 (told_message no 0))
unfolding computing
one-receives = (refl, refl)

-- so these are the lists that 0's sends make, with a partition 1 that sends on the message it is handed, and nothing where it is handed none
abbrev sent_on : Message → List Event
sent_on [] = []
sent_on (b ∷ bs) = send 3 (b ∷ bs) ∷ []

abbrev played : List Event → List Event
played sends = opening sends ++ ending (sent_on (handed (to_one sends) 0))

pub one-sends-on : (played (send 1 hi ∷ []) ≡ relayed hi) × (played (send 1 no ∷ []) ≡ relayed no) × (played [] ≡ silent)
unfolding computing
one-sends-on = (refl, refl, refl)

-- another message of 0's, and partition 2 is told another
pub other-told : answers_to flow_tables 2 first (relayed no) ≡ view_of no
unfolding computing
other-told = refl

pub views-differ : view_of hi ≡ view_of no → ⊥
unfolding computing
views-differ same = let z : ◌≡◌ {A = ℕ} 72 78 = ap (λ view. get_or (joined view) 96 0) same in omega arith

-- without 0's send partition 1 receives nothing, and partition 2 is told that there is nothing
pub one-receives-nothing : to_one [] ≡ refusal not_available 1
unfolding computing
one-receives-nothing = refl

pub without-send : answers_to flow_tables 2 first silent ≡ told 2 (told_id 4) ∷ refusal not_available 2 ∷ refusal not_available 2 ∷ []
unfolding computing
without-send = refl

-- the theorem, applied
pub flow-same : SameView flow_tables 2 first onwards second more
flow-same =
    noninterference flow_tables 2 (lit< tt) first first-reached onwards second second-reached members-agree more
    (first-mattering ∙ sym second-mattering)
