-- 01, calls on lists: the run over a list of 80-byte records, the one bridge from bytes to records, and the refusals 27 to 29.
-- Assumes nothing.
use Rattle.std.specs.Prelude.{if◌then◌else◌, ℕ, ◌/◌, ◌%◌, ◌≡◌, Bool, true, ◌&&◌, not, List, [], ◌∷◌, ◌++◌, ltb, eqb, length, drop}
use Rattle.model.specs.Words.{cut}
use Rattle.model.specs.Tables.{Tables}
use Rattle.model.specs.Load.{accepts}
use Rattle.model.specs.State.{State, loaded, in_range}
use Rattle.model.specs.Events.{Event, event_size}
use Rattle.model.specs.Step.{answer, after}

-- the answers to a list, and the state after it
abbrev pub answers : Tables → State → List Event → List (List ℕ)
answers t s [] = []
answers t s (e ∷ es) = answer t s e ∷ answers t (after t s e) es

abbrev pub after_all : Tables → State → List Event → State
after_all t s [] = s
after_all t s (e ∷ es) = after_all t (after t s e) es

-- the bridge: the records of event bytes, and the bytes of answer records
unfoldable pub events_of : List ℕ → List Event
events_of b = cut event_size (length b / event_size) b

abbrev pub joined : List (List ℕ) → List ℕ
joined [] = []
joined (a ∷ as') = a ++ joined as'

-- 27, event bytes not a multiple of 80, for a single step not exactly 80; 28, answer buffer shorter than the events; 29, tables or state. 0 where none
unfoldable pub list_fault : Bool → List ℕ → List ℕ → Bool → ℕ
list_fault whole events buffer sound =
    if not whole then 27
    else if ltb (length buffer) (length events) then 28
    else if not sound then 29
    else 0

-- what a call gives: 0 or the refusal, the state, and the answer buffer
pub record Ran : Type 0 where
  pub refusal : ℕ
  pub state : State
  pub buffer : List ℕ

-- a refused call changes no state and no byte of the answers; answer bytes past the last event stay
unfoldable pub ran_or : ℕ → Tables → State → List ℕ → List ℕ → Ran
ran_or fault t s events buffer =
    if eqb fault 0
    then record {
      refusal = 0;
      state = after_all t s (events_of events);
      buffer = joined (answers t s (events_of events)) ++ drop (length events) buffer;
    }
    else record { refusal = fault; state = s; buffer = buffer }

abbrev pub is_sound : Tables → State → Bool
is_sound t s = accepts t && in_range t s

unfoldable pub run : Tables → State → List ℕ → List ℕ → Ran
run t s events buffer = ran_or (list_fault (eqb (length events % event_size) 0) events buffer (is_sound t s)) t s events buffer

unfoldable pub step : Tables → State → List ℕ → List ℕ → Ran
step t s event buffer = ran_or (list_fault (eqb (length event) event_size) event buffer (is_sound t s)) t s event buffer

-- a state is reached if a load and runs not refused lead to it; a step is a run of one event
pub data Reached (t : Tables) : State → Type 0 where
  by_load : accepts t ≡ true → Reached t (loaded t)
  by_step : {s : State} (event buffer : List ℕ) → (step t s event buffer).refusal ≡ 0 → Reached t s → Reached t (step t s event buffer).state
  by_run : {s : State} (events buffer : List ℕ) → (run t s events buffer).refusal ≡ 0 → Reached t s → Reached t (run t s events buffer).state
