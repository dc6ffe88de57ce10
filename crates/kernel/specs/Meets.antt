-- The contracts of the public calls. Each is one predicate over the bytes offered, the state handed in, the result and the lent bytes afterwards;
-- each is a row of equations, so that any two outcomes that meet it are equal (proofs/Unique.antt).
-- Assumes nothing.
use Rattle.std.specs.Prelude.{if◌then◌else◌, ℕ, ◌%◌, ◌≡◌, Bool, ◌&&◌, not, List, ◌++◌, eqb, length, drop, Result, IfOk}
use Rattle.model.specs.Load.{load_of}
use Rattle.model.specs.Events.{event_size}
use Rattle.model.specs.Answers.{stretch, handed}
use Rattle.model.specs.Run.{answers, after_all, events_of, joined, list_fault}
use Rattle.loader.specs.declared.refusal.Refused.{Refused}
use Rattle.loader.specs.Shown.{verdict_of}
use Rattle.states.specs.declared.State.{State}
use Rattle.states.specs.Shown.{shown_state, is_sound, settled_as, at_load}
use Rattle.kernel.specs.declared.refusal.ListRefusal.{ListRefusal}
use Rattle.kernel.specs.declared.reader.Stretch.{Stretch}
use Rattle.kernel.specs.Shown.{number_of, refusal_of, state_kept}

-- load: the verdict, and the state at load where the tables are accepted; a refused load gives no state
pub record LoadMeets (t : List ℕ) (r : Result State Refused) : Type 0 where
  pub verdict : verdict_of r ≡ load_of t
  pub state : IfOk r (λ st. st ≡ at_load)

-- the state test
abbrev pub TestMeets : List ℕ → State → Bool → Type 0
TestMeets t st r = r ≡ is_sound t st

-- the state after a call on a list; where the call is refused, or its list is empty, it is the one handed in
unfoldable pub state_after : ℕ → List ℕ → State → List ℕ → State
state_after fault t st events =
    if eqb fault 0 && not (eqb (length events) 0) then settled_as st (after_all t (shown_state t st) (events_of events)) else st

-- a refused call touches no byte of the answers; answer bytes past the last event stay
unfoldable pub answers_after : ℕ → List ℕ → State → List ℕ → List ℕ → List ℕ
answers_after fault t st events buffer =
    if eqb fault 0 then joined (answers t (shown_state t st) (events_of events)) ++ drop (length events) buffer else buffer

-- a call on a list: whether it is refused and why, the state, and the answers
pub record ListMeets (fault : ℕ) (t : List ℕ) (st : State) (events buffer : List ℕ) (r : Result State ListRefusal) (buffer' : List ℕ) : Type 0 where
  pub refusal : refusal_of r ≡ fault
  pub state : state_kept st r ≡ state_after fault t st events
  pub answered : buffer' ≡ answers_after fault t st events buffer

-- run: 27 where the event bytes are not a multiple of 80, 28, 29
abbrev pub RunMeets : List ℕ → State → List ℕ → List ℕ → Result State ListRefusal → List ℕ → Type 0
RunMeets t st events buffer = ListMeets (list_fault (eqb (length events % event_size) 0) events buffer (is_sound t st)) t st events buffer

-- step: 27 where the event is not exactly 80 bytes, 28, 29
abbrev pub StepMeets : List ℕ → State → List ℕ → List ℕ → Result State ListRefusal → List ℕ → Type 0
StepMeets t st event buffer = ListMeets (list_fault (eqb (length event) event_size) event buffer (is_sound t st)) t st event buffer

-- the number that tells a refusal
abbrev pub NumberMeets : ListRefusal → ℕ → Type 0
NumberMeets e n = n ≡ number_of e

-- the reader: where the message of a record stands in the lent answers, and the stretch itself
pub record StretchMeets (b : List ℕ) (record' : ℕ) (r : Stretch) : Type 0 where
  pub from : r.from ≡ (stretch b record').from
  pub size : r.size ≡ (stretch b record').size

abbrev pub ReadMeets : List ℕ → ℕ → List ℕ → Type 0
ReadMeets b record' r = r ≡ handed b record'
