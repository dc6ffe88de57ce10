-- The contracts of the exported functions: the kernel's, with the state in a buffer. Each settles the result and every lent byte.
-- Assumes nothing.
use Rattle.std.specs.Prelude.{if◌then◌else◌, ℕ, ◌%◌, ◌≡◌, Bool, ◌&&◌, not, List, eqb, length, Result}
use Rattle.model.specs.Load.{Verdict, accepted, refused, load_of, accepts}
use Rattle.model.specs.Events.{event_size}
use Rattle.model.specs.Answers.{stretch}
use Rattle.model.specs.Run.{list_fault}
use Rattle.states.specs.declared.State.{State}
use Rattle.states.specs.Shown.{at_load}
use Rattle.kernel.specs.declared.refusal.ListRefusal.{ListRefusal}
use Rattle.kernel.specs.Shown.{refusal_of, state_kept}
use Rattle.states.specs.Shown.{is_sound}
use Rattle.kernel.specs.Meets.{state_after, answers_after}
use Rattle.state_buffer.specs.Layout.{state_size, state_of, bytes_of}

-- a buffer of the size of a state
abbrev pub is_sized : List ℕ → Bool
is_sized b = eqb (length b) state_size

-- a verdict's number, 0 where the tables are accepted, and its record
abbrev pub number_in : Verdict → ℕ
number_in accepted = 0
number_in (refused number rec) = number

abbrev pub record_in : Verdict → ℕ
record_in accepted = 0
record_in (refused number rec) = rec

-- load: the tables' refusal, or 29 where the buffer is no state's; a refused load makes no state
unfoldable pub load_code : List ℕ → List ℕ → ℕ
load_code t b = if accepts t && not (is_sized b) then 29 else number_in (load_of t)

pub record HostLoad (t b : List ℕ) (r : ℕ) (b' : List ℕ) : Type 0 where
  pub code : r ≡ load_code t b
  pub state : b' ≡ (if accepts t && is_sized b then bytes_of at_load else b)

abbrev pub HostRecord : List ℕ → ℕ → Type 0
HostRecord t r = r ≡ record_in (load_of t)

-- test 29, of which the buffer's size is a part
unfoldable pub buffer_sound : List ℕ → List ℕ → Bool
buffer_sound t b = is_sized b && is_sound t (state_of b)

abbrev pub HostTest : List ℕ → List ℕ → ℕ → Type 0
HostTest t b r = r ≡ (if buffer_sound t b then 1 else 0)

-- the buffer after a call on a list: the kernel's state, where a list that is not empty was run
unfoldable pub buffer_or : ℕ → List ℕ → List ℕ → State → List ℕ
buffer_or fault events b st = if eqb fault 0 && not (eqb (length events) 0) then bytes_of st else b

pub record HostList (fault : ℕ) (t b events a : List ℕ) (r : ℕ) (b' a' : List ℕ) : Type 0 where
  pub refusal : r ≡ fault
  pub state : b' ≡ buffer_or fault events b (state_after fault t (state_of b) events)
  pub answered : a' ≡ answers_after fault t (state_of b) events a

abbrev pub HostRun : List ℕ → List ℕ → List ℕ → List ℕ → ℕ → List ℕ → List ℕ → Type 0
HostRun t b events a = HostList (list_fault (eqb (length events % event_size) 0) events a (buffer_sound t b)) t b events a

abbrev pub HostStep : List ℕ → List ℕ → List ℕ → List ℕ → ℕ → List ℕ → List ℕ → Type 0
HostStep t b event a = HostList (list_fault (eqb (length event) event_size) event a (buffer_sound t b)) t b event a

-- the reader: where the message of a record stands, and its length
abbrev pub HostStart : List ℕ → ℕ → ℕ → Type 0
HostStart a n r = r ≡ (stretch a n).from

abbrev pub HostLength : List ℕ → ℕ → ℕ → Type 0
HostLength a n r = r ≡ (stretch a n).size

-- what the kernel gave for a list, handed back in the buffer
pub record HandedBack (ran : Result State ListRefusal) (events b : List ℕ) (r : ℕ) (b' : List ℕ) : Type 0 where
  pub refusal : r ≡ refusal_of ran
  pub state : b' ≡ buffer_or (refusal_of ran) events b (state_kept (state_of b) ran)
