-- What the result of a call on a list shows: the refusal's number, and the state that the caller has after it.
-- Assumes nothing.
use Rattle.std.specs.Prelude.{if◌then◌else◌, ℕ, eqb, Result, Ok, Err}
use Rattle.states.specs.declared.State.{State}
use Rattle.kernel.specs.declared.refusal.ListRefusal.{ListRefusal}
use Rattle.kernel.specs.declared.refusal.ListRefusal.TheVariants.{EventsLength, AnswersShort, StateRefused}

-- the paper's number of a refusal
abbrev pub number_of : ListRefusal → ℕ
number_of EventsLength = 27
number_of AnswersShort = 28
number_of StateRefused = 29

-- the other way
abbrev pub refusal_numbered : ℕ → ListRefusal
refusal_numbered n = if eqb n 27 then EventsLength else if eqb n 28 then AnswersShort else StateRefused

-- the refusal's number, and 0 for a list that is run
abbrev pub refusal_of : Result State ListRefusal → ℕ
refusal_of (Ok st) = 0
refusal_of (Err e) = number_of e

-- the state that was handed in stays where the call is refused
abbrev pub state_kept : State → Result State ListRefusal → State
state_kept before (Ok st) = st
state_kept before (Err e) = before
