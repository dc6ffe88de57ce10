-- A list of events over clock, modes and ports, against the model's run.
-- Assumes nothing.
use Rattle.std.specs.Prelude.{ℕ, ◌+◌, ◌*◌, ◌/◌, ◌≡◌, List, ◌++◌, length, take, drop}
use Rattle.model.specs.Tables.{Tables}
use Rattle.model.specs.Events.{Event}
use Rattle.model.specs.Step.{answer, after}
use Rattle.model.specs.Words.{cut}
use Rattle.model.specs.Run.{answers as model-answers, after_all, joined}
use Rattle.events.specs.declared.clock.Clock.{Clock}
use Rattle.service_contracts.specs.Did.{shown}
use Rattle.event_step.specs.Turned.{clock_of, Ready}

-- the event e, answered in record i of the answers: every other byte of them stays
pub record LeavesAt (t : Tables) (e : Event) (i : ℕ) (clock : Clock) (modes numbers bytes answers : List ℕ) (clock' : Clock) (modes' numbers' bytes' answers' : List ℕ) : Type 0 where
  pub answered : answers' ≡ take (80 * i) answers ++ (answer t (shown t (clock_of clock) modes numbers bytes) e ++ drop (80 * i + 80) answers)
  pub left : shown t (clock_of clock') modes' numbers' bytes' ≡ after t (shown t (clock_of clock) modes numbers bytes) e

-- the first n events of a list, answered one after another: answer bytes past them stay, and the state is the model's after them
pub record RunsTo (t : Tables) (n : ℕ) (events : List ℕ) (clock : Clock) (modes numbers bytes answers : List ℕ) (clock' : Clock) (modes' numbers' bytes' answers' : List ℕ) : Type 0 where
  pub ready : Ready t clock' modes' numbers' bytes'
  pub answered : answers' ≡ joined (model-answers t (shown t (clock_of clock) modes numbers bytes) (cut 80 n events)) ++ drop (80 * n) answers
  pub left : shown t (clock_of clock') modes' numbers' bytes' ≡ after_all t (shown t (clock_of clock) modes numbers bytes) (cut 80 n events)

abbrev pub Runs :
    Tables → (events : List ℕ) → Clock → (modes numbers bytes answers : List ℕ) → Clock → (modes' numbers' bytes' answers' : List ℕ) → Type 0
Runs t events = RunsTo t (length events / 80) events
