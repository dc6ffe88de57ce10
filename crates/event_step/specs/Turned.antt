-- One event over clock, modes and ports, against the model's step.
-- Assumes nothing.
use Rattle.std.specs.Prelude.{ℕ, ◌≡◌, List}
use Rattle.model.specs.Tables.{Tables}
use Rattle.model.specs.State as model
use Rattle.model.specs.Events.{Event}
use Rattle.model.specs.Step.{doer, reply, after}
use Rattle.model.specs.Ranged.{Ranged}
use Rattle.events.specs.Shown.{replied}
use Rattle.events.specs.declared.answers.Answer.{Answer}
use Rattle.events.specs.declared.clock.Clock.{Clock}
use Rattle.service_contracts.specs.Did.{Held, shown}

-- the clock that the code's record shows
abbrev pub clock_of : Clock → model.Clock
clock_of c = record { window = c.window; time = c.time }

-- what a step may count on: accepted tables, and a state in range
pub record Ready (t : Tables) (clock : Clock) (modes numbers bytes : List ℕ) : Type 0 where
  pub held : Held t numbers bytes
  pub ranged : Ranged t (shown t (clock_of clock) modes numbers bytes)

-- what one event answers and leaves: the model's answer to it, and the model's state after it
pub record Answers (t : Tables) (e : Event) (clock : Clock) (modes numbers bytes : List ℕ) (r : Answer) (clock' : Clock) (modes' numbers' bytes' : List ℕ) : Type 0 where
  pub answered : r ≡ replied (doer t (shown t (clock_of clock) modes numbers bytes) e) (reply t (shown t (clock_of clock) modes numbers bytes) e)
  pub left : shown t (clock_of clock') modes' numbers' bytes' ≡ after t (shown t (clock_of clock) modes numbers bytes) e
