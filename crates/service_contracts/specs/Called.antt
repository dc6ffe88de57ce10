-- A partition's call over modes and lent arrays, against the model's: what it and its parts may count on, and what it answers and leaves.
-- Assumes nothing.
use Rattle.std.specs.Prelude.{ℕ, ◌≤◌, ◌<◌, List}
use Rattle.model.specs.Tables.{Tables, ports, row}
use Rattle.model.specs.State.{Clock, State}
use Rattle.model.specs.Ranged.{RowRanges}
use Rattle.model.specs.Services.{Reply}
use Rattle.events.specs.declared.answers.Answer.{Answer}
use Rattle.service_contracts.specs.Did.{shown, Does}

-- what the code answers and leaves where the model's reply in a state is given by `reply`
abbrev pub Calls :
    Tables → (State → Reply) → ℕ → Answer → (modes numbers bytes modes' numbers' bytes' : List ℕ) → Type 0
Calls t reply p r modes numbers bytes modes' numbers' bytes' =
    (clock : Clock)
    → Does (shown t clock modes numbers bytes) (reply (shown t clock modes numbers bytes)) p r (shown t clock modes' numbers' bytes')

-- the rows of ports are few, and each is in its ranges
pub record Rows (t : Tables) : Type 0 where
  pub few : ports t ≤ 64
  pub ranges : (k : ℕ) → k < ports t → RowRanges (row t k)
