-- The states that the public calls give, and what a partition finds in the answers: demand 3's words over the contracts.
-- Assumes nothing.
use Rattle.std.specs.Prelude.{if◌then◌else◌, ℕ, List, [], ◌∷◌, eqb, take, drop, Ok}
use Rattle.model.specs.Tables.{Tables}
use Rattle.model.specs.State as model
use Rattle.model.specs.Events.{Event}
use Rattle.model.specs.Step.{doer, after}
use Rattle.states.specs.declared.State.{State}
use Rattle.kernel.specs.Meets.{LoadMeets, StepMeets, RunMeets}

-- a state is given if a load, steps and runs not refused lead to it: any outcomes that meet the contracts
pub data Given (t : List ℕ) : State → Type 0 where
  by_load : {st : State} → LoadMeets t (Ok st) → Given t st
  by_step : {st st' : State} (event buffer buffer' : List ℕ) → Given t st → StepMeets t st event buffer (Ok st') buffer' → Given t st'
  by_run : {st st' : State} (events buffer buffer' : List ℕ) → Given t st → RunMeets t st events buffer (Ok st') buffer' → Given t st'

-- the records of the answer bytes that answer the partition's calls: those of the events whose doer it is
abbrev pub records_to : Tables → ℕ → model.State → List Event → List ℕ → List (List ℕ)
records_to t p s [] a = []
records_to t p s (e ∷ es) a =
    let later = records_to t p (after t s e) es (drop 80 a) in
    if eqb (doer t s e) p then take 80 a ∷ later else later
