-- A list of whole records carried out from a state in range: the state that it leaves, and every byte of the answers.
-- Assumes nothing.
use Rattle.std.specs.Prelude.{ℕ, ◌≡◌, List, ◌++◌, length, drop}
use Rattle.model.specs.Run.{answers, after_all, events_of, joined}
use Rattle.states.specs.declared.State.{State}
use Rattle.states.specs.Shown.{shown_state, settled_as}

pub record CarriedOut (t : List ℕ) (st : State) (events buffer : List ℕ) (r : State) (buffer' : List ℕ) : Type 0 where
  pub state : r ≡ settled_as st (after_all t (shown_state t st) (events_of events))
  pub answered : buffer' ≡ joined (answers t (shown_state t st) (events_of events)) ++ drop (length events) buffer
