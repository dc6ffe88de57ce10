-- What a turn promises, and what turns that keep the promise print. Assumes nothing.
use Rattle.std.specs.Prelude.{ℕ, suc, ◌*◌, ◌≤◌, ◌<◌, ◌≡◌, true, List, ◌++◌, length, take, drop}
use Rattle.model.specs.Run.{after_all, events_of}
use Rattle.states.specs.declared.State.{State}
use Rattle.states.specs.Shown.{shown_state, is_sound}
use Rattle.runner_text.specs.Output.{text_from, turn_records, turn_size}
use Rattle.runner_text.specs.Wrote.{Wrote}
use Rattle.runner_text.specs.declared.turn.Turned.{Turned}

-- a turn: the text of what was read, of at most 318 bytes a record and 18 for a broken tail, is put at the start of the lent bytes; the state is that
-- after the whole records read, and passes test 29
pub record TurnMeets (t : List ℕ) (st : State) (first : ℕ) (read out : List ℕ) (r : Turned) (out' : List ℕ) : Type 0 where
  pub wrote : Wrote 127_218 (text_from t (shown_state t st) first read) out 0 r.end out'
  pub after : shown_state t r.state ≡ after_all t (shown_state t st) (events_of read)
  pub sound : is_sound t r.state ≡ true

-- what is printed of an input, from a state, after so many turns, by any outcomes that meet a turn's promise: where a read was full, another turn
-- follows with the state that was handed back
pub data Printed (t : List ℕ) : State → ℕ → List ℕ → List ℕ → Type 0 where
  last : {st : State} {turns : ℕ} {input out out' : List ℕ} {r : Turned} → length input < turn_size
      → TurnMeets t st (turn_records * turns) input out r out' → Printed t st turns input (take r.end out')
  more : {st : State} {turns : ℕ} {input out out' text : List ℕ} {r : Turned} → turn_size ≤ length input
      → TurnMeets t st (turn_records * turns) (take turn_size input) out r out' → Printed t r.state (suc turns) (drop turn_size input) text
      → Printed t st turns input (take r.end out' ++ text)
