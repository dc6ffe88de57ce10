-- Stretches of a listing: events beside the bytes that they are answered, run from one state to another.
-- Assumes nothing.
use Prim.Native.Nat.{ℕ, ◌%◌}
use mathlib.Core.Path.{◌≡◌}
use mathlib.Core.Bool.{true}
use mathlib.Core.List.{List, [], ◌∷◌, ◌++◌}
use lib.Dec.{eqb}
use lib.ListN.{length, replicate}
use Rattle.model.specs.Tables.{Tables}
use Rattle.model.specs.Load.{accepts}
use Rattle.model.specs.State.{State, in_range}
use Rattle.model.specs.Events.{Event, event_size}
use Rattle.model.specs.Run.{Ran, list_fault, ran_or, run}

pub record Row : Type 0 where
  pub asked : Event
  pub answered : List ℕ

infix 70 ◌gets◌
abbrev pub ◌gets◌ : Event → List ℕ → Row
e gets a = record { asked = e; answered = a }

abbrev pub asking : List Row → List ℕ
asking [] = []
asking (r ∷ rs) = r.asked ++ asking rs

abbrev pub answering : List Row → List ℕ
answering [] = []
answering (r ∷ rs) = r.answered ++ answering rs

pub record Stretch : Type 0 where
  pub from : State
  pub rows : List Row
  pub to : State

abbrev pub stretch : State → List Row → State → Stretch
stretch s rows s' = record { from = s; rows = rows; to = s' }

-- the answers are lent three bytes more than they have, which stay
abbrev pub more : List ℕ
more = 7 ∷ 8 ∷ 9 ∷ []

abbrev pub lent : Stretch → List ℕ
lent x = replicate (length (asking x.rows)) 255 ++ more

abbrev pub gives : Stretch → Ran
gives x = record { refusal = 0; state = x.to; buffer = answering x.rows ++ more }

abbrev pub Gives : Tables → Stretch → Type 0
Gives t x = run t x.from (asking x.rows) (lent x) ≡ gives x

-- a stretch over accepted tables is computed without another look at them
pub given :
    (t : Tables) → accepts t ≡ true → (x : Stretch)
    → ran_or (list_fault (eqb (length (asking x.rows) % event_size) 0) (asking x.rows) (lent x) (in_range t x.from)) t x.from (asking x.rows) (lent x)
    ≡ gives x
    → Gives t x
unfolding run
given t ok x h = rw ok h
