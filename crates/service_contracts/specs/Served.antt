-- A service at one port, against the model's: the answer that it gives, and the port that it leaves in the lent arrays.
-- Assumes nothing.
use Rattle.std.specs.Prelude.{ℕ, ◌<◌, ◌≡◌, List, ◌∷◌}
use Rattle.model.specs.State.{Message, with_queue}
use Rattle.stores.specs.declared.Letter.{Letter}
use Rattle.stores.specs.Ring.{letter_of}
use Rattle.model.specs.Services.{Served, refuses, serves}
use Rattle.model.specs.Ranged.{PortRanged}
use Rattle.model.specs.Ranged.{RowRanges}
use Rattle.tables.specs.Shown.{row_of}
use Rattle.tables.specs.declared.PortRow.{PortRow}
use Rattle.events.specs.declared.answers.Answer.{Answer}
use Rattle.events.specs.Shown.{refused_as, told_as}
use Rattle.ports.specs.Held.{port_at, PortPut}

-- there is a port k, and it is in the ranges of its row
pub record Fits (numbers bytes : List ℕ) (k : ℕ) (row : PortRow) : Type 0 where
  pub there : k < 64
  pub ranges : RowRanges (row_of row)
  pub port : PortRanged (row_of row) (port_at numbers bytes k)

-- what the code answers and leaves where the model's service at port k is x
pub record Refuses (numbers bytes numbers' bytes' : List ℕ) (doer code : ℕ) (r : Answer) : Type 0 where
  pub answered : r ≡ refused_as code doer
  pub numbers_kept : numbers' ≡ numbers
  pub bytes_kept : bytes' ≡ bytes

abbrev pub Serves : (numbers bytes numbers' bytes' : List ℕ) → (k doer : ℕ) → Answer → Served → Type 0
Serves numbers bytes numbers' bytes' k doer r (refuses code) = Refuses numbers bytes numbers' bytes' doer code r
Serves numbers bytes numbers' bytes' k doer r (serves v q) = (r ≡ told_as doer v) × PortPut numbers bytes numbers' bytes' k q

-- the oldest message m of port k is given, and the rest stay
abbrev pub TakesOldest : (numbers bytes numbers' : List ℕ) → ℕ → Letter → Type 0
TakesOldest numbers bytes numbers' k r =
    (m : Message) (rest : List Message) → (port_at numbers bytes k).queue ≡ m ∷ rest
    → (r ≡ letter_of m) × PortPut numbers bytes numbers' bytes k (with_queue (port_at numbers bytes k) rest)
