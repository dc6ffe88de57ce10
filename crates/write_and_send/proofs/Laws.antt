-- What the proofs of a message put lean on: a message offered, a letter taken by a store, and what is stored by the case of the row.
-- Assumes nothing.
use Prim.Native.Nat.{ℕ, ◌≤◌, ◌<◌}
use mathlib.Core.Path.{◌≡◌, ◌∙◌, ap}
use mathlib.Core.List.{List, [], ◌∷◌, ◌++◌}
use native.Mathlib.Omega.{arith}
use lib.ListN.{length, take, drop, length-take}
use borrow.Author.Tests.{le-leb, lt-leb}
use Rattle.model.specs.State.{Message, offer}
use Rattle.model.specs.Events.{message_of}
use Rattle.model.specs.Services.{stored}
use Rattle.tables.specs.Shown.{row_of}
use Rattle.tables.specs.declared.PortRow.{PortRow}
use Rattle.tables.specs.declared.Transfer.TheVariants.{Sampling, Queuing}
use Rattle.stores.specs.Ring.{written, letter_of}
use Rattle.stores.proofs.Laws.{written-letter}

-- a full store loses the message, and one with room takes it
pub offer-full : (depth : ℕ) (queue : List Message) (m : Message) → depth ≤ length queue → offer depth queue m ≡ queue
unfolding offer
offer-full depth queue m h = rw (le-leb depth (length queue) h)

pub offer-room : (depth : ℕ) (queue : List Message) (m : Message) → length queue < depth → offer depth queue m ≡ queue ++ m ∷ []
unfolding offer
offer-room depth queue m h = rw (lt-leb depth (length queue) h)

-- what is stored, by the case of the row
pub stored-sampling : (row : PortRow) (p : ℕ) (queue : List Message) (m : Message) → row.transfer ≡ Sampling p → stored (row_of row) queue m ≡ m ∷ []
unfolding stored
stored-sampling row p queue m e = rw e

pub stored-queuing : (row : PortRow) (d : ℕ) (queue : List Message) (m : Message) → row.transfer ≡ Queuing d → stored (row_of row) queue m ≡ offer d queue m
unfolding stored
stored-queuing row d queue m e = rw e

-- the letter of an event's message is read back as the message
pub written_back : (e : List ℕ) (size n : ℕ) → n ≡ size → size ≤ 64 → written (letter_of (take n (drop 16 e))) ≡ message_of e size
written_back e size n same h =
    let few : length (take n (drop 16 e)) ≤ 64 = simp length-take (omega arith) in
    written-letter (take n (drop 16 e)) few ∙ ap (λ i. take i (drop 16 e)) same
