-- What a port of the lent arrays holds: its marks where its row has them, its messages by the count of its row, and a store in range if the port is.
-- Assumes nothing.
use Prim.Native.Nat.{ℕ, zero, suc, ◌*◌, ◌≤◌, ◌<◌}
use mathlib.Core.Path.{◌≡◌, refl, sym, ◌∙◌, ap}
use mathlib.Core.Bool.{true}
use mathlib.Core.List.{List, [], ◌∷◌}
use native.Mathlib.Omega.{arith}
use lib.ListN.{length, get_or, take, drop}
use Rattle.model.specs.Words.{all_in}
use Rattle.model.specs.Tables.{Row, room}
use Rattle.model.specs.State.{Message}
use Rattle.model.proofs.Tests.{both_left, both_right, between-high}
use Rattle.model.specs.State.{fits}
use Rattle.tables.specs.Shown.{row_of}
use Rattle.tables.specs.declared.PortRow.{PortRow}
use Rattle.stores.specs.declared.Store.{Store}
use Rattle.stores.specs.Ring.{Sized, queue_of, slot_of}
use Rattle.stores.proofs.Lists.{length-filled}
use Rattle.stores.proofs.Laws.{queue-length, queue-at}
use Rattle.ports.specs.Held
use Rattle.ports.specs.Held.{store_at, port_at}
use Rattle.ports.proofs.PortAt.{count-is, store-queue}
use Rattle.service_contracts.specs.Served.{Fits}

-- created, validity and arrival are the row's first three numbers
pub created-is : (numbers bytes : List ℕ) (k : ℕ) → (port_at numbers bytes k).created ≡ get_or (Held.row_of numbers k) 0 0
unfolding port_at
created-is numbers bytes k = refl

pub validity-is : (numbers bytes : List ℕ) (k : ℕ) → (port_at numbers bytes k).validity ≡ get_or (Held.row_of numbers k) 1 0
unfolding port_at
validity-is numbers bytes k = refl

pub arrival-is : (numbers bytes : List ℕ) (k : ℕ) → (port_at numbers bytes k).arrival ≡ get_or (Held.row_of numbers k) 2 0
unfolding port_at
arrival-is numbers bytes k = refl

-- what a port holds, by the count that its row has
some-message : (queue : List Message) → (length queue ≡ 0 → ⊥) → (m : Message) × (rest : List Message) × (queue ≡ m ∷ rest)
some-message [] h = absurd (h refl)
some-message (m ∷ rest) h = (m, rest, refl)

no-message : (queue : List Message) → length queue ≡ 0 → queue ≡ []
no-message [] h = refl
no-message (m ∷ rest) h = absurd (omega arith)

module _ (numbers bytes : List ℕ) (k : ℕ) {n : ℕ} (counted : n ≡ get_or (Held.row_of numbers k) 4 0) where
  pub none-held : n ≡ 0 → (port_at numbers bytes k).queue ≡ []
  none-held e = no-message (port_at numbers bytes k).queue (sym (count-is numbers bytes k) ∙ sym counted ∙ e)

  pub some-held : (n ≡ 0 → ⊥) → (port_at numbers bytes k).queue ≡ [] → ⊥
  some-held some e = some (counted ∙ count-is numbers bytes k ∙ ap length e)

  pub oldest-held : (n ≡ 0 → ⊥) → (m : Message) × (rest : List Message) × ((port_at numbers bytes k).queue ≡ m ∷ rest)
  oldest-held some = some-message (port_at numbers bytes k).queue (λ e. some (counted ∙ count-is numbers bytes k ∙ e))

-- each message of a list that fits
pub fits-at : (r : Row) (queue : List Message) → all_in (fits r) queue ≡ true → (i : ℕ) → i < length queue → fits r (get_or queue i []) ≡ true
fits-at r [] h i l = absurd (omega arith)
fits-at r (m ∷ queue) h zero l = both_left (fits r m) (all_in (fits r) queue) h
fits-at r (m ∷ queue) h (suc i) l = fits-at r queue (both_right (fits r m) (all_in (fits r) queue) h) i (omega arith)

-- the store of a port in range is in range itself
pub sized_of : (numbers bytes : List ℕ) (k : ℕ) (row : PortRow) → Fits numbers bytes k row → Sized (store_at numbers bytes k)
sized_of numbers bytes k row f =
    record {
      few = omega (arith, queue-length st, counted, f.ranges.keeps_few);
      short = λ i l. omega (arith, short i l, f.ranges.few_bytes);
    }
  where
    st : Store
    st = store_at numbers bytes k

    counted : length (queue_of st) ≤ room (row_of row)
    counted = rw (store-queue numbers bytes k) f.port.counted

    short : (i : ℕ) → i < st.count → get_or st.lengths (slot_of st i) 0 ≤ row.largest
    short i l =
        let inside : i < length (queue_of st) = omega (arith, queue-length st) in
        let held : all_in (fits (row_of row)) (queue_of st) ≡ true = rw (store-queue numbers bytes k) f.port.sized in
        rw (← (length-filled (get_or st.lengths (slot_of st i) 0) (take 64 (drop (64 * slot_of st i) st.bytes))), ← (queue-at st i l))
        (between-high 1 row.largest (length (get_or (queue_of st) i [])) (fits-at (row_of row) (queue_of st) held i inside))
