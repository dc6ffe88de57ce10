-- What the proofs of a message handed out lean on: the store of a port that holds one, and the answer that hands it out.
-- Assumes nothing.
use Prim.Native.Nat.{ℕ, ◌*◌, ◌≤◌, ◌<◌}
use mathlib.Core.Path.{◌≡◌, sym, ◌∙◌, ap, ap₂}
use mathlib.Core.List.{List, [], ◌∷◌}
use native.Mathlib.Omega.{arith}
use lib.ListN.{length, get_or, take, drop}
use Rattle.model.specs.State.{Message}
use Rattle.model.specs.Answers.{nothing_told, told_message}
use Rattle.events.specs.declared.answers.Answer.{Answer}
use Rattle.events.specs.Shown.{told_as}
use Rattle.stores.specs.declared.Store.{Store}
use Rattle.stores.specs.declared.Letter.{Letter}
use Rattle.stores.specs.Ring.{Sized, slot_of, message_in, queue_of, letter_of, dropped}
use Rattle.stores.proofs.Lists.{length-filled}
use Rattle.stores.proofs.Laws.{queue-length, queue-empty, queue-dropped}
use Rattle.ports.specs.Held.{store_at, port_at}
use Rattle.ports.proofs.PortAt.{store-queue}

-- a port that holds a message: its store's count, and the store without its oldest message
pub some-count : (numbers bytes : List ℕ) (k : ℕ) → ((port_at numbers bytes k).queue ≡ [] → ⊥) → 0 < (store_at numbers bytes k).count
some-count numbers bytes k h =
    let n : (store_at numbers bytes k).count ≡ 0 → ⊥ =
    λ z. h (sym (store-queue numbers bytes k) ∙ queue-empty (store_at numbers bytes k) z)
    in
    omega arith

pub rest-is : (st : Store) → 0 < st.count → (m : Message) (rest : List Message) → queue_of st ≡ m ∷ rest → queue_of (dropped st) ≡ rest
rest-is st some m rest e = cc (queue-dropped st some)

-- the oldest message of a store in range fits a letter
pub head-short : (numbers bytes : List ℕ) (k : ℕ) → Sized (store_at numbers bytes k) → (m : Message) (rest : List Message) → (port_at numbers bytes k).queue ≡ m ∷ rest → length m ≤ 64
head-short numbers bytes k sized m rest e =
    let st = store_at numbers bytes k in
    let held : queue_of st ≡ m ∷ rest = store-queue numbers bytes k ∙ e in
    let some : 0 < st.count = omega (arith, queue-length st, ap length held) in
    let head : m ≡ message_in st (slot_of st 0) = cc (queue-dropped st some) in
    let size = length-filled (get_or st.lengths (slot_of st 0) 0) (take 64 (drop (64 * slot_of st 0) st.bytes)) in
    omega (arith, ap length head, size, sized.short 0 some)

-- the answer that hands out a letter
abbrev handed : ℕ → ℕ → ℕ → List ℕ → Answer
handed doer validity size bytes =
    record { code = 0; doer = doer; id = 0; number = 0; size = size; validity = validity; direction = 0; depth = 0; message = bytes }

pub handing : (doer validity : ℕ) (a : Answer) (l : Letter) (m : Message) → a ≡ told_as doer nothing_told → length m ≤ 64 → l ≡ letter_of m
    → record a { size = l.size; validity = validity; message = l.bytes } ≡ told_as doer (told_message m validity)
unfolding told_as
handing doer validity a l m bare short e =
    ap (λ (x : Answer). record x { size = l.size; validity = validity; message = l.bytes }) bare
    ∙ ap₂ (handed doer validity) (omega (arith, ap (λ (x : Letter). x.size) e)) (ap (λ (x : Letter). x.bytes) e)
