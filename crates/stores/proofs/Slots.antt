-- Single slots: the messages of a run of slots, and what append does to the slot that it fills and to the others.
-- Assumes nothing.
use Prim.Native.Nat.{ℕ, zero, suc, ◌+◌, ◌*◌, ◌≤◌, ◌<◌}
use mathlib.Core.Path.{◌≡◌, refl, sym, ap, ap₂, ◌∙◌}
use mathlib.Core.Bool.{Bool, true, false}
use mathlib.Core.Logic.{◌≢◌}
use mathlib.Core.List.{List, [], ◌∷◌, ◌++◌}
use native.Mathlib.Nat.{add-zero}
use native.Mathlib.Omega.{arith}
use lib.Dec.{ltb}
use lib.ListN.{length, get_or, take, drop, length-drop}
use lib.Seq.{get_or-set_same, get_or-set_other, length-take-le, take-append-le, take-take, take_all}
use borrow.Author.Tests.{ltb-true, ltb-false}
use Rattle.model.specs.Words.{filled, zeros}
use Rattle.model.specs.State.{Message}
use Rattle.stores.specs.declared.Letter.{Letter}
use Rattle.stores.specs.declared.Store.{Store}
use Rattle.stores.specs.Ring.{slot_of, message_in, messages_from, written, pasted, laid_behind, appended}
use Rattle.stores.proofs.Lists.{read-part, read-before, read-after}

-- ---- the messages of n slots, from the i-th place on

-- the message that is i places behind the oldest
abbrev pub placed : Store → ℕ → Message
placed st i = message_in st (slot_of st i)

one_later : (i k : ℕ) → suc i + k ≡ i + suc k
one_later i k = omega arith

pub messages-length : (st : Store) (n i : ℕ) → length (messages_from st n i) ≡ n
messages-length st zero i = refl
messages-length st (suc n) i = ap suc (messages-length st n (suc i))

pub messages-at : (st : Store) (n i k : ℕ) → k < n → get_or (messages_from st n i) k [] ≡ message_in st (slot_of st (i + k))
messages-at st zero i k h = absurd (omega arith)
messages-at st (suc n) i zero h = simp add-zero
messages-at st (suc n) i (suc k) h = messages-at st n (suc i) k (omega arith) ∙ ap (placed st) (one_later i k)

-- two runs of slots that hold the same
pub messages-same : (a b : Store) (n i j : ℕ) → ((k : ℕ) → k < n → message_in a (slot_of a (i + k)) ≡ message_in b (slot_of b (j + k)))
    → messages_from a n i ≡ messages_from b n j
messages-same a b zero i j same = refl
messages-same a b (suc n) i j same =
    let first : placed a i ≡ placed b j = simp add-zero at (same 0 (omega arith)) in
    let rest : (k : ℕ) → k < n → placed a (suc i + k) ≡ placed b (suc j + k) =
    λ k h. ap (placed a) (one_later i k) ∙ same (suc k) (omega arith) ∙ sym (ap (placed b) (one_later j k))
    in
    ap₂ (λ m q. m ∷ q) first (messages-same a b n (suc i) (suc j) rest)

-- the last of them apart
pub messages-last : (st : Store) (n i : ℕ) → messages_from st (suc n) i ≡ messages_from st n i ++ message_in st (slot_of st (i + n)) ∷ []
messages-last st zero i = simp add-zero
messages-last st (suc n) i =
    ap (λ q. placed st i ∷ q) (messages-last st n (suc i) ∙ ap (λ w. messages_from st n (suc i) ++ placed st w ∷ []) (one_later i n))

-- a message whose length is at most 64 is that many bytes from its slot's start on
pub message-stood : (st : Store) → length st.bytes ≡ 512 → (slot : ℕ) → slot < 8 → get_or st.lengths slot 0 ≤ 64
    → message_in st slot ≡ take (get_or st.lengths slot 0) (drop (64 * slot) st.bytes)
message-stood st wide slot inside fits =
    let size = get_or st.lengths slot 0 in
    let from = drop (64 * slot) st.bytes in
    let long : length (take 64 from) ≡ 64 = length-take-le 64 from (simp length-drop (omega arith)) in
    take-append-le size (take 64 from) (zeros size) (omega arith) ∙ take-take size 64 from fits

-- ---- bytes laid behind the last message with any size, and a letter appended

-- the slot behind the last
abbrev pub free : Store → ℕ
free st = slot_of st st.count

module _ (st : Store) (wide : length st.bytes ≡ 512) (eight : length st.lengths ≡ 8) (bytes : List ℕ) (size : ℕ) (whole : length bytes ≡ 64) (room : st.count < 8) where
  part-within : 64 * free st + length bytes ≤ length st.bytes
  part-within = omega arith

  another-slot : (i : ℕ) → i < st.count → slot_of st i ≢ free st
  another-slot i h = omega arith

  -- a slot that holds a message keeps its length and its message
  pub behind-length_kept : (i : ℕ) → i < st.count → get_or (laid_behind st bytes size).lengths (slot_of st i) 0 ≡ get_or st.lengths (slot_of st i) 0
  unfolding laid_behind
  behind-length_kept i h = get_or-set_other st.lengths (free st) (slot_of st i) size 0 (another-slot i h)

  pub behind-message_kept : (i : ℕ) → i < st.count → message_in (laid_behind st bytes size) (slot_of st i) ≡ message_in st (slot_of st i)
  unfolding laid_behind
  behind-message_kept i h = rw (behind-length_kept i h) (ap (filled (get_or st.lengths (slot_of st i) 0)) (go (ltb (slot_of st i) (free st)) refl))
    where
      go : (b : Bool) → ltb (slot_of st i) (free st) ≡ b
          → take 64 (drop (64 * slot_of st i) (pasted st.bytes (64 * free st) bytes)) ≡ take 64 (drop (64 * slot_of st i) st.bytes)
      go true before =
          let lower : slot_of st i < free st = ltb-true _ _ before in
          read-before st.bytes (64 * free st) bytes part-within 64 (64 * slot_of st i) (omega arith)
      go false after =
          let higher : free st ≤ slot_of st i = ltb-false _ _ after in
          let apart : slot_of st i ≢ free st = another-slot i h in
          read-after st.bytes (64 * free st) bytes part-within 64 (64 * slot_of st i) (omega arith)

  -- the slot behind the last has the size, and as many of the bytes where they are enough
  pub behind-length_stored : get_or (laid_behind st bytes size).lengths (free st) 0 ≡ size
  unfolding laid_behind
  behind-length_stored = get_or-set_same st.lengths (free st) size 0 (omega arith)

  pub behind-message_stored : size ≤ 64 → message_in (laid_behind st bytes size) (free st) ≡ take size bytes
  unfolding laid_behind
  behind-message_stored fits =
      rw (behind-length_stored, read-part st.bytes (64 * free st) bytes part-within 64 (omega arith), take_all 64 bytes (omega arith))
      (take-append-le size bytes (zeros size) (omega arith))

-- the same of a letter
module _ (st : Store) (wide : length st.bytes ≡ 512) (eight : length st.lengths ≡ 8) (l : Letter) (whole : length l.bytes ≡ 64) (room : st.count < 8) where
  pub length-kept : (i : ℕ) → i < st.count → get_or (appended st l).lengths (slot_of st i) 0 ≡ get_or st.lengths (slot_of st i) 0
  unfolding appended laid_behind
  length-kept = behind-length_kept st wide eight l.bytes l.size whole room

  pub message-kept : (i : ℕ) → i < st.count → message_in (appended st l) (slot_of st i) ≡ message_in st (slot_of st i)
  unfolding appended laid_behind
  message-kept = behind-message_kept st wide eight l.bytes l.size whole room

  pub length-stored : get_or (appended st l).lengths (free st) 0 ≡ l.size
  unfolding appended laid_behind
  length-stored = behind-length_stored st wide eight l.bytes l.size whole room

  pub message-stored : message_in (appended st l) (free st) ≡ written l
  unfolding appended laid_behind
  message-stored = behind-message_stored st wide eight l.bytes l.size whole room l.short
