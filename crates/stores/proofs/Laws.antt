-- The laws of a store: what it holds after append and drop, its oldest message, and its settled form.
-- Assumes nothing.
use Prim.Native.Nat.{ℕ, zero, suc, ◌+◌, ◌-◌, ◌*◌, ◌%◌, ◌≤◌, ◌<◌, min}
use mathlib.Core.Path.{◌≡◌, refl, sym, ap, ap₂, subst, ◌∙◌}
use Rattle.std.specs.Coded.{le_prop}
use mathlib.Core.List.{List, [], ◌∷◌, ◌++◌, map, append-nil, append_assoc}
use native.Mathlib.Nat.{zero-add}
use native.Mathlib.Numerals.{add-one}
use native.Mathlib.Omega.{arith}
use lib.ListN.{length, get_or, take, set, length-append, length-map, drop}
use lib.Seq.{length-take-le, take-length, take-suc}
use Rattle.model.specs.Words.{filled}
use Rattle.model.specs.State.{Message}
use Rattle.stores.specs.declared.Letter.{Letter}
use Rattle.stores.specs.declared.Store.{Store}
use Rattle.stores.specs.Ring.{slot_of, message_in, messages_from, queue_of, written, letter_of, pasted, laid_behind, appended, dropped, oldest_of, no_messages, all_filled, lay_out, Short}
use Rattle.stores.proofs.Lists.{pasted-one, length-filled, take-filled, filled-append}
use Rattle.stores.proofs.Slots.{placed, messages-length, messages-at, messages-same, messages-last, message-kept, message-stored}

-- ---- the queue

pub queue-length : (st : Store) → length (queue_of st) ≡ st.count
unfolding queue_of
queue-length st = messages-length st st.count 0

pub queue-at : (st : Store) (i : ℕ) → i < st.count → get_or (queue_of st) i [] ≡ message_in st (slot_of st i)
unfolding queue_of
queue-at st i h = simp zero-add at (messages-at st st.count 0 i h)

pub queue-empty : (st : Store) → st.count ≡ 0 → queue_of st ≡ []
unfolding queue_of
queue-empty st none = ap (λ n. messages_from st n 0) none

pub queue-none : queue_of no_messages ≡ []
unfolding queue_of no_messages
queue-none = refl

pub queue-dropped : (st : Store) → 0 < st.count → queue_of st ≡ message_in st (slot_of st 0) ∷ queue_of (dropped st)
unfolding queue_of dropped
queue-dropped st some =
    let one_more : st.count ≡ suc (st.count - 1) = omega arith in
    let next : (k : ℕ) → (st.oldest + (1 + k)) % 8 ≡ ((st.oldest + 1) % 8 + (0 + k)) % 8 = λ k. omega arith in
    ap (λ n. messages_from st n 0) one_more
    ∙ ap (λ q. message_in st (slot_of st 0) ∷ q) (messages-same st (dropped st) (st.count - 1) 1 0 (λ k h. ap (message_in st) (next k)))

-- ---- letters

-- a letter is known by its bytes and its size
pub letter_is : (l : Letter) (m : Message) → l.bytes ≡ filled 64 m → l.size ≡ min (length m) 64 → l ≡ letter_of m
letter_is l m bytes size =
    let P : ℕ → Type 0 = λ n. (short : n ≤ 64) → l ≡ record { bytes = filled 64 m; size = n; short = short } in
    subst P size (λ short. ap₂ (λ b s. record { bytes = b; size = l.size; short = s }) bytes (le_prop l.short short)) (letter_of m).short

pub written-letter : (m : Message) → length m ≤ 64 → written (letter_of m) ≡ m
written-letter m fits =
    let whole : min (length m) 64 ≡ length m = omega arith in
    rw whole (take-filled 64 m fits)

-- the oldest message is the queue's head
pub oldest-head : (st : Store) → 0 < st.count → (m : Message) (q : List Message) → queue_of st ≡ m ∷ q → oldest_of st ≡ letter_of m
unfolding oldest_of
oldest-head st some m q holds =
    let head : message_in st (slot_of st 0) ≡ m = cc (queue-dropped st some) in
    ap letter_of head

-- ---- a store whose arrays have their lengths

module _ (st : Store) (wide : length st.bytes ≡ 512) (eight : length st.lengths ≡ 8) where
  pub message-length : (slot : ℕ) → length (message_in st slot) ≡ get_or st.lengths slot 0
  message-length slot = length-filled (get_or st.lengths slot 0) (take 64 (drop (64 * slot) st.bytes))

  -- one letter more: the queue grows by its message
  module _ (l : Letter) (whole : length l.bytes ≡ 64) (room : st.count < 8) where
    pub queue-appended : queue_of (appended st l) ≡ queue_of st ++ written l ∷ []
    unfolding queue_of appended
    queue-appended =
        let kept : (k : ℕ) → k < st.count → placed (appended st l) (0 + k) ≡ placed st (0 + k) =
        λ k h. message-kept st wide eight l whole room (0 + k) (omega arith)
        in
        let stored : placed (appended st l) (0 + st.count) ≡ written l =
        ap (placed (appended st l)) (zero-add st.count) ∙ message-stored st wide eight l whole room
        in
        ap (λ n. messages_from (appended st l) n 0) (add-one st.count)
        ∙ messages-last (appended st l) st.count 0
        ∙ ap₂ (λ q m. q ++ m ∷ []) (messages-same (appended st l) st st.count 0 0 kept) stored

-- ---- settled form

filled-joined : (q r : List Message) → all_filled (q ++ r) ≡ all_filled q ++ all_filled r
filled-joined [] r = refl
filled-joined (m ∷ q) r = ap (λ rest. filled 64 m ++ rest) (filled-joined q r) ∙ sym (append_assoc (filled 64 m) (all_filled q) (all_filled r))

filled-size : (q : List Message) → length (all_filled q) ≡ 64 * length q
filled-size [] = refl
filled-size (m ∷ q) = simp (length-append, filled-size q) (omega (arith, length-filled 64 m))

sizes-joined : (q r : List Message) → map length (q ++ r) ≡ map length q ++ map length r
sizes-joined [] r = refl
sizes-joined (m ∷ q) r = ap (λ rest. length m ∷ rest) (sizes-joined q r)

pub lay_out-none : lay_out [] ≡ no_messages
unfolding lay_out no_messages
lay_out-none = refl

pub lay_out-count : (q : List Message) → (lay_out q).count ≡ length q
unfolding lay_out
lay_out-count q = refl

pub lay_out-bytes : (q : List Message) → length (lay_out q).bytes ≡ 512
unfolding lay_out
lay_out-bytes q = length-filled 512 (all_filled q)

pub lay_out-lengths : (q : List Message) → length (lay_out q).lengths ≡ 8
unfolding lay_out
lay_out-lengths q = length-filled 8 (map length q)

-- a letter of a message that it holds whole is the message's bytes and its length
pub appended-whole : (st : Store) (m : Message) → length m ≤ 64 → appended st (letter_of m) ≡ laid_behind st (filled 64 m) (length m)
unfolding appended laid_behind
appended-whole st m fits =
    let whole : min (length m) 64 ≡ length m = omega arith in
    ap (laid_behind st (filled 64 m)) whole

-- one message more, of any length, is its first 64 bytes and its length behind the others
pub lay_out-behind : (q : List Message) (m : Message) → length q < 8 → lay_out (q ++ m ∷ []) ≡ laid_behind (lay_out q) (filled 64 m) (length m)
unfolding lay_out laid_behind
lay_out-behind q m room =
    let place : length q ≡ (0 + length q) % 8 = omega arith in
    let bytes : filled 512 (all_filled (q ++ m ∷ [])) ≡ pasted (filled 512 (all_filled q)) (64 * ((0 + length q) % 8)) (filled 64 m) =
    ap (filled 512) (filled-joined q (m ∷ []) ∙ ap (λ part. all_filled q ++ part) (append-nil (filled 64 m)))
    ∙ filled-append 512 (all_filled q) (filled 64 m) (omega (arith, filled-size q, length-filled 64 m))
    ∙ ap (λ at. pasted (filled 512 (all_filled q)) at (filled 64 m)) (filled-size q ∙ ap (λ k. 64 * k) place)
    in
    let sizes : filled 8 (map length (q ++ m ∷ [])) ≡ set (filled 8 (map length q)) ((0 + length q) % 8) (length m) =
    ap (filled 8) (sizes-joined q (m ∷ []))
    ∙ filled-append 8 (map length q) (length m ∷ []) (omega (arith, length-map q length))
    ∙ pasted-one (filled 8 (map length q)) (length (map length q)) (length m) (omega (arith, length-map q length, length-filled 8 (map length q)))
    ∙ ap (λ at. set (filled 8 (map length q)) at (length m)) (length-map q length ∙ place)
    in
    let counted : length (q ++ m ∷ []) ≡ length q + 1 = length-append q (m ∷ []) in
    λ i. record { bytes = bytes i; lengths = sizes i; oldest = 0; count = counted i }

-- and one of at most 64 bytes is one letter more
pub lay_out-append : (q : List Message) (m : Message) → length q < 8 → length m ≤ 64 → lay_out (q ++ m ∷ []) ≡ appended (lay_out q) (letter_of m)
lay_out-append q m room fits = lay_out-behind q m room ∙ sym (appended-whole (lay_out q) m fits)

-- what is laid out is what the store holds
laid_none : queue_of (lay_out []) ≡ []
unfolding queue_of lay_out
laid_none = refl

laid_more : (q : List Message) (m : Message) → length q < 8 → length m ≤ 64 → queue_of (lay_out q) ≡ q → queue_of (lay_out (q ++ m ∷ [])) ≡ q ++ m ∷ []
laid_more q m room fits held =
    ap queue_of (lay_out-append q m room fits)
    ∙ queue-appended (lay_out q) (lay_out-bytes q) (lay_out-lengths q) (letter_of m) (length-filled 64 m) (omega (arith, lay_out-count q))
    ∙ ap₂ (λ q m. q ++ m ∷ []) held (written-letter m fits)

laid-prefix : (q : List Message) → length q ≤ 8 → Short q → (k : ℕ) → k ≤ length q → queue_of (lay_out (take k q)) ≡ take k q
laid-prefix q few short zero h = laid_none
laid-prefix q few short (suc k) h =
    let counted : length (take k q) ≡ k = length-take-le k q (omega arith) in
    rw (take-suc q k []) (laid_more (take k q) (get_or q k []) (omega arith) (short k (omega arith)) (laid-prefix q few short k (omega arith)))

pub queue-lay_out : (q : List Message) → length q ≤ 8 → Short q → queue_of (lay_out q) ≡ q
queue-lay_out q few short = rw (take-length q) at (laid-prefix q few short (length q) (omega arith))

-- the first messages of a store laid out, and one message more, of any length or of at most 64 bytes
pub lay_out-behind_next : (st : Store) (i : ℕ) → i < st.count → i < 8
    → laid_behind (lay_out (take i (queue_of st))) (filled 64 (message_in st (slot_of st i))) (length (message_in st (slot_of st i))) ≡ lay_out (take (i + 1) (queue_of st))
lay_out-behind_next st i more room =
    let inside : i < length (queue_of st) = omega (arith, queue-length st) in
    let counted : length (take i (queue_of st)) ≡ i = length-take-le i (queue_of st) (omega arith) in
    rw (← (queue-at st i more), ← (lay_out-behind (take i (queue_of st)) (get_or (queue_of st) i []) (omega arith)), add-one)
    (ap lay_out (sym (take-suc (queue_of st) i [] inside)))

pub lay_out-next : (st : Store) (i : ℕ) → i < st.count → i < 8 → length (message_in st (slot_of st i)) ≤ 64
    → appended (lay_out (take i (queue_of st))) (letter_of (message_in st (slot_of st i))) ≡ lay_out (take (i + 1) (queue_of st))
lay_out-next st i more room fits =
    appended-whole (lay_out (take i (queue_of st))) (message_in st (slot_of st i)) fits ∙ lay_out-behind_next st i more room
