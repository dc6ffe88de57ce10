-- Lists: one with a part replaced, read where the part stands and beside it; one brought to a length by zeros after it.
-- Assumes nothing.
use Prim.Native.Nat.{ℕ, ◌+◌, ◌-◌, ◌≤◌, ◌<◌}
use mathlib.Core.Path.{◌≡◌, sym, ap, ◌∙◌}
use mathlib.Core.List.{List, [], ◌∷◌, ◌++◌, append_assoc}
use native.Mathlib.Numerals.{add-one}
use native.Mathlib.Omega.{arith}
use lib.ListN.{length, get_or, take, drop, set, length-append, length-drop, length-replicate, take-append-drop, replicate-append-replicate}
use lib.Seq.{paste, paste-suc, take-length, take-take, take-append-le, take-append_seam, drop-append-le, drop-append-add, drop-drop, take-append-add, take_at, drop_at, set_split, length-take-le}
use Rattle.model.specs.Words.{filled, zeros}
use Rattle.stores.specs.Ring.{pasted}

-- ---- a part replaced

pub paste-pasted : (l : List ℕ) (at : ℕ) (part : List ℕ) → paste l at part (length part) ≡ pasted l at part
paste-pasted l at part = rw take-length (append_assoc (take at l) part (drop (at + length part) l))

-- a turn of a loop that copies: one more element stored where it belongs
pub paste-turn : (d : List ℕ) (at : ℕ) (s : List ℕ) (i : ℕ) {now : List ℕ} {place x : ℕ} → now ≡ paste d at s i → place ≡ at + i → x ≡ get_or s i 0
    → at + i < length d → i < length s → set now place x ≡ paste d at s (i + 1)
paste-turn d at s i so_far there this room more =
    rw (so_far, there, this, add-one) (paste-suc d at s i 0 room more)

module _ (l : List ℕ) (at : ℕ) (part : List ℕ) (within : at + length part ≤ length l) where
  head-length : length (take at l) ≡ at
  head-length = length-take-le at l (omega arith)

  front_length : length (take at l ++ part) ≡ at + length part
  front_length = simp (length-append, head-length)

  pub read-part : (n : ℕ) → n ≤ length part → take n (drop at (pasted l at part)) ≡ take n part
  read-part n fits =
      ap (take n) (drop_at (take at l) (part ++ drop (at + length part) l) at head-length)
      ∙ take-append-le n part (drop (at + length part) l) fits

  -- what lies before the part, and what lies after it
  pub read-before : (n from : ℕ) → from + n ≤ at → take n (drop from (pasted l at part)) ≡ take n (drop from l)
  read-before n from before =
      let head : List ℕ = take at l in
      let left : (rest : List ℕ) → take n (drop from (head ++ rest)) ≡ take n (drop from head) =
      λ rest. ap (take n) (drop-append-le from head rest (omega (arith, head-length)))
      ∙ take-append-le n (drop from head) rest (omega (arith, head-length, length-drop from head))
      in
      left (part ++ drop (at + length part) l)
      ∙ sym (left (drop at l))
      ∙ ap (λ whole. take n (drop from whole)) (take-append-drop at l)

  pub read-after : (n from : ℕ) → at + length part ≤ from → take n (drop from (pasted l at part)) ≡ take n (drop from l)
  read-after n from after =
      let k : ℕ = from - (at + length part) in
      let front : List ℕ = take at l ++ part in
      let place : from ≡ length front + k = omega (arith, front_length) in
      let place' : from ≡ at + length part + k = omega arith in
      ap (λ whole. take n (drop from whole)) (sym (append_assoc (take at l) part (drop (at + length part) l)))
      ∙ ap (λ w. take n (drop w (front ++ drop (at + length part) l))) place
      ∙ ap (take n) (drop-append-add front (drop (at + length part) l) k)
      ∙ ap (take n) (drop-drop k (at + length part) l)
      ∙ ap (λ w. take n (drop w l)) (sym place')

pub pasted-one : (l : List ℕ) (at x : ℕ) → at < length l → pasted l at (x ∷ []) ≡ set l at x
pasted-one l at x within = rw (set_split l at x within, add-one)

-- ---- zeros after it

pub length-zeros : (n : ℕ) → length (zeros n) ≡ n
length-zeros n = length-replicate n 0

zeros-split : (k n : ℕ) → k ≤ n → zeros n ≡ zeros k ++ zeros (n - k)
zeros-split k n h =
    let whole : n ≡ k + (n - k) = omega arith in
    ap zeros whole ∙ sym (replicate-append-replicate k (n - k) 0)

take-zeros : (k n : ℕ) → k ≤ n → take k (zeros n) ≡ zeros k
take-zeros k n h = ap (take k) (zeros-split k n h) ∙ take_at (zeros k) (zeros (n - k)) k (length-zeros k)

drop-zeros : (k n : ℕ) → k ≤ n → drop k (zeros n) ≡ zeros (n - k)
drop-zeros k n h = ap (drop k) (zeros-split k n h) ∙ drop_at (zeros k) (zeros (n - k)) k (length-zeros k)

pub length-filled : (n : ℕ) (l : List ℕ) → length (filled n l) ≡ n
length-filled n l = length-take-le n (l ++ zeros n) (simp (length-append, length-replicate) (omega arith))

pub take-filled : (n : ℕ) (l : List ℕ) → length l ≤ n → take (length l) (filled n l) ≡ l
take-filled n l fits = take-take (length l) n (l ++ zeros n) fits ∙ take-append_seam l (zeros n)

pub filled-split : (n : ℕ) (l : List ℕ) → length l ≤ n → filled n l ≡ l ++ zeros (n - length l)
filled-split n l fits =
    let whole : n ≡ length l + (n - length l) = omega arith in
    ap (λ k. take k (l ++ zeros n)) whole
    ∙ take-append-add l (zeros n) (n - length l)
    ∙ ap (λ rest. l ++ rest) (take-zeros (n - length l) n (omega arith))

-- a list written over zeros
pub filled-over : (n : ℕ) (l : List ℕ) → length l ≤ n → l ++ drop (length l) (zeros n) ≡ filled n l
filled-over n l fits = rw (filled-split n l fits, drop-zeros (length l) n fits)

-- a part put behind what has been filled in
pub filled-append : (n : ℕ) (l part : List ℕ) → length l + length part ≤ n → filled n (l ++ part) ≡ pasted (filled n l) (length l) part
filled-append n l part fits =
    let joined : length (l ++ part) ≡ length l + length part = length-append l part in
    let room : length part ≤ n - length l = omega arith in
    let left : n - (length l + length part) ≡ n - length l - length part = omega arith in
    rw (
      filled-split n (l ++ part) (omega arith),
      filled-split n l (omega arith),
      joined,
      append_assoc,
      take-append_seam,
      drop-append-add,
      drop-zeros (length part) (n - length l) room,
      left,
    )
