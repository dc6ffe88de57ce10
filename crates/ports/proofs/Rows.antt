-- Laws of the rows and blocks of the lent arrays: what stands in one after a number or a block is stored.
-- Assumes nothing.
use Prim.Native.Nat.{ℕ, zero, suc, ◌+◌, ◌-◌, ◌*◌, ◌≤◌, ◌<◌}
use mathlib.Core.Path.{◌≡◌, refl, sym, ◌∙◌, ap, ap₂, subst}
use mathlib.Core.List.{List, ◌∷◌, ◌++◌, append_assoc}
use mathlib.Core.Logic.{◌⊎◌, inl, inr, ⊎_elim}
use native.Mathlib.Nat.{add-zero}
use native.Mathlib.Omega.{arith}
use lib.ListN.{length, get_or, take, drop, set, length-take, length-drop, get_or-append}
use native.Mathlib.Numerals.{add-one}
use lib.Seq.{get_or-set_same, get_or-set_other, ext_get_or, get_or-take, get_or-drop, drop-cons, paste, paste-zero, length-paste, length_paste_head, drop-paste, drop_at, take_at, take_all, length-take-le}
use Rattle.model.proofs.Tests.{three}
use Rattle.stores.specs.Ring.{pasted}
use Rattle.stores.proofs.Lists.{paste-pasted, paste-turn}
use Rattle.ports.specs.Held.{numbers_from, row_of, block_of, RowPut, BlockPut}

pub numbers-at : (numbers : List ℕ) (n at j : ℕ) → j < n → get_or (numbers_from numbers n at) j 0 ≡ get_or numbers (at + j) 0
numbers-at numbers zero at j h = absurd (omega arith)
numbers-at numbers (suc n) at zero h = rw add-zero
numbers-at numbers (suc n) at (suc j) h =
    numbers-at numbers n (at + 1) j (omega arith) ∙ ap (λ i. get_or numbers i 0) (omega arith)

-- a number stored outside the stretch leaves it
numbers-other : (numbers : List ℕ) (i v n at : ℕ) → (i < at) ⊎ (at + n ≤ i) → numbers_from (set numbers i v) n at ≡ numbers_from numbers n at
numbers-other numbers i v zero at h = refl
numbers-other numbers i v (suc n) at h =
    ap₂ (λ x xs. x ∷ xs)
    (get_or-set_other numbers i at v 0 (⊎_elim (λ (l : i < at) e. omega arith) (λ (l : at + suc n ≤ i) e. omega arith) h))
    (numbers-other numbers i v n (at + 1) (⊎_elim (λ (l : i < at). inl (omega arith)) (λ (l : at + suc n ≤ i). inr (omega arith)) h))

-- inside it, it is stored there
numbers-same : (numbers : List ℕ) (v n at j : ℕ) → j < n → at + j < length numbers → numbers_from (set numbers (at + j) v) n at ≡ set (numbers_from numbers n at) j v
numbers-same numbers v zero at j h l = absurd (omega arith)
numbers-same numbers v (suc n) at zero h l =
    ap (λ i. numbers_from (set numbers i v) (suc n) at) (add-zero at)
    ∙ ap₂ (λ x xs. x ∷ xs) (get_or-set_same numbers at v 0 (omega arith)) (numbers-other numbers at v n (at + 1) (inl (omega arith)))
numbers-same numbers v (suc n) at (suc j) h l =
    ap₂ (λ x xs. x ∷ xs) (get_or-set_other numbers (at + suc j) at v 0 (λ e. omega arith))
    (ap (λ i. numbers_from (set numbers i v) n (at + 1)) (omega arith) ∙ numbers-same numbers v n (at + 1) j (omega arith) (omega arith))

-- the law for set_number
pub row_put : (numbers : List ℕ) (k j v : ℕ) → length numbers ≡ 832 → k < 64 → j < 13 → RowPut numbers (set numbers (13 * k + j) v) k (set (row_of numbers k) j v)
unfolding row_of
row_put numbers k j v l h m =
    record {
      here = numbers-same numbers v 13 (13 * k) j m (omega arith);
      elsewhere = λ i other. numbers-other numbers (13 * k + j) v 13 (13 * i) (apart i other);
    }
  where
    apart : (i : ℕ) → (i ≡ k → ⊥) → (13 * k + j < 13 * i) ⊎ (13 * i + 13 ≤ 13 * k + j)
    apart i other = ⊎_elim (λ (q : i < k). inr (omega arith)) (λ rest. ⊎_elim (λ q. absurd (other q)) (λ (q : k < i). inl (omega arith)) rest) (three i k)

pub row-at : (numbers : List ℕ) (k j : ℕ) → j < 13 → get_or (row_of numbers k) j 0 ≡ get_or numbers (13 * k + j) 0
unfolding row_of
row-at numbers k j h = numbers-at numbers 13 (13 * k) j h

-- the stretch as a part of the numbers
numbers-part : (numbers : List ℕ) (n at : ℕ) → at + n ≤ length numbers → numbers_from numbers n at ≡ take n (drop at numbers)
numbers-part numbers zero at h = refl
numbers-part numbers (suc n) at h =
    ap (λ rest. get_or numbers at 0 ∷ rest) (numbers-part numbers n (at + 1) (omega arith) ∙ ap (λ i. take n (drop i numbers)) (add-one at))
    ∙ ap (take (suc n)) (sym (drop-cons numbers at 0 (omega arith)))

-- the lengths of a port's row, as they stand
pub lengths-at : (numbers : List ℕ) (k : ℕ) → length numbers ≡ 832 → k < 64 → take 8 (drop (13 * k + 5) numbers) ≡ drop 5 (row_of numbers k)
unfolding row_of
lengths-at numbers k l h = sym (ap (numbers_from numbers 8) (omega arith) ∙ numbers-part numbers 8 (13 * k + 5) (omega arith))

-- outside of what is copied nothing changes
pub paste-other : (d s : List ℕ) (at n i : ℕ) → at + n ≤ length d → n ≤ length s → (i < at) ⊎ (at + n ≤ i) → get_or (paste d at s n) i 0 ≡ get_or d i 0
paste-other d s at n i l m (inl h) =
    let front : length (take at d) ≡ at = length-take-le at d (omega arith) in
    let head : length (take at d ++ take n s) ≡ at + n = length_paste_head d at s n (omega arith) m in
    get_or-append (take at d ++ take n s) (drop (at + n) d) 0 i (omega arith)
    ∙ get_or-append (take at d) (take n s) 0 i (omega arith)
    ∙ get_or-take at d i 0 h
paste-other d s at n i l m (inr h) =
    let way : at + n + (i - (at + n)) ≡ i = omega arith in
    ap (λ x. get_or (paste d at s n) x 0) (sym way)
    ∙ sym (get_or-drop (at + n) (paste d at s n) (i - (at + n)) 0)
    ∙ ap (λ x. get_or x (i - (at + n)) 0) (drop-paste d at s n (omega arith) m)
    ∙ get_or-drop (at + n) d (i - (at + n)) 0
    ∙ ap (λ x. get_or d x 0) way

block-pasted : (bytes block : List ℕ) (k : ℕ) → length bytes ≡ 32768 → k < 64 → length block ≡ 512 → BlockPut bytes (paste bytes (512 * k) block 512) k block
unfolding block_of
block-pasted bytes block k l h m =
    record {
      here =
          rw (append_assoc (take (512 * k) bytes) (take 512 block) (drop (512 * k + 512) bytes), drop_at (take (512 * k) bytes) (take 512 block ++ drop (512 * k + 512) bytes) (512 * k) (length-take-le (512 * k) bytes (omega arith)))
          (take_at (take 512 block) (drop (512 * k + 512) bytes) 512 (length-take-le 512 block (omega arith)) ∙ take_all 512 block (omega arith));
      elsewhere = λ j other. ext_get_or 0 _ _ (same j) (λ i inside. at j i other (omega (arith, inside, same j, few j)));
    }
  where
    copied : List ℕ
    copied = paste bytes (512 * k) block 512

    long : length copied ≡ length bytes
    long = length-paste bytes (512 * k) block 512 (omega arith) (omega arith)

    same : (j : ℕ) → length (take 512 (drop (512 * j) copied)) ≡ length (take 512 (drop (512 * j) bytes))
    same j = simp (length-take, length-drop, long)

    few : (j : ℕ) → length (take 512 (drop (512 * j) copied)) ≤ 512
    few j = simp length-take (omega arith)

    at : (j i : ℕ) → (j ≡ k → ⊥) → i < 512 → get_or (take 512 (drop (512 * j) copied)) i 0 ≡ get_or (take 512 (drop (512 * j) bytes)) i 0
    at j i other inside = rw (get_or-take 512 (drop (512 * j) copied) i 0 inside, get_or-take 512 (drop (512 * j) bytes) i 0 inside, get_or-drop (512 * j) copied i 0, get_or-drop (512 * j) bytes i 0) (paste-other bytes block (512 * k) 512 (512 * j + i) (omega arith) (omega arith) (apart (three j k)))
      where
        apart : (j < k) ⊎ ((j ≡ k) ⊎ (k < j)) → (512 * j + i < 512 * k) ⊎ (512 * k + 512 ≤ 512 * j + i)
        apart (inl q) = inl (omega arith)
        apart (inr (inl q)) = absurd (other q)
        apart (inr (inr q)) = inr (omega arith)

-- the law for a store's bytes laid into their block
pub block-put : {bytes bytes' block : List ℕ} {k : ℕ} → length bytes ≡ 32768 → k < 64 → length block ≡ 512 → bytes' ≡ pasted bytes (512 * k) block → BlockPut bytes bytes' k block
block-put {bytes} {bytes'} {block} {k} l h m e =
    subst (λ b. BlockPut bytes b k block) (ap (paste bytes (512 * k) block) (sym m) ∙ paste-pasted bytes (512 * k) block ∙ sym e) (block-pasted bytes block k l h m)

-- rows put one after another, and none
pub row_kept : (numbers : List ℕ) (k : ℕ) → RowPut numbers numbers k (row_of numbers k)
row_kept numbers k = record { here = refl; elsewhere = λ j other. refl }

pub row-again : {a b c : List ℕ} {k : ℕ} {r s : List ℕ} → RowPut a b k r → RowPut b c k s → RowPut a c k s
row-again p q = record { here = q.here; elsewhere = λ j other. q.elsewhere j other ∙ p.elsewhere j other }

pub row_is : {a b : List ℕ} {k : ℕ} {r s : List ℕ} → RowPut a b k r → r ≡ s → RowPut a b k s
row_is p e = record { here = p.here ∙ e; elsewhere = p.elsewhere }

pub row-length : (numbers : List ℕ) (k : ℕ) → length (row_of numbers k) ≡ 13
unfolding row_of
row-length numbers k = refl

-- the law for a store's lengths laid into their row: one more of them, the first i, then all
one-length : (numbers lengths : List ℕ) (k i : ℕ) → length numbers ≡ 832 → k < 64 → length lengths ≡ 8 → i < 8
    → RowPut numbers (paste numbers (13 * k + 5) lengths i) k (paste (row_of numbers k) 5 lengths i)
    → RowPut numbers (paste numbers (13 * k + 5) lengths (suc i)) k (paste (row_of numbers k) 5 lengths (suc i))
one-length numbers lengths k i l h m few before =
    row-again before
    (subst (λ n. RowPut now n k (paste (row_of numbers k) 5 lengths (suc i))) stored
    (row_is (row_put now k (5 + i) (get_or lengths i 0) long h (omega arith)) in_row))
  where
    now : List ℕ
    now = paste numbers (13 * k + 5) lengths i

    long : length now ≡ 832
    long = length-paste numbers (13 * k + 5) lengths i (omega arith) (omega arith) ∙ l

    stored : set now (13 * k + (5 + i)) (get_or lengths i 0) ≡ paste numbers (13 * k + 5) lengths (suc i)
    stored = paste-turn numbers (13 * k + 5) lengths i refl (omega arith) refl (omega arith) (omega arith) ∙ ap (paste numbers (13 * k + 5) lengths) (add-one i)

    in_row : set (row_of now k) (5 + i) (get_or lengths i 0) ≡ paste (row_of numbers k) 5 lengths (suc i)
    in_row = paste-turn (row_of numbers k) 5 lengths i before.here refl refl (omega (arith, row-length numbers k)) (omega arith) ∙ ap (paste (row_of numbers k) 5 lengths) (add-one i)

lengths-pasted : (numbers lengths : List ℕ) (k : ℕ) → length numbers ≡ 832 → k < 64 → length lengths ≡ 8 → (i : ℕ) → i ≤ 8
    → RowPut numbers (paste numbers (13 * k + 5) lengths i) k (paste (row_of numbers k) 5 lengths i)
lengths-pasted numbers lengths k l h m zero few =
    subst (λ n. RowPut numbers n k (paste (row_of numbers k) 5 lengths 0)) (paste-zero numbers (13 * k + 5) lengths)
    (row_is (row_kept numbers k) (paste-zero (row_of numbers k) 5 lengths))
lengths-pasted numbers lengths k l h m (suc i) few = one-length numbers lengths k i l h m (omega arith) (lengths-pasted numbers lengths k l h m i (omega arith))

pub lengths-put : {numbers numbers' : List ℕ} {k : ℕ} (lengths : List ℕ) → length numbers ≡ 832 → k < 64 → length lengths ≡ 8 → numbers' ≡ pasted numbers (13 * k + 5) lengths
    → RowPut numbers numbers' k (paste (row_of numbers k) 5 lengths 8)
lengths-put {numbers} {numbers'} {k} lengths l h m e =
    subst (λ n. RowPut numbers n k (paste (row_of numbers k) 5 lengths 8)) (ap (paste numbers (13 * k + 5) lengths) (sym m) ∙ paste-pasted numbers (13 * k + 5) lengths ∙ sym e)
    (lengths-pasted numbers lengths k l h m 8 (omega arith))
