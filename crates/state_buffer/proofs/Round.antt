-- The layout loses nothing: a state laid into a buffer and read again is that state, and a buffer read and laid again is that buffer. So what is
-- proved of the kernel's states holds of buffers from call to call.
-- Assumes nothing.
use Prim.Native.Nat.{ℕ, zero, suc, ◌+◌, ◌*◌, ◌/◌, ◌%◌, ◌≤◌, ◌<◌}
use mathlib.Core.Path.{◌≡◌, refl, sym, ◌∙◌, ap, ap₂}
use mathlib.Core.List.{List, [], ◌∷◌, ◌++◌, append_assoc}
use native.Mathlib.Nat.{add-zero, div-div-eq-div-mul}
use native.Mathlib.Omega.{arith}
use lib.ListN.{length, get_or, take, drop, length-append, length-drop, take-append-drop}
use lib.Seq.{drop-cons, take_at, drop_at, take_all, take-add, drop-drop, get_or-append-add}
use Rattle.model.specs.Words.{word32, bytes32}
use Rattle.states.specs.declared.State.{State}
use Rattle.state_buffer.specs.Layout.{state_size, numbers_from, bytes_of_all, state_of, bytes_of}
use Rattle.state_buffer.proofs.Laws.{all-length}

-- what the type State says of its numbers
pub record Typed (st : State) : Type 0 where
  pub window : st.window < 4294967296
  pub time : st.time < 4294967296
  pub modes : length st.modes ≡ 16
  pub rows : length st.numbers ≡ 832
  pub numbers : (i : ℕ) → get_or st.numbers i 0 < 4294967296
  pub bytes : length st.bytes ≡ 32768

-- ---- laid, then read

number-back : (n : ℕ) (rest : List ℕ) → n < 4294967296 → word32 (bytes32 n ++ rest) 0 ≡ n
number-back n rest h =
    let one : n ≡ n % 256 + 256 * (n / 256) = omega arith in
    let two : n / 256 ≡ n / 256 % 256 + 256 * (n / 65536) = omega (arith, div-div-eq-div-mul n 256 256) in
    let three : n / 65536 ≡ n / 65536 % 256 + 256 * (n / 16777216) = omega (arith, div-div-eq-div-mul n 65536 256) in
    let four : n / 16777216 % 256 ≡ n / 16777216 = omega arith in
    omega (arith, one, two, three, four)

word-behind : (pre l : List ℕ) (k : ℕ) → word32 (pre ++ l) (length pre + k) ≡ word32 l k
word-behind pre l k =
    let at : (i : ℕ) → get_or (pre ++ l) (length pre + k + i) 0 ≡ get_or l (k + i) 0 = λ i. ap (λ j. get_or (pre ++ l) j 0) (omega arith) ∙ get_or-append-add pre l (k + i) 0 in
    let third : get_or (pre ++ l) (length pre + k + 2 + 1) 0 ≡ get_or l (k + 2 + 1) 0 = ap (λ j. get_or (pre ++ l) j 0) (omega arith) ∙ get_or-append-add pre l (k + 2 + 1) 0 in
    omega (arith, get_or-append-add pre l k 0, at 1, at 2, third)

numbers-back : (ns pre rest : List ℕ) → ((i : ℕ) → get_or ns i 0 < 4294967296) → numbers_from (pre ++ (bytes_of_all ns ++ rest)) (length ns) (length pre) ≡ ns
numbers-back [] pre rest h = refl
numbers-back (n ∷ ns) pre rest h =
    let behind = bytes_of_all ns ++ rest in
    let all = pre ++ (bytes32 n ++ behind) in
    let first : word32 all (length pre) ≡ n = ap (word32 all) (sym (add-zero (length pre))) ∙ word-behind pre (bytes32 n ++ behind) 0 ∙ number-back n behind (h 0) in
    let place : length pre + 4 ≡ length (pre ++ bytes32 n) = sym (length-append pre (bytes32 n)) in
    ap₂ (λ x xs. x ∷ xs) first
    (ap₂ (λ b at. numbers_from b (length ns) at) (sym (append_assoc pre (bytes32 n) behind)) place ∙ numbers-back ns (pre ++ bytes32 n) rest (λ i. h (suc i)))

pub state-back : (st : State) → Typed st → state_of (bytes_of st) ≡ st
unfolding state_of bytes_of
state-back st h =
    let behind = bytes_of_all st.numbers ++ st.bytes in
    let head = bytes32 st.window ++ (bytes32 st.time ++ st.modes) in
    let b = bytes32 st.window ++ (bytes32 st.time ++ (st.modes ++ behind)) in
    let long : length head ≡ 24 = omega (arith, h.modes) in
    let all : length (head ++ bytes_of_all st.numbers) ≡ 3352 = omega (arith, length-append head (bytes_of_all st.numbers), long, all-length st.numbers, h.rows) in
    let numbers : numbers_from b 832 24 ≡ st.numbers =
    ap₂ (λ n at. numbers_from b n at) (sym h.rows) (sym long) ∙ numbers-back st.numbers head st.bytes h.numbers
    in
    let bytes : take 32768 (drop 3352 b) ≡ st.bytes =
    ap (λ l. take 32768 (drop 3352 l)) (sym (append_assoc head (bytes_of_all st.numbers) st.bytes))
    ∙ ap (take 32768) (drop_at (head ++ bytes_of_all st.numbers) st.bytes 3352 all)
    ∙ take_all 32768 st.bytes (omega (arith, h.bytes))
    in
    λ i. record {
      window = number-back st.window (bytes32 st.time ++ (st.modes ++ behind)) h.window i;
      time = number-back st.time (st.modes ++ behind) h.time i;
      modes = take_at st.modes behind 16 h.modes i;
      numbers = numbers i;
      bytes = bytes i;
    }

-- ---- read, then laid

-- a digit below 256 in front of a number, taken off again
low : (x q : ℕ) → x < 256 → (x + 256 * q) % 256 ≡ x
low x q h = omega arith

rest : (x q : ℕ) → x < 256 → (x + 256 * q) / 256 ≡ q
rest x q h = omega arith

digits : (x y z w : ℕ) → x < 256 → y < 256 → z < 256 → w < 256 → bytes32 (x + 256 * y + 65536 * (z + 256 * w)) ≡ x ∷ y ∷ z ∷ w ∷ []
digits x y z w hx hy hz hw =
    let n = x + 256 * y + 65536 * (z + 256 * w) in
    let form : n ≡ x + 256 * (y + 256 * (z + 256 * w)) = omega arith in
    let after_one : n / 256 ≡ y + 256 * (z + 256 * w) = ap (λ k. k / 256) form ∙ rest x (y + 256 * (z + 256 * w)) hx in
    let after_two : n / 65536 ≡ z + 256 * w = sym (div-div-eq-div-mul n 256 256) ∙ ap (λ k. k / 256) after_one ∙ rest y (z + 256 * w) hy in
    let after-three : n / 16777216 ≡ w = sym (div-div-eq-div-mul n 65536 256) ∙ ap (λ k. k / 256) after_two ∙ rest z w hz in
    let first : n % 256 ≡ x = ap (λ k. k % 256) form ∙ low x (y + 256 * (z + 256 * w)) hx in
    let second : n / 256 % 256 ≡ y = ap (λ k. k % 256) after_one ∙ low y (z + 256 * w) hy in
    let third : n / 65536 % 256 ≡ z = ap (λ k. k % 256) after_two ∙ low z w hz in
    let fourth : n / 16777216 % 256 ≡ w = ap (λ k. k % 256) after-three ∙ omega (arith, hw) in
    λ i. first i ∷ second i ∷ third i ∷ fourth i ∷ []

module _ (b : List ℕ) (small : (i : ℕ) → get_or b i 0 < 256) where
  four : (at : ℕ) → at + 4 ≤ length b → take 4 (drop at b) ≡ get_or b at 0 ∷ get_or b (at + 1) 0 ∷ get_or b (at + 2) 0 ∷ get_or b (at + 2 + 1) 0 ∷ []
  four at h =
      let next : suc at ≡ at + 1 = omega arith in
      let next-2 : suc (at + 1) ≡ at + 2 = omega arith in
      let next-3 : suc (at + 2) ≡ at + 2 + 1 = omega arith in
      let one : drop (suc at) b ≡ get_or b (at + 1) 0 ∷ drop (suc (at + 1)) b = ap (λ k. drop k b) next ∙ drop-cons b (at + 1) 0 (omega arith) in
      let two : drop (suc (at + 1)) b ≡ get_or b (at + 2) 0 ∷ drop (suc (at + 2)) b = ap (λ k. drop k b) next-2 ∙ drop-cons b (at + 2) 0 (omega arith) in
      let three : drop (suc (at + 2)) b ≡ get_or b (at + 2 + 1) 0 ∷ drop (suc (at + 2 + 1)) b = ap (λ k. drop k b) next-3 ∙ drop-cons b (at + 2 + 1) 0 (omega arith) in
      ap (take 4)
      (drop-cons b at 0 (omega arith)
      ∙ ap (λ l. get_or b at 0 ∷ l) (one ∙ ap (λ l. get_or b (at + 1) 0 ∷ l) (two ∙ ap (λ l. get_or b (at + 2) 0 ∷ l) three)))

  word_bytes : (at : ℕ) → at + 4 ≤ length b → bytes32 (word32 b at) ≡ take 4 (drop at b)
  word_bytes at h =
      digits (get_or b at 0) (get_or b (at + 1) 0) (get_or b (at + 2) 0) (get_or b (at + 2 + 1) 0) (small at) (small (at + 1)) (small (at + 2)) (small (at + 2 + 1)) ∙ sym (four at h)

  -- a stretch and what follows it
  joint : (n at : ℕ) → take n (drop at b) ++ drop (at + n) b ≡ drop at b
  joint n at = ap (λ l. take n (drop at b) ++ l) (sym (drop-drop n at b)) ∙ take-append-drop n (drop at b)

  numbers-bytes : (n at : ℕ) → at + 4 * n ≤ length b → bytes_of_all (numbers_from b n at) ≡ take (4 * n) (drop at b)
  numbers-bytes zero at h = refl
  numbers-bytes (suc n) at h =
      let more : 4 + 4 * n ≡ 4 * suc n = omega arith in
      ap₂ (λ x y. x ++ y) (word_bytes at (omega arith)) (numbers-bytes n (at + 4) (omega arith) ∙ ap (take (4 * n)) (sym (drop-drop 4 at b)))
      ∙ sym (take-add 4 (4 * n) (drop at b))
      ∙ ap (λ k. take k (drop at b)) more

  pub buffer-back : length b ≡ state_size → bytes_of (state_of b) ≡ b
  unfolding state_of bytes_of
  buffer-back h =
      let last : take 32768 (drop 3352 b) ≡ drop 3352 b = take_all 32768 (drop 3352 b) (omega (arith, length-drop 3352 b, h)) in
      let rows = numbers-bytes 832 24 (omega (arith, h)) in
      ap₂ (λ w rest. w ++ rest) (word_bytes 0 (omega (arith, h)))
      (ap₂ (λ w rest. w ++ rest) (word_bytes 4 (omega (arith, h)))
      (ap (λ rest. take 16 (drop 8 b) ++ rest) (ap₂ (λ w rest. w ++ rest) rows last ∙ joint 3328 24) ∙ joint 16 8)
      ∙ joint 4 4)
      ∙ joint 4 0
