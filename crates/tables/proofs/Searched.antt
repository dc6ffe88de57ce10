-- A stretch of a list, looked at as a list of its own, and the model's search over the places of the stretch.
-- Assumes nothing.
use Prim.Native.Nat.{ℕ, zero, suc, ◌+◌, ◌-◌, ◌≤◌, ◌<◌}
use mathlib.Core.Path.{◌≡◌, refl, sym}
use mathlib.Core.Bool.{Bool}
use mathlib.Core.List.{List}
use native.Mathlib.Nat.{add-zero, add-sub_cancel_left}
use native.Mathlib.Omega.{arith}
use lib.Dec.{eqb}
use lib.Pointwise.{pointwise}
use Rattle.std.proofs.Common.{length, get_or, take, drop, drop-cons}
use Rattle.std.specs.List.{list_all}
use Rattle.model.specs.Words.{all, byte}
use Rattle.model.specs.Tables.{same_name}

-- a stretch of one more begins at an element, and the rest of it is there too
begins : (k n m : ℕ) → k + suc n ≤ m → k < m
begins k n m h = omega arith

goes_on : (k n m : ℕ) → k + suc n ≤ m → suc k + n ≤ m
goes_on k n m h = omega arith

-- each element of the stretch of n from k on passes
module _ (p : ℕ → Bool) (l : List ℕ) where
  each : (n k : ℕ) → k + n ≤ length l → list_all p (take n (drop k l)) ≡ all (λ i. p (get_or l i 0)) n k
  each zero k h = refl
  each (suc n) k h = rw (drop-cons l k 0 (begins k n _ h)) (rw (each n (suc k) (goes_on k n _ h)) refl)

  pub each-passes : (n k : ℕ) → k + n ≤ length l → list_all p (take (k + n - k) (drop k l)) ≡ all (λ i. p (get_or l i 0)) n k
  each-passes n k h = rw add-sub_cancel_left (each n k h)

-- two names are the same, byte by byte
module _ (a : List ℕ) (at : ℕ) (b : List ℕ) (bt : ℕ) where
  alike : (n k i j : ℕ) → i ≡ at + k → j ≡ bt + k → i + n ≤ length a → j + n ≤ length b → pointwise eqb (take n (drop i a)) (take n (drop j b)) ≡ all (λ m. eqb (byte a (at + m)) (byte b (bt + m))) n k
  alike zero k i j e f h g = refl
  alike (suc n) k i j e f h g =
      let later = alike n (suc k) (suc i) (suc j) (omega arith) (omega arith) (goes_on i n _ h) (goes_on j n _ g) in
      rw (drop-cons a i 0 (begins i n _ h), drop-cons b j 0 (begins j n _ g), ← e, ← f) (rw later refl)

  pub names-alike : at + 30 ≤ length a → bt + 30 ≤ length b → pointwise eqb (take (at + 30 - at) (drop at a)) (take (bt + 30 - bt) (drop bt b)) ≡ same_name a at b bt
  unfolding same_name
  names-alike h g = rw (add-sub_cancel_left at 30, add-sub_cancel_left bt 30) (alike 30 0 at bt (sym (add-zero at)) (sym (add-zero bt)) h g)
