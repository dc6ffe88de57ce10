-- The laws of the bounded searches `any`, `all` and `first`, over any test. A search that stands at i and goes up to e has e - i numbers left: it goes one on, it stops, or it is at its end.
-- Assumes nothing.
use Rattle.std.specs.Prelude.{if◌then◌else◌}
use Prim.Native.Nat.{ℕ, zero, suc, ◌+◌, ◌-◌, ◌≤◌, ◌<◌}
use mathlib.Core.Path.{◌≡◌, refl, subst}
use mathlib.Core.Bool.{Bool, true, false}
use mathlib.Core.Logic.{⊎_elim}
use native.Mathlib.Nat.{eq-or-lt_of_le}
use native.Mathlib.Numerals.{add-one}
use native.Mathlib.Omega.{arith}
use Rattle.model.specs.Words.{any, all, first}

-- how many are left, where there is one more, and where there is none
rest_more : (e i : ℕ) → i < e → e - i ≡ suc (e - (i + 1))
rest_more e i h = omega arith

rest-none : (e i : ℕ) → e ≤ i → e - i ≡ 0
rest-none e i h = omega arith

module _ (p : ℕ → Bool) (e i : ℕ) where
  pub any-more : i < e → p i ≡ false → any p (e - i) i ≡ any p (e - (i + 1)) (i + 1)
  any-more h f = rw (rest_more e i h, f, add-one i)

  pub any-stop : i < e → p i ≡ true → any p (e - i) i ≡ true
  any-stop h f = rw (rest_more e i h, f)

  pub any-end : e ≤ i → any p (e - i) i ≡ false
  any-end h = rw (rest-none e i h)

  pub all_more : i < e → p i ≡ true → all p (e - i) i ≡ all p (e - (i + 1)) (i + 1)
  all_more h f = rw (rest_more e i h, f, add-one i)

  pub all-stop : i < e → p i ≡ false → all p (e - i) i ≡ false
  all-stop h f = rw (rest_more e i h, f)

  pub all_end : e ≤ i → all p (e - i) i ≡ true
  all_end h = rw (rest-none e i h)

  pub first_more : i < e → p i ≡ false → first p (e - i) i ≡ first p (e - (i + 1)) (i + 1)
  first_more h f = rw (rest_more e i h, f, add-one i)

  pub first-stop : i < e → p i ≡ true → first p (e - i) i ≡ i
  first-stop h f = rw (rest_more e i h, f)

  pub first-end : e ≤ i → first p (e - i) i ≡ i
  first-end h = rw (rest-none e i h)

-- where a first search ends up: not below where it began, not past its end, past each number that fails the test, and at one that passes it unless it is at its end
module _ (p : ℕ → Bool) where
  pub first-least : (n k : ℕ) → k ≤ first p n k
  first-least zero k = omega arith
  first-least (suc n) k = go (p k) (first-least n (suc k))
    where
      go : (b : Bool) → suc k ≤ first p n (suc k) → k ≤ (if b then k else first p n (suc k))
      go true h = omega arith
      go false h = omega arith

  pub first-most : (n k : ℕ) → first p n k ≤ k + n
  first-most zero k = omega arith
  first-most (suc n) k = go (p k) (first-most n (suc k))
    where
      go : (b : Bool) → first p n (suc k) ≤ suc k + n → (if b then k else first p n (suc k)) ≤ k + suc n
      go true h = omega arith
      go false h = omega arith

  pub first-passed : (n k j : ℕ) → k ≤ j → j < first p n k → p j ≡ false
  first-passed zero k j l h = absurd (omega arith)
  first-passed (suc n) k j l h = go (p k) refl h (first-passed n (suc k) j)
    where
      go : (b : Bool) → p k ≡ b → j < (if b then k else first p n (suc k)) → (suc k ≤ j → j < first p n (suc k) → p j ≡ false) → p j ≡ false
      go true e h later = absurd (omega arith)
      go false e h later = ⊎_elim (λ q. subst (λ i. p i ≡ false) q e) (λ q. later q h) (eq-or-lt_of_le l)

  pub first-is : (n k : ℕ) → first p n k < k + n → p (first p n k) ≡ true
  first-is zero k h = absurd (omega arith)
  first-is (suc n) k h = go (p k) refl h (first-is n (suc k))
    where
      go : (b : Bool) → p k ≡ b → (if b then k else first p n (suc k)) < k + suc n → (first p n (suc k) < suc k + n → p (first p n (suc k)) ≡ true) → p (if b then k else first p n (suc k)) ≡ true
      go true e h later = e
      go false e h later = later (omega arith)
