-- What the bounded searches `all` and `any` tell of each number that they pass. Searches says where `first` ends up.
-- Assumes nothing.
use Prim.Native.Nat.{ℕ, zero, suc, ◌+◌, ◌≤◌, ◌<◌}
use mathlib.Core.Path.{◌≡◌, subst}
use mathlib.Core.Bool.{Bool, true, false}
use mathlib.Core.Logic.{⊎_elim}
use native.Mathlib.Nat.{eq-or-lt_of_le}
use native.Mathlib.Omega.{arith}
use Rattle.model.specs.Words.{all, any}
use Rattle.model.proofs.Tests.{both_left, both_right, neither_left, neither_right}

module _ (p : ℕ → Bool) where
  pub all-at : (n k j : ℕ) → all p n k ≡ true → k ≤ j → j < k + n → p j ≡ true
  all-at zero k j e l h = absurd (omega arith)
  all-at (suc n) k j e l h =
      ⊎_elim (λ q. subst (λ i. p i ≡ true) q (both_left (p k) (all p n (suc k)) e))
      (λ q. all-at n (suc k) j (both_right (p k) (all p n (suc k)) e) q (omega arith))
      (eq-or-lt_of_le l)

  pub any_at : (n k j : ℕ) → any p n k ≡ false → k ≤ j → j < k + n → p j ≡ false
  any_at zero k j e l h = absurd (omega arith)
  any_at (suc n) k j e l h =
      ⊎_elim (λ q. subst (λ i. p i ≡ false) q (neither_left (p k) (any p n (suc k)) e))
      (λ q. any_at n (suc k) j (neither_right (p k) (any p n (suc k)) e) q (omega arith))
      (eq-or-lt_of_le l)
