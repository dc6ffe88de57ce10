-- The digits of a number say that number. Assumes nothing.
use Prim.Native.Nat.{ℕ, zero, suc, ◌+◌, ◌-◌, ◌*◌, ◌/◌, ◌%◌, ◌^◌, ◌<◌}
use mathlib.Core.Path.{◌≡◌, refl, ap, ◌∙◌}
use mathlib.Core.Bool.{Bool, true, false}
use mathlib.Core.List.{List, [], ◌∷◌, ◌++◌}
use native.Mathlib.Omega.{arith}
use lib.Dec.{ltb}
use borrow.Author.Tests.{ltb-true, ltb-false}
use Rattle.runner_text.specs.Text.{digits, decimal}
use Rattle.runner_text.proofs.Laws.{digits-one, digits-next}

-- the number that decimal digits say, the number n before them
abbrev pub said : ℕ → List ℕ → ℕ
said n [] = n
said n (d ∷ ds) = said (10 * n + (d - 48)) ds

-- how many numbers k digits tell apart
abbrev pub tens : ℕ → ℕ
tens zero = 1
tens (suc k) = 10 * tens k

said-last : (n : ℕ) (ds : List ℕ) (d : ℕ) → said n (ds ++ (d ∷ [])) ≡ 10 * said n ds + (d - 48)
said-last n [] d = refl
said-last n (e ∷ ds) d = said-last (10 * n + (e - 48)) ds d

pub digits-say : (k n : ℕ) → n < tens k → said 0 (digits k n) ≡ n
digits-say zero n low = omega arith
digits-say (suc k) n low = go (ltb n 10) refl (digits-say k (n / 10))
  where
    go : (b : Bool) → ltb n 10 ≡ b → (n / 10 < tens k → said 0 (digits k (n / 10)) ≡ n / 10) → said 0 (digits (suc k) n) ≡ n
    go true h before = ap (said 0) (digits-one (suc k) n (λ e. omega (arith, e)) (ltb-true n 10 h)) ∙ omega arith
    go false h before =
        ap (said 0) (digits-next k n (ltb-false n 10 h))
        ∙ said-last 0 (digits k (n / 10)) (48 + n % 10)
        ∙ ap (λ m. 10 * m + (48 + n % 10 - 48)) (before (omega arith))
        ∙ omega arith

-- every number of 64 bits is printed whole
pub decimal-says : (n : ℕ) → n < 2 ^ 64 → said 0 (decimal n) ≡ n
unfolding decimal
decimal-says n low = digits-say 20 n (omega arith)
