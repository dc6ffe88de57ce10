-- The name look-up: a row of another mode, and the search over all.
-- Assumes nothing.
use Rattle.std.specs.Prelude.{MatchOption, Option, Some, None}
use Prim.Native.Nat.{ℕ, zero, suc, ◌+◌, ◌-◌, ◌≤◌, ◌<◌}
use mathlib.Core.Path.{◌≡◌, sym, ◌∙◌, ap}
use mathlib.Core.Bool.{Bool, true, false}
use mathlib.Core.Logic.{⊎_elim}
use native.Mathlib.Nat.{eq-or-lt_of_le, add-zero, zero-add}
use native.Mathlib.Omega.{arith}
use lib.Dec.{eqb}
use borrow.Author.Tests.{eq-eqb}
use Rattle.model.specs.Words.{first}
use Rattle.model.specs.Tables.{Tables, ports, row}
use Rattle.model.specs.Events.{Event}
use Rattle.model.specs.Services.{is_named, look_up}
use Rattle.model.proofs.Searches.{first-stop}

-- the caller's row, but of another mode
pub not-mode : (t : Tables) (p mode : ℕ) (e : Event) (k : ℕ) → (row t k).owner ≡ p → eqb (row t k).mode mode ≡ false → is_named t p mode e k ≡ false
unfolding is_named
not-mode t p mode e k o h = rw (eq-eqb (row t k).owner p o, h)

-- the first number that passes, where all before it fail; and where none passes
first-at : (p : ℕ → Bool) (n k i : ℕ) → k ≤ i → i < k + n → p i ≡ true → ((j : ℕ) → k ≤ j → j < i → p j ≡ false) → first p n k ≡ i
first-at p zero k i l h here before = absurd (omega arith)
first-at p (suc n) k i l h here before =
    ⊎_elim
    (λ (e : k ≡ i). rw (ap p e ∙ here) e)
    (λ (q : k < i). rw (before k (omega arith) q) (first-at p n (suc k) i (omega arith) (omega arith) here (λ j a b. before j (omega arith) b)))
    (eq-or-lt_of_le l)

first-none : (p : ℕ → Bool) (n k : ℕ) → ((j : ℕ) → k ≤ j → j < k + n → p j ≡ false) → first p n k ≡ k + n
first-none p zero k all = sym (add-zero k)
first-none p (suc n) k all = rw (all k (omega arith) (omega arith)) (first-none p n (suc k) (λ j a b. all j (omega arith) (omega arith)) ∙ omega arith)

-- what a search of the numbers below n found is the model's first
pub found : (p : ℕ → Bool) (n : ℕ) (r : Option ℕ)
    → MatchOption r ((k : ℕ) → 0 ≤ k → k < n → p k ≡ false) (λ i. (0 ≤ i) × (i < n) × (p i ≡ true) × ((k : ℕ) → 0 ≤ k → k < i → p k ≡ false))
    → MatchOption r (first p n 0 ≡ n) (λ i. (i < n) × (i ≡ first p n 0))
found p n None h = first-none p n 0 (λ j a b. h j a (omega arith)) ∙ zero-add n
found p n (Some i) h = (h.1, sym (first-at p n 0 i (omega arith) (omega (arith, h.1)) h.2 h.3))

-- where the model's search stands at row k, and that row passes, it is the one looked up
pub found-row : (t : Tables) (p mode : ℕ) (e : Event) (k : ℕ) → look_up t p mode e ≡ first (is_named t p mode e) (ports t - k) k
    → {x : Bool} → k < ports t → x ≡ is_named t p mode e k → x ≡ true → k ≡ look_up t p mode e
found-row t p mode e k rest l tested is = sym (rest ∙ first-stop (is_named t p mode e) (ports t) k l (sym tested ∙ is))
