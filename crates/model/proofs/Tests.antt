-- What a test that is joined from others tells of its parts, and a case split on a test that keeps its equation.
-- Assumes nothing.
use Rattle.std.specs.Prelude.{if◌then◌else◌}
use Prim.Native.Nat.{ℕ, ◌≤◌, ◌<◌}
use mathlib.Core.Path.{◌≡◌, refl, sym}
use mathlib.Core.Bool.{Bool, true, false, ◌&&◌, ◌||◌, true≢false}
use mathlib.Core.Logic.{◌⊎◌, inl, inr}
use native.Mathlib.Omega.{arith}
use lib.Dec.{leb, ltb}
use borrow.Author.Tests.{leb-true, le-leb, ltb-true, ltb-false}
use Rattle.model.specs.Words.{between}

pub both_left : (a b : Bool) → (a && b) ≡ true → a ≡ true
both_left true b e = refl
both_left false b e = e

pub both_right : (a b : Bool) → (a && b) ≡ true → b ≡ true
both_right true b e = e
both_right false b e = absurd (true≢false (sym e))

pub both : {a b : Bool} → a ≡ true → b ≡ true → (a && b) ≡ true
both {a} {b} p q = cc

pub neither_left : (a b : Bool) → (a || b) ≡ false → a ≡ false
neither_left true b e = e
neither_left false b e = refl

pub neither_right : (a b : Bool) → (a || b) ≡ false → b ≡ false
neither_right true b e = absurd (true≢false e)
neither_right false b e = e

pub between-low : (low high x : ℕ) → between low high x ≡ true → low ≤ x
between-low low high x e = leb-true low x (both_left (leb low x) (leb x high) e)

pub between-high : (low high x : ℕ) → between low high x ≡ true → x ≤ high
between-high low high x e = leb-true x high (both_right (leb low x) (leb x high) e)

pub is-between : (low high x : ℕ) → low ≤ x → x ≤ high → between low high x ≡ true
is-between low high x l h = both (le-leb low x l) (le-leb x high h)

pub three : (a b : ℕ) → (a < b) ⊎ ((a ≡ b) ⊎ (b < a))
three a b = go (ltb a b) (ltb b a) refl refl
  where
    go : (x y : Bool) → ltb a b ≡ x → ltb b a ≡ y → (a < b) ⊎ ((a ≡ b) ⊎ (b < a))
    go true y p q = inl (ltb-true a b p)
    go false true p q = inr (inr (ltb-true b a q))
    go false false p q = inr (inl (omega (arith, ltb-false a b p, ltb-false b a q)))

-- what holds of both arms, each under its test, holds of the choice
pub by-test : {A : Type 0} (P : A → Type 0) (b : Bool) {x y : A} → (b ≡ true → P x) → (b ≡ false → P y) → P (if b then x else y)
by-test P true f g = f refl
by-test P false f g = g refl
