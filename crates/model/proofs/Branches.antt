-- Two choices by tests that agree, compared branch by branch.
-- Assumes nothing.
use Rattle.std.specs.Prelude.{if◌then◌else◌}
use mathlib.Core.Path.{◌≡◌, refl}
use mathlib.Core.Bool.{Bool, true, false, ◌&&◌, true≢false, false≢true}

-- they are related if their branches are
pub if-alike :
    {A : Type 0} (R : A → A → Type 0) (b b' : Bool) {x x' y y' : A} → b ≡ b' → (b ≡ true → R x x') → (b ≡ false → R y y')
    → R (if b then x else y) (if b' then x' else y')
if-alike R true true same yea nay = yea refl
if-alike R false false same yea nay = nay refl
if-alike R true false same yea nay = absurd (true≢false same)
if-alike R false true same yea nay = absurd (false≢true same)

-- in a joined test the second part counts only where the first holds
pub and_same : (a b b' : Bool) → (a ≡ true → b ≡ b') → (a && b) ≡ (a && b')
and_same true b b' same = same refl
and_same false b b' same = refl
