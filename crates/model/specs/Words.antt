-- The few words in which the other files are written: tests, bounded searches, bytes and little-endian numbers.
-- Assumes nothing.
use Rattle.std.specs.Prelude.{if◌then◌else◌, ℕ, zero, suc, ◌+◌, ◌*◌, ◌/◌, ◌%◌, Bool, true, false, ◌&&◌, ◌||◌, List, [], ◌∷◌, ◌++◌, leb, eqb, get_or, take, drop, replicate}

-- low ≤ x ≤ high
abbrev pub between : ℕ → ℕ → ℕ → Bool
between low high x = leb low x && leb x high

-- one of the n numbers from k on passes
abbrev pub any : (ℕ → Bool) → ℕ → ℕ → Bool
any p zero k = false
any p (suc n) k = p k || any p n (suc k)

-- each of the n numbers from k on passes
abbrev pub all : (ℕ → Bool) → ℕ → ℕ → Bool
all p zero k = true
all p (suc n) k = p k && all p n (suc k)

-- the first of the n numbers from k on that passes; k + n where none does
abbrev pub first : (ℕ → Bool) → ℕ → ℕ → ℕ
first p zero k = k
first p (suc n) k = if p k then k else first p n (suc k)

-- one element of a list passes; each does
module _ {A : Type 0} where
  abbrev pub any_in : (A → Bool) → List A → Bool
  any_in p [] = false
  any_in p (x ∷ xs) = p x || any_in p xs

  abbrev pub all_in : (A → Bool) → List A → Bool
  all_in p [] = true
  all_in p (x ∷ xs) = p x && all_in p xs

-- the byte at a place, and the numbers of two and of four bytes that start there, low byte first
abbrev pub byte : List ℕ → ℕ → ℕ
byte b at = get_or b at 0

abbrev pub word16 : List ℕ → ℕ → ℕ
word16 b at = byte b at + 256 * byte b (at + 1)

abbrev pub word32 : List ℕ → ℕ → ℕ
word32 b at = word16 b at + 65536 * word16 b (at + 2)

-- the other way: the bytes of a number, low byte first
abbrev pub bytes16 : ℕ → List ℕ
bytes16 n = n % 256 ∷ n / 256 % 256 ∷ []

abbrev pub bytes32 : ℕ → List ℕ
bytes32 n = n % 256 ∷ n / 256 % 256 ∷ n / 65536 % 256 ∷ n / 16777216 % 256 ∷ []

abbrev pub zeros : ℕ → List ℕ
zeros n = replicate n 0

-- a list brought to n elements: cut, or zeros after it
abbrev pub filled : ℕ → List ℕ → List ℕ
filled n l = take n (l ++ zeros n)

-- the n bytes from a place on are zero
abbrev pub blank : List ℕ → ℕ → ℕ → Bool
blank b n at = all (λ k. eqb (byte b k) 0) n at

-- a list cut into n records of a size
abbrev pub cut : ℕ → ℕ → List ℕ → List (List ℕ)
cut size zero b = []
cut size (suc n) b = take size b ∷ cut size n (drop size b)
