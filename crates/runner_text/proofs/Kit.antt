-- The kit's decimal and hexadecimal text of a number and of bytes is this one. Assumes nothing.
use Prim.Native.Nat.{ℕ, zero, suc, ◌+◌, ◌/◌, ◌%◌, ◌^◌, ◌≤◌, ◌<◌}
use mathlib.Core.Path.{◌≡◌, refl, sym, ap, ◌∙◌}
use mathlib.Core.Bool.{Bool, true, false, ◌&&◌}
use mathlib.Core.List.{List, [], ◌∷◌, ◌++◌}
use native.Mathlib.Omega.{arith}
use lib.Dec.{eqb, ltb}
use lib.ListN.{get_or}
use borrow.Author.Tests.{ltb-true, ltb-false, eqb-true}
use Rattle.std.specs.Fmt.{decimal as kit_decimal}
use Rattle.std.proofs.lemmas.Fmt.{decimal_digit, decimal_step}
use Rattle.std.proofs.lemmas.Bool.{and_parts, cases_lt}
use Rattle.std.proofs.Common.{inl, inr}
use Rattle.hex.specs.Hex.{IsBytes, encode_lower, encode_with, lower_digits}
use Rattle.runner_text.specs.Text.{digits, decimal, hex, hex_byte, hex_digit}
use Rattle.runner_text.proofs.Laws.{digits-one, digits-next}
use Rattle.runner_text.proofs.Said.{tens}

some_places : (k : ℕ) → 1 < tens k → 0 < k
some_places zero h = absurd (omega arith)
some_places (suc k) h = omega arith

digits-kit : (k n : ℕ) → n < tens k → n < 2 ^ 64 → 0 < k → digits k n ≡ kit_decimal n
digits-kit zero n low fits some = absurd (omega arith)
digits-kit (suc k) n low fits some = go (ltb n 10) refl (digits-kit k (n / 10))
  where
    go : (b : Bool) → ltb n 10 ≡ b → (n / 10 < tens k → n / 10 < 2 ^ 64 → 0 < k → digits k (n / 10) ≡ kit_decimal (n / 10)) → digits (suc k) n ≡ kit_decimal n
    go true h before = digits-one (suc k) n (λ e. omega (arith, e)) (ltb-true n 10 h) ∙ sym (decimal_digit n (ltb-true n 10 h))
    go false h before =
        let high : 10 ≤ n = ltb-false n 10 h in
        digits-next k n high
        ∙ ap (λ ds. ds ++ ((48 + n % 10) ∷ [])) (before (omega arith) (omega arith) (some_places k (omega arith)))
        ∙ sym (decimal_step n high fits)

pub decimal-kit : (n : ℕ) → n < 2 ^ 64 → decimal n ≡ kit_decimal n
unfolding decimal
decimal-kit n fits = digits-kit 20 n (omega arith) fits (omega arith)

-- the digits of both, place by place
abbrev same_digits : ℕ → Bool
same_digits zero = true
same_digits (suc n) = eqb (hex_digit n) (get_or lower_digits n 0) && same_digits n

digit-kit : (n d : ℕ) → same_digits n ≡ true → d < n → hex_digit d ≡ get_or lower_digits d 0
digit-kit zero d h low = absurd (omega arith)
digit-kit (suc n) d h low =
    let parts = and_parts (eqb (hex_digit n) (get_or lower_digits n 0)) (same_digits n) h in
    elim (cases_lt d n) [
      | inl below ↦ digit-kit n d parts.1 below
      | inr top ↦
          let e : d ≡ n = omega arith in
          rw e (eqb-true (hex_digit n) (get_or lower_digits n 0) parts.0)
    ]

pub hex-kit : (bytes : List ℕ) → IsBytes bytes → hex bytes ≡ encode_lower bytes
unfolding hex_byte encode_with
hex-kit [] fits = refl
hex-kit (b ∷ bytes) fits =
    let low : b < 256 = fits 0 in
    let first = digit-kit 16 (b / 16) refl (omega arith) in
    let second = digit-kit 16 (b % 16) refl (omega arith) in
    let others = hex-kit bytes (λ k. fits (suc k)) in
    cc
