-- The search for the first offending record, and what a record's fault says of it.
-- Assumes nothing.
use Prim.Native.Nat.{ℕ, ◌-◌}
use mathlib.Core.Path.{◌≡◌, ap, sym, ◌∙◌}
use mathlib.Core.Bool.{Bool, true, false, not}
use native.Mathlib.Nat.{sub-zero}
use lib.Dec.{eqb}
use borrow.Author.Tests.{eq-eqb, ne_eqb}
use Rattle.model.specs.Words.{first}
use Rattle.model.specs.Tables.{Tables, records}
use Rattle.model.specs.Load.{fault, first_fault}
use Rattle.loader.specs.declared.refusal.Fault.{Fault}
use Rattle.loader.specs.declared.refusal.Fault.TheVariants.{Length, Kind, Count, Field, Name, End, NoWindow}
use Rattle.loader.specs.Shown.{number_of}

abbrev pub is_faulty : Tables → ℕ → Bool
is_faulty t r = not (eqb (fault t r) 0)

-- no fault has the number 0
unnumbered : (f : Fault) → number_of f ≡ 0 → ⊥
unnumbered Length e = cc
unnumbered Kind e = cc
unnumbered Count e = cc
unnumbered Field e = cc
unnumbered Name e = cc
unnumbered End e = cc
unnumbered NoWindow e = cc

module _ (t : Tables) where
  pub is-faultless : (r : ℕ) → 0 ≡ fault t r → is_faulty t r ≡ false
  is-faultless r e = ap not (eq-eqb _ 0 (sym e))

  -- of any number but 0, and so of each fault
  pub numbered-faulty : (r number : ℕ) → number ≡ fault t r → (number ≡ 0 → ⊥) → is_faulty t r ≡ true
  numbered-faulty r number e h = ap not (ne_eqb _ 0 (λ z. h (e ∙ z)))

  pub is-faulty : (r : ℕ) (f : Fault) → number_of f ≡ fault t r → is_faulty t r ≡ true
  is-faulty r f e = numbered-faulty r (number_of f) e (unnumbered f)

  pub faults-whole : (e : ℕ) → e ≡ records t → first_fault t ≡ first (is_faulty t) (e - 0) 0
  unfolding first_fault
  faults-whole e h = rw (sub-zero, h)
