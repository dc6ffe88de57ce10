-- The contract of `judge` settles its answer: two verdicts that show the same are equal.
-- Assumes nothing.
use Rattle.std.specs.Prelude.{if◌then◌else◌, eqb, Result, Ok, Err}
use Prim.Native.Nat.{ℕ}
use mathlib.Core.Path.{◌≡◌, refl, ap, sym, ◌∙◌}
use Rattle.model.specs.Load.{refused}
use Rattle.loader.specs.declared.refusal.Fault.{Fault}
use Rattle.loader.specs.declared.refusal.Fault.TheVariants.{Length, Kind, Count, Field, Name, End, NoWindow}
use Rattle.loader.specs.declared.refusal.Refused.{Refused}
use Rattle.loader.specs.Shown.{number_of, verdict_of}

-- the fault of a number
abbrev fault_of : ℕ → Fault
fault_of n =
    if eqb n 20 then Length
    else if eqb n 21 then Kind
    else if eqb n 22 then Count
    else if eqb n 23 then Field
    else if eqb n 24 then Name
    else if eqb n 25 then End
    else NoWindow

fault_of-number_of : (f : Fault) → fault_of (number_of f) ≡ f
fault_of-number_of Length = refl
fault_of-number_of Kind = refl
fault_of-number_of Count = refl
fault_of-number_of Field = refl
fault_of-number_of Name = refl
fault_of-number_of End = refl
fault_of-number_of NoWindow = refl

pub number-unique : (f g : Fault) → number_of f ≡ number_of g → f ≡ g
number-unique f g e = sym (fault_of-number_of f) ∙ ap fault_of e ∙ fault_of-number_of g

pub refused-unique : (r s : Refused) → refused (number_of r.fault) r.«record» ≡ refused (number_of s.fault) s.«record» → r ≡ s
refused-unique r s e =
    let number : number_of r.fault ≡ number_of s.fault = cc in
    let fault = number-unique r.fault s.fault number in
    let place : r.«record» ≡ s.«record» = cc in
    λ i. record { fault = fault i; «record» = place i }

pub verdict-unique : (v w : Result Unit Refused) → verdict_of v ≡ verdict_of w → v ≡ w
verdict-unique (Ok _) (Ok _) e = refl
verdict-unique (Ok _) (Err r) e = cc
verdict-unique (Err r) (Ok _) e = cc
verdict-unique (Err r) (Err s) e = ap Err (refused-unique r s e)
