-- Any two outcomes that meet the contract of a public call, for the same input, are equal: result, state and every lent byte.
-- Assumes nothing.
use Rattle.std.specs.Prelude.{Result, Ok, Err}
use Prim.Native.Nat.{ℕ}
use mathlib.Core.Path.{◌≡◌, refl, ap, sym, ◌∙◌}
use mathlib.Core.Bool.{Bool}
use mathlib.Core.List.{List}
use Rattle.loader.proofs.Unique as Verdicts
use Rattle.states.specs.declared.State.{State}
use Rattle.loader.specs.declared.refusal.Refused.{Refused}
use Rattle.loader.specs.Shown.{verdict_of}
use Rattle.kernel.specs.declared.refusal.ListRefusal.{ListRefusal}
use Rattle.kernel.specs.declared.refusal.ListRefusal.TheVariants.{EventsLength, AnswersShort, StateRefused}
use Rattle.kernel.specs.declared.reader.Stretch.{Stretch}
use Rattle.kernel.specs.Shown.{number_of, refusal_numbered, refusal_of, state_kept}
use Rattle.kernel.proofs.Laws.{unnumbered}
use Rattle.kernel.specs.Meets.{LoadMeets, TestMeets, ListMeets, RunMeets, StepMeets, NumberMeets, StretchMeets, ReadMeets}

pub load-unique : (t : List ℕ) (a b : Result State Refused) → LoadMeets t a → LoadMeets t b → a ≡ b
load-unique t (Ok x) (Ok y) p q = ap Ok (p.state ∙ sym q.state)
load-unique t (Ok x) (Err s) p q = let same : verdict_of (Ok x) ≡ verdict_of {A = State} (Err s) = p.verdict ∙ sym q.verdict in cc
load-unique t (Err r) (Ok y) p q = let same : verdict_of {A = State} (Err r) ≡ verdict_of (Ok y) = p.verdict ∙ sym q.verdict in cc
load-unique t (Err r) (Err s) p q = ap Err (Verdicts.refused-unique r s (p.verdict ∙ sym q.verdict))

pub test-unique : (t : List ℕ) (st : State) (a b : Bool) → TestMeets t st a → TestMeets t st b → a ≡ b
test-unique t st a b p q = p ∙ sym q

refusal_numbered-number_of : (e : ListRefusal) → refusal_numbered (number_of e) ≡ e
refusal_numbered-number_of EventsLength = refl
refusal_numbered-number_of AnswersShort = refl
refusal_numbered-number_of StateRefused = refl

-- a result and the answers beside it
pub record Same (a : Result State ListRefusal) (answers : List ℕ) (b : Result State ListRefusal) (answers' : List ℕ) : Type 0 where
  pub result : a ≡ b
  pub answered : answers ≡ answers'

result-unique : (st : State) (a b : Result State ListRefusal) → refusal_of a ≡ refusal_of b → state_kept st a ≡ state_kept st b → a ≡ b
result-unique st (Ok x) (Ok y) p q = ap Ok q
result-unique st (Ok x) (Err f) p q = absurd (unnumbered f (sym p))
result-unique st (Err e) (Ok y) p q = absurd (unnumbered e p)
result-unique st (Err e) (Err f) p q = ap Err (sym (refusal_numbered-number_of e) ∙ ap refusal_numbered p ∙ refusal_numbered-number_of f)

list-unique : (fault : ℕ) (t : List ℕ) (st : State) (events buffer : List ℕ) (a b : Result State ListRefusal) (x y : List ℕ) → ListMeets fault t st events buffer a x → ListMeets fault t st events buffer b y
    → Same a x b y
list-unique fault t st events buffer a b x y p q =
    record { result = result-unique st a b (p.refusal ∙ sym q.refusal) (p.state ∙ sym q.state); answered = p.answered ∙ sym q.answered }

pub run-unique : (t : List ℕ) (st : State) (events buffer : List ℕ) (a b : Result State ListRefusal) (x y : List ℕ) → RunMeets t st events buffer a x → RunMeets t st events buffer b y → Same a x b y
run-unique t st events buffer = list-unique _ t st events buffer

pub step-unique : (t : List ℕ) (st : State) (event buffer : List ℕ) (a b : Result State ListRefusal) (x y : List ℕ) → StepMeets t st event buffer a x → StepMeets t st event buffer b y → Same a x b y
step-unique t st event buffer = list-unique _ t st event buffer

pub number-unique : (e : ListRefusal) (m n : ℕ) → NumberMeets e m → NumberMeets e n → m ≡ n
number-unique e m n p q = p ∙ sym q

pub place-unique : (b : List ℕ) (n : ℕ) (x y : Stretch) → StretchMeets b n x → StretchMeets b n y → x ≡ y
place-unique b n x y p q = λ i. record { from = (p.from ∙ sym q.from) i; size = (p.size ∙ sym q.size) i }

pub read-unique : (b : List ℕ) (n : ℕ) (x y : List ℕ) → ReadMeets b n x → ReadMeets b n y → x ≡ y
read-unique b n x y p q = p ∙ sym q
