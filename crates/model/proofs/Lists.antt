-- Lists of events: the run of two lists joined is run after run, for lists of records and for their bytes; answers are records of 80 bytes.
-- Assumes nothing.
use Prim.Native.Nat.{ℕ, zero, suc, ◌+◌, ◌*◌, ◌/◌, ◌%◌, ◌≤◌}
use mathlib.Core.Path.{◌≡◌, refl, sym, ◌∙◌, ap}
use mathlib.Core.List.{List, [], ◌∷◌, ◌++◌, append_assoc}
use native.Mathlib.Nat.{zero-add, suc-add}
use native.Mathlib.Omega.{arith}
use lib.ListN.{length, take, drop, length-append, length-drop, length-replicate}
use lib.Seq.{take-append-le, drop-append-le, length-take-le}
use Rattle.model.specs.Words.{cut, zeros, filled}
use Rattle.model.specs.Tables.{Tables}
use Rattle.model.specs.State.{State}
use Rattle.model.specs.Events.{Event, event_size}
use Rattle.model.specs.Answers.{refusal, told}
use Rattle.model.specs.Services.{Reply, refuse, done}
use Rattle.model.specs.Step.{answer, after, answer_of, reply, doer}
use Rattle.model.specs.Run.{answers, after_all, events_of, joined}

-- lists of records of one size
pub data Sized (size : ℕ) : List (List ℕ) → Type 0 where
  none : Sized size []
  one : {e : List ℕ} {es : List (List ℕ)} → length e ≡ size → Sized size es → Sized size (e ∷ es)

module _ (t : Tables) where
  pub after-append : (s : State) (xs ys : List Event) → after_all t s (xs ++ ys) ≡ after_all t (after_all t s xs) ys
  after-append s [] ys = refl
  after-append s (x ∷ xs) ys = after-append (after t s x) xs ys

  pub answers-append : (s : State) (xs ys : List Event) → answers t s (xs ++ ys) ≡ answers t s xs ++ answers t (after_all t s xs) ys
  answers-append s [] ys = refl
  answers-append s (x ∷ xs) ys = ap (λ l. answer t s x ∷ l) (answers-append (after t s x) xs ys)

pub joined-append : (xs ys : List (List ℕ)) → joined (xs ++ ys) ≡ joined xs ++ joined ys
joined-append [] ys = refl
joined-append (x ∷ xs) ys = ap (λ l. x ++ l) (joined-append xs ys) ∙ sym (append_assoc x (joined xs) (joined ys))

-- an answer has 80 bytes
filled-length : (n : ℕ) (l : List ℕ) → length (filled n l) ≡ n
filled-length n l = length-take-le n (l ++ zeros n) (simp (length-append, length-replicate) (omega arith))

pub answer-length : (t : Tables) (s : State) (e : Event) → length (answer t s e) ≡ event_size
unfolding answer refusal told
answer-length t s e = go (reply t s e)
  where
    go : (r : Reply) → length (answer_of (doer t s e) r) ≡ event_size
    go (refuse code) = refl
    go (done v s') = omega (arith, filled-length 64 v.message)

-- the bytes of whole records joined are cut into the records of each
empty : (l : List ℕ) → length l ≡ 0 → l ≡ []
empty [] e = refl
empty (x ∷ l) e = absurd (omega arith)

cut-append : (size n m : ℕ) (a b : List ℕ) → length a ≡ size * n → cut size (n + m) (a ++ b) ≡ cut size n a ++ cut size m b
cut-append size zero m a b e =
    let none : a ≡ [] = empty a (omega arith) in
    rw (none, zero-add)
cut-append size (suc n) m a b e =
    let long : size ≤ length a = omega arith in
    let less : length (drop size a) ≡ size * n = simp length-drop (omega arith) in
    rw (suc-add, take-append-le size a b long, drop-append-le size a b long)
    (ap (λ l. take size a ∷ l) (cut-append size n m (drop size a) b less))

pub events-append : (a b : List ℕ) → length a % event_size ≡ 0 → events_of (a ++ b) ≡ events_of a ++ events_of b
unfolding events_of
events-append a b e =
    let count : length (a ++ b) / 80 ≡ length a / 80 + length b / 80 = simp length-append (omega arith) in
    rw count (cut-append 80 (length a / 80) (length b / 80) a b (omega arith))

-- each record of whole records has 80 bytes
cut-sizes : (size n : ℕ) (b : List ℕ) → size * n ≤ length b → Sized size (cut size n b)
cut-sizes size zero b h = none
cut-sizes size (suc n) b h =
    one (length-take-le size b (omega arith)) (cut-sizes size n (drop size b) (simp length-drop (omega arith)))

pub events-sized : (b : List ℕ) → Sized event_size (events_of b)
unfolding events_of
events-sized b = cut-sizes 80 (length b / 80) b (omega arith)
