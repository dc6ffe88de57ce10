-- Demand 3 for any machine: four conditions of one step, and what they give for whole lists.
-- One law, by induction on one list, compares a run with the run of its mattering events alone. The theorem uses it twice.
-- Assumes nothing: the conditions are a record that a machine's own proofs fill.
use Rattle.std.specs.Prelude.{if◌then◌else◌}
use Prim.Native.Nat.{ℕ}
use mathlib.Core.Path.{◌≡◌, refl, sym, ap, ◌∙◌}
use mathlib.Core.Bool.{Bool, true, false, or-true}
use mathlib.Core.List.{List, [], ◌∷◌}
use lib.Dec.{eqb}
use borrow.Author.Tests.{eqb-true, eq-eqb}
use Rattle.model.proofs.Tests.{neither_left, neither_right}
use Rattle.model.specs.Words.{any_in}
use Rattle.model.specs.Walk.{is_member, matters, final_set, mattering}

-- a machine: states S, events E, answers A, and what a doer holds in H. The schedulers are in every walk's set from the start
pub record Machine (S E A H : Type 0) : Type 0 where
  pub after : S → E → S
  pub doer : S → E → ℕ
  pub answer : S → E → A
  pub hands : ℕ → ℕ → Bool
  pub holds : S → ℕ → H
  pub schedulers : List ℕ

module _ {S E A H : Type 0} (m : Machine S E A H) where
  -- the state after a list, and the answers to the events of one doer
  abbrev pub end_of : S → List E → S
  end_of s [] = s
  end_of s (e ∷ es) = end_of (m.after s e) es

  abbrev pub answers_of : ℕ → S → List E → List A
  answers_of p s [] = []
  answers_of p s (e ∷ es) =
      let later = answers_of p (m.after s e) es in
      if eqb (m.doer s e) p then m.answer s e ∷ later else later

  -- two states agree on what each of some doers holds
  abbrev pub Agree : List ℕ → S → S → Type 0
  Agree members s s' = (d : ℕ) → is_member d members ≡ true → m.holds s d ≡ m.holds s' d

  -- the walk of demand 3 for p
  abbrev pub set_for : ℕ → S → List E → List ℕ
  set_for p s es = final_set m.after m.doer m.hands (p ∷ m.schedulers) s es

  abbrev pub mattering_for : ℕ → S → List E → List E
  mattering_for p s es = mattering m.after m.doer m.hands (p ∷ m.schedulers) s es

  -- the event e with the list es after it: it matters, and the walk's set when it comes to e
  abbrev pub matters_for : ℕ → S → E → List E → Bool
  matters_for p s e es = matters m.hands (m.doer s e) (set_for p (m.after s e) es)

  abbrev pub later : ℕ → S → E → List E → List ℕ
  later p s e es = set_for p (m.after s e) es

-- the unwinding conditions, for states with an invariant that each step keeps
pub record Conditions {S E A H : Type 0} (m : Machine S E A H) (Good : S → Type 0) : Type 0 where
  pub keeps : (s : S) (e : E) → Good s → Good (m.after s e)
  -- the doer depends only on what the schedulers hold
  pub doers : (s s' : S) (e : E) → Good s → Good s' → Agree m m.schedulers s s' → m.doer s e ≡ m.doer s' e
  -- an event leaves alone what its doer neither is nor hands to
  pub leaves :
      (s : S) (e : E) (d : ℕ) → Good s → eqb (m.doer s e) d ≡ false → m.hands (m.doer s e) d ≡ false
      → m.holds (m.after s e) d ≡ m.holds s d
  -- agreement on the schedulers, on the doer and on d carries over a step to d
  pub carries :
      (s s' : S) (e : E) (d : ℕ) → Good s → Good s' → Agree m m.schedulers s s'
      → m.holds s (m.doer s e) ≡ m.holds s' (m.doer s e) → m.holds s d ≡ m.holds s' d
      → m.holds (m.after s e) d ≡ m.holds (m.after s' e) d
  -- agreement on the schedulers and on the doer gives the same answer
  pub tells :
      (s s' : S) (e : E) → Good s → Good s' → Agree m m.schedulers s s'
      → m.holds s (m.doer s e) ≡ m.holds s' (m.doer s e) → m.answer s e ≡ m.answer s' e

-- sets: a doer that does not matter is no member and hands to none
none_passes : (p : ℕ → Bool) (members : List ℕ) (x : ℕ) → any_in p members ≡ false → is_member x members ≡ true → p x ≡ false
none_passes p [] x none h = cc
none_passes p (y ∷ ys) x none h = go (eqb x y) refl (none_passes p ys x (neither_right (p y) (any_in p ys) none))
  where
    go : (b : Bool) → eqb x y ≡ b → (is_member x ys ≡ true → p x ≡ false) → p x ≡ false
    go true e after = ap p (eqb-true x y e) ∙ neither_left (p y) (any_in p ys) none
    go false e after = after (rw e at h)

-- what the comparison of two runs gives, for the walk that starts with p and the schedulers
pub record SameRun {S E A H : Type 0} (m : Machine S E A H) (p : ℕ) (s : S) (es : List E) (s' : S) (es' : List E) : Type 0 where
  pub sets : set_for m p s es ≡ set_for m p s' es'
  pub events : mattering_for m p s es ≡ mattering_for m p s' es'
  pub answers : (q : ℕ) → is_member q (p ∷ m.schedulers) ≡ true → answers_of m q s es ≡ answers_of m q s' es'
  pub ends : Agree m (p ∷ m.schedulers) (end_of m s es) (end_of m s' es')

module _ {S E A H : Type 0} (m : Machine S E A H) where
  -- the walk loses no member: who is in the set at first is in it at the end
  stays : (p x : ℕ) (s : S) (es : List E) → is_member x (p ∷ m.schedulers) ≡ true → is_member x (set_for m p s es) ≡ true
  stays p x s [] h = h
  stays p x s (e ∷ es) h = go (matters_for m p s e es) (stays p x (m.after s e) es h)
    where
      go : (b : Bool) → is_member x (later m p s e es) ≡ true
          → is_member x (if b then m.doer s e ∷ later m p s e es else later m p s e es) ≡ true
      go true h = rw (h, or-true)
      go false h = h

  -- agreement on a set with the schedulers in it is agreement on the schedulers
  on-schedulers : (p : ℕ) (s s' : S) (a : S) (es : List E) → Agree m (set_for m p a es) s s' → Agree m m.schedulers s s'
  on-schedulers p s s' a es agree d h = agree d (stays p d a es (rw (h, or-true)))

  module _ (Good : S → Type 0) (conditions : Conditions m Good) (p : ℕ) where
    -- one event more, which matters: both runs take it
    both-take :
        (s s' : S) (e : E) (es es' : List E) → Good s → Good s'
        → matters_for m p s e es ≡ true
        → Agree m (m.doer s e ∷ later m p s e es) s s'
        → (Agree m (later m p s e es) (m.after s e) (m.after s' e) → SameRun m p (m.after s e) es (m.after s' e) es')
        → SameRun m p s (e ∷ es) s' (e ∷ es')
    both-take s s' e es es' good good' matter agree rest =
        record {
          sets = rw (← rest-same.sets, ← same-doer, matter);
          events = rw (← rest-same.sets, ← rest-same.events, ← same-doer, matter);
          answers = λ q h. rw (← same-doer, ← same_answer, rest-same.answers q h);
          ends = rest-same.ends;
        }
      where
        on-set : Agree m (later m p s e es) s s'
        on-set d h = agree d (rw (h, or-true))

        on-clock : Agree m m.schedulers s s'
        on-clock = on-schedulers p s s' (m.after s e) es on-set

        on-doer : m.holds s (m.doer s e) ≡ m.holds s' (m.doer s e)
        on-doer = agree (m.doer s e) (rw (eq-eqb (m.doer s e) (m.doer s e) refl))

        same-doer : m.doer s e ≡ m.doer s' e
        same-doer = conditions.doers s s' e good good' on-clock

        same_answer : m.answer s e ≡ m.answer s' e
        same_answer = conditions.tells s s' e good good' on-clock on-doer

        rest-same : SameRun m p (m.after s e) es (m.after s' e) es'
        rest-same = rest (λ d h. conditions.carries s s' e d good good' on-clock on-doer (on-set d h))

    -- one event more, which does not matter: the first run alone takes it
    one-takes :
        (s s' : S) (e : E) (es es' : List E) → Good s
        → matters_for m p s e es ≡ false
        → Agree m (later m p s e es) s s'
        → (Agree m (later m p s e es) (m.after s e) s' → SameRun m p (m.after s e) es s' es')
        → SameRun m p s (e ∷ es) s' es'
    one-takes s s' e es es' good idle agree rest =
        record {
          sets = rw idle rest-same.sets;
          events = rw idle rest-same.events;
          answers = λ q h. rw (no_member q (stays p q (m.after s e) es h)) (rest-same.answers q h);
          ends = rest-same.ends;
        }
      where
        no_member : (d : ℕ) → is_member d (later m p s e es) ≡ true → eqb (m.doer s e) d ≡ false
        no_member d h = none_passes (eqb (m.doer s e)) (later m p s e es) d (neither_left _ _ idle) h

        no-hand : (d : ℕ) → is_member d (later m p s e es) ≡ true → m.hands (m.doer s e) d ≡ false
        no-hand d h =
            none_passes (m.hands (m.doer s e)) (later m p s e es) d (neither_right (is_member (m.doer s e) (later m p s e es)) _ idle) h

        rest-same : SameRun m p (m.after s e) es s' es'
        rest-same = rest (λ d h. conditions.leaves s e d good (no_member d h) (no-hand d h) ∙ agree d h)

    -- the one law: a run of a list, and a run of its mattering events alone from a state that agrees on the final set
    pub alone :
        (s s' : S) (es : List E) → Good s → Good s' → Agree m (set_for m p s es) s s'
        → SameRun m p s es s' (mattering_for m p s es)
    alone s s' [] good good' agree = record { sets = refl; events = refl; answers = λ q h. refl; ends = agree }
    alone s s' (e ∷ es) good good' agree =
        go (matters_for m p s e es) refl agree
        (λ x good-x. alone (m.after s e) x es (conditions.keeps s e good) good-x)
      where
        go :
            (b : Bool) → matters_for m p s e es ≡ b
            → Agree m (if b then m.doer s e ∷ later m p s e es else later m p s e es) s s'
            → ((x : S) → Good x → Agree m (later m p s e es) (m.after s e) x
            → SameRun m p (m.after s e) es x (mattering_for m p (m.after s e) es))
            → SameRun m p s (e ∷ es) s' (if b then e ∷ mattering_for m p (m.after s e) es else mattering_for m p (m.after s e) es)
        go true matter on rest =
            both-take s s' e es (mattering_for m p (m.after s e) es) good good' matter on (rest (m.after s' e) (conditions.keeps s' e good'))
        go false idle on rest = one-takes s s' e es (mattering_for m p (m.after s e) es) good idle on (rest s' good')

    -- the theorem: two lists with the same mattering events, from states that agree on the final set of one
    pub unwinding :
        (s s' : S) (es es' : List E) → Good s → Good s' → Agree m (set_for m p s es) s s'
        → mattering_for m p s es ≡ mattering_for m p s' es' → SameRun m p s es s' es'
    unwinding s s' es es' good good' agree same =
        record {
          sets = one.sets ∙ sym other.sets;
          events = same;
          answers = λ q h. one.answers q h ∙ sym (other.answers q h);
          ends = λ d h. one.ends d h ∙ sym (other.ends d h);
        }
      where
        one : SameRun m p s es s' (mattering_for m p s' es')
        one = rw same at (alone s s' es good good' agree)

        other : SameRun m p s' es' s' (mattering_for m p s' es')
        other = alone s' s' es' good' good' (λ d h. refl)
