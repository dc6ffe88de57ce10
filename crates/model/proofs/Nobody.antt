-- Nobody, doer 255, never matters in the backward walk. 01 says so of the events answered 16 to 19, whose doer it is. It is a fact of accepted
-- tables: partitions are 0 to 15, the scheduler is 32, channels are 64 to 95. So nobody hands to none, and no walk from a partition takes it in.
-- Assumes nothing: reached states have accepted tables.
use Rattle.std.specs.Prelude.{if◌then◌else◌}
use Prim.Native.Nat.{ℕ, ◌+◌, ◌-◌, ◌<◌}
use native.Mathlib.Omega.{arith}
use mathlib.Core.Path.{◌≡◌, refl}
use mathlib.Core.Bool.{Bool, true, false, ◌&&◌}
use mathlib.Core.List.{List, [], ◌∷◌}
use lib.Dec.{leb, ltb, eqb}
use borrow.Author.Tests.{ltb-true, le-ltb, ne_eqb}
use Rattle.model.proofs.Accepted.{Accepted, accepted}
use Rattle.model.proofs.Conditions.{Fitting, turn-fits}
use Rattle.model.proofs.Reached.{reached-accepted}
use Rattle.model.proofs.Shaped.{Shaped, after-shaped, reached-shaped}
use Rattle.model.proofs.Tests.{both_right, by-test}
use Rattle.model.specs.Words.{any_in}
use Rattle.model.specs.Tables.{Tables, channels, row, source_port}
use Rattle.model.specs.State.{State}
use Rattle.model.specs.Events.{Event}
use Rattle.model.specs.Step.{Turn, no_turn, clock_turn, call_turn, move_turn, turn, scheduler, first_channel, nobody, doer_in, doer, after}
use Rattle.model.specs.Run.{Reached}
use Rattle.model.specs.Walk.{is_member, matters}
use Rattle.model.specs.Flow.{is_channel, hands, set_of, mattering_to}

module _ (t : Tables) (laws : Accepted t) where
  no-channel : is_channel t nobody ≡ false
  no-channel = let few = laws.few_channels in le-ltb (nobody - first_channel) (channels t) (omega arith)

  -- a source port has an owner, and nobody is none
  no-source-owner : (x : ℕ) → (is_channel t x && eqb (row t (source_port t (x - first_channel))).owner nobody) ≡ false
  no-source-owner x = go (is_channel t x) refl
    where
      go : (b : Bool) → is_channel t x ≡ b → (b && eqb (row t (source_port t (x - first_channel))).owner nobody) ≡ false
      go false e = refl
      go true e =
          let there = ltb-true _ _ (both_right (leb first_channel x) (ltb (x - first_channel) (channels t)) e) in
          let owned = (laws.rows _ (laws.sources (x - first_channel) there).there).owned in
          ne_eqb (row t (source_port t (x - first_channel))).owner nobody (λ is. omega arith)

  pub nobody-hands-to-none : (x : ℕ) → hands t nobody x ≡ false
  unfolding hands
  nobody-hands-to-none x = rw (no-source-owner x, no-channel)

  hands-to-no-member : (members : List ℕ) → any_in (hands t nobody) members ≡ false
  hands-to-no-member [] = refl
  hands-to-no-member (x ∷ xs) = rw (nobody-hands-to-none x) (hands-to-no-member xs)

  -- so it matters to no set that it is not in, and does not join one
  matters-not : (members : List ℕ) → is_member nobody members ≡ false → matters (hands t) nobody members ≡ false
  matters-not members out = rw out (hands-to-no-member members)

  other-joins :
      (members : List ℕ) → is_member nobody members ≡ false → (d : ℕ) → (nobody ≡ d → ⊥)
      → is_member nobody (if matters (hands t) d members then d ∷ members else members) ≡ false
  other-joins members out d other =
      by-test (λ (l : List ℕ). is_member nobody l ≡ false) (matters (hands t) d members) (λ h. rw (ne_eqb nobody d other) out) (λ h. out)

  stays_out :
      (members : List ℕ) → is_member nobody members ≡ false → (whose : Turn) → Fitting t whose
      → is_member nobody (if matters (hands t) (doer_in whose) members then doer_in whose ∷ members else members) ≡ false
  stays_out members out (no_turn code) fits = rw (matters-not members out) out
  stays_out members out clock_turn fits = other-joins members out scheduler (omega arith)
  stays_out members out (call_turn p f) fits = other-joins members out p (omega arith)
  stays_out members out (move_turn c) fits = let few = laws.few_channels in other-joins members out (first_channel + c) (omega arith)

  module _ (p : ℕ) (few : p < 16) where
    never-in : (s : State) → Shaped t s → (es : List Event) → is_member nobody (set_of t p s es) ≡ false
    unfolding set_of doer
    never-in s shape [] = rw (ne_eqb nobody p (λ is. omega arith))
    never-in s shape (e ∷ es) =
        stays_out (set_of t p (after t s e) es) (never-in (after t s e) (after-shaped t laws s e shape) es) (turn t s e) (turn-fits t laws s e shape)

-- in the words of demand 3: tables, a partition, a reached state and a list
module _ (t : Tables) (p : ℕ) (few : p < 16) (s : State) (reached : Reached t s) where
  laws-of : Accepted t
  laws-of = accepted t (reached-accepted t s reached)

  -- nobody is in no set of a walk,
  pub nobody-in-no-set : (es : List Event) → is_member nobody (set_of t p s es) ≡ false
  nobody-in-no-set es = never-in t laws-of p few s (reached-shaped t s reached) es

  -- and matters to none;
  pub nobody-matters-to-no-set : (es : List Event) → matters (hands t) nobody (set_of t p s es) ≡ false
  nobody-matters-to-no-set es = matters-not t laws-of (set_of t p s es) (nobody-in-no-set es)

  -- so an event that is nobody's does not matter, whatever comes after it, and is dropped from the mattering events
  module _ (e : Event) (nobodys : doer t s e ≡ nobody) (es : List Event) where
    pub nobodys-event-matters-not : matters (hands t) (doer t s e) (set_of t p (after t s e) es) ≡ false
    nobodys-event-matters-not =
        let shape = after-shaped t laws-of s e (reached-shaped t s reached) in
        rw nobodys (matters-not t laws-of (set_of t p (after t s e) es) (never-in t laws-of p few (after t s e) shape es))

    pub nobodys-event-dropped : mattering_to t p s (e ∷ es) ≡ mattering_to t p (after t s e) es
    unfolding mattering_to set_of
    nobodys-event-dropped = rw nobodys-event-matters-not
