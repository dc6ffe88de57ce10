-- The walk back of demand 3, for any machine whose doer may depend on its state: document 002's, over lists of events.
--     after s e     the state after an event          doer s e     who does it there
--     hands d x     d may hand directly to x
-- A set of doers is a list of their numbers; a number may stand in it twice.
-- Assumes nothing.
use Rattle.std.specs.Prelude.{if◌then◌else◌, ℕ, Bool, ◌||◌, List, [], ◌∷◌, eqb}
use Rattle.model.specs.Words.{any_in}

abbrev pub is_member : ℕ → List ℕ → Bool
is_member d members = any_in (eqb d) members

-- an event matters if its doer is in the set or may hand directly to a member
abbrev pub matters : (ℕ → ℕ → Bool) → ℕ → List ℕ → Bool
matters hands d members = is_member d members || any_in (hands d) members

module _ {S E : Type 0} (after : S → E → S) (doer : S → E → ℕ) (hands : ℕ → ℕ → Bool) where
  -- the final set: the walk goes back from the list's end, and the doer of an event that matters joins
  abbrev pub final_set : List ℕ → S → List E → List ℕ
  final_set start s [] = start
  final_set start s (e ∷ es) =
      let later = final_set start (after s e) es in
      if matters hands (doer s e) later then doer s e ∷ later else later

  -- the events that matter, in their order
  abbrev pub mattering : List ℕ → S → List E → List E
  mattering start s [] = []
  mattering start s (e ∷ es) =
      let later = mattering start (after s e) es in
      if matters hands (doer s e) (final_set start (after s e) es) then e ∷ later else later
