-- What `all`, `any` and `find` over a range of numbers answer, by the model's searches.
-- Assumes nothing.
use Prim.Native.Nat.{ℕ, zero, suc, ◌+◌, ◌-◌, ◌≤◌}
use mathlib.Core.Path.{◌≡◌, refl, ap, sym, ◌∙◌}
use mathlib.Core.Bool.{Bool, true, false, cond, ◌&&◌, ◌||◌}
use mathlib.Core.List.{List}
use native.Mathlib.Numerals.{add-one}
use native.Mathlib.Omega.{arith}
use denote.Param.Members.{Mut}
use denote.Ref.{Bor}
use Rattle.std.proofs.iter.Yields.{nat_range_steps}
use Rattle.std.proofs.lemmas.Iterator.{YieldsList-from_range}
use Rattle.std.proofs.lemmas.Iterator.Search.{all_from_yields_List, any_from_yields_List, find_from_yields_List}
use Rattle.std.specs.Prelude.{Option, None, Some, if◌then◌else◌}
use Rattle.std.specs.Bool.{⊤}
use Rattle.std.specs.Fn.{Called, CalledAt}
use Rattle.std.specs.Iterator.{YieldsThen}
use Rattle.std.specs.List.{range_with_len, list_all, list_any, find, FoldsTo}
use Rattle.std.specs.Option.{MatchOption, unwrap_or, option_map}
use Rattle.std.specs.declared.ops.Range.{Range}
use Rattle.model.specs.Words.{all, any, first}

module _ (p : ℕ → Bool) where
  all-listed : (n k : ℕ) → list_all p (range_with_len k n) ≡ all p n k
  all-listed zero k = refl
  all-listed (suc n) k = rw (add-one k) (ap (λ b. p k && b) (all-listed n (suc k)))

  any-listed : (n k : ℕ) → list_any p (range_with_len k n) ≡ any p n k
  any-listed zero k = refl
  any-listed (suc n) k = rw (add-one k) (ap (λ b. p k || b) (any-listed n (suc k)))

  first-listed : (n k e : ℕ) → k + n ≡ e → unwrap_or (find p (range_with_len k n)) e ≡ first p n k
  first-listed zero k e h = omega arith
  first-listed (suc n) k e h = go (p k) (first-listed n (k + 1) e (omega arith))
    where
      go : (b : Bool) → unwrap_or (find p (range_with_len (k + 1) n)) e ≡ first p n (k + 1) → unwrap_or (cond b (Some k) (find p (range_with_len (k + 1) n))) e ≡ (if b then k else first p n (suc k))
      go true h = refl
      go false h = rw (← add-one k) h

  unmapped : (r : Option ℕ) → option_map (λ x. x) r ≡ r
  unmapped None = refl
  unmapped (Some x) = refl

module _ (p : ℕ → Bool) {F : Type 0} {s : Range ℕ} (a b : ℕ) where
  pub all-in_range : {g : Mut F (ℕ × Unit {0}) Bool} (u : Range ℕ) (f : F) (r : Bool) → s ≡ record { start = a; end = b } → (xs : List ℕ) × (o : Option ℕ) × (j : F) × YieldsThen nat_range_steps s xs o u × FoldsTo (λ p x q. Called g p (x, tt) true q) f xs j × MatchOption o (r ≡ true) (λ x. (r ≡ false) × ((h : F) × Called g j (x, tt) false h)) → ((x : ℕ) (b : Bool) (q : F) → Called g f (x, tt) b q → (q ≡ f) × (b ≡ p x)) → r ≡ all p (b - a) a
  all-in_range u f r range ran calls = all_from_yields_List p u f r ran (YieldsList-from_range a b (b - a) range refl) calls ∙ all-listed p (b - a) a

  pub any-in_range : {g : Mut F (ℕ × Unit {0}) Bool} (u : Range ℕ) (f : F) (r : Bool) → s ≡ record { start = a; end = b } → (xs : List ℕ) × (o : Option ℕ) × (j : F) × YieldsThen nat_range_steps s xs o u × FoldsTo (λ p x q. Called g p (x, tt) false q) f xs j × MatchOption o (r ≡ false) (λ x. (r ≡ true) × ((h : F) × Called g j (x, tt) true h)) → ((x : ℕ) (b : Bool) (q : F) → Called g f (x, tt) b q → (q ≡ f) × (b ≡ p x)) → r ≡ any p (b - a) a
  any-in_range u f r range ran calls = any_from_yields_List p u f r ran (YieldsList-from_range a b (b - a) range refl) calls ∙ any-listed p (b - a) a

  pub first-in_range : {g : Mut F (Bor ℕ × Unit {0}) Bool} (u : Range ℕ) (f : F) (r : Option ℕ) → s ≡ record { start = a; end = b } → a ≤ b → (xs : List ℕ) × (j : F) × YieldsThen nat_range_steps s xs r u × FoldsTo (λ p x q. CalledAt g p x false q) f xs j × MatchOption r ⊤ (λ x. (h : F) × CalledAt g j x true h) → ((x : ℕ) (b : Bool) (q : F) → CalledAt g f x b q → (q ≡ f) × (b ≡ p x)) → unwrap_or r b ≡ first p (b - a) a
  first-in_range u f r range h ran calls = ap (λ o. unwrap_or o b) (sym (unmapped p r) ∙ find_from_yields_List p u f r ran (YieldsList-from_range a b (b - a) range refl) calls) ∙ first-listed p (b - a) a b (omega arith)
