-- A partition's call by code: the model's service, case by case.
-- Assumes nothing.
use Prim.Native.Nat.{ℕ}
use mathlib.Core.Path.{◌≡◌, refl}
use mathlib.Core.Logic.{◌⊎◌, inl, inr, ⊎_elim}
use borrow.Author.Tests.{eqb-false, eq-eqb, ne_eqb}
use Rattle.model.specs.Tables.{Tables}
use Rattle.model.specs.State.{State, mode_of}
use Rattle.model.specs.Events.{Event, Call}
use Rattle.model.specs.Services.{refuse, create, get_id, set_mode, use_own, service}
use Rattle.events.specs.declared.codes.Code.{Code}
use Rattle.events.specs.declared.codes.Code.TheVariants.{CreateSamplingPort, CreateQueuingPort, GetSamplingPortId, GetQueuingPortId, SetPartitionMode}
use Rattle.events.specs.Shown.{number_of}

-- a code that is none of these five has none of their numbers
pub other-numbers : (c : Code) → (c ≡ CreateSamplingPort → ⊥) → (c ≡ CreateQueuingPort → ⊥) → (c ≡ GetSamplingPortId → ⊥) → (c ≡ GetQueuingPortId → ⊥) → (c ≡ SetPartitionMode → ⊥)
    → ((number_of c ≡ 1) ⊎ (number_of c ≡ 6) → ⊥) × ((number_of c ≡ 4) ⊎ (number_of c ≡ 9) → ⊥) × (number_of c ≡ 12 → ⊥)
other-numbers CreateSamplingPort not _ _ _ _ = absurd (not refl)
other-numbers CreateQueuingPort _ not _ _ _ = absurd (not refl)
other-numbers GetSamplingPortId _ _ not _ _ = absurd (not refl)
other-numbers GetQueuingPortId _ _ _ not _ = absurd (not refl)
other-numbers SetPartitionMode _ _ _ _ not = absurd (not refl)
other-numbers c _ _ _ _ _ = (
  ⊎_elim (eqb-false (number_of c) 1 refl) (eqb-false (number_of c) 6 refl),
  ⊎_elim (eqb-false (number_of c) 4 refl) (eqb-false (number_of c) 9 refl),
  eqb-false (number_of c) 12 refl,
)

module _ (t : Tables) (time : ℕ) (s : State) (p : ℕ) (e : Event) (f : Call) where
  pub by-idle : mode_of s p ≡ 0 → service t time s p e f ≡ refuse 15
  unfolding service
  by-idle a = rw (eq-eqb (mode_of s p) 0 a)

  module _ (n : mode_of s p ≡ 0 → ⊥) where
    pub by-create : (f.code ≡ 1) ⊎ (f.code ≡ 6) → service t time s p e f ≡ create t s p e f
    unfolding service
    by-create (inl a) = rw (ne_eqb (mode_of s p) 0 n, a)
    by-create (inr a) = rw (ne_eqb (mode_of s p) 0 n, a)

    pub by-get-id : (f.code ≡ 4) ⊎ (f.code ≡ 9) → service t time s p e f ≡ get_id t s p e f
    unfolding service
    by-get-id (inl a) = rw (ne_eqb (mode_of s p) 0 n, a)
    by-get-id (inr a) = rw (ne_eqb (mode_of s p) 0 n, a)

    pub by-set-mode : f.code ≡ 12 → service t time s p e f ≡ set_mode t s p f.choice
    unfolding service
    by-set-mode a = rw (ne_eqb (mode_of s p) 0 n, a)

    pub by-own : ((f.code ≡ 1) ⊎ (f.code ≡ 6) → ⊥) → ((f.code ≡ 4) ⊎ (f.code ≡ 9) → ⊥) → (f.code ≡ 12 → ⊥) → service t time s p e f ≡ use_own t time s p e f
    unfolding service
    by-own a b m =
        rw (ne_eqb (mode_of s p) 0 n, ne_eqb f.code 1 (λ x. a (inl x)), ne_eqb f.code 6 (λ x. a (inr x)), ne_eqb f.code 4 (λ x. b (inl x)), ne_eqb f.code 9 (λ x. b (inr x)), ne_eqb f.code 12 m)
