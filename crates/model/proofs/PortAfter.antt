-- What stands at a port, and at a partition, after one port was replaced and after a mode was set.
-- Assumes nothing.
use Rattle.std.specs.Prelude.{if◌then◌else◌}
use Prim.Native.Nat.{ℕ, zero, suc, ◌+◌, ◌<◌}
use native.Mathlib.Omega.{arith}
use mathlib.Core.Path.{◌≡◌, refl, ◌∙◌}
use mathlib.Core.Bool.{Bool, true, false}
use mathlib.Core.List.{List, [], ◌∷◌}
use mathlib.Core.Logic.{◌≢◌}
use lib.Dec.{eqb}
use lib.ListN.{length, get_or}
use lib.Seq.{get_or-set_same, get_or-set_other}
use borrow.Author.Tests.{eqb-true, eqb-false, ne_eqb}
use Rattle.model.proofs.Branches.{if-alike}
use Rattle.model.proofs.Tests.{by-test}
use Rattle.model.specs.Tables.{Tables, row}
use Rattle.model.specs.State.{Port, State, fresh, normal, mode_of, port, with_port}
use Rattle.model.specs.Services.{unmade, with_mode}

-- one port replaced
pub port-other : (s : State) (k : ℕ) (q : Port) (j : ℕ) → j ≢ k → port (with_port s k q) j ≡ port s j
port-other s k q j other = get_or-set_other s.ports k j q fresh other

pub port-same : (s : State) (k : ℕ) (q : Port) → k < length s.ports → port (with_port s k q) k ≡ q
port-same s k q there = get_or-set_same s.ports k q fresh there

-- in two states: a relation at every port stays where the new ports are related
pub ports-related :
    (R : ℕ → Port → Port → Type 0) (s s' : State) (k : ℕ) (q q' : Port) → k < length s.ports → k < length s'.ports
    → R k q q' → ((j : ℕ) → R j (port s j) (port s' j)) → (j : ℕ) → R j (port (with_port s k q) j) (port (with_port s' k q') j)
ports-related R s s' k q q' there there' new old j = go (eqb j k) refl
  where
    go : (b : Bool) → eqb j k ≡ b → R j (port (with_port s k q) j) (port (with_port s' k q') j)
    go true e = rw (eqb-true j k e, port-same s k q there, port-same s' k q' there') new
    go false e = rw (port-other s k q j (eqb-false j k e), port-other s' k q' j (eqb-false j k e)) (old j)

-- a partition's ports unmade
unmade-at :
    (t : Tables) (p i : ℕ) (qs : List Port) (k : ℕ)
    → get_or (unmade t p i qs) k fresh ≡ (if eqb (row t (i + k)).owner p then fresh else get_or qs k fresh)
unmade-at t p i [] k = by-test (λ (q : Port). fresh ≡ q) (eqb (row t (i + k)).owner p) (λ h. refl) (λ h. refl)
unmade-at t p i (q ∷ qs) zero = let e : i + 0 ≡ i = omega arith in rw e
unmade-at t p i (q ∷ qs) (suc k) = let e : i + suc k ≡ suc i + k = omega arith in rw e (unmade-at t p (suc i) qs k)

module _ (t : Tables) (p m : ℕ) where
  -- the port after a mode change: of the caller, fresh unless the mode is NORMAL
  pub mode-port :
      (s : State) (k : ℕ)
      → port (with_mode t s p m) k
      ≡ (if eqb m normal then port s k else if eqb (row t k).owner p then fresh else port s k)
  unfolding with_mode
  mode-port s k = go (eqb m normal)
    where
      go :
          (b : Bool)
          → get_or (if b then s.ports else unmade t p 0 s.ports) k fresh
          ≡ (if b then port s k else if eqb (row t k).owner p then fresh else port s k)
      go true = refl
      go false = let e : 0 + k ≡ k = omega arith in rw e at (unmade-at t p 0 s.ports k)

  pub mode-port-other : (s : State) (k : ℕ) → (row t k).owner ≢ p → port (with_mode t s p m) k ≡ port s k
  mode-port-other s k other =
      mode-port s k
      ∙ by-test (λ (q : Port). q ≡ port s k) (eqb m normal) (λ h. refl) (λ h. rw (ne_eqb (row t k).owner p other))

  pub mode-ports-related :
      (R : ℕ → Port → Port → Type 0) (s s' : State) → ((j : ℕ) → R j fresh fresh)
      → ((j : ℕ) → R j (port s j) (port s' j)) → (j : ℕ) → R j (port (with_mode t s p m) j) (port (with_mode t s' p m) j)
  mode-ports-related R s s' new old j =
      rw (mode-port s j, mode-port s' j)
      (if-alike (R j) (eqb m normal) (eqb m normal) refl (λ h. old j)
      (λ h. if-alike (R j) (eqb (row t j).owner p) (eqb (row t j).owner p) refl (λ g. new j) (λ g. old j)))

  -- the modes after it
  pub mode-set : (s : State) → p < length s.modes → mode_of (with_mode t s p m) p ≡ m
  unfolding with_mode
  mode-set s there = get_or-set_same s.modes p m 0 there

  pub mode-other : (s : State) (d : ℕ) → d ≢ p → mode_of (with_mode t s p m) d ≡ mode_of s d
  unfolding with_mode
  mode-other s d other = get_or-set_other s.modes p d m 0 other
