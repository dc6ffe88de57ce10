-- Set mode: NORMAL in NORMAL, and the state with a mode set, by that mode.
-- Assumes nothing.
use Prim.Native.Nat.{ℕ}
use mathlib.Core.Path.{◌≡◌}
use native.Mathlib.Omega.{arith}
use lib.ListN.{set}
use borrow.Author.Tests.{eq-eqb, ne_eqb, le-ltb}
use Rattle.model.specs.Tables.{Tables}
use Rattle.model.specs.State.{State, mode_of}
use Rattle.model.specs.Services.{refuse, set_mode, with_mode, unmade}

module _ (t : Tables) (s : State) (p m : ℕ) where
  pub mode-again : m ≡ 3 → mode_of s p ≡ 3 → set_mode t s p m ≡ refuse 1
  unfolding set_mode
  mode-again a b = rw (le-ltb 3 m (omega arith), eq-eqb m 3 a, eq-eqb (mode_of s p) 3 b)

  pub with-normal : m ≡ 3 → with_mode t s p m ≡ record { clock = s.clock; modes = set s.modes p m; ports = s.ports }
  unfolding with_mode
  with-normal a = rw (eq-eqb m 3 a)

  pub with-other : (m ≡ 3 → ⊥) → with_mode t s p m ≡ record { clock = s.clock; modes = set s.modes p m; ports = unmade t p 0 s.ports }
  unfolding with_mode
  with-other a = rw (ne_eqb m 3 a)
