-- What a partition's call leaves alone: the clock, and modes and ports of others.
-- Assumes nothing.
use Prim.Native.Nat.{ℕ}
use mathlib.Core.Path.{◌≡◌, refl, sym, ap, ◌∙◌}
use mathlib.Core.Bool.{Bool, true, false}
use mathlib.Core.Logic.{◌≢◌}
use lib.Dec.{eqb}
use borrow.Author.Tests.{eqb-true, eqb-false}
use Rattle.model.proofs.HeldPorts.{Alike, held-nothing}
use Rattle.model.proofs.PortAfter.{port-other, mode-port-other, mode-other}
use Rattle.model.proofs.Replies.{CallReply, refusing, telling, porting, moding}
use Rattle.model.specs.Tables.{Tables, row}
use Rattle.model.specs.State.{State, mode_of, port}
use Rattle.model.specs.Services.{Reply, with_mode}
use Rattle.model.specs.Step.{state_of}
use Rattle.model.specs.Flow.{held_port}

module _ (t : Tables) (s : State) (p : ℕ) where
  pub call-clock : (r : Reply) → CallReply t s p r → (state_of s r).clock ≡ s.clock
  unfolding with_mode
  call-clock r (refusing code) = refl
  call-clock r (telling v) = refl
  call-clock r (porting v k q there owned) = refl
  call-clock r (moding v m) = refl

  call-mode : (d : ℕ) → d ≢ p → (r : Reply) → CallReply t s p r → mode_of (state_of s r) d ≡ mode_of s d
  call-mode d other r (refusing code) = refl
  call-mode d other r (telling v) = refl
  call-mode d other r (porting v k q there owned) = refl
  call-mode d other r (moding v m) = mode-other t p m s d other

  pub call-port : (k : ℕ) → (row t k).owner ≢ p → (r : Reply) → CallReply t s p r → port (state_of s r) k ≡ port s k
  call-port k other r (refusing code) = refl
  call-port k other r (telling v) = refl
  call-port k other r (porting v j q there owned) = port-other s j q k (λ e. other (ap (λ i. (row t i).owner) e ∙ owned))
  call-port k other r (moding v m) = mode-port-other t p m s k other

  -- so another partition finds the state as it was
  pub call-others : (d : ℕ) → d ≢ p → (r : Reply) → CallReply t s p r → Alike t d (state_of s r) s
  call-others d other r replied =
      record {
        mode = call-mode d other r replied;
        held = λ k. go k (eqb (row t k).owner d) refl;
      }
    where
      go : (k : ℕ) (b : Bool) → eqb (row t k).owner d ≡ b → held_port d (row t k) (port (state_of s r) k) ≡ held_port d (row t k) (port s k)
      go k true e = ap (held_port d (row t k)) (call-port k (λ o. other (sym (eqb-true _ _ e) ∙ o)) r replied)
      go k false e = held-nothing d (row t k) (eqb-false _ _ e) (port (state_of s r) k) ∙ sym (held-nothing d (row t k) (eqb-false _ _ e) (port s k))
