-- The model's services of an own port by code.
-- Assumes nothing.
use Prim.Native.Nat.{ℕ}
use mathlib.Core.Path.{◌≡◌, refl, ap}
use mathlib.Core.Logic.{◌⊎◌, inl, inr}
use borrow.Author.Tests.{ne_eqb}
use Rattle.model.specs.Tables.{Row}
use Rattle.model.specs.State.{Port}
use Rattle.model.specs.Events.{Event}
use Rattle.model.specs.Events as model
use Rattle.model.specs.Services.{serves, put, get, cleared, status, serve}
use Rattle.events.specs.declared.codes.Code.{Code}
use Rattle.events.specs.declared.codes.Code.TheVariants.{WriteSamplingMessage, ReadSamplingMessage, SendQueuingMessage, ReceiveQueuingMessage, ClearQueuingPort}
use Rattle.events.specs.declared.calls.Call.{Call}
use Rattle.events.specs.Shown.{number_of, call_of}

-- of any call of the model, by its code's number
module _ (time : ℕ) (r : Row) (e : Event) (f : model.Call) (q : Port) where
  pub numbered-put : (f.code ≡ 2) ⊎ (f.code ≡ 7) → serve time r e f q ≡ put r e f q
  unfolding serve
  numbered-put (inl a) = rw a
  numbered-put (inr a) = rw a

  pub numbered-get : (f.code ≡ 3) ⊎ (f.code ≡ 8) → serve time r e f q ≡ get time r f q
  unfolding serve
  numbered-get (inl a) = rw a
  numbered-get (inr a) = rw a

  pub numbered-clear : f.code ≡ 11 → serve time r e f q ≡ cleared r f q
  unfolding serve
  numbered-clear a = rw a

  pub numbered-status : ((f.code ≡ 2) ⊎ (f.code ≡ 7) → ⊥) → ((f.code ≡ 3) ⊎ (f.code ≡ 8) → ⊥) → (f.code ≡ 11 → ⊥) → serve time r e f q ≡ serves (status r q) q
  unfolding serve
  numbered-status a b n =
      rw (ne_eqb f.code 2 (λ x. a (inl x)), ne_eqb f.code 7 (λ x. a (inr x)), ne_eqb f.code 3 (λ x. b (inl x)), ne_eqb f.code 8 (λ x. b (inr x)), ne_eqb f.code 11 n)

-- and of a call of the code, by its code
module _ (time : ℕ) (r : Row) (e : Event) (f : Call) (q : Port) where
  pub serve-put : (f.code ≡ WriteSamplingMessage) ⊎ (f.code ≡ SendQueuingMessage) → serve time r e (call_of f) q ≡ put r e (call_of f) q
  serve-put (inl a) = numbered-put time r e (call_of f) q (inl (ap number_of a))
  serve-put (inr a) = numbered-put time r e (call_of f) q (inr (ap number_of a))

  pub serve-get : (f.code ≡ ReadSamplingMessage) ⊎ (f.code ≡ ReceiveQueuingMessage) → serve time r e (call_of f) q ≡ get time r (call_of f) q
  serve-get (inl a) = numbered-get time r e (call_of f) q (inl (ap number_of a))
  serve-get (inr a) = numbered-get time r e (call_of f) q (inr (ap number_of a))

  pub serve-clear : f.code ≡ ClearQueuingPort → serve time r e (call_of f) q ≡ cleared r (call_of f) q
  serve-clear a = numbered-clear time r e (call_of f) q (ap number_of a)

  -- any other code
  pub serve-status : (f.code ≡ WriteSamplingMessage → ⊥) → (f.code ≡ ReadSamplingMessage → ⊥) → (f.code ≡ SendQueuingMessage → ⊥) → (f.code ≡ ReceiveQueuingMessage → ⊥) → (f.code ≡ ClearQueuingPort → ⊥)
      → serve time r e (call_of f) q ≡ serves (status r q) q
  unfolding serve
  serve-status = other f.code
    where
      other : (c : Code) → (c ≡ WriteSamplingMessage → ⊥) → (c ≡ ReadSamplingMessage → ⊥) → (c ≡ SendQueuingMessage → ⊥) → (c ≡ ReceiveQueuingMessage → ⊥) → (c ≡ ClearQueuingPort → ⊥)
          → serve time r e (record { code = number_of c; choice = f.choice; id = f.id; number = f.number; size = f.size }) q ≡ serves (status r q) q
      other WriteSamplingMessage not _ _ _ _ = absurd (not refl)
      other ReadSamplingMessage _ not _ _ _ = absurd (not refl)
      other SendQueuingMessage _ _ not _ _ = absurd (not refl)
      other ReceiveQueuingMessage _ _ _ not _ = absurd (not refl)
      other ClearQueuingPort _ _ _ _ not = absurd (not refl)
      other _ _ _ _ _ _ = refl
