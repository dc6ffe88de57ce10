-- The unwinding conditions at a partition's call.
-- Assumes the laws of accepted tables.
use Prim.Native.Nat.{ℕ, ◌<◌}
use mathlib.Core.Path.{◌≡◌, refl, sym, ap, ◌∙◌}
use mathlib.Core.Bool.{Bool, true, false, false≢true}
use mathlib.Core.Logic.{◌≢◌}
use lib.Dec.{eqb}
use borrow.Author.Tests.{eqb-true, eqb-false, eq-eqb}
use Rattle.model.proofs.Accepted.{Accepted}
use Rattle.model.proofs.CallsAlike.{SameReply, same_answer, same_after, CallerAlike, call_same}
use Rattle.model.proofs.CallsKeep.{call-clock, call-port, call-others}
use Rattle.model.proofs.Hands.{not-source-owner}
use Rattle.model.proofs.HeldPorts.{Alike, same-part, same_queue, same-holding}
use Rattle.model.proofs.Replies.{call-reply}
use Rattle.model.proofs.Shaped.{Shaped, call-shaped}
use Rattle.model.specs.Tables.{Tables, row, source_port}
use Rattle.model.specs.State.{State, port}
use Rattle.model.specs.Events.{Event, Call}
use Rattle.model.specs.Services.{service}
use Rattle.model.specs.Step.{answer_of, state_of}
use Rattle.model.specs.Flow.{holds, hands}

-- a partition's agreement, with the queues of some ports besides
caller-alike :
    (t : Tables) (p : ℕ) (also : ℕ → Bool) (s s' : State) → Alike t p s s'
    → ((k : ℕ) → also k ≡ true → (port s k).queue ≡ (port s' k).queue) → CallerAlike t p also s s'
caller-alike t p also s s' same queues = record { mode = same.mode; at = λ k. record { held = same.held k; queue = queues k } }

module _ (t : Tables) (e : Event) (p time : ℕ) (f : Call) where
  -- the state after the call
  abbrev called : State → State
  called s = state_of s (service t time s p e f)

  module _ (s : State) where
    called-shaped : Shaped t s → Shaped t (called s)
    called-shaped shape = call-shaped t s p _ (call-reply t s p e f time) shape

    other-part : (d : ℕ) → d ≢ p → Alike t d (called s) s
    other-part d other = call-others t s p d other _ (call-reply t s p e f time)

    other-port : (k : ℕ) → (row t k).owner ≢ p → port (called s) k ≡ port s k
    other-port k other = call-port t s p k other _ (call-reply t s p e f time)

    clock-left : (called s).clock ≡ s.clock
    clock-left = call-clock t s p _ (call-reply t s p e f time)

    pub call-leaves : Shaped t s → (d : ℕ) → eqb p d ≡ false → hands t p d ≡ false → holds t (called s) d ≡ holds t s d
    call-leaves shape d other none =
        same-holding t (called s) s d (called-shaped shape) shape (λ is. clock-left) (λ few. other-part d (λ is. eqb-false p d other (sym is)))
        (λ c there is. ap (λ q. q.queue) (other-port (source_port t c) (not-source-owner t c there p (rw is at none))))

  module _ (laws : Accepted t) (few : p < 16) (s s' : State) (shape : Shaped t s) (shape' : Shaped t s') (mine : holds t s p ≡ holds t s' p) where
    own-alike : Alike t p s s'
    own-alike = same-part t s s' p few mine

    -- the call in both states, with the queues of some ports besides
    both : (also : ℕ → Bool) → CallerAlike t p also s s' → SameReply (CallerAlike t p also) (service t time s p e f) (service t time s' p e f)
    both also same = call_same t laws p few also s s' shape shape' same time e f

    own-only : CallerAlike t p (λ k. false) s s'
    own-only = caller-alike t p (λ k. false) s s' own-alike (λ k h. absurd (false≢true h))

    pub call-tells : answer_of p (service t time s p e f) ≡ answer_of p (service t time s' p e f)
    call-tells = same_answer (CallerAlike t p (λ k. false)) p _ _ (both (λ k. false) own-only)

    call-own : Alike t p (called s) (called s')
    call-own =
        let after = same_after (CallerAlike t p (λ k. false)) s s' _ _ own-only (both (λ k. false) own-only) in
        record { mode = after.mode; held = λ k. (after.at k).held }

    call-part : (d : ℕ) → Alike t d s s' → Alike t d (called s) (called s')
    call-part d same = go (eqb d p) refl
      where
        go : (b : Bool) → eqb d p ≡ b → Alike t d (called s) (called s')
        go true is = rw (eqb-true d p is) call-own
        go false other =
            let one = other-part s d (eqb-false d p other) in
            let two = other-part s' d (eqb-false d p other) in
            record { mode = one.mode ∙ same.mode ∙ sym two.mode; held = λ k. one.held k ∙ same.held k ∙ sym (two.held k) }

    call-queue : (k : ℕ) → (port s k).queue ≡ (port s' k).queue → (port (called s) k).queue ≡ (port (called s') k).queue
    call-queue k same = go (eqb (row t k).owner p) refl
      where
        also : ℕ → Bool
        also j = eqb j k

        before : CallerAlike t p also s s'
        before = caller-alike t p also s s' own-alike (λ j h. rw (eqb-true j k h) same)

        go : (b : Bool) → eqb (row t k).owner p ≡ b → (port (called s) k).queue ≡ (port (called s') k).queue
        go true is = ((same_after (CallerAlike t p also) s s' _ _ before (both also before)).at k).queue (eq-eqb k k refl)
        go false other =
            ap (λ q. q.queue) (other-port s k (eqb-false _ _ other)) ∙ same
            ∙ sym (ap (λ q. q.queue) (other-port s' k (eqb-false _ _ other)))

    pub call-carries :
        (d : ℕ) → s.clock ≡ s'.clock → holds t s d ≡ holds t s' d → holds t (called s) d ≡ holds t (called s') d
    call-carries d clock same =
        same-holding t (called s) (called s') d (called-shaped s shape) (called-shaped s' shape')
        (λ is. clock-left s ∙ clock ∙ sym (clock-left s'))
        (λ few-d. call-part d (same-part t s s' d few-d same))
        (λ c there is. call-queue (source_port t c) (same_queue t s s' c there (rw is at same)))
