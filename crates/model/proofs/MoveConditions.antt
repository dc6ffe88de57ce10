-- The unwinding conditions at a channel's move.
-- Assumes the laws of accepted tables.
use Prim.Native.Nat.{ℕ, ◌+◌, ◌<◌}
use mathlib.Core.Path.{◌≡◌, sym, ap, ◌∙◌}
use mathlib.Core.Bool.{false}
use lib.Dec.{eqb}
use borrow.Author.Tests.{eqb-false}
use Rattle.model.proofs.Accepted.{Accepted}
use Rattle.model.proofs.Hands.{no-destination-owner}
use Rattle.model.proofs.HeldPorts.{same-part, same_queue, same-holding}
use Rattle.model.proofs.Moves.{move-clock, move-other-source, move-others, move-alike, move-queue, move-answer}
use Rattle.model.proofs.Shaped.{Shaped, transmit-shaped}
use Rattle.model.specs.Tables.{Tables, channels, source_port}
use Rattle.model.specs.State.{State, port}
use Rattle.model.specs.Services.{transmit, transmit_oldest}
use Rattle.model.specs.Step.{first_channel, answer_of, state_of}
use Rattle.model.specs.Flow.{holds, hands}

module _ (t : Tables) (laws : Accepted t) (time_at : ℕ → ℕ) (c : ℕ) (here : c < channels t) where
  -- the state after the move
  abbrev moved : State → State
  moved s = state_of s (transmit t time_at s c)

  moved-shaped : (s : State) → Shaped t s → Shaped t (moved s)
  unfolding transmit
  moved-shaped s shape = transmit-shaped t time_at s c (port s (source_port t c)).queue shape

  module _ (s : State) (shape : Shaped t s) where
    pub move-leaves : (d : ℕ) → eqb (first_channel + c) d ≡ false → hands t (first_channel + c) d ≡ false → holds t (moved s) d ≡ holds t s d
    unfolding transmit
    move-leaves d other none =
        let queue = (port s (source_port t c)).queue in
        same-holding t (moved s) s d (moved-shaped s shape) shape
        (λ is. move-clock t laws time_at c here s queue)
        (λ few. move-others t laws time_at c here s queue d shape (no-destination-owner t c here d none))
        (λ b there is. ap (λ q. q.queue) (move-other-source t laws time_at c here s queue b there
        (λ same. eqb-false _ _ other (ap (λ n. first_channel + n) (sym same) ∙ sym is))))

  module _ (s s' : State) (shape : Shaped t s) (shape' : Shaped t s') (mine : holds t s (first_channel + c) ≡ holds t s' (first_channel + c)) where
    -- both states have the same messages in the source
    sources-same : (port s (source_port t c)).queue ≡ (port s' (source_port t c)).queue
    sources-same = same_queue t s s' c here mine

    pub move-tells : answer_of (first_channel + c) (transmit t time_at s c) ≡ answer_of (first_channel + c) (transmit t time_at s' c)
    unfolding transmit
    move-tells =
        move-answer t laws time_at c here s s' shape shape' (first_channel + c) (port s (source_port t c)).queue
        ∙ ap (λ l. answer_of (first_channel + c) (transmit_oldest t time_at s' c l)) sources-same

    pub move-carries :
        (d : ℕ) → s.clock ≡ s'.clock → holds t s d ≡ holds t s' d
        → holds t (moved s) d ≡ holds t (moved s') d
    unfolding transmit
    move-carries d clock same =
        let queue = (port s (source_port t c)).queue in
        let queue' = (port s' (source_port t c)).queue in
        same-holding t (moved s) (moved s') d (moved-shaped s shape) (moved-shaped s' shape')
        (λ is. move-clock t laws time_at c here s queue ∙ clock ∙ sym (move-clock t laws time_at c here s' queue'))
        (λ few. rw (← sources-same) (move-alike t laws time_at c here s s' shape shape' queue d (same-part t s s' d few same)))
        (λ b there is. rw (← sources-same) (move-queue t laws time_at c here s s' shape shape' queue b there (same_queue t s s' b there (rw is at same))))
