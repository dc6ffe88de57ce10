-- A channel's move: what it leaves alone, and what it does in two states with the same oldest message.
-- Assumes the laws of accepted tables.
use Prim.Native.Nat.{ℕ, zero, suc, ◌+◌, ◌≤◌, ◌<◌}
use native.Mathlib.Omega.{arith}
use mathlib.Core.Path.{◌≡◌, refl, sym, ap, ◌∙◌}
use mathlib.Core.Bool.{Bool, true, false}
use mathlib.Core.List.{List, [], ◌∷◌}
use mathlib.Core.Logic.{◌≢◌}
use lib.Dec.{eqb}
use lib.ListN.{get_or}
use borrow.Author.Tests.{eqb-true, eqb-false}
use Rattle.model.proofs.Accepted.{Accepted}
use Rattle.model.proofs.Ends.{DestinationEnd}
use Rattle.model.proofs.HeldPorts.{Alike, held-nothing, held_whole, held-unqueued}
use Rattle.model.proofs.PortAfter.{port-other, port-same, ports-related}
use Rattle.model.proofs.Shaped.{Shaped, port-shaped}
use Rattle.model.specs.Tables.{Tables, channels, row, Row, source, destination, source_port, destinations, destination_port}
use Rattle.model.specs.State.{Message, Port, State, mode_of, port, with_port, with_queue}
use Rattle.model.specs.Services.{arrived, delivered, transmit_oldest}
use Rattle.model.specs.Step.{answer_of, state_of}
use Rattle.model.specs.Flow.{held_port}

module _ (t : Tables) (time_at : ℕ → ℕ) (c : ℕ) (m : Message) where
  -- the delivery touches no clock, no mode, and no port but destinations
  delivered-clock : (n j : ℕ) (s : State) → (delivered t time_at c m n j s).clock ≡ s.clock
  delivered-clock zero j s = refl
  delivered-clock (suc n) j s = delivered-clock n (suc j) _

  delivered-modes : (n j : ℕ) (s : State) → (delivered t time_at c m n j s).modes ≡ s.modes
  delivered-modes zero j s = refl
  delivered-modes (suc n) j s = delivered-modes n (suc j) _

  delivered-other :
      (n j : ℕ) (s : State) (k : ℕ) → ((i : ℕ) → i < j + n → k ≢ destination_port t c i)
      → port (delivered t time_at c m n j s) k ≡ port s k
  delivered-other zero j s k none = refl
  delivered-other (suc n) j s k none =
      delivered-other n (suc j) _ k (λ i h. none i (omega arith)) ∙ port-other s (destination_port t c j) _ k (none j (omega arith))

-- a message that arrives at a port of which the partition holds the same here as there
arrived-alike :
    (d time : ℕ) (r : Row) (m : Message) (q q' : Port) → r.direction ≡ destination
    → held_port d r q ≡ held_port d r q' → held_port d r (arrived time r m q) ≡ held_port d r (arrived time r m q')
arrived-alike d time r m q q' to same = go (eqb r.owner d) refl
  where
    go : (b : Bool) → eqb r.owner d ≡ b → held_port d r (arrived time r m q) ≡ held_port d r (arrived time r m q')
    go true e =
        ap (λ z. held_port d r (arrived time r m z))
        (sym (held_whole d r (eqb-true _ _ e) to q) ∙ same ∙ held_whole d r (eqb-true _ _ e) to q')
    go false e =
        held-nothing d r (eqb-false _ _ e) (arrived time r m q) ∙ sym (held-nothing d r (eqb-false _ _ e) (arrived time r m q'))

module _ (t : Tables) (laws : Accepted t) (time_at : ℕ → ℕ) (c : ℕ) (here : c < channels t) where
  module _ (d : ℕ) where
    delivered-alike :
        (m : Message) (n j : ℕ) → j + n ≤ destinations t c → (s s' : State) → Shaped t s → Shaped t s'
        → ((k : ℕ) → held_port d (row t k) (port s k) ≡ held_port d (row t k) (port s' k))
        → (k : ℕ) → held_port d (row t k) (port (delivered t time_at c m n j s) k) ≡ held_port d (row t k) (port (delivered t time_at c m n j s') k)
    delivered-alike m zero j few s s' shape shape' same = same
    delivered-alike m (suc n) j few s s' shape shape' same =
        delivered-alike m n (suc j) (omega arith) _ _ (port-shaped t s k new shape) (port-shaped t s' k new' shape')
        (ports-related (λ i q q'. held_port d (row t i) q ≡ held_port d (row t i) q') s s' k new new'
        (rw shape.ports_length end.there) (rw shape'.ports_length end.there)
        (arrived-alike d (time_at k) (row t k) m (port s k) (port s' k) end.is_destination (same k)) same)
      where
        k : ℕ
        k = destination_port t c j

        end : DestinationEnd t c j
        end = laws.destination_ends c here j (omega arith)

        new : Port
        new = arrived (time_at k) (row t k) m (port s k)

        new' : Port
        new' = arrived (time_at k) (row t k) m (port s' k)

  -- no source is a destination
  source-apart : (b : ℕ) → b < channels t → (j : ℕ) → j < destinations t c → source_port t b ≢ destination_port t c j
  source-apart b there j few same =
      let from = (laws.sources b there).is_source in
      let to = (laws.destination_ends c here j few).is_destination in
      let e : ◌≡◌ {A = ℕ} source destination = sym from ∙ ap (λ k. (row t k).direction) same ∙ to in
      omega arith

  -- the state without the oldest message
  abbrev taken : State → List Message → State
  taken s rest = with_port s (source_port t c) (with_queue (port s (source_port t c)) rest)

  taken-shaped : (s : State) (rest : List Message) → Shaped t s → Shaped t (taken s rest)
  taken-shaped s rest shape = port-shaped t s (source_port t c) (with_queue (port s (source_port t c)) rest) shape

  -- which no partition can tell from the state before
  taken-held :
      (s : State) (rest : List Message) → Shaped t s → (d k : ℕ)
      → held_port d (row t k) (port (taken s rest) k) ≡ held_port d (row t k) (port s k)
  taken-held s rest shape d k = go (eqb k (source_port t c)) refl
    where
      go : (b : Bool) → eqb k (source_port t c) ≡ b → held_port d (row t k) (port (taken s rest) k) ≡ held_port d (row t k) (port s k)
      go true e =
          let j = source_port t c in
          rw (eqb-true k (source_port t c) e)
          (ap (held_port d (row t j)) (port-same s j (with_queue (port s j) rest) (rw shape.ports_length (laws.sources c here).there))
          ∙ held-unqueued d (row t j) (laws.sources c here).is_source (port s j) rest)
      go false e = ap (held_port d (row t k)) (port-other s (source_port t c) _ k (eqb-false _ _ e))

  module _ (s : State) where
    pub move-clock : (queue : List Message) → (state_of s (transmit_oldest t time_at s c queue)).clock ≡ s.clock
    move-clock [] = refl
    move-clock (m ∷ rest) = delivered-clock t time_at c m (destinations t c) 0 _

    move-mode : (queue : List Message) (d : ℕ) → mode_of (state_of s (transmit_oldest t time_at s c queue)) d ≡ mode_of s d
    move-mode [] d = refl
    move-mode (m ∷ rest) d = ap (λ l. get_or l d 0) (delivered-modes t time_at c m (destinations t c) 0 _)

    -- the source of another channel is left alone
    pub move-other-source :
        (queue : List Message) (b : ℕ) → b < channels t → b ≢ c
        → port (state_of s (transmit_oldest t time_at s c queue)) (source_port t b) ≡ port s (source_port t b)
    move-other-source [] b there other = refl
    move-other-source (m ∷ rest) b there other =
        delivered-other t time_at c m (destinations t c) 0 _ (source_port t b) (λ j h. source-apart b there j (omega arith))
        ∙ port-other s (source_port t c) _ (source_port t b) (λ e. other (laws.sources_distinct b c there here e))

    -- its own source has the rest
    move-own-source :
        (m : Message) (rest : List Message) → Shaped t s
        → (port (state_of s (transmit_oldest t time_at s c (m ∷ rest))) (source_port t c)).queue ≡ rest
    move-own-source m rest shape =
        ap (λ q. q.queue)
        (delivered-other t time_at c m (destinations t c) 0 _ (source_port t c) (λ j h. source-apart c here j (omega arith))
        ∙ port-same s (source_port t c) (with_queue (port s (source_port t c)) rest) (rw shape.ports_length (laws.sources c here).there))

    -- a partition that owns no destination finds the state as it was
    pub move-others :
        (queue : List Message) (d : ℕ) → Shaped t s → ((j : ℕ) → j < destinations t c → (row t (destination_port t c j)).owner ≢ d)
        → Alike t d (state_of s (transmit_oldest t time_at s c queue)) s
    move-others [] d shape none = record { mode = refl; held = λ k. refl }
    move-others (m ∷ rest) d shape none = record { mode = move-mode (m ∷ rest) d; held = λ k. owned k (eqb (row t k).owner d) refl }
      where
        owned :
            (k : ℕ) (b : Bool) → eqb (row t k).owner d ≡ b
            → held_port d (row t k) (port (delivered t time_at c m (destinations t c) 0 (taken s rest)) k) ≡ held_port d (row t k) (port s k)
        owned k true e =
            ap (held_port d (row t k))
            (delivered-other t time_at c m (destinations t c) 0 _ k
            (λ j h same. none j (omega arith) (ap (λ i. (row t i).owner) (sym same) ∙ eqb-true _ _ e)))
            ∙ taken-held s rest shape d k
        owned k false e = held-nothing d (row t k) (eqb-false _ _ e) _ ∙ sym (held-nothing d (row t k) (eqb-false _ _ e) (port s k))

  -- in two states whose sources hold the same: a partition that finds them alike does so afterwards, and so does a channel
  module _ (s s' : State) (shape : Shaped t s) (shape' : Shaped t s') where
    pub move-alike :
        (queue : List Message) (d : ℕ) → Alike t d s s'
        → Alike t d (state_of s (transmit_oldest t time_at s c queue)) (state_of s' (transmit_oldest t time_at s' c queue))
    move-alike [] d same = same
    move-alike (m ∷ rest) d same =
        record {
          mode = move-mode s (m ∷ rest) d ∙ same.mode ∙ sym (move-mode s' (m ∷ rest) d);
          held =
              delivered-alike d m (destinations t c) 0 (omega arith) (taken s rest) (taken s' rest) (taken-shaped s rest shape) (taken-shaped s' rest shape')
              (λ k. taken-held s rest shape d k ∙ same.held k ∙ sym (taken-held s' rest shape' d k));
        }

    pub move-queue :
        (queue : List Message) (b : ℕ) → b < channels t → (port s (source_port t b)).queue ≡ (port s' (source_port t b)).queue
        → (port (state_of s (transmit_oldest t time_at s c queue)) (source_port t b)).queue
        ≡ (port (state_of s' (transmit_oldest t time_at s' c queue)) (source_port t b)).queue
    move-queue [] b there same = same
    move-queue (m ∷ rest) b there same = go (eqb b c) refl
      where
        go :
            (x : Bool) → eqb b c ≡ x
            → (port (state_of s (transmit_oldest t time_at s c (m ∷ rest))) (source_port t b)).queue
            ≡ (port (state_of s' (transmit_oldest t time_at s' c (m ∷ rest))) (source_port t b)).queue
        go true e = rw (eqb-true b c e) (move-own-source s m rest shape ∙ sym (move-own-source s' m rest shape'))
        go false e =
            ap (λ q. q.queue) (move-other-source s (m ∷ rest) b there (eqb-false _ _ e)) ∙ same
            ∙ sym (ap (λ q. q.queue) (move-other-source s' (m ∷ rest) b there (eqb-false _ _ e)))

    pub move-answer :
        (doer : ℕ) (queue : List Message)
        → answer_of doer (transmit_oldest t time_at s c queue) ≡ answer_of doer (transmit_oldest t time_at s' c queue)
    move-answer doer [] = refl
    move-answer doer (m ∷ rest) = refl
