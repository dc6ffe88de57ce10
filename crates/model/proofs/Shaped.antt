-- The shape of a state: a port for each row, sixteen modes, a window of the tables. Any event keeps it, and reached states have it.
-- Assumes the laws of accepted tables.
use Prim.Native.Nat.{ℕ, zero, suc, ◌<◌}
use mathlib.Core.Path.{◌≡◌, refl, ap, ◌∙◌}
use mathlib.Core.List.{List, [], ◌∷◌}
use lib.Dec.{ltb, eqb}
use lib.ListN.{length, length-set}
use borrow.Author.Tests.{ltb-true}
use Rattle.model.proofs.Accepted.{Accepted}
use Rattle.model.proofs.Tests.{by-test}
use Rattle.model.proofs.Reached.{reached-ranged}
use Rattle.model.proofs.Replies.{CallReply, refusing, telling, porting, moding, call-reply}
use Rattle.model.specs.Tables.{Tables, windows, row, destinations, destination_port, source_port}
use Rattle.model.specs.Tables.{ports as port_count}
use Rattle.model.specs.State.{Message, Port, State, partitions, normal, port, with_port, with_queue, tick}
use Rattle.model.specs.Events.{Event}
use Rattle.model.specs.Services.{Reply, unmade, with_mode, schedule, arrived, delivered, transmit_oldest, transmit}
use Rattle.model.specs.Step.{Turn, no_turn, clock_turn, call_turn, move_turn, turn, reply_in, reply, state_of, after}
use Rattle.model.specs.Run.{Reached}

pub record Shaped (t : Tables) (s : State) : Type 0 where
  pub ports_length : length s.ports ≡ port_count t
  pub modes_length : length s.modes ≡ partitions
  pub in_window : s.clock.window < windows t

length-unmade : (t : Tables) (p k : ℕ) (qs : List Port) → length (unmade t p k qs) ≡ length qs
length-unmade t p k [] = refl
length-unmade t p k (q ∷ qs) = ap suc (length-unmade t p (suc k) qs)

module _ (t : Tables) where
  pub port-shaped : (s : State) (k : ℕ) (q : Port) → Shaped t s → Shaped t (with_port s k q)
  port-shaped s k q shape =
      record {
        ports_length = length-set s.ports k q ∙ shape.ports_length;
        modes_length = shape.modes_length;
        in_window = shape.in_window;
      }

  mode-shaped : (s : State) (p m : ℕ) → Shaped t s → Shaped t (with_mode t s p m)
  unfolding with_mode
  mode-shaped s p m shape =
      record {
        ports_length =
            by-test (λ (qs : List Port). length qs ≡ port_count t) (eqb m normal) (λ h. shape.ports_length)
            (λ h. length-unmade t p 0 s.ports ∙ shape.ports_length);
        modes_length = length-set s.modes p m ∙ shape.modes_length;
        in_window = shape.in_window;
      }

  pub call-shaped : (s : State) (p : ℕ) (r : Reply) → CallReply t s p r → Shaped t s → Shaped t (state_of s r)
  call-shaped s p r (refusing code) shape = shape
  call-shaped s p r (telling v) shape = shape
  call-shaped s p r (porting v k q there owned) shape = port-shaped s k q shape
  call-shaped s p r (moding v m) shape = mode-shaped s p m shape

  delivered-shaped : (time_at : ℕ → ℕ) (c : ℕ) (m : Message) (n j : ℕ) (s : State) → Shaped t s → Shaped t (delivered t time_at c m n j s)
  delivered-shaped time_at c m zero j s shape = shape
  delivered-shaped time_at c m (suc n) j s shape =
      let k = destination_port t c j in
      delivered-shaped time_at c m n (suc j) _ (port-shaped s k (arrived (time_at k) (row t k) m (port s k)) shape)

  pub transmit-shaped :
      (time_at : ℕ → ℕ) (s : State) (c : ℕ) (queue : List Message) → Shaped t s
      → Shaped t (state_of s (transmit_oldest t time_at s c queue))
  transmit-shaped time_at s c [] shape = shape
  transmit-shaped time_at s c (m ∷ rest) shape =
      delivered-shaped time_at c m (destinations t c) 0 _ (port-shaped s (source_port t c) (with_queue (port s (source_port t c)) rest) shape)

  module _ (laws : Accepted t) where
    pub clock-shaped : (s : State) → Shaped t s → Shaped t (state_of s (schedule t s))
    unfolding schedule tick
    clock-shaped s shape =
        record {
          ports_length = shape.ports_length;
          modes_length = shape.modes_length;
          in_window = by-test (λ w. w < windows t) (ltb (suc s.clock.window) (windows t)) (ltb-true _ _) (λ h. laws.windowed);
        }

    reply-shaped : (s : State) (e : Event) (whose : Turn) → Shaped t s → Shaped t (state_of s (reply_in t s e whose))
    unfolding reply_in transmit
    reply-shaped s e (no_turn code) shape = shape
    reply-shaped s e clock_turn shape = clock-shaped s shape
    reply-shaped s e (call_turn p f) shape = call-shaped s p _ (call-reply t s p e f s.clock.time) shape
    reply-shaped s e (move_turn c) shape = transmit-shaped (λ k. s.clock.time) s c (port s (source_port t c)).queue shape

    pub after-shaped : (s : State) (e : Event) → Shaped t s → Shaped t (after t s e)
    unfolding after reply
    after-shaped s e shape = reply-shaped s e (turn t s e) shape

-- a reached state is in range, and so has this shape
pub reached-shaped : (t : Tables) (s : State) → Reached t s → Shaped t s
reached-shaped t s reached =
    let ranged = reached-ranged t s reached in
    record { ports_length = ranged.whole; modes_length = ranged.sixteen; in_window = ranged.in_window }
