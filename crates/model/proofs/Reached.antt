-- No reached state gets 29: what load, step and run give is in range.
-- Assumes nothing.
use Prim.Native.Nat.{ℕ}
use mathlib.Core.Path.{◌≡◌, refl}
use mathlib.Core.Bool.{true}
use mathlib.Core.List.{List, [], ◌∷◌}
use lib.Dec.{ltb, eqb}
use lib.ListN.{length, length-replicate, get_or-replicate}
use borrow.Author.Tests.{ltb-true}
use Rattle.model.specs.Tables.{Tables, window_partition, mover, channels}
use Rattle.model.specs.Load.{accepts}
use Rattle.model.specs.State.{State, fresh, loaded}
use Rattle.model.specs.Events.{Event, event_size, Asked, clock_step, call, move, unknown, decode}
use Rattle.model.specs.Services.{Reply, refuse, done}
use Rattle.model.specs.Step.{turn_in, turn, reply_in, reply, state_of, after}
use Rattle.model.specs.Run.{after_all, events_of, is_sound, ran_or, Ran, Reached, by_load, by_step, by_run}
use Rattle.model.specs.Run as Run
use Rattle.model.proofs.Tests.{both, by-test}
use Rattle.model.proofs.Accepted.{Accepted, accepted}
use Rattle.model.proofs.Lists.{Sized, none, one, events-sized}
use Rattle.model.specs.Ranged.{Ranged}
use Rattle.model.proofs.Ranges.{in-range}
use Rattle.model.proofs.RangesKept.{Fine, fresh-ranged, service-fine, schedule-fine, transmit-fine}

module _ (t : Tables) (good : Accepted t) where
  reply-fine : (s : State) → Ranged t s → (e : Event) → length e ≡ event_size → Fine t (reply t s e)
  unfolding reply turn turn_in reply_in
  reply-fine s h e n = go (decode e)
    where
      owner : ℕ
      owner = window_partition t s.clock.window

      go : (a : Asked) → Fine t (reply_in t s e (turn_in t owner a))
      go unknown = tt
      go clock_step = schedule-fine t good s h
      go (call f) = by-test (λ x. Fine t (reply_in t s e x)) (eqb owner mover) (λ x. tt) (λ x. service-fine t good s h s.clock.time owner e f n)
      go (move c) =
          by-test (λ x. Fine t (reply_in t s e x)) (eqb owner mover)
          (λ x. by-test (λ x. Fine t (reply_in t s e x)) (ltb c (channels t)) (λ y. transmit-fine t good (λ k. s.clock.time) s h c (ltb-true c (channels t) y)) (λ y. tt))
          (λ x. tt)

  pub after-ranged : (s : State) → Ranged t s → (e : Event) → length e ≡ event_size → Ranged t (after t s e)
  unfolding after
  after-ranged s h e n = go (reply t s e) (reply-fine s h e n)
    where
      go : (r : Reply) → Fine t r → Ranged t (state_of s r)
      go (refuse code) f = h
      go (done v s') f = f

  pub all-ranged : (s : State) → Ranged t s → (es : List Event) → Sized event_size es → Ranged t (after_all t s es)
  all-ranged s h [] none = h
  all-ranged s h (e ∷ es) (one n rest) = all-ranged (after t s e) (after-ranged s h e n) es rest

  pub loaded-ranged : Ranged t (loaded t)
  unfolding loaded
  loaded-ranged =
      record {
        in_window = good.windowed;
        sixteen = refl;
        moded = refl;
        whole = length-replicate _ fresh;
        each = λ k h. rw (get_or-replicate _ k fresh fresh h) (fresh-ranged _);
      }

  -- what a call that is not refused, or is refused, gives from a state in range
  ran-ranged : (fault : ℕ) (s : State) (events buffer : List ℕ) → Ranged t s → Ranged t (ran_or fault t s events buffer).state
  unfolding ran_or
  ran-ranged fault s events buffer h =
      by-test (λ (r : Ran). Ranged t r.state) (eqb fault 0) (λ e. all-ranged s h (events_of events) (events-sized events)) (λ e. h)

pub reached-accepted : (t : Tables) (s : State) → Reached t s → accepts t ≡ true
reached-accepted t s (by_load ok) = ok
reached-accepted t s (by_step {s = s'} event buffer e r) = reached-accepted t s' r
reached-accepted t s (by_run {s = s'} events buffer e r) = reached-accepted t s' r

pub reached-ranged : (t : Tables) (s : State) → Reached t s → Ranged t s
unfolding Run.step Run.run
reached-ranged t s (by_load ok) = loaded-ranged t (accepted t ok)
reached-ranged t s (by_step {s = s'} event buffer e r) = ran-ranged t (accepted t (reached-accepted t s' r)) _ s' event buffer (reached-ranged t s' r)
reached-ranged t s (by_run {s = s'} events buffer e r) = ran-ranged t (accepted t (reached-accepted t s' r)) _ s' events buffer (reached-ranged t s' r)

-- so tables and state pass test 29
pub reached-sound : (t : Tables) (s : State) → Reached t s → is_sound t s ≡ true
reached-sound t s r = both (reached-accepted t s r) (in-range t s (reached-ranged t s r))
