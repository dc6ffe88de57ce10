-- Whose turn an event is, case by case, and what a doer's act then gives.
-- Assumes nothing.
use Prim.Native.Nat.{ℕ, suc, ◌+◌, ◌≤◌, ◌<◌}
use mathlib.Core.Path.{◌≡◌, refl, sym, ◌∙◌, ap, ap₂, subst}
use mathlib.Core.Bool.{Bool, true}
use mathlib.Core.List.{List}
use mathlib.Core.Logic.{⊎_elim}
use lib.Dec.{eqb}
use borrow.Author.Tests.{eq-eqb, ne_eqb, lt-ltb, le-ltb}
use Rattle.model.specs.Words.{byte}
use Rattle.model.specs.Tables.{Tables, windows, channels, window_partition, window_length}
use Rattle.model.specs.State.{State, tick}
use Rattle.model.specs.State as model
use Rattle.model.specs.Events.{Event, Call, Asked, unknown, clock_step, call, move, decode, known, need}
use Rattle.model.specs.Services.{Reply, refuse, service, schedule, transmit}
use Rattle.model.specs.Step.{turn_in, turn, doer, reply_in, reply, state_of, after}
use Rattle.model.proofs.Tests.{by-test}
use Rattle.model.specs.Answers.{told_number}
use Rattle.model.proofs.Accepted.{Accepted}
use Rattle.events.specs.declared.answers.Answer.{Answer}
use Rattle.events.specs.declared.clock.Clock.{Clock}
use Rattle.events.specs.Shown.{replied, told_as}
use Rattle.service_contracts.specs.Did.{shown, Does}
use Rattle.event_step.specs.Turned.{clock_of, Answers}

-- an event's doer and reply
pub record At (t : Tables) (s : State) (e : Event) (d : ℕ) (x : Reply) : Type 0 where
  pub doing : doer t s e ≡ d
  pub replying : reply t s e ≡ x

module _ (t : Tables) (s : State) (e : Event) where
  pub at-unknown : decode e ≡ unknown → At t s e 255 (refuse 19)
  unfolding doer reply turn turn_in reply_in
  at-unknown a = record { doing = rw a; replying = rw a }

  pub at-clock : decode e ≡ clock_step → At t s e 32 (schedule t s)
  unfolding doer reply turn turn_in reply_in
  at-clock a = record { doing = rw a; replying = rw a }

  pub at-mover-call : (f : Call) → decode e ≡ call f → window_partition t s.clock.window ≡ 32 → At t s e 255 (refuse 16)
  unfolding doer reply turn turn_in reply_in
  at-mover-call f a o = record { doing = rw (a, eq-eqb (window_partition t s.clock.window) 32 o); replying = rw (a, eq-eqb (window_partition t s.clock.window) 32 o) }

  pub at_call : (f : Call) → decode e ≡ call f → (window_partition t s.clock.window ≡ 32 → ⊥)
      → At t s e (window_partition t s.clock.window) (service t s.clock.time s (window_partition t s.clock.window) e f)
  unfolding doer reply turn turn_in reply_in
  at_call f a o = record { doing = rw (a, ne_eqb (window_partition t s.clock.window) 32 o); replying = rw (a, ne_eqb (window_partition t s.clock.window) 32 o) }

  pub at-partition-move : (c : ℕ) → decode e ≡ move c → (window_partition t s.clock.window ≡ 32 → ⊥) → At t s e 255 (refuse 17)
  unfolding doer reply turn turn_in reply_in
  at-partition-move c a o = record { doing = rw (a, ne_eqb (window_partition t s.clock.window) 32 o); replying = rw (a, ne_eqb (window_partition t s.clock.window) 32 o) }

  pub at-no-channel : (c : ℕ) → decode e ≡ move c → window_partition t s.clock.window ≡ 32 → channels t ≤ c → At t s e 255 (refuse 18)
  unfolding doer reply turn turn_in reply_in
  at-no-channel c a o h =
      record {
        doing = rw (a, eq-eqb (window_partition t s.clock.window) 32 o, le-ltb c (channels t) h);
        replying = rw (a, eq-eqb (window_partition t s.clock.window) 32 o, le-ltb c (channels t) h);
      }

  pub at-move : (c : ℕ) → decode e ≡ move c → window_partition t s.clock.window ≡ 32 → c < channels t → At t s e (64 + c) (transmit t (λ k. s.clock.time) s c)
  unfolding doer reply turn turn_in reply_in
  at-move c a o h =
      record {
        doing = rw (a, eq-eqb (window_partition t s.clock.window) 32 o, lt-ltb c (channels t) h);
        replying = rw (a, eq-eqb (window_partition t s.clock.window) 32 o, lt-ltb c (channels t) h);
      }

-- an act of that doer is the event's answer, and leaves the state after it
pub acts : {t : Tables} {e : Event} {clock clock' : Clock} {modes numbers bytes modes' numbers' bytes' : List ℕ} {d : ℕ} {x : Reply} {r : Answer}
    → At t (shown t (clock_of clock) modes numbers bytes) e d x → Does (shown t (clock_of clock) modes numbers bytes) x d r (shown t (clock_of clock') modes' numbers' bytes')
    → Answers t e clock modes numbers bytes r clock' modes' numbers' bytes'
unfolding after
acts h a =
    record {
      answered = a.answered ∙ sym (ap₂ replied h.doing h.replying);
      left = a.left ∙ sym (ap (state_of _) h.replying);
    }

-- a call that was decoded has a known code
abbrev known_asked : Asked → Bool
known_asked unknown = true
known_asked clock_step = true
known_asked (call f) = known f.code
known_asked (move c) = true

all_known : (e : Event) → known_asked (decode e) ≡ true
unfolding decode
all_known e =
    by-test (λ x. known_asked x ≡ true) (known (byte e 0))
    (λ k. by-test (λ x. known_asked x ≡ true) (eqb (need (byte e 0)).caller 0) (λ p. k)
    (λ p. by-test (λ x. known_asked x ≡ true) (eqb (need (byte e 0)).caller 1) (λ q. refl) (λ q. refl)))
    (λ k. refl)

pub decoded-known : (e : Event) (f : Call) → decode e ≡ call f → known f.code ≡ true
decoded-known e f a = subst (λ x. known_asked x ≡ true) a (all_known e)

-- in a window that is no mover's, the partition is one of the sixteen
pub owner-few : (t : Tables) → Accepted t → (w : ℕ) → w < windows t → (window_partition t w ≡ 32 → ⊥) → window_partition t w < 16
owner-few t a w h n = ⊎_elim (λ few. few) (λ q. absurd (n q)) (a.window w h)

-- the clock's step
pub tick-next : (t : Tables) (c : model.Clock) → suc c.window < windows t → tick t c ≡ record { window = suc c.window; time = model.wrap (c.time + window_length t c.window) }
unfolding tick
tick-next t c h = rw (lt-ltb (suc c.window) (windows t) h)

pub tick-first : (t : Tables) (c : model.Clock) → windows t ≤ suc c.window → tick t c ≡ record { window = 0; time = model.wrap (c.time + window_length t c.window) }
unfolding tick
tick-first t c h = rw (le-ltb (suc c.window) (windows t) h)

-- a clock step in the shown state
pub schedule-does : (t : Tables) (clock clock' : model.Clock) (modes numbers bytes : List ℕ) (r : Answer) → clock' ≡ tick t clock → r ≡ told_as 32 (told_number clock'.time)
    → Does (shown t clock modes numbers bytes) (schedule t (shown t clock modes numbers bytes)) 32 r (shown t clock' modes numbers bytes)
unfolding schedule
schedule-does t clock clock' modes numbers bytes r e a =
    record { answered = a ∙ ap (λ c. told_as 32 (told_number c.time)) e; left = ap (λ c. shown t c modes numbers bytes) e }
