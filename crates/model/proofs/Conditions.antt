-- The unwinding conditions of the model's step, by whose turn it is.
-- Assumes the laws of accepted tables, of states with the shape that reached states have.
use Prim.Native.Nat.{ℕ, ◌+◌, ◌<◌}
use mathlib.Core.Path.{◌≡◌, refl, ap, ◌∙◌}
use mathlib.Core.Bool.{false, true≢false}
use mathlib.Core.List.{List}
use mathlib.Core.Logic.{◌⊎◌, inl, inr}
use lib.Dec.{ltb, eqb}
use borrow.Author.Tests.{ltb-true, eqb-false}
use Rattle.model.proofs.Accepted.{Accepted}
use Rattle.model.proofs.Tests.{by-test}
use Rattle.model.proofs.CallConditions.{call-leaves, call-tells, call-carries}
use Rattle.model.proofs.HeldPorts.{same-clock, same-part, same_queue, same-holding}
use Rattle.model.proofs.MoveConditions.{move-leaves, move-tells, move-carries}
use Rattle.model.proofs.Shaped.{Shaped, clock-shaped, after-shaped}
use Rattle.model.proofs.Unwinding.{Machine, Agree, Conditions}
use Rattle.model.specs.Tables.{Tables, mover, window_partition, channels}
use Rattle.model.specs.State.{State, tick}
use Rattle.model.specs.Events.{Event, Asked, clock_step, call, move, unknown, decode}
use Rattle.model.specs.Answers.{told_number}
use Rattle.model.specs.Services.{done, service, schedule, transmit}
use Rattle.model.specs.Step.{Turn, no_turn, clock_turn, call_turn, move_turn, turn_in, turn, scheduler, first_channel, doer_in, doer}
use Rattle.model.specs.Step.{reply_in, reply, answer_of, state_of, answer, after}
use Rattle.model.specs.Flow.{Holding, holds, hands, schedulers}

-- the model as a machine
abbrev pub machine : Tables → Machine State Event (List ℕ) Holding
machine t = record { after = after t; doer = doer t; answer = answer t; hands = hands t; holds = holds t; schedulers = schedulers }

-- a turn names a partition or a channel that there is
abbrev pub Fitting : Tables → Turn → Type 0
Fitting t (no_turn code) = Unit {0}
Fitting t clock_turn = Unit {0}
Fitting t (call_turn p f) = p < 16
Fitting t (move_turn c) = c < channels t

turn-in-fits : (t : Tables) (owner : ℕ) → (owner < 16) ⊎ (owner ≡ mover) → (asked : Asked) → Fitting t (turn_in t owner asked)
unfolding turn_in
turn-in-fits t owner kind unknown = tt
turn-in-fits t owner kind clock_step = tt
turn-in-fits t owner kind (call f) = by-test (Fitting t) (eqb owner mover) (λ h. tt) (λ h. go kind h)
  where
    go : (owner < 16) ⊎ (owner ≡ mover) → eqb owner mover ≡ false → owner < 16
    go (inl few) h = few
    go (inr is) h = absurd (eqb-false owner mover h is)
turn-in-fits t owner kind (move c) =
    by-test (Fitting t) (eqb owner mover) (λ h. by-test (Fitting t) (ltb c (channels t)) (λ g. ltb-true _ _ g) (λ g. tt)) (λ h. tt)

module _ (t : Tables) (laws : Accepted t) where
  pub turn-fits : (s : State) (e : Event) → Shaped t s → Fitting t (turn t s e)
  unfolding turn
  turn-fits s e shape = turn-in-fits t _ (laws.window s.clock.window shape.in_window) (decode e)

  -- the scheduler's turn
  clock-carries :
      (s s' : State) → Shaped t s → Shaped t s' → s.clock ≡ s'.clock → (d : ℕ) → holds t s d ≡ holds t s' d
      → holds t (state_of s (schedule t s)) d ≡ holds t (state_of s' (schedule t s')) d
  unfolding schedule
  clock-carries s s' shape shape' clock d same =
      same-holding t _ _ d (clock-shaped t laws s shape) (clock-shaped t laws s' shape') (λ is. ap (tick t) clock)
      (λ few. let alike = same-part t s s' d few same in record { mode = alike.mode; held = alike.held })
      (λ c there is. same_queue t s s' c there (rw is at same))

  clock-tells : (s s' : State) → s.clock ≡ s'.clock → answer_of scheduler (schedule t s) ≡ answer_of scheduler (schedule t s')
  unfolding schedule
  clock-tells s s' clock = ap (λ c. answer_of scheduler (done (told_number (tick t c).time) s)) clock

  -- an event leaves alone what its doer neither is nor hands to
  turn-leaves :
      (s : State) (e : Event) (whose : Turn) → Fitting t whose → Shaped t s → (d : ℕ)
      → eqb (doer_in whose) d ≡ false → hands t (doer_in whose) d ≡ false → holds t (state_of s (reply_in t s e whose)) d ≡ holds t s d
  unfolding reply_in hands
  turn-leaves s e (no_turn code) fits shape d other none = refl
  turn-leaves s e clock_turn fits shape d other none = absurd (true≢false none)
  turn-leaves s e (call_turn p f) fits shape d other none = call-leaves t e p s.clock.time f s shape d other none
  turn-leaves s e (move_turn c) fits shape d other none = move-leaves t laws (λ k. s.clock.time) c fits s shape d other none

  module _ (s s' : State) (shape : Shaped t s) (shape' : Shaped t s') (clock : s.clock ≡ s'.clock) (e : Event) where
    -- agreement on the scheduler, on the doer and on d carries over a step to d
    turn-carries :
        (whose : Turn) → Fitting t whose → holds t s (doer_in whose) ≡ holds t s' (doer_in whose)
        → (d : ℕ) → holds t s d ≡ holds t s' d
        → holds t (state_of s (reply_in t s e whose)) d ≡ holds t (state_of s' (reply_in t s' e whose)) d
    unfolding reply_in
    turn-carries (no_turn code) fits mine d same = same
    turn-carries clock_turn fits mine d same = clock-carries s s' shape shape' clock d same
    turn-carries (call_turn p f) fits mine d same =
        call-carries t e p s.clock.time f laws fits s s' shape shape' mine d clock same
        ∙ ap (λ c. holds t (state_of s' (service t c.time s' p e f)) d) clock
    turn-carries (move_turn c) fits mine d same =
        move-carries t laws (λ k. s.clock.time) c fits s s' shape shape' mine d clock same
        ∙ ap (λ now. holds t (state_of s' (transmit t (λ k. now.time) s' c)) d) clock

    -- agreement on the scheduler and on the doer gives the same answer
    turn-tells :
        (whose : Turn) → Fitting t whose → holds t s (doer_in whose) ≡ holds t s' (doer_in whose)
        → answer_of (doer_in whose) (reply_in t s e whose) ≡ answer_of (doer_in whose) (reply_in t s' e whose)
    unfolding reply_in
    turn-tells (no_turn code) fits mine = refl
    turn-tells clock_turn fits mine = clock-tells s s' clock
    turn-tells (call_turn p f) fits mine =
        call-tells t e p s.clock.time f laws fits s s' shape shape' mine
        ∙ ap (λ c. answer_of p (service t c.time s' p e f)) clock
    turn-tells (move_turn c) fits mine =
        move-tells t laws (λ k. s.clock.time) c fits s s' shape shape' mine
        ∙ ap (λ now. answer_of (first_channel + c) (transmit t (λ k. now.time) s' c)) clock

    -- whose turn it is depends on the clock alone
    turn-same : turn t s e ≡ turn t s' e
    unfolding turn
    turn-same = ap (λ c. turn_in t (window_partition t c.window) (decode e)) clock

  agreed-clock : (s s' : State) → Agree (machine t) schedulers s s' → s.clock ≡ s'.clock
  agreed-clock s s' agree = same-clock t s s' (agree scheduler refl)

  pub conditions : Conditions (machine t) (Shaped t)
  unfolding doer reply answer after
  conditions =
      record {
        keeps = λ s e shape. after-shaped t laws s e shape;
        doers = λ s s' e shape shape' agree. ap doer_in (turn-same s s' shape shape' (agreed-clock s s' agree) e);
        leaves = λ s e d shape other none. turn-leaves s e (turn t s e) (turn-fits s e shape) shape d other none;
        carries = λ s s' e d shape shape' agree mine same.
            turn-carries s s' shape shape' (agreed-clock s s' agree) e (turn t s e) (turn-fits s e shape) mine d same
            ∙ ap (λ whose. holds t (state_of s' (reply_in t s' e whose)) d) (turn-same s s' shape shape' (agreed-clock s s' agree) e);
        tells = λ s s' e shape shape' agree mine.
            turn-tells s s' shape shape' (agreed-clock s s' agree) e (turn t s e) (turn-fits s e shape) mine
            ∙ ap (λ whose. answer_of (doer_in whose) (reply_in t s' e whose)) (turn-same s s' shape shape' (agreed-clock s s' agree) e);
      }
