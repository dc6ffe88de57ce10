-- Times fit 32 bits: the clock's time and each port's arrival time stay below 2^32 through every event.
-- Assumes nothing.
use Prim.Native.Nat.{ℕ, zero, suc, ◌-◌, ◌<◌}
use mathlib.Core.Bool.{◌&&◌, ◌||◌, not}
use mathlib.Core.List.{List, [], ◌∷◌}
use native.Mathlib.Omega.{arith}
use lib.Dec.{eqb, ltb}
use lib.ListN.{get_or, set}
use Rattle.model.specs.Tables.{Tables, Row, row, sampling, destinations, destination_port, source_port}
use Rattle.model.specs.Tables.{ports as port_count}
use Rattle.model.specs.State.{Message, Port, State, fresh, normal, mode_of, port, with_port, with_queue, is_created, tick}
use Rattle.model.specs.Events.{Event, Call, need}
use Rattle.model.specs.Services.{Reply, refuse, done, Served, refuses, serves, at_port, directed, like_row, made, create, get_id, own, put, read_oldest, take_oldest, get, cleared, serve, use_own, with_mode, set_mode, look_up, service, schedule, arrived, delivered, transmit_oldest, transmit}
use Rattle.model.specs.Step.{Turn, no_turn, clock_turn, call_turn, move_turn, turn, reply_in, reply, state_of, after}
use Rattle.model.specs.Run.{after_all}
use Rattle.model.proofs.Tests.{by-test}
use Rattle.model.proofs.PortAfter.{mode-port}

abbrev pub most : ℕ
most = 4294967296

pub record Timed (s : State) : Type 0 where
  pub time : s.clock.time < most
  pub arrivals : (k : ℕ) → (port s k).arrival < most

-- of a reply: the state that it leaves; of a service at one port: what the port keeps
abbrev TimedReply : Reply → Type 0
TimedReply (refuse code) = Unit {0}
TimedReply (done v s) = Timed s

abbrev TimedPort : Served → Type 0
TimedPort (refuses code) = Unit {0}
TimedPort (serves v q) = q.arrival < most

-- one port replaced
set-timed : (ps : List Port) (k : ℕ) (q : Port) → q.arrival < most → ((j : ℕ) → (get_or ps j fresh).arrival < most) → (j : ℕ) → (get_or (set ps k q) j fresh).arrival < most
set-timed [] k q new old j = old j
set-timed (p ∷ ps) zero q new old zero = new
set-timed (p ∷ ps) zero q new old (suc j) = old (suc j)
set-timed (p ∷ ps) (suc k) q new old zero = old 0
set-timed (p ∷ ps) (suc k) q new old (suc j) = set-timed ps k q new (λ i. old (suc i)) j

port-timed : (s : State) (k : ℕ) (q : Port) → Timed s → q.arrival < most → Timed (with_port s k q)
port-timed s k q h new = record { time = h.time; arrivals = set-timed s.ports k q new h.arrivals }

at-port-timed : (s : State) (k : ℕ) (x : Served) → Timed s → TimedPort x → TimedReply (at_port s k x)
at-port-timed s k (refuses code) h x = tt
at-port-timed s k (serves v q) h x = port-timed s k q h x

-- the services at one port keep its arrival time
module _ (r : Row) (q : Port) (h : q.arrival < most) where
  made-timed : (id mode : ℕ) (f : Call) → TimedPort (made id mode r f q)
  unfolding made
  made-timed id mode f =
      by-test TimedPort (is_created q) (λ e. tt)
      (λ e. by-test TimedPort (not (like_row r f)) (λ e. tt) (λ e. by-test TimedPort (eqb mode normal) (λ e. tt) (λ e. h)))

  put-timed : (e : Event) (f : Call) → TimedPort (put r e f q)
  unfolding put
  put-timed e f =
      by-test TimedPort (eqb f.size 0) (λ x. tt)
      (λ x. by-test TimedPort (ltb r.largest f.size) (λ y. tt)
      (λ y. by-test TimedPort (not (directed (need f.code) r)) (λ z. tt) (λ z. h)))

  read-timed : (time : ℕ) (queue : List Message) → TimedPort (read_oldest r.refresh time q queue)
  read-timed time [] = tt
  read-timed time (m ∷ rest) = h

  take-timed : (queue : List Message) → TimedPort (take_oldest q queue)
  take-timed [] = tt
  take-timed (m ∷ rest) = h

  serve-timed : (time : ℕ) (e : Event) (f : Call) → TimedPort (serve time r e f q)
  unfolding serve get cleared
  serve-timed time e f =
      by-test TimedPort (eqb f.code 2 || eqb f.code 7) (λ x. put-timed e f)
      (λ x. by-test TimedPort (eqb f.code 3 || eqb f.code 8)
      (λ y. by-test TimedPort (not (directed (need f.code) r)) (λ z. tt)
      (λ z. by-test TimedPort (eqb f.code 3) (λ w. read-timed time q.queue) (λ w. take-timed q.queue)))
      (λ y. by-test TimedPort (eqb f.code 11) (λ z. by-test TimedPort (not (directed (need f.code) r)) (λ w. tt) (λ w. h)) (λ z. h)))

  arrived-timed : (time : ℕ) (m : Message) → time < most → (arrived time r m q).arrival < most
  unfolding arrived
  arrived-timed time m n =
      by-test (λ (p : Port). p.arrival < most) (is_created q) (λ e. by-test (λ a. a < most) (eqb r.mode sampling) (λ e. n) (λ e. h)) (λ e. h)

module _ (t : Tables) (s : State) (h : Timed s) where
  mode-timed : (p m : ℕ) → Timed (with_mode t s p m)
  unfolding with_mode
  mode-timed p m = record { time = h.time; arrivals = arrivals }
    where
      arrivals : (k : ℕ) → (port (with_mode t s p m) k).arrival < most
      arrivals k =
          rw (mode-port t p m s k)
          (by-test (λ (q : Port). q.arrival < most) (eqb m normal) (λ e. h.arrivals k)
          (λ e. by-test (λ (q : Port). q.arrival < most) (eqb (row t k).owner p) (λ e. omega arith) (λ e. h.arrivals k)))

  set-mode-timed : (p m : ℕ) → TimedReply (set_mode t s p m)
  unfolding set_mode
  set-mode-timed p m =
      by-test TimedReply (ltb normal m) (λ e. tt)
      (λ e. by-test TimedReply (eqb m normal && eqb (mode_of s p) normal) (λ x. tt)
      (λ x. by-test TimedReply (eqb m 2 && eqb (mode_of s p) 1) (λ y. tt) (λ y. mode-timed p m)))

  service-timed : (time p : ℕ) (e : Event) (f : Call) → TimedReply (service t time s p e f)
  unfolding service create get_id use_own
  service-timed time p e f =
      by-test TimedReply (eqb (mode_of s p) 0) (λ x. tt)
      (λ x. by-test TimedReply (eqb f.code 1 || eqb f.code 6)
      (λ y. by-test TimedReply (ltb k (port_count t)) (λ z. at-port-timed s k (made (suc k) (mode_of s p) (row t k) f (port s k)) h (made-timed (row t k) (port s k) (h.arrivals k) (suc k) (mode_of s p) f)) (λ z. tt))
      (λ y. by-test TimedReply (eqb f.code 4 || eqb f.code 9)
      (λ z. by-test TimedReply (ltb k (port_count t) && is_created (port s k)) (λ w. h) (λ w. tt))
      (λ z. by-test TimedReply (eqb f.code 12) (λ w. set-mode-timed p f.choice)
      (λ w. by-test TimedReply (own t s p f)
      (λ v. at-port-timed s i (serve time (row t i) e f (port s i)) h (serve-timed (row t i) (port s i) (h.arrivals i) time e f)) (λ v. tt)))))
    where
      k : ℕ
      k = look_up t p (need f.code).mode e

      i : ℕ
      i = f.id - 1

  schedule-timed : TimedReply (schedule t s)
  unfolding schedule tick
  schedule-timed = record { time = omega arith; arrivals = h.arrivals }

  delivered-timed : (time c : ℕ) (m : Message) → time < most → (n j : ℕ) (a : State) → Timed a → Timed (delivered t (λ k. time) c m n j a)
  delivered-timed time c m l zero j a g = g
  delivered-timed time c m l (suc n) j a g =
      let k = destination_port t c j in
      delivered-timed time c m l n (suc j) _ (port-timed a k (arrived time (row t k) m (port a k)) g (arrived-timed (row t k) (port a k) (g.arrivals k) time m l))

  transmit-timed : (c : ℕ) (queue : List Message) → TimedReply (transmit_oldest t (λ k. s.clock.time) s c queue)
  transmit-timed c [] = tt
  transmit-timed c (m ∷ rest) =
      let k = source_port t c in
      delivered-timed s.clock.time c m h.time (destinations t c) 0 _ (port-timed s k (with_queue (port s k) rest) h (h.arrivals k))

  reply-timed : (e : Event) (whose : Turn) → TimedReply (reply_in t s e whose)
  unfolding reply_in transmit
  reply-timed e (no_turn code) = tt
  reply-timed e clock_turn = schedule-timed
  reply-timed e (call_turn p f) = service-timed s.clock.time p e f
  reply-timed e (move_turn c) = transmit-timed c (port s (source_port t c)).queue

  after-timed : (e : Event) → Timed (after t s e)
  unfolding after reply
  after-timed e = go (reply_in t s e (turn t s e)) (reply-timed e (turn t s e))
    where
      go : (r : Reply) → TimedReply r → Timed (state_of s r)
      go (refuse code) x = h
      go (done v s') x = x

pub all-timed : (t : Tables) (s : State) → Timed s → (es : List Event) → Timed (after_all t s es)
all-timed t s h [] = h
all-timed t s h (e ∷ es) = all-timed t (after t s e) (after-timed t s h e) es
