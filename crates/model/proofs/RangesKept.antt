-- The services keep a state in range: each leaves its port in range, and so do a mode change, a clock step and a move.
-- Assumes nothing.
use Rattle.std.specs.Prelude.{if◌then◌else◌}
use Prim.Native.Nat.{ℕ, zero, suc, ◌+◌, ◌-◌, ◌≤◌, ◌<◌}
use mathlib.Core.Path.{◌≡◌, refl, sym, ◌∙◌, ap}
use mathlib.Core.Bool.{Bool, true, false, ◌&&◌, ◌||◌, not}
use mathlib.Core.List.{List, [], ◌∷◌, ◌++◌}
use native.Mathlib.Nat.{add-zero, add-suc, suc-add}
use native.Mathlib.Omega.{arith}
use lib.Dec.{leb, ltb, eqb, eqb-suc-zero}
use lib.ListN.{length, get_or, set, drop, length-append, length-set, length-drop}
use lib.Seq.{length-take-le}
use borrow.Author.Tests.{leb-false, le-leb, ltb-true, ltb-false, eqb-false}
use Rattle.model.specs.Words.{between, all_in}
use Rattle.model.specs.Tables.{Tables, windows, Row, row, room, sampling, source_port, destinations, destination_port}
use Rattle.model.specs.Tables.{ports as port_count, channels as channel_count}
use Rattle.model.specs.State.{Message, Port, State, fresh, normal, port, mode_of, with_queue, is_created, tick, full, offer, valid}
use Rattle.model.specs.Events.{Event, event_size, Call, need, message_of}
use Rattle.model.specs.Services.{Reply, refuse, done, Served, refuses, serves, at_port, directed, stored, made, put, mark, read_oldest, take_oldest, get, cleared, serve, like_row}
use Rattle.model.specs.Services.{own, use_own, look_up, create, get_id, unmade, with_mode, set_mode, service, schedule, arrived, delivered, transmit_oldest, transmit}
use Rattle.model.proofs.Tests.{both_left, both_right, both, is-between, between-low, between-high, by-test}
use Rattle.model.specs.State.{fits}
use Rattle.model.specs.Ranged.{PortRanged, Ranged}
use Rattle.model.proofs.Ranges.{with-port-ranged}
use Rattle.model.proofs.Accepted.{Accepted}

-- messages that fit, joined
all_append : (r : Row) (xs : List Message) (m : Message) → all_in (fits r) xs ≡ true → fits r m ≡ true → all_in (fits r) (xs ++ m ∷ []) ≡ true
all_append r [] m h e = both e refl
all_append r (x ∷ xs) m h e = both (both_left (fits r x) (all_in (fits r) xs) h) (all_append r xs m (both_right (fits r x) (all_in (fits r) xs) h) e)

-- a store that takes or loses a message stays within its room, and what it keeps fits
record Kept (r : Row) (queue : List Message) : Type 0 where
  counted : length queue ≤ room r
  sized : all_in (fits r) queue ≡ true

stored-kept : (r : Row) (queue : List Message) (m : Message) → Kept r queue → fits r m ≡ true → Kept r (stored r queue m)
unfolding stored offer
stored-kept r queue m h e = go (eqb r.mode sampling) (full r.depth queue) refl refl
  where
    go : (a b : Bool) → eqb r.mode sampling ≡ a → full r.depth queue ≡ b → Kept r (if eqb r.mode sampling then m ∷ [] else if full r.depth queue then queue else queue ++ m ∷ [])
    go true b p q = rw p (record { counted = rw p (omega arith); sized = both e refl })
    go false true p q = rw (p, q) h
    go false false p q =
        rw (p, q)
        (record {
          counted = rw (p, length-append queue (m ∷ [])) (omega (arith, leb-false r.depth (length queue) q));
          sized = all_append r queue m h.sized e;
        })

-- a reply whose state, if it leaves one, is in range
abbrev pub Fine : Tables → Reply → Type 0
Fine t (refuse code) = Unit {0}
Fine t (done v s) = Ranged t s

abbrev FineAt : Row → Served → Type 0
FineAt r (refuses code) = Unit {0}
FineAt r (serves v q) = PortRanged r q

at-port-fine : (t : Tables) (s : State) (k : ℕ) → k < port_count t → Ranged t s → (x : Served) → FineAt (row t k) x → Fine t (at_port s k x)
at-port-fine t s k l h (refuses code) f = tt
at-port-fine t s k l h (serves v q) f = with-port-ranged t s k q l h f

made-fine : (id mode : ℕ) (r : Row) (f : Call) (q : Port) → PortRanged r q → FineAt r (made id mode r f q)
unfolding made
made-fine id mode r f q h =
    by-test (FineAt r) (is_created q) (λ e. tt)
    (λ e. by-test (FineAt r) (not (like_row r f)) (λ e. tt)
    (λ e. by-test (FineAt r) (eqb mode normal) (λ e. tt)
    (λ e. record { marked = omega arith; judged = h.judged; counted = h.counted; sized = h.sized; made = refl })))

-- a created port with another queue that is kept
with-queue-ranged : (r : Row) (q : Port) (queue : List Message) → is_created q ≡ true → PortRanged r q → Kept r queue → PortRanged r (with_queue q queue)
with-queue-ranged r q queue made h k =
    record { marked = h.marked; judged = h.judged; counted = k.counted; sized = k.sized; made = rw made }

kept : (r : Row) (q : Port) → PortRanged r q → Kept r q.queue
kept r q h = record { counted = h.counted; sized = h.sized }

-- the message of an 80-byte event has the length that its field says, up to 64
message-length : (e : Event) (size : ℕ) → length e ≡ event_size → size ≤ 64 → length (message_of e size) ≡ size
message-length e size l h = length-take-le size (drop 16 e) (simp length-drop (omega arith))

module _ (r : Row) (few : r.largest ≤ 64) (q : Port) (made : is_created q ≡ true) (h : PortRanged r q) where
  put-fine : (e : Event) (f : Call) → length e ≡ event_size → FineAt r (put r e f q)
  unfolding put
  put-fine e f l =
      by-test (FineAt r) (eqb f.size 0) (λ x. tt)
      (λ x. by-test (FineAt r) (ltb r.largest f.size) (λ y. tt)
      (λ y. by-test (FineAt r) (not (directed (need f.code) r)) (λ z. tt)
      (λ z.
      let some : f.size ≡ 0 → ⊥ = eqb-false f.size 0 x in
      let at_most : f.size ≤ r.largest = ltb-false r.largest f.size y in
      let size : length (message_of e f.size) ≡ f.size = message-length e f.size l (omega arith) in
      with-queue-ranged r q _ made h
      (stored-kept r q.queue (message_of e f.size) (kept r q h) (is-between 1 r.largest (length (message_of e f.size)) (omega arith) (omega arith))))))

  read-fine : (time : ℕ) (queue : List Message) → FineAt r (read_oldest r.refresh time q queue)
  read-fine time [] = tt
  read-fine time (m ∷ rest) =
      record { marked = h.marked; judged = mark-bit (valid r.refresh time q.arrival); counted = h.counted; sized = h.sized; made = h.made }
    where
      mark-bit : (b : Bool) → mark b ≤ 1
      mark-bit true = omega arith
      mark-bit false = omega arith

  take-fine : (queue : List Message) → Kept r queue → FineAt r (take_oldest q queue)
  take-fine [] k = tt
  take-fine (m ∷ rest) k =
      with-queue-ranged r q rest made h
      (record { counted = omega (arith, k.counted); sized = both_right (fits r m) (all_in (fits r) rest) k.sized })

  serve-fine : (time : ℕ) (e : Event) (f : Call) → length e ≡ event_size → FineAt r (serve time r e f q)
  unfolding serve get cleared
  serve-fine time e f l =
      by-test (FineAt r) (eqb f.code 2 || eqb f.code 7) (λ x. put-fine e f l)
      (λ x. by-test (FineAt r) (eqb f.code 3 || eqb f.code 8)
      (λ y. by-test (FineAt r) (not (directed (need f.code) r)) (λ z. tt)
      (λ z. by-test (FineAt r) (eqb f.code 3) (λ w. read-fine time q.queue) (λ w. take-fine q.queue (kept r q h))))
      (λ y. by-test (FineAt r) (eqb f.code 11)
      (λ z. by-test (FineAt r) (not (directed (need f.code) r)) (λ w. tt)
      (λ w. with-queue-ranged r q [] made h (record { counted = omega arith; sized = refl })))
      (λ z. h)))

-- a port that is not created is in range
pub fresh-ranged : (r : Row) → PortRanged r fresh
fresh-ranged r = record { marked = omega arith; judged = omega arith; counted = omega arith; sized = refl; made = refl }

-- modes in range, one of them set
modes-set : (ms : List ℕ) (p m : ℕ) → all_in (λ m. leb m normal) ms ≡ true → m ≤ normal → all_in (λ m. leb m normal) (set ms p m) ≡ true
modes-set [] p m h l = refl
modes-set (x ∷ ms) zero m h l = both (le-leb m normal l) (both_right (leb x normal) (all_in (λ m. leb m normal) ms) h)
modes-set (x ∷ ms) (suc p) m h l =
    both (both_left (leb x normal) (all_in (λ m. leb m normal) ms) h)
    (modes-set ms p m (both_right (leb x normal) (all_in (λ m. leb m normal) ms) h) l)

-- the ports of a mode change: each is fresh or as it was
pub unmade-length : (t : Tables) (p k : ℕ) (qs : List Port) → length (unmade t p k qs) ≡ length qs
unmade-length t p k [] = refl
unmade-length t p k (q ∷ qs) = ap suc (unmade-length t p (suc k) qs)

pub unmade-at : (t : Tables) (p k : ℕ) (qs : List Port) (i : ℕ) → i < length qs → get_or (unmade t p k qs) i fresh ≡ (if eqb (row t (k + i)).owner p then fresh else get_or qs i fresh)
unmade-at t p k [] i h = absurd (omega arith)
unmade-at t p k (q ∷ qs) zero h = rw add-zero
unmade-at t p k (q ∷ qs) (suc i) h = rw (add-suc, ← (suc-add k i)) (unmade-at t p (suc k) qs i (omega arith))

module _ (t : Tables) (good : Accepted t) (s : State) (h : Ranged t s) where
  mode-fine : (p m : ℕ) → m ≤ normal → Ranged t (with_mode t s p m)
  unfolding with_mode
  mode-fine p m l =
      record {
        in_window = h.in_window;
        sixteen = length-set s.modes p m ∙ h.sixteen;
        moded = modes-set s.modes p m h.moded l;
        whole = by-test (λ (qs : List Port). length qs ≡ port_count t) (eqb m normal) (λ e. h.whole) (λ e. unmade-length t p 0 s.ports ∙ h.whole);
        each = λ k n. by-test (λ (qs : List Port). PortRanged (row t k) (get_or qs k fresh)) (eqb m normal) (λ e. h.each k n) (λ e. unmade-each k n);
      }
    where
      unmade-each : (k : ℕ) → k < port_count t → PortRanged (row t k) (get_or (unmade t p 0 s.ports) k fresh)
      unmade-each k n =
          rw (unmade-at t p 0 s.ports k (omega (arith, h.whole)))
          (by-test (PortRanged (row t k)) (eqb (row t (0 + k)).owner p) (λ e. fresh-ranged (row t k)) (λ e. h.each k n))

  set-mode-fine : (p m : ℕ) → Fine t (set_mode t s p m)
  unfolding set_mode
  set-mode-fine p m =
      by-test (Fine t) (ltb normal m) (λ e. tt)
      (λ e. by-test (Fine t) (eqb m normal && eqb (mode_of s p) normal) (λ x. tt)
      (λ x. by-test (Fine t) (eqb m 2 && eqb (mode_of s p) 1) (λ y. tt) (λ y. mode-fine p m (ltb-false normal m e))))

  create-fine : (p : ℕ) (e : Event) (f : Call) → Fine t (create t s p e f)
  unfolding create
  create-fine p e f =
      let k = look_up t p (need f.code).mode e in
      by-test (Fine t) (ltb k (port_count t))
      (λ x. let l : k < port_count t = ltb-true k (port_count t) x in
      at-port-fine t s k l h (made (suc k) (mode_of s p) (row t k) f (port s k)) (made-fine (suc k) (mode_of s p) (row t k) f (port s k) (h.each k l)))
      (λ x. tt)

  get-id-fine : (p : ℕ) (e : Event) (f : Call) → Fine t (get_id t s p e f)
  unfolding get_id
  get-id-fine p e f =
      let k = look_up t p (need f.code).mode e in
      by-test (Fine t) (ltb k (port_count t) && is_created (port s k)) (λ x. h) (λ x. tt)

  use-own-fine : (time p : ℕ) (e : Event) (f : Call) → length e ≡ event_size → Fine t (use_own t time s p e f)
  unfolding use_own own
  use-own-fine time p e f n =
      by-test (Fine t) (own t s p f) owned (λ x. tt)
    where
      a : Bool
      a = between 1 (port_count t) f.id

      b : Bool
      b = eqb (row t (f.id - 1)).owner p

      c : Bool
      c = eqb (row t (f.id - 1)).mode (need f.code).mode

      owned : own t s p f ≡ true → Fine t (at_port s (f.id - 1) (serve time (row t (f.id - 1)) e f (port s (f.id - 1))))
      owned x =
          let id : a ≡ true = both_left a b (both_left (a && b) c (both_left (a && b && c) (is_created (port s (f.id - 1))) x)) in
          let l : f.id - 1 < port_count t = omega (arith, between-low 1 (port_count t) f.id id, between-high 1 (port_count t) f.id id) in
          at-port-fine t s (f.id - 1) l h (serve time (row t (f.id - 1)) e f (port s (f.id - 1)))
          (serve-fine (row t (f.id - 1)) (good.rows (f.id - 1) l).few_bytes (port s (f.id - 1))
          (both_right (a && b && c) (is_created (port s (f.id - 1))) x) (h.each (f.id - 1) l) time e f n)

  pub service-fine : (time p : ℕ) (e : Event) (f : Call) → length e ≡ event_size → Fine t (service t time s p e f)
  unfolding service
  service-fine time p e f n =
      by-test (Fine t) (eqb (mode_of s p) 0) (λ x. tt)
      (λ x. by-test (Fine t) (eqb f.code 1 || eqb f.code 6) (λ y. create-fine p e f)
      (λ x. by-test (Fine t) (eqb f.code 4 || eqb f.code 9) (λ y. get-id-fine p e f)
      (λ x. by-test (Fine t) (eqb f.code 12) (λ y. set-mode-fine p f.choice) (λ y. use-own-fine time p e f n))))

  pub schedule-fine : Fine t (schedule t s)
  unfolding schedule tick
  schedule-fine =
      record {
        in_window = by-test (λ w. w < windows t) (ltb (suc s.clock.window) (windows t)) (λ e. ltb-true _ _ e) (λ e. good.windowed);
        sixteen = h.sixteen;
        moded = h.moded;
        whole = h.whole;
        each = h.each;
      }

-- a message that fits arrives in a port in range
pub arrived-ranged : (time : ℕ) (r : Row) (m : Message) (q : Port) → fits r m ≡ true → PortRanged r q → PortRanged r (arrived time r m q)
unfolding arrived
arrived-ranged time r m q e h =
    by-test (PortRanged r) (is_created q)
    (λ made.
    let k = stored-kept r q.queue m (kept r q h) e in
    record { marked = h.marked; judged = h.judged; counted = k.counted; sized = k.sized; made = rw made })
    (λ x. h)

module _ (t : Tables) (good : Accepted t) (time_at : ℕ → ℕ) (c : ℕ) (l : c < channel_count t) (m : Message) (e : fits (row t (source_port t c)) m ≡ true) where
  delivered-ranged : (n j : ℕ) (s : State) → j + n ≤ destinations t c → Ranged t s → Ranged t (delivered t time_at c m n j s)
  delivered-ranged zero j s k h = h
  delivered-ranged (suc n) j s k h =
      let d = good.destination_ends c l j (omega arith) in
      let r = row t (destination_port t c j) in
      let fit : fits r m ≡ true = is-between 1 r.largest (length m) (between-low 1 _ (length m) e) (omega (arith, between-high 1 _ (length m) e, d.takes_all)) in
      delivered-ranged n (suc j) _ (omega arith)
      (with-port-ranged t s (destination_port t c j) _ d.there h (arrived-ranged _ r m _ fit (h.each (destination_port t c j) d.there)))

pub transmit-fine : (t : Tables) → Accepted t → (time_at : ℕ → ℕ) (s : State) → Ranged t s → (c : ℕ) → c < channel_count t → Fine t (transmit t time_at s c)
unfolding transmit
transmit-fine t good time_at s h c l = go (port s (source_port t c)).queue (h.each (source_port t c) (good.sources c l).there) refl
  where
    k : ℕ
    k = source_port t c

    go : (queue : List Message) → PortRanged (row t k) (port s k) → (port s k).queue ≡ queue → Fine t (transmit_oldest t time_at s c queue)
    go [] p e = tt
    go (m ∷ rest) p e =
        delivered-ranged t good time_at c l m (both_left (fits (row t k) m) (all_in (fits (row t k)) rest) sized) (destinations t c) 0 _ (omega arith)
        (with-port-ranged t s k (with_queue (port s k) rest) (good.sources c l).there h
        (with-queue-ranged (row t k) (port s k) rest made p
        (record { counted = omega (arith, counted); sized = both_right (fits (row t k) m) (all_in (fits (row t k)) rest) sized })))
      where
        sized : all_in (fits (row t k)) (m ∷ rest) ≡ true
        sized = rw e at p.sized

        counted : length (m ∷ rest) ≤ room (row t k)
        counted = rw e at p.counted

        made : is_created (port s k) ≡ true
        made = holding (is_created (port s k)) (rw e at p.made)
          where
            holding : (b : Bool) → (b || eqb (length (m ∷ rest)) 0) ≡ true → b ≡ true
            holding true x = refl
            holding false x = sym (eqb-suc-zero (length rest)) ∙ x
