-- What a doer holds, taken apart and put together: agreement on `holds` is agreement on the clock, at each port of a partition, or on a queue.
-- Assumes nothing.
use Prim.Native.Nat.{ℕ, zero, suc, ◌+◌, ◌-◌, ◌<◌}
use native.Mathlib.Omega.{arith}
use mathlib.Core.Path.{◌≡◌, refl, sym, ap, ap₂, ◌∙◌}
use mathlib.Core.Bool.{Bool, true, false}
use mathlib.Core.List.{List, [], ◌∷◌}
use mathlib.Core.Logic.{◌≢◌}
use lib.Dec.{leb, eqb}
use lib.ListN.{length, get_or}
use lib.Seq.{ext_get_or}
use borrow.Author.Tests.{ltb-true, leb-true, eqb-true, lt-ltb, le-ltb, le-leb, eq-eqb, eqb-false, ne_eqb}
use Rattle.model.proofs.Branches.{if-alike}
use Rattle.model.proofs.Tests.{both_left, both_right, by-test}
use Rattle.model.proofs.Shaped.{Shaped}
use Rattle.model.specs.Tables.{Tables, channels, Row, row, source, destination, source_port}
use Rattle.model.specs.State.{Message, Port, State, fresh, partitions, mode_of, port, with_queue}
use Rattle.model.specs.Step.{scheduler, first_channel}
use Rattle.model.specs.Flow.{clock_held, queue_held, part_held, held_port, held_ports, is_partition, is_channel, holds}

-- a partition finds two states alike: the same mode, and at each port the same of what it holds there
pub record Alike (t : Tables) (p : ℕ) (s s' : State) : Type 0 where
  pub mode : mode_of s p ≡ mode_of s' p
  pub held : (k : ℕ) → held_port p (row t k) (port s k) ≡ held_port p (row t k) (port s' k)

-- of another's port nothing
pub held-nothing : (p : ℕ) (r : Row) → r.owner ≢ p → (q : Port) → held_port p r q ≡ fresh
unfolding held_port
held-nothing p r other q = rw (ne_eqb r.owner p other)

-- of an own port all, if it is a destination, and else the marks
module _ (p : ℕ) (r : Row) (owned : r.owner ≡ p) where
  pub held_whole : r.direction ≡ destination → (q : Port) → held_port p r q ≡ q
  unfolding held_port
  held_whole to q = rw (owned, to, eq-eqb p p refl)

  pub held-marks :
      r.direction ≡ source → (q : Port)
      → held_port p r q ≡ record { created = q.created; arrival = 0; validity = q.validity; queue = [] }
  unfolding held_port
  held-marks from q = rw (owned, from, eq-eqb p p refl)

-- the queue of a source port is not its owner's
pub held-unqueued :
    (p : ℕ) (r : Row) → r.direction ≡ source → (q : Port) (messages : List Message)
    → held_port p r (with_queue q messages) ≡ held_port p r q
held-unqueued p r from q messages = go (eqb r.owner p) refl
  where
    go : (b : Bool) → eqb r.owner p ≡ b → held_port p r (with_queue q messages) ≡ held_port p r q
    go true e = held-marks p r (eqb-true _ _ e) from (with_queue q messages) ∙ sym (held-marks p r (eqb-true _ _ e) from q)
    go false e = held-nothing p r (eqb-false _ _ e) (with_queue q messages) ∙ sym (held-nothing p r (eqb-false _ _ e) q)

-- port by port
held-fresh : (p : ℕ) (r : Row) → held_port p r fresh ≡ fresh
unfolding held_port
held-fresh p r =
    by-test (λ (q : Port). q ≡ fresh) (eqb r.owner p)
    (λ h. by-test (λ (q : Port). q ≡ fresh) (eqb r.direction destination) (λ g. refl) (λ g. refl))
    (λ h. refl)

length-held : (t : Tables) (p j : ℕ) (qs : List Port) → length (held_ports t p j qs) ≡ length qs
length-held t p j [] = refl
length-held t p j (q ∷ qs) = ap suc (length-held t p (suc j) qs)

held_at :
    (t : Tables) (p j : ℕ) (qs : List Port) (k : ℕ)
    → get_or (held_ports t p j qs) k fresh ≡ held_port p (row t (j + k)) (get_or qs k fresh)
held_at t p j [] k = sym (held-fresh p (row t (j + k)))
held_at t p j (q ∷ qs) zero = let e : j + 0 ≡ j = omega arith in rw e
held_at t p j (q ∷ qs) (suc k) = let e : j + suc k ≡ suc j + k = omega arith in rw e (held_at t p (suc j) qs k)

held-apart :
    (t : Tables) (p : ℕ) (qs qs' : List Port) → held_ports t p 0 qs ≡ held_ports t p 0 qs'
    → (k : ℕ) → held_port p (row t k) (get_or qs k fresh) ≡ held_port p (row t k) (get_or qs' k fresh)
held-apart t p qs qs' same k =
    let e : 0 + k ≡ k = omega arith in
    rw e at (sym (held_at t p 0 qs k) ∙ ap (λ l. get_or l k fresh) same ∙ held_at t p 0 qs' k)

held-together :
    (t : Tables) (p : ℕ) (qs qs' : List Port) → length qs ≡ length qs'
    → ((k : ℕ) → held_port p (row t k) (get_or qs k fresh) ≡ held_port p (row t k) (get_or qs' k fresh))
    → held_ports t p 0 qs ≡ held_ports t p 0 qs'
held-together t p qs qs' size same =
    ext_get_or fresh _ _ (length-held t p 0 qs ∙ size ∙ sym (length-held t p 0 qs'))
    (λ k h. let e : 0 + k ≡ k = omega arith in
    held_at t p 0 qs k ∙ rw e (same k) ∙ sym (held_at t p 0 qs' k))

-- a channel's number as a doer
module _ (t : Tables) (d : ℕ) (is : is_channel t d ≡ true) where
  pub channel-there : d - first_channel < channels t
  channel-there = ltb-true _ _ (both_right (leb first_channel d) _ is)

  pub channel-from : d ≡ first_channel + (d - first_channel)
  channel-from = let low = leb-true first_channel d (both_left _ _ is) in omega arith

-- what each kind of doer holds
module _ (t : Tables) where
  pub holds-scheduler : (s : State) → holds t s scheduler ≡ clock_held s.clock
  unfolding holds
  holds-scheduler s = refl

  pub holds-partition : (s : State) (p : ℕ) → p < 16 → holds t s p ≡ part_held (mode_of s p) (held_ports t p 0 s.ports)
  unfolding holds
  holds-partition s p few = rw (ne_eqb p scheduler (λ e. omega arith), lt-ltb p partitions few)

  pub channel-number : (c : ℕ) → first_channel + c - first_channel ≡ c
  channel-number c = omega arith

  pub is-channel : (c : ℕ) → c < channels t → is_channel t (first_channel + c) ≡ true
  is-channel c there = rw (le-leb first_channel (first_channel + c) (omega arith), channel-number c, lt-ltb c (channels t) there)

  pub holds-channel : (s : State) (c : ℕ) → c < channels t → holds t s (first_channel + c) ≡ queue_held (port s (source_port t c)).queue
  unfolding holds
  holds-channel s c there =
      rw (ne_eqb (first_channel + c) scheduler (λ e. omega arith), le-ltb (first_channel + c) partitions (omega arith), is-channel c there, channel-number c)

  module _ (s s' : State) where
    pub same-clock : holds t s scheduler ≡ holds t s' scheduler → s.clock ≡ s'.clock
    same-clock same = cc (holds-scheduler s, holds-scheduler s')

    pub same_queue : (c : ℕ) → c < channels t → holds t s (first_channel + c) ≡ holds t s' (first_channel + c)
        → (port s (source_port t c)).queue ≡ (port s' (source_port t c)).queue
    same_queue c there same = cc (holds-channel s c there, holds-channel s' c there)

    pub same-part : (p : ℕ) → p < 16 → holds t s p ≡ holds t s' p → Alike t p s s'
    same-part p few same =
        record {
          mode = cc (holds-partition s p few, holds-partition s' p few);
          held = held-apart t p s.ports s'.ports (cc (holds-partition s p few, holds-partition s' p few));
        }

    pub same-holding :
        (d : ℕ) → Shaped t s → Shaped t s'
        → (d ≡ scheduler → s.clock ≡ s'.clock)
        → (d < 16 → Alike t d s s')
        → ((c : ℕ) → c < channels t → d ≡ first_channel + c → (port s (source_port t c)).queue ≡ (port s' (source_port t c)).queue)
        → holds t s d ≡ holds t s' d
    unfolding holds
    same-holding d shape shape' clock part queue =
        if-alike ◌≡◌ (eqb d scheduler) (eqb d scheduler) refl (λ h. ap clock_held (clock (eqb-true _ _ h)))
        (λ h. if-alike ◌≡◌ (is_partition d) (is_partition d) refl (λ g. alike (part (ltb-true d partitions g)))
        (λ g. if-alike ◌≡◌ (is_channel t d) (is_channel t d) refl
        (λ f. ap queue_held (queue (d - first_channel) (channel-there t d f) (channel-from t d f)))
        (λ f. refl)))
      where
        alike : Alike t d s s' → part_held (mode_of s d) (held_ports t d 0 s.ports) ≡ part_held (mode_of s' d) (held_ports t d 0 s'.ports)
        alike a =
            ap₂ part_held a.mode (held-together t d s.ports s'.ports (shape.ports_length ∙ sym shape'.ports_length) a.held)
