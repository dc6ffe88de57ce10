-- The services of one port, for two ports that its owner cannot tell apart: the same is told, and the owner still cannot tell them apart.
-- A destination port is its owner's whole, so there the two ports are equal. Of a source port the owner holds the marks alone.
-- With `also`, the queues agree too, before and after: that is what the port's channel holds.
-- Assumes nothing.
use Prim.Native.Nat.{ℕ}
use mathlib.Core.Path.{◌≡◌, refl, sym, ap, ◌∙◌}
use mathlib.Core.Bool.{Bool, true, false, ◌||◌, not}
use mathlib.Core.List.{[]}
use mathlib.Core.Logic.{◌⊎◌, inl, inr}
use lib.Dec.{ltb, eqb}
use borrow.Author.Tests.{eqb-true}
use Rattle.model.proofs.Branches.{if-alike}
use Rattle.model.proofs.HeldPorts.{held_whole, held-marks}
use Rattle.model.specs.Tables.{Row, source, destination}
use Rattle.model.specs.State.{Port, normal, is_created}
use Rattle.model.specs.Events.{Event, Call, need, message_of}
use Rattle.model.specs.Events.{write_sampling_message, read_sampling_message, send_queuing_message, receive_queuing_message, clear_queuing_port}
use Rattle.model.specs.Answers.{Told, nothing_told, told_id, no_action, invalid_param, invalid_config, invalid_mode}
use Rattle.model.specs.Services.{Served, refuses, serves, directed, like_row, made, stored, put, get, status, cleared, serve}
use Rattle.model.specs.Flow.{held_port}

-- two ports of one row that partition p cannot tell apart
pub record Matching (also : Bool) (p : ℕ) (r : Row) (q q' : Port) : Type 0 where
  pub held : held_port p r q ≡ held_port p r q'
  pub queue : also ≡ true → q.queue ≡ q'.queue

-- two replies at one port: the same refusal, or the same told and related ports left
pub data SameServed (R : Port → Port → Type 0) : Served → Served → Type 0 where
  both_refuse : (code : ℕ) → SameServed R (refuses code) (refuses code)
  both_serve : (v : Told) (q q' : Port) → R q q' → SameServed R (serves v q) (serves v q')

-- at a destination port
module _ (also : Bool) (p : ℕ) (r : Row) (owned : r.owner ≡ p) (to : r.direction ≡ destination) where
  pub matching-equal : (q q' : Port) → Matching also p r q q' → q ≡ q'
  matching-equal q q' same = sym (held_whole p r owned to q) ∙ same.held ∙ held_whole p r owned to q'

  served-same : (served : Served) → SameServed (Matching also p r) served served
  served-same (refuses code) = both_refuse code
  served-same (serves v q) = both_serve v q q (record { held = refl; queue = λ h. refl })

  -- any service whatever tells equal ports the same
  whole_same : (service : Port → Served) (q q' : Port) → Matching also p r q q' → SameServed (Matching also p r) (service q) (service q')
  whole_same service q q' same = rw (matching-equal q q' same) (served-same (service q'))

-- at a source port. Reading, receiving and clearing need a destination
no-get :
    (r : Row) → r.direction ≡ source → (code : ℕ)
    → (eqb code read_sampling_message || eqb code receive_queuing_message) ≡ true → directed (need code) r ≡ false
no-get r from code is = go (eqb code read_sampling_message) refl
  where
    go : (b : Bool) → eqb code read_sampling_message ≡ b → directed (need code) r ≡ false
    go true e = rw (eqb-true code read_sampling_message e, from)
    go false e = rw (eqb-true code receive_queuing_message (rw e at is), from)

no-clear : (r : Row) → r.direction ≡ source → (code : ℕ) → eqb code clear_queuing_port ≡ true → directed (need code) r ≡ false
no-clear r from code is = rw (eqb-true code clear_queuing_port is, from)

module _ (also : Bool) (p : ℕ) (r : Row) (owned : r.owner ≡ p) (from : r.direction ≡ source) where
  marks-same :
      (q q' : Port) → q.created ≡ q'.created → q.validity ≡ q'.validity → (also ≡ true → q.queue ≡ q'.queue)
      → Matching also p r q q'
  marks-same q q' created validity queue =
      record {
        held =
            held-marks p r owned from q
            ∙ (λ i. record { created = created i; arrival = 0; validity = validity i; queue = [] })
            ∙ sym (held-marks p r owned from q');
        queue = queue;
      }

  module _ (q q' : Port) (same : Matching also p r q q') where
    same-marks :
        ◌≡◌ {A = Port} (record { created = q.created; arrival = 0; validity = q.validity; queue = [] })
        (record { created = q'.created; arrival = 0; validity = q'.validity; queue = [] })
    same-marks = sym (held-marks p r owned from q) ∙ same.held ∙ held-marks p r owned from q'

    same-created : q.created ≡ q'.created
    same-created = ap (λ z. z.created) same-marks

    same-validity : q.validity ≡ q'.validity
    same-validity = ap (λ z. z.validity) same-marks

    made-from : (id mode : ℕ) (f : Call) → SameServed (Matching also p r) (made id mode r f q) (made id mode r f q')
    unfolding made
    made-from id mode f =
        if-alike (SameServed (Matching also p r)) (is_created q) (is_created q') (ap (λ c. eqb c 1) same-created) (λ h. both_refuse no_action)
        (λ h. if-alike (SameServed (Matching also p r)) (not (like_row r f)) (not (like_row r f)) refl (λ g. both_refuse invalid_config)
        (λ g. if-alike (SameServed (Matching also p r)) (eqb mode normal) (eqb mode normal) refl (λ g. both_refuse invalid_mode)
        (λ g. both_serve (told_id id) _ _ (marks-same _ _ refl same-validity same.queue))))

    put-from : (e : Event) (f : Call) → SameServed (Matching also p r) (put r e f q) (put r e f q')
    unfolding put
    put-from e f =
        if-alike (SameServed (Matching also p r)) (eqb f.size 0) (eqb f.size 0) refl (λ h. both_refuse invalid_param)
        (λ h. if-alike (SameServed (Matching also p r)) (ltb r.largest f.size) (ltb r.largest f.size) refl (λ g. both_refuse invalid_config)
        (λ g. if-alike (SameServed (Matching also p r)) (not (directed (need f.code) r)) (not (directed (need f.code) r)) refl (λ g. both_refuse invalid_mode)
        (λ g. both_serve nothing_told _ _
        (marks-same _ _ same-created same-validity (λ seen. ap (λ l. stored r l (message_of e f.size)) (same.queue seen))))))

    get_from : (time : ℕ) (f : Call) → directed (need f.code) r ≡ false → SameServed (Matching also p r) (get time r f q) (get time r f q')
    unfolding get
    get_from time f not-here = rw not-here (both_refuse invalid_mode)

    cleared-from : (f : Call) → directed (need f.code) r ≡ false → SameServed (Matching also p r) (cleared r f q) (cleared r f q')
    unfolding cleared
    cleared-from f not-here = rw not-here (both_refuse invalid_mode)

    -- the count of a source port is told as 0
    status-from : status r q ≡ status r q'
    unfolding status
    status-from = rw (from, same-validity)

    serve-from : (time : ℕ) (e : Event) (f : Call) → SameServed (Matching also p r) (serve time r e f q) (serve time r e f q')
    unfolding serve
    serve-from time e f =
        if-alike (SameServed (Matching also p r)) puts puts refl (λ h. put-from e f)
        (λ h. if-alike (SameServed (Matching also p r)) gets gets refl (λ g. get_from time f (no-get r from f.code g))
        (λ g. if-alike (SameServed (Matching also p r)) (eqb f.code clear_queuing_port) (eqb f.code clear_queuing_port) refl
        (λ c. cleared-from f (no-clear r from f.code c))
        (λ c. rw status-from (both_serve (status r q') q q' same))))
      where
        puts : Bool
        puts = eqb f.code write_sampling_message || eqb f.code send_queuing_message

        gets : Bool
        gets = eqb f.code read_sampling_message || eqb f.code receive_queuing_message

-- at any port of p's
module _ (also : Bool) (p : ℕ) (r : Row) (owned : r.owner ≡ p) (q q' : Port) (same : Matching also p r q q') where
  pub created-matching : (r.direction ≡ source) ⊎ (r.direction ≡ destination) → is_created q ≡ is_created q'
  created-matching (inl from) = ap (λ c. eqb c 1) (same-created also p r owned from q q' same)
  created-matching (inr to) = ap is_created (matching-equal also p r owned to q q' same)

  pub made-matching :
      (r.direction ≡ source) ⊎ (r.direction ≡ destination) → (id mode : ℕ) (f : Call)
      → SameServed (Matching also p r) (made id mode r f q) (made id mode r f q')
  made-matching (inl from) id mode f = made-from also p r owned from q q' same id mode f
  made-matching (inr to) id mode f = whole_same also p r owned to (made id mode r f) q q' same

  pub serve-matching :
      (r.direction ≡ source) ⊎ (r.direction ≡ destination) → (time : ℕ) (e : Event) (f : Call)
      → SameServed (Matching also p r) (serve time r e f q) (serve time r e f q')
  serve-matching (inl from) time e f = serve-from also p r owned from q q' same time e f
  serve-matching (inr to) time e f = whole_same also p r owned to (serve time r e f) q q' same
