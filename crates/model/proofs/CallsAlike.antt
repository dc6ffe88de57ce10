-- A partition's call in two states that the caller finds alike: the same reply, and states that it finds alike.
-- With `also k`, the queue of port k agrees too, before and after: that is what a channel with its source at k holds.
-- Assumes the laws of accepted tables.
use Prim.Native.Nat.{ℕ, suc, ◌-◌, ◌<◌}
use mathlib.Core.Path.{◌≡◌, refl, sym, ap, ◌∙◌}
use mathlib.Core.Bool.{Bool, ◌&&◌, ◌||◌}
use lib.Dec.{ltb, eqb}
use borrow.Author.Tests.{ltb-true}
use Rattle.model.proofs.Accepted.{Accepted}
use Rattle.model.proofs.Branches.{if-alike, and_same}
use Rattle.model.proofs.Matching.{Matching, SameServed, both_refuse, both_serve, created-matching, made-matching, serve-matching}
use Rattle.model.proofs.PortAfter.{ports-related, mode-ports-related, mode-set}
use Rattle.model.proofs.Replies.{looked-up, own_row, own-row, own-row-there, own-row-owned}
use Rattle.model.proofs.Shaped.{Shaped}
use Rattle.model.specs.Tables.{Tables, row}
use Rattle.model.specs.Tables.{ports as port_count}
use Rattle.model.specs.State.{State, idle, cold_start, warm_start, normal, mode_of, port, is_created}
use Rattle.model.specs.Events.{Event, Call, need}
use Rattle.model.specs.Events.{create_sampling_port, get_sampling_port_id, create_queuing_port, get_queuing_port_id, set_partition_mode}
use Rattle.model.specs.Answers.{Told, nothing_told, told_id, no_action, invalid_param, invalid_config, invalid_mode}
use Rattle.model.specs.Services.{Reply, refuse, done, Served, at_port, look_up, made, create, get_id, own, use_own, set_mode, service}
use Rattle.model.specs.Step.{answer_of, state_of}

-- two replies: the same refusal, or the same told and related states left
pub data SameReply (R : State → State → Type 0) : Reply → Reply → Type 0 where
  refuse_both : (code : ℕ) → SameReply R (refuse code) (refuse code)
  done_both : (v : Told) (s s' : State) → R s s' → SameReply R (done v s) (done v s')

pub same_answer : (R : State → State → Type 0) (d : ℕ) (r r' : Reply) → SameReply R r r' → answer_of d r ≡ answer_of d r'
same_answer R d r r' (refuse_both code) = refl
same_answer R d r r' (done_both v s s' related) = refl

pub same_after : (R : State → State → Type 0) (s s' : State) (r r' : Reply) → R s s' → SameReply R r r' → R (state_of s r) (state_of s' r')
same_after R s s' r r' before (refuse_both code) = before
same_after R s s' r r' before (done_both v a a' related) = related

-- what the caller sees of two states
pub record CallerAlike (t : Tables) (p : ℕ) (also : ℕ → Bool) (s s' : State) : Type 0 where
  pub mode : mode_of s p ≡ mode_of s' p
  pub at : (k : ℕ) → Matching (also k) p (row t k) (port s k) (port s' k)

module _ (t : Tables) (laws : Accepted t) (p : ℕ) (few : p < 16) (also : ℕ → Bool) where
  abbrev Same : Reply → Reply → Type 0
  Same = SameReply (CallerAlike t p also)

  module _ (s s' : State) (shape : Shaped t s) (shape' : Shaped t s') (same : CallerAlike t p also s s') where
    at-port-same :
        (k : ℕ) → k < port_count t → (served served' : Served) → SameServed (Matching (also k) p (row t k)) served served'
        → Same (at_port s k served) (at_port s' k served')
    at-port-same k there served served' (both_refuse code) = refuse_both code
    at-port-same k there served served' (both_serve v q q' new) =
        done_both v _ _
        (record {
          mode = same.mode;
          at = ports-related (λ j. Matching (also j) p (row t j)) s s' k q q' (rw shape.ports_length there) (rw shape'.ports_length there) new same.at;
        })

    -- an own port is created here as there
    created-same : (k : ℕ) → k < port_count t → (row t k).owner ≡ p → is_created (port s k) ≡ is_created (port s' k)
    created-same k there owned = created-matching (also k) p (row t k) owned (port s k) (port s' k) (same.at k) (laws.rows k there).directed

    create-same : (e : Event) (f : Call) → Same (create t s p e f) (create t s' p e f)
    unfolding create
    create-same e f =
        let k = look_up t p (need f.code).mode e in
        if-alike Same (ltb k (port_count t)) (ltb k (port_count t)) refl
        (λ h. let there = ltb-true k (port_count t) h in
        at-port-same k there (made (suc k) (mode_of s p) (row t k) f (port s k)) (made (suc k) (mode_of s' p) (row t k) f (port s' k))
        (rw same.mode
        (made-matching (also k) p (row t k) (looked-up t p (need f.code).mode e there) (port s k) (port s' k) (same.at k)
        (laws.rows k there).directed (suc k) (mode_of s' p) f)))
        (λ h. refuse_both invalid_config)

    get-id-same : (e : Event) (f : Call) → Same (get_id t s p e f) (get_id t s' p e f)
    unfolding get_id
    get-id-same e f =
        let k = look_up t p (need f.code).mode e in
        if-alike Same (ltb k (port_count t) && is_created (port s k)) (ltb k (port_count t) && is_created (port s' k))
        (and_same (ltb k (port_count t)) (is_created (port s k)) (is_created (port s' k))
        (λ h. created-same k (ltb-true _ _ h) (looked-up t p (need f.code).mode e (ltb-true _ _ h))))
        (λ h. done_both (told_id (suc k)) s s' same) (λ h. refuse_both invalid_config)

    own_same : (f : Call) → own t s p f ≡ own t s' p f
    unfolding own
    own_same f =
        and_same (own_row t p f) (is_created (port s (f.id - 1))) (is_created (port s' (f.id - 1)))
        (λ h. created-same (f.id - 1) (own-row-there t p f h) (own-row-owned t p f h))

    use-own-same : (time : ℕ) (e : Event) (f : Call) → Same (use_own t time s p e f) (use_own t time s' p e f)
    unfolding use_own
    use-own-same time e f =
        if-alike Same (own t s p f) (own t s' p f) (own_same f)
        (λ h. let k = f.id - 1 in
        let there = own-row-there t p f (own-row t s p f h) in
        at-port-same k there _ _
        (serve-matching (also k) p (row t k) (own-row-owned t p f (own-row t s p f h)) (port s k) (port s' k) (same.at k)
        (laws.rows k there).directed time e f))
        (λ h. refuse_both invalid_param)

    set-mode-same : (m : ℕ) → Same (set_mode t s p m) (set_mode t s' p m)
    unfolding set_mode
    set-mode-same m =
        if-alike Same (ltb normal m) (ltb normal m) refl (λ h. refuse_both invalid_param)
        (λ h. if-alike Same (eqb m normal && eqb (mode_of s p) normal) (eqb m normal && eqb (mode_of s' p) normal)
        (ap (λ n. eqb m normal && eqb n normal) same.mode) (λ g. refuse_both no_action)
        (λ g. if-alike Same (eqb m warm_start && eqb (mode_of s p) cold_start) (eqb m warm_start && eqb (mode_of s' p) cold_start)
        (ap (λ n. eqb m warm_start && eqb n cold_start) same.mode) (λ g. refuse_both invalid_mode)
        (λ g. done_both nothing_told _ _
        (record {
          mode = mode-set t p m s (rw shape.modes_length few) ∙ sym (mode-set t p m s' (rw shape'.modes_length few));
          at = mode-ports-related t p m (λ j. Matching (also j) p (row t j)) s s' (λ j. record { held = refl; queue = λ h. refl }) same.at;
        }))))

    pub call_same : (time : ℕ) (e : Event) (f : Call) → SameReply (CallerAlike t p also) (service t time s p e f) (service t time s' p e f)
    unfolding service
    call_same time e f =
        if-alike Same (eqb (mode_of s p) idle) (eqb (mode_of s' p) idle) (ap (λ n. eqb n idle) same.mode) (λ h. refuse_both 15)
        (λ h. if-alike Same creates creates refl (λ g. create-same e f)
        (λ g. if-alike Same asks asks refl (λ g. get-id-same e f)
        (λ g. if-alike Same sets sets refl (λ g. set-mode-same f.choice)
        (λ g. use-own-same time e f))))
      where
        creates : Bool
        creates = eqb f.code create_sampling_port || eqb f.code create_queuing_port

        asks : Bool
        asks = eqb f.code get_sampling_port_id || eqb f.code get_queuing_port_id

        sets : Bool
        sets = eqb f.code set_partition_mode
