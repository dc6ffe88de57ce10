-- What a partition's call may do to a state: refuse, tell, replace one port of the caller's, or set the caller's mode.
-- Assumes nothing.
use Prim.Native.Nat.{ℕ, suc, ◌-◌, ◌≤◌, ◌<◌}
use native.Mathlib.Omega.{arith}
use mathlib.Core.Path.{◌≡◌}
use mathlib.Core.Bool.{Bool, true, ◌&&◌, ◌||◌}
use lib.Dec.{eqb, ltb, leb}
use borrow.Author.Tests.{ltb-true, leb-true, eqb-true}
use Rattle.model.proofs.Searches.{first-is}
use Rattle.model.proofs.Tests.{both_left, both_right, by-test}
use Rattle.model.specs.Words.{between}
use Rattle.model.specs.Tables.{Tables, ports, row}
use Rattle.model.specs.State.{State, Port, idle, normal, cold_start, warm_start, mode_of, with_port, port, is_created}
use Rattle.model.specs.Events.{Event, Call, need}
use Rattle.model.specs.Events.{create_sampling_port, get_sampling_port_id, create_queuing_port, get_queuing_port_id, set_partition_mode}
use Rattle.model.specs.Answers.{Told, nothing_told, told_id, invalid_param, invalid_config, invalid_mode, no_action}
use Rattle.model.specs.Services.{Reply, refuse, done, Served, refuses, serves, at_port, is_named, look_up}
use Rattle.model.specs.Services.{made, create, get_id, own, serve, use_own, with_mode, set_mode, service}

-- the replies to a call of partition p in state s
pub data CallReply (t : Tables) (s : State) (p : ℕ) : Reply → Type 0 where
  refusing : (code : ℕ) → CallReply t s p (refuse code)
  telling : (v : Told) → CallReply t s p (done v s)
  porting : (v : Told) (k : ℕ) (q : Port) → k < ports t → (row t k).owner ≡ p → CallReply t s p (done v (with_port s k q))
  moding : (v : Told) (m : ℕ) → CallReply t s p (done v (with_mode t s p m))

-- a name is looked up among the caller's own ports
pub looked-up : (t : Tables) (p mode : ℕ) (e : Event) → look_up t p mode e < ports t → (row t (look_up t p mode e)).owner ≡ p
unfolding look_up is_named
looked-up t p mode e there =
    eqb-true _ _ (both_left _ _ (both_left _ _ (first-is (is_named t p mode e) (ports t) 0 (omega arith))))

-- an own port is a row of the caller, of the service's mode, that is created
abbrev pub own_row : Tables → ℕ → Call → Bool
own_row t p f =
    between 1 (ports t) f.id && eqb (row t (f.id - 1)).owner p && eqb (row t (f.id - 1)).mode (need f.code).mode

pub own-row-there : (t : Tables) (p : ℕ) (f : Call) → own_row t p f ≡ true → f.id - 1 < ports t
own-row-there t p f is =
    let range = both_left (between 1 (ports t) f.id) _ (both_left (between 1 (ports t) f.id && eqb (row t (f.id - 1)).owner p) _ is) in
    let low : 1 ≤ f.id = leb-true _ _ (both_left (leb 1 f.id) (leb f.id (ports t)) range) in
    let high : f.id ≤ ports t = leb-true _ _ (both_right (leb 1 f.id) (leb f.id (ports t)) range) in
    omega arith

pub own-row-owned : (t : Tables) (p : ℕ) (f : Call) → own_row t p f ≡ true → (row t (f.id - 1)).owner ≡ p
own-row-owned t p f is =
    eqb-true _ _ (both_right (between 1 (ports t) f.id) _ (both_left (between 1 (ports t) f.id && eqb (row t (f.id - 1)).owner p) _ is))

pub own-row : (t : Tables) (s : State) (p : ℕ) (f : Call) → own t s p f ≡ true → own_row t p f ≡ true
unfolding own
own-row t s p f is = both_left (own_row t p f) (is_created (port s (f.id - 1))) is

module _ (t : Tables) (s : State) (p : ℕ) where
  at-port : (k : ℕ) → k < ports t → (row t k).owner ≡ p → (served : Served) → CallReply t s p (at_port s k served)
  at-port k there owned (refuses code) = refusing code
  at-port k there owned (serves v q) = porting v k q there owned

  mode-reply : (m : ℕ) → CallReply t s p (set_mode t s p m)
  unfolding set_mode
  mode-reply m =
      by-test (CallReply t s p) (ltb normal m) (λ h. refusing invalid_param)
      (λ h. by-test (CallReply t s p) (eqb m normal && eqb (mode_of s p) normal) (λ g. refusing no_action)
      (λ g. by-test (CallReply t s p) (eqb m warm_start && eqb (mode_of s p) cold_start) (λ g. refusing invalid_mode)
      (λ g. moding nothing_told m)))

  module _ (e : Event) (f : Call) where
    create-reply : CallReply t s p (create t s p e f)
    unfolding create
    create-reply =
        let k = look_up t p (need f.code).mode e in
        by-test (CallReply t s p) (ltb k (ports t))
        (λ h. at-port k (ltb-true _ _ h) (looked-up t p (need f.code).mode e (ltb-true _ _ h)) (made (suc k) (mode_of s p) (row t k) f (port s k)))
        (λ h. refusing invalid_config)

    get-id-reply : CallReply t s p (get_id t s p e f)
    unfolding get_id
    get-id-reply =
        let k = look_up t p (need f.code).mode e in
        by-test (CallReply t s p) (ltb k (ports t) && is_created (port s k))
        (λ h. telling (told_id (suc k))) (λ h. refusing invalid_config)

    use-own-reply : (time : ℕ) → CallReply t s p (use_own t time s p e f)
    unfolding use_own
    use-own-reply time =
        by-test (CallReply t s p) (own t s p f)
        (λ h. let k = f.id - 1 in
        let mine = own-row t s p f h in
        at-port k (own-row-there t p f mine) (own-row-owned t p f mine) (serve time (row t k) e f (port s k)))
        (λ h. refusing invalid_param)

    pub call-reply : (time : ℕ) → CallReply t s p (service t time s p e f)
    unfolding service
    call-reply time =
        by-test (CallReply t s p) (eqb (mode_of s p) idle) (λ h. refusing 15)
        (λ h. by-test (CallReply t s p) (eqb f.code create_sampling_port || eqb f.code create_queuing_port) (λ g. create-reply)
        (λ g. by-test (CallReply t s p) (eqb f.code get_sampling_port_id || eqb f.code get_queuing_port_id) (λ g. get-id-reply)
        (λ g. by-test (CallReply t s p) (eqb f.code set_partition_mode) (λ g. mode-reply f.choice)
        (λ g. use-own-reply time))))
