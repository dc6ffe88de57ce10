-- An own port: its test in the shown state and by its parts, and the call on it by what the test gave.
-- Assumes nothing.
use Prim.Native.Nat.{ℕ, ◌-◌, ◌≤◌, ◌<◌}
use mathlib.Core.Path.{◌≡◌, refl, sym, ◌∙◌, ap, ap₂, subst}
use mathlib.Core.Bool.{Bool, true, false, ◌&&◌}
use mathlib.Core.List.{List}
use native.Mathlib.Omega.{arith}
use lib.Dec.{eqb}
use lib.ListN.{get_or}
use borrow.Author.Tests.{le-leb, lt-leb, eq-eqb}
use Rattle.model.specs.Words.{between}
use Rattle.model.specs.Tables.{Tables, row}
use Rattle.model.specs.Tables.{ports as port_count}
use Rattle.model.specs.State.{Clock, State, port, is_created}
use Rattle.model.specs.Events.{Event, Call, need}
use Rattle.model.specs.Services.{own, use_own, serve}
use Rattle.model.proofs.Tests.{both_left, between-low, between-high}
use Rattle.model.proofs.Accepted.{accepted}
use Rattle.tables.specs.Shown.{decoded}
use Rattle.tables.specs.Shown as Shown
use Rattle.tables.specs.declared.PortRow.{PortRow}
use Rattle.events.specs.declared.answers.Answer.{Answer}
use Rattle.events.specs.Shown.{refused_as}
use Rattle.ports.specs.Held.{row_of, port_at}
use Rattle.service_contracts.specs.Did.{Held, shown}
use Rattle.service_contracts.specs.Served.{Serves}
use Rattle.service_contracts.specs.Called.{Calls}
use Rattle.service_contracts.proofs.Contents.{created-is}
use Rattle.service_contracts.proofs.Holding.{row_read, shown-port}
use Rattle.service_contracts.proofs.Acts.{refused-does, serves-does}
use Rattle.own_ports.specs.Own.{own_at}

-- the test of an own port in the shown state reads the created mark where it stands
pub own-shown : (t : Tables) (clock : Clock) (modes numbers bytes : List ℕ) (p : ℕ) (f : Call) → own t (shown t clock modes numbers bytes) p f ≡ own_at t numbers p f
unfolding own own_at
own-shown t clock modes numbers bytes p f = go (between 1 (port_count t) f.id) refl
  where
    k : ℕ
    k = f.id - 1

    b : Bool
    b = eqb (row t k).owner p

    c : Bool
    c = eqb (row t k).mode (need f.code).mode

    s : State
    s = shown t clock modes numbers bytes

    go : (x : Bool) → between 1 (port_count t) f.id ≡ x → (between 1 (port_count t) f.id && b && c && is_created (port s k)) ≡ (between 1 (port_count t) f.id && b && c && eqb (get_or (row_of numbers k) 0 0) 1)
    go false e = rw e
    go true e =
        let inside : k < port_count t = omega (arith, between-low 1 (port_count t) f.id e, between-high 1 (port_count t) f.id e) in
        ap (λ q. between 1 (port_count t) f.id && b && c && is_created q) (shown-port t clock modes numbers bytes k inside)
        ∙ ap (λ m. between 1 (port_count t) f.id && b && c && eqb m 1) (created-is numbers bytes k)

-- what each of its parts decides
module _ (t : Tables) (numbers : List ℕ) (p : ℕ) (f : Call) where
  pub own-none : f.id < 1 → own_at t numbers p f ≡ false
  unfolding own_at
  own-none h = rw (lt-leb 1 f.id h)

  pub own-past : 1 ≤ f.id → port_count t < f.id → own_at t numbers p f ≡ false
  unfolding own_at
  own-past l h = rw (le-leb 1 f.id l, lt-leb f.id (port_count t) h)

  module _ (l : 1 ≤ f.id) (h : f.id ≤ port_count t) (o : (row t (f.id - 1)).owner ≡ p) where
    pub own-mode : eqb (row t (f.id - 1)).mode (need f.code).mode ≡ false → own_at t numbers p f ≡ false
    unfolding own_at
    own-mode m = rw (le-leb 1 f.id l, le-leb f.id (port_count t) h, eq-eqb (row t (f.id - 1)).owner p o, m)

    pub own-mark : eqb (row t (f.id - 1)).mode (need f.code).mode ≡ true → own_at t numbers p f ≡ eqb (get_or (row_of numbers (f.id - 1)) 0 0) 1
    unfolding own_at
    own-mark m = rw (le-leb 1 f.id l, le-leb f.id (port_count t) h, eq-eqb (row t (f.id - 1)).owner p o, m)

  -- an own port is one of the tables'
  module _ (owns : own_at t numbers p f ≡ true) where
    id-between : between 1 (port_count t) f.id ≡ true
    unfolding own_at
    id-between =
        let a = between 1 (port_count t) f.id in
        let b = eqb (row t (f.id - 1)).owner p in
        let c = eqb (row t (f.id - 1)).mode (need f.code).mode in
        both_left a b (both_left (a && b) c (both_left (a && b && c) (eqb (get_or (row_of numbers (f.id - 1)) 0 0) 1) owns))

    pub own-some : 1 ≤ f.id
    own-some = between-low 1 (port_count t) f.id id-between

    pub own-there : f.id - 1 < port_count t
    own-there = omega (arith, own-some, between-high 1 (port_count t) f.id id-between)

-- the call, by what that test gave
module _ (t : Tables) (numbers bytes : List ℕ) (p time : ℕ) (e : Event) (f : Call) {r : Answer} where
  pub use-refused : own_at t numbers p f ≡ false → r ≡ refused_as 3 p → (modes : List ℕ) → Calls t (λ s. use_own t time s p e f) p r modes numbers bytes modes numbers bytes
  unfolding use_own
  use-refused other given modes clock = rw (own-shown t clock modes numbers bytes p f ∙ other) (refused-does given)

  -- the service at an own port is the call
  pub use-served :
      Held t numbers bytes → own_at t numbers p f ≡ true → {k : ℕ} → k ≡ f.id - 1 → {w : PortRow} → w ≡ decoded (row t k) → (numbers' bytes' : List ℕ)
      → Serves numbers bytes numbers' bytes' k p r (serve time (Shown.row_of w) e f (port_at numbers bytes k)) → (modes : List ℕ)
      → Calls t (λ s. use_own t time s p e f) p r modes numbers bytes modes numbers' bytes'
  unfolding use_own
  use-served h owns {k} named {w} shows numbers' bytes' given modes clock =
      rw (own-shown t clock modes numbers bytes p f ∙ owns, ← named)
      (serves-does t clock modes numbers bytes numbers' bytes' k p r (serve time (row t k) e f (port s k)) there (subst (Serves numbers bytes numbers' bytes' k p r) same given))
    where
      there : k < port_count t
      there = rw named (own-there t numbers p f owns)

      s : State
      s = shown t clock modes numbers bytes

      same : serve time (Shown.row_of w) e f (port_at numbers bytes k) ≡ serve time (row t k) e f (port s k)
      same =
          ap₂ (λ y q. serve time y e f q) (row_read t (accepted t h.accepted) k there shows) (sym (shown-port t clock modes numbers bytes k there))
