-- Create and get id in the shown state, by what the look-up finds and by the mark that the code reads.
-- Assumes nothing.
use Prim.Native.Nat.{ℕ, suc, ◌≤◌, ◌<◌}
use mathlib.Core.Path.{◌≡◌, sym, ◌∙◌, ap}
use mathlib.Core.List.{List}
use lib.ListN.{get_or}
use borrow.Author.Tests.{eq-eqb, ne_eqb, lt-ltb, le-ltb}
use Rattle.model.specs.Tables.{Tables, row}
use Rattle.model.specs.Tables.{ports as port_count}
use Rattle.model.specs.State.{Clock, State, mode_of, port}
use Rattle.model.specs.Events.{Event, Call, Need, need}
use Rattle.model.specs.Services.{refuse, done, at_port, made, look_up, create, get_id}
use Rattle.model.specs.Answers.{told_id}
use Rattle.ports.specs.Held.{row_of}
use Rattle.service_contracts.specs.Did.{shown}
use Rattle.service_contracts.proofs.Contents.{created-is}
use Rattle.service_contracts.proofs.Holding.{shown-port}

module _ (t : Tables) (clock : Clock) (modes numbers bytes : List ℕ) (p : ℕ) (e : Event) (f : Call) {n : Need} (needed : n ≡ need f.code) where
  abbrev s : State
  s = shown t clock modes numbers bytes

  module _ (none : port_count t ≤ look_up t p n.mode e) where
    past : port_count t ≤ look_up t p (need f.code).mode e
    past = rw (← needed) none

    pub create-none : create t s p e f ≡ refuse 4
    unfolding create
    create-none = rw (le-ltb (look_up t p (need f.code).mode e) (port_count t) past)

    pub id-none : get_id t s p e f ≡ refuse 4
    unfolding get_id
    id-none = rw (le-ltb (look_up t p (need f.code).mode e) (port_count t) past)

  module _ {k : ℕ} (found : (k < port_count t) × (k ≡ look_up t p n.mode e)) where
    place : k ≡ look_up t p (need f.code).mode e
    place = found.1 ∙ ap (λ x. look_up t p x.mode e) needed

    there : k < port_count t
    there = found.0

    pub create-found : create t s p e f ≡ at_port s k (made (suc k) (mode_of s p) (row t k) f (port s k))
    unfolding create
    create-found = rw (← place, lt-ltb k (port_count t) there)

    module _ {x : ℕ} (marked : x ≡ get_or (row_of numbers k) 0 0) where
      mark : (port s k).created ≡ x
      mark = ap (λ q. q.created) (shown-port t clock modes numbers bytes k there) ∙ created-is numbers bytes k ∙ sym marked

      pub id-unmade : (x ≡ 1 → ⊥) → get_id t s p e f ≡ refuse 4
      unfolding get_id
      id-unmade new = rw (← place, lt-ltb k (port_count t) there, ne_eqb (port s k).created 1 (λ z. new (sym mark ∙ z)))

      pub id-made : x ≡ 1 → get_id t s p e f ≡ done (told_id (suc k)) s
      unfolding get_id
      id-made made = rw (← place, lt-ltb k (port_count t) there, eq-eqb (port s k).created 1 (mark ∙ made))
