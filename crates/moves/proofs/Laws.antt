-- What the proofs of the mover lean on, of one port: a message arrives at it, and it is put in its ranges.
-- Channels has the laws of a channel and of the whole move.
-- Assumes nothing.
use Prim.Native.Nat.{ℕ, ◌<◌}
use mathlib.Core.Path.{◌≡◌, refl, sym, ◌∙◌, ap, subst}
use mathlib.Core.Bool.{Bool, true, false, ◌||◌}
use mathlib.Core.List.{List, ◌∷◌}
use native.Mathlib.Omega.{arith}
use lib.Dec.{eqb, eqb-suc-zero}
use lib.ListN.{length, set}
use borrow.Author.Tests.{eq-eqb, eqb-true, eqb-false}
use Rattle.model.specs.Words.{all_in}
use Rattle.model.specs.Tables.{Tables, Row, row}
use Rattle.model.specs.Tables.{ports as port_count}
use Rattle.model.specs.State.{Message, Port, with_queue, is_created}
use Rattle.model.specs.Services.{stored, arrived}
use Rattle.model.proofs.Tests.{both_right}
use Rattle.model.specs.State.{fits}
use Rattle.model.specs.Ranged.{PortRanged}
use Rattle.ports.specs.Held
use Rattle.ports.specs.Held.{port_at, RowPut, PortPut}
use Rattle.ports.proofs.Marks.{put-arrival}
use Rattle.service_contracts.specs.Did

-- ---- one destination

-- what arrives, by the destination's mark and mode
module _ (time : ℕ) (r : Row) (m : Message) (d : Port) where
  pub arrived-uncreated : d.created ≡ 0 → arrived time r m d ≡ d
  unfolding arrived
  arrived-uncreated e = rw e

  pub arrived-queuing : d.created ≡ 1 → r.mode ≡ 1 → arrived time r m d ≡ with_queue d (stored r d.queue m)
  unfolding arrived
  arrived-queuing e q = rw (eq-eqb d.created 1 e, q)

  pub arrived-sampling : d.created ≡ 1 → r.mode ≡ 0
      → arrived time r m d ≡ record { created = d.created; arrival = time; validity = d.validity; queue = stored r d.queue m }
  unfolding arrived
  arrived-sampling e q = rw (eq-eqb d.created 1 e, q)

-- a port put, and then its arrival time set
pub put-stamped : {numbers bytes numbers₁ bytes₁ numbers₂ bytes₂ : List ℕ} {k time : ℕ} {q : Port} → PortPut numbers bytes numbers₁ bytes₁ k q
    → RowPut numbers₁ numbers₂ k (set (Held.row_of numbers₁ k) 2 time) → bytes₂ ≡ bytes₁
    → PortPut numbers bytes numbers₂ bytes₂ k (record { created = q.created; arrival = time; validity = q.validity; queue = q.queue })
put-stamped {numbers} {bytes} {numbers₁} {bytes₁} {numbers₂} {k = k} {time = time} {q = q} p r kept =
    let again = put-arrival numbers₁ bytes₁ k time r in
    let stamped : Port = record { created = q.created; arrival = time; validity = q.validity; queue = q.queue } in
    subst (λ (b : List ℕ). PortPut numbers bytes numbers₂ b k stamped) (sym kept)
    (record {
      here = again.here ∙ ap (λ q. record { created = q.created; arrival = time; validity = q.validity; queue = q.queue }) p.here;
      elsewhere = λ j other. again.elsewhere j other ∙ p.elsewhere j other;
    })

-- ---- ports in their ranges

-- a message less
holding : (b : Bool) (m : Message) (rest : List Message) → (b || eqb (length (m ∷ rest)) 0) ≡ true → b ≡ true
holding true m rest e = refl
holding false m rest e = sym (eqb-suc-zero (length rest)) ∙ e

pub left-ranged : (r : Row) (q : Port) (m : Message) (rest : List Message) → q.queue ≡ m ∷ rest → PortRanged r q → PortRanged r (with_queue q rest)
left-ranged r q m rest e h =
    let made : is_created q ≡ true = holding (is_created q) m rest (rw e at h.made) in
    record {
      marked = h.marked;
      judged = h.judged;
      counted = omega (arith, rw e at h.counted);
      sized = both_right (fits r m) (all_in (fits r) rest) (rw e at h.sized);
      made = rw made;
    }

-- one port put
pub held-put : {t : Tables} {numbers bytes numbers' bytes' : List ℕ} {k : ℕ} {q : Port} → Did.Held t numbers bytes → PortPut numbers bytes numbers' bytes' k q → PortRanged (row t k) q
    → Did.Held t numbers' bytes'
held-put {t} {numbers} {bytes} {numbers'} {bytes'} {k} {q} h p ranged =
    record { accepted = h.accepted; each = λ j l. go j l (eqb j k) refl }
  where
    go : (j : ℕ) → j < port_count t → (b : Bool) → eqb j k ≡ b → PortRanged (row t j) (port_at numbers' bytes' j)
    go j l true e = rw (eqb-true j k e, p.here) ranged
    go j l false e = rw (p.elsewhere j (eqb-false j k e)) (h.each j l)
