-- Lent arrays that hold the ports of accepted tables: when they do, where the rows lie, each port with its row, and the state that the arrays show.
-- Assumes nothing.
use Prim.Native.Nat.{ℕ, ◌<◌}
use mathlib.Core.Path.{◌≡◌, refl, sym, ◌∙◌, ap, subst}
use mathlib.Core.Bool.{true}
use mathlib.Core.List.{List}
use native.Mathlib.Omega.{arith}
use Rattle.model.specs.Tables.{Tables, row}
use Rattle.model.specs.Tables.{ports as port_count}
use Rattle.model.specs.Load.{accepts}
use Rattle.model.specs.State.{Clock, Port, port, with_port}
use Rattle.model.proofs.Accepted.{Accepted, accepted}
use Rattle.model.specs.Ranged.{RowRanges, PortRanged, Ranged}
use Rattle.tables.specs.Shown.{decoded}
use Rattle.tables.specs.Shown as Shown
use Rattle.tables.specs.declared.PortRow.{PortRow}
use Rattle.tables.proofs.Decoded as Decoded
use Rattle.stores.specs.Ring.{Sized}
use Rattle.ports.specs.Held.{store_at, port_at, PortPut}
use Rattle.ports.proofs.PortAt.{ports-at, ports-put}
use Rattle.service_contracts.specs.Did.{Held, shown}
use Rattle.service_contracts.specs.Served.{Fits}
use Rattle.service_contracts.specs.Called.{Rows}
use Rattle.service_contracts.proofs.Contents.{sized_of}

-- the port of the shown state is the arrays' port
pub shown-port : (t : Tables) (clock : Clock) (modes numbers bytes : List ℕ) (k : ℕ) → k < port_count t → port (shown t clock modes numbers bytes) k ≡ port_at numbers bytes k
shown-port t clock modes numbers bytes k h = ports-at numbers bytes (port_count t) k h

-- a port put is that port of the shown state replaced
pub shown-put : (t : Tables) (clock : Clock) (modes : List ℕ) {numbers bytes numbers' bytes' : List ℕ} {k : ℕ} {q : Port} → k < port_count t → PortPut numbers bytes numbers' bytes' k q
    → shown t clock modes numbers' bytes' ≡ with_port (shown t clock modes numbers bytes) k q
shown-put t clock modes h p = ap (λ ps. record { clock = clock; modes = modes; ports = ps }) (ports-put (port_count t) h p)

-- arrays that show a state in range hold its ports
pub held_of : {t : Tables} {clock : Clock} {modes numbers bytes : List ℕ} → accepts t ≡ true → Ranged t (shown t clock modes numbers bytes) → Held t numbers bytes
held_of {t} {numbers = numbers} {bytes = bytes} ok r =
    record {
      accepted = ok;
      each = λ k h. subst (PortRanged (row t k)) (ports-at numbers bytes (port_count t) k h) (r.each k h);
    }

-- accepted tables: where the rows lie, and that there are few
pub rows_of : {t : Tables} {numbers bytes : List ℕ} → Held t numbers bytes → Rows t
rows_of {t} h =
    let a = accepted t h.accepted in
    record { few = a.few_ports; ranges = a.rows }

-- the row of port k, decoded, shows the model's row; port k fits it, and so does its store
pub row_read : (t : Tables) → Accepted t → (k : ℕ) → k < port_count t → {r : PortRow} → r ≡ decoded (row t k) → Shown.row_of r ≡ row t k
row_read t a k h e = ap Shown.row_of e ∙ Decoded.shown (row t k) (a.rows k h)

-- the same by the rows' ranges alone
pub row-at : {t : Tables} → Rows t → (k : ℕ) → k < port_count t → {r : PortRow} → r ≡ decoded (row t k) → Shown.row_of r ≡ row t k
row-at {t} rows k h e = ap Shown.row_of e ∙ Decoded.shown (row t k) (rows.ranges k h)

pub fits-of : {t : Tables} {numbers bytes : List ℕ} → Held t numbers bytes → (k : ℕ) → k < port_count t → (r : PortRow) → r ≡ decoded (row t k) → Fits numbers bytes k r
fits-of {t} {numbers} {bytes} h k l r e =
    let a = accepted t h.accepted in
    let shows : Shown.row_of r ≡ row t k = row_read t a k l e in
    record {
      there = omega (arith, a.few_ports);
      ranges = subst RowRanges (sym shows) (a.rows k l);
      port = subst (λ x. PortRanged x (port_at numbers bytes k)) (sym shows) (h.each k l);
    }

pub sized-at : {t : Tables} {numbers bytes : List ℕ} → Held t numbers bytes → (k : ℕ) → k < port_count t → Sized (store_at numbers bytes k)
sized-at {t} {numbers} {bytes} h k l = sized_of numbers bytes k (decoded (row t k)) (fits-of h k l (decoded (row t k)) refl)
