-- `create_and_find::create` meets its contract: the port that the look-up finds, made. Assumes nothing.
use Prim.Native.Nat.{suc, ◌+◌, ◌≤◌}
use mathlib.Core.Path.{◌≡◌, sym, ◌∙◌, ap, ap₂, subst}
use native.Mathlib.Numerals.{add-one}
use native.Mathlib.Omega.{arith}
use lib.ListN.{get_or}
use Rattle.model.specs.Tables.{ports, row}
use Rattle.model.specs.State.{port, mode_of}
use Rattle.model.specs.Services.{made, look_up}
use Rattle.model.proofs.Accepted.{accepted}
use Rattle.tables.specs.Shown as Shown
use Rattle.events.specs.Shown.{call_of}
use Rattle.ports.specs.Held.{port_at}
use Rattle.service_contracts.specs.Did.{shown}
use Rattle.service_contracts.specs.Served.{Serves}
use Rattle.service_contracts.proofs.Holding.{rows_of, row_read, shown-port}
use Rattle.service_contracts.proofs.Acts.{refused-does, serves-does}
use Rattle.create_and_find.proofs.Found.{create-none, create-found}
use Rattle.create_and_find.proofs.create.Goals as goal

pub look_up-requires-clause-rows : goal.look_up-requires-clause-rows
look_up-requires-clause-rows c = rows_of c.requires.held

pub returns-in_default : goal.returns-in_default
returns-in_default c =
    let a = c.args in
    let past : ports a.tables.bytes.now ≤ look_up a.tables.bytes.now a.p c.need.result.mode a.call.event.now = omega (arith, c.in_default.ensures) in
    λ clock. rw
    (create-none a.tables.bytes.now clock a.modes.now a.numbers.now a.bytes.now a.p a.call.event.now (call_of a.call) c.need.ensures past) (refused-does c.refused.ensures)

pub make-requires : goal.make-requires
make-requires c =
    let t = accepted c.args.tables.bytes.now c.requires.held.accepted in
    (c.requires.numbers_len, omega (arith, c.in-Some.ensures.0, t.few_ports))

pub returns : goal.returns
returns c =
    let a = c.args in
    let t = a.tables.bytes.now in
    let n = a.numbers.now in
    let b = a.bytes.now in
    let f = call_of a.call in
    let k = c.in-Some.k in
    let there = c.in-Some.ensures.0 in
    let shows = row_read t (accepted t c.requires.held.accepted) k there c.row.ensures in
    let after = c.make.new.numbers in
    λ clock.
    let st = shown t clock a.modes.now n b in
    let served = made (suc k) (mode_of st a.p) (row t k) f (port st k) in
    let same : made (k + 1) (get_or a.modes.now a.p 0) (Shown.row_of c.row.result) f (port_at n b k) ≡ served =
    ap (λ i. made i (get_or a.modes.now a.p 0) (Shown.row_of c.row.result) f (port_at n b k)) (add-one k)
    ∙ ap₂ (λ x q. made (suc k) (get_or a.modes.now a.p 0) x f q) shows (sym (shown-port t clock a.modes.now n b k there))
    in
    rw (create-found t clock a.modes.now n b a.p a.call.event.now f c.need.ensures c.in-Some.ensures)
    (serves-does t clock a.modes.now n b after b k a.p c.make.result served there (subst (Serves n b after b k a.p c.make.result) same c.make.ensures))
