-- `partition_calls::service` meets its contract, by code. Assumes nothing.
use mathlib.Core.Path.{◌≡◌, ap}
use borrow.Author.Rules.{rules}
use lib.ListN.{get_or}
use Rattle.events.specs.Shown.{number_of, call_of}
use Rattle.service_contracts.specs.Did.{shown}
use Rattle.service_contracts.proofs.Holding.{rows_of}
use Rattle.service_contracts.proofs.Acts.{refused-does}
use Rattle.partition_calls.proofs.ByCode.{by-idle, by-create, by-get-id, by-set-mode, by-own, other-numbers}
use Rattle.partition_calls.proofs.service.Goals as goal

pub set_mode-requires-clause-rows : goal.set_mode-requires-clause-rows
set_mode-requires-clause-rows c = rows_of c.requires.held

pub returns-then-modes-p-eq-IDLE : goal.returns-then-modes-p-eq-IDLE
returns-then-modes-p-eq-IDLE c =
    let a = c.args in
    let t = a.tables.bytes.now in
    λ clock. rw
    (by-idle t a.time (shown t clock a.modes.now a.ports.now.numbers a.ports.now.bytes) a.p a.call.event.now (call_of a.call) c.if-modes-p-eq-IDLE.true) (refused-does c.refused.ensures)

pub returns-in-CreateSamplingPort : goal.returns-in-CreateSamplingPort
returns-in-CreateSamplingPort c =
    let a = c.args in
    let t = a.tables.bytes.now in
    let running : get_or a.modes.now a.p 0 ≡ 0 → ⊥ = assumption in
    λ clock. rw
    (by-create t a.time (shown t clock a.modes.now a.ports.now.numbers a.ports.now.bytes) a.p a.call.event.now (call_of a.call) running (search rules)) (c.create.ensures clock)

pub returns-in-GetSamplingPortId : goal.returns-in-GetSamplingPortId
returns-in-GetSamplingPortId c =
    let a = c.args in
    let t = a.tables.bytes.now in
    let running : get_or a.modes.now a.p 0 ≡ 0 → ⊥ = assumption in
    λ clock. rw
    (by-get-id t a.time (shown t clock a.modes.now a.ports.now.numbers a.ports.now.bytes) a.p a.call.event.now (call_of a.call) running (search rules)) (c.get_id.ensures a.modes.now clock)

pub returns-in-SetPartitionMode : goal.returns-in-SetPartitionMode
returns-in-SetPartitionMode c =
    let a = c.args in
    let t = a.tables.bytes.now in
    let running : get_or a.modes.now a.p 0 ≡ 0 → ⊥ = assumption in
    λ clock. rw
    (by-set-mode t a.time (shown t clock a.modes.now a.ports.now.numbers a.ports.now.bytes) a.p a.call.event.now (call_of a.call) running (ap number_of c.in-SetPartitionMode.is)) (c.set_mode.ensures a.ports.now.bytes clock)

pub returns-in_default : goal.returns-in_default
returns-in_default c =
    let a = c.args in
    let t = a.tables.bytes.now in
    let running : get_or a.modes.now a.p 0 ≡ 0 → ⊥ = assumption in
    let d = c.in_default in
    let other = other-numbers a.call.code d.not-CreateSamplingPort d.not-CreateQueuingPort d.not-GetSamplingPortId d.not-GetQueuingPortId d.not-SetPartitionMode in
    λ clock. rw
    (by-own t a.time (shown t clock a.modes.now a.ports.now.numbers a.ports.now.bytes) a.p a.call.event.now (call_of a.call) running other.0 other.1 other.2)
    (c.use_own.ensures a.modes.now clock)
