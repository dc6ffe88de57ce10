-- `events::codes::decode` meets its contract: each answer from the code's row that led there. Assumes nothing.
use Rattle.std.proofs.Common.{sym, ap, ◌∙◌, ◌≡◌, true, arith}
use Rattle.model.specs.Words.{byte}
use Rattle.model.specs.Events.{decode, known, need}
use Rattle.events.specs.Shown.{caller_number}
use Rattle.events.proofs.Numbers.{number_known}
use Rattle.events.proofs.Table.{decode_call, decode-clock, decode-move}
use Rattle.events.proofs.codes.decode.Goals as goal

pub returns-in_default-clause-asked : goal.returns-in_default-clause-asked
unfolding decode
returns-in_default-clause-asked c = rw c.in_default.ensures.1

pub returns-in-Partition-clause-asked : goal.returns-in-Partition-clause-asked
returns-in-Partition-clause-asked c =
    let k : known (byte c.args.event.now 0) ≡ true = rw (sym c.in-Ok.ensures) (number_known c.in-Ok.code) in
    let row : (need (byte c.args.event.now 0)).caller ≡ 0 = rw (sym c.in-Ok.ensures) (sym (ap (λ n. n.caller) c.need.ensures) ∙ ap caller_number c.in-Partition.is) in
    rw (c.in-Ok.ensures, c.word16.ensures, c.word32.ensures, c.word32-in-Partition.ensures) (sym (decode_call c.args.event.now k row))

pub returns-in-Scheduler-clause-asked : goal.returns-in-Scheduler-clause-asked
returns-in-Scheduler-clause-asked c =
    let k : known (byte c.args.event.now 0) ≡ true = rw (sym c.in-Ok.ensures) (number_known c.in-Ok.code) in
    let row : (need (byte c.args.event.now 0)).caller ≡ 1 = rw (sym c.in-Ok.ensures) (sym (ap (λ n. n.caller) c.need.ensures) ∙ ap caller_number c.in-Scheduler.is) in
    sym (decode-clock c.args.event.now k row)

pub returns-in-Mover-clause-asked : goal.returns-in-Mover-clause-asked
returns-in-Mover-clause-asked c =
    let k : known (byte c.args.event.now 0) ≡ true = rw (sym c.in-Ok.ensures) (number_known c.in-Ok.code) in
    let row : (need (byte c.args.event.now 0)).caller ≡ 2 = rw (sym c.in-Ok.ensures) (sym (ap (λ n. n.caller) c.need.ensures) ∙ ap caller_number c.in-Mover.is) in
    rw c.word16-in-Mover.ensures (sym (decode-move c.args.event.now k (λ q. absurd (omega (arith, row, q))) (λ q. absurd (omega (arith, row, q)))))
