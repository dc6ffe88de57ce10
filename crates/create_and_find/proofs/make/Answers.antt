-- `create_and_find::make` meets its contract: the tests in their order. Assumes nothing.
use mathlib.Core.Path.{◌≡◌}
use Rattle.tables.specs.Shown as Shown
use Rattle.events.specs.Shown.{call_of}
use Rattle.service_contracts.proofs.Refused.{kept}
use Rattle.create_and_find.proofs.Made.{made_again, made-unlike, made-normal, made-done}
use Rattle.ports.proofs.Marks.{put-created}
use Rattle.create_and_find.proofs.make.Goals as goal

pub returns-then-number-eq1 : goal.returns-then-number-eq1
returns-then-number-eq1 c =
    let a = c.args in
    rw (made_again a.numbers.now a.bytes.now a.k a.mode (Shown.row_of a.row) (call_of a.call) c.number.ensures c.if-number-eq1.true) (kept c.refused.ensures)

pub returns-then-not-like_row : goal.returns-then-not-like_row
returns-then-not-like_row c =
    let a = c.args in
    rw (made-unlike a.numbers.now a.bytes.now a.k a.mode (Shown.row_of a.row) (call_of a.call) c.number.ensures c.if-number-eq1.false c.like_row.ensures c.if-not-like_row.true) (kept c.refused-then-not-like_row.ensures)

pub returns-then-mode-eq-NORMAL : goal.returns-then-mode-eq-NORMAL
returns-then-mode-eq-NORMAL c =
    let a = c.args in
    rw (made-normal a.numbers.now a.bytes.now a.k a.mode (Shown.row_of a.row) (call_of a.call) c.number.ensures c.if-number-eq1.false c.like_row.ensures c.if-not-like_row.false c.if-mode-eq-NORMAL.true) (kept c.refused-then-mode-eq-NORMAL.ensures)

pub returns : goal.returns
returns c =
    let a = c.args in
    let n = a.numbers.now in
    let b = a.bytes.now in
    let new : a.mode ≡ 3 → ⊥ = assumption in
    rw (made-done n b a.k a.mode (Shown.row_of a.row) (call_of a.call) c.number.ensures c.if-number-eq1.false c.like_row.ensures c.if-not-like_row.false new)
    (c.told_id.ensures, put-created n b a.k 1 c.set_number.ensures)
