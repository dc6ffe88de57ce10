-- `host::mueanphrai_step` meets its contract, by the size of the buffer: the kernel's call, handed back. Assumes nothing.
use mathlib.Core.Path.{◌∙◌}
use lib.Dec.{eqb}
use lib.ListN.{length}
use borrow.Author.Tests.{eq-eqb, ne_eqb}
use Rattle.host.proofs.Calls.{unsized, sized}
use Rattle.host.proofs.mueanphrai_step.Goals as goal

pub returns-then-state-ne-STATE_SIZE : goal.returns-then-state-ne-STATE_SIZE
returns-then-state-ne-STATE_SIZE c =
    let s = c.args in
    let from = s.state.now in
    unsized s.tables.now from _ s.event.now s.answers.now (ne_eqb (length from) 36120 c.if-state-ne-STATE_SIZE.true) (c.number.ensures ∙ c.refused_size.ensures)

pub returns : goal.returns
returns c =
    let s = c.args in
    let from = s.state.now in
    let es = s.event.now in
    sized s.tables.now from (eqb (length es) 80) es s.answers.now (eq-eqb (length from) 36120 c.if-state-ne-STATE_SIZE.false)
    c.state_of.ensures c.step-ran.ensures c.hand_back.ensures
