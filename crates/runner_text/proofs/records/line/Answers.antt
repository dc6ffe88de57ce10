-- `runner_text::records::line` meets its contract: its parts one after another, of the record that stands there. Assumes nothing.
use mathlib.Core.Path.{ap}
use native.Mathlib.Omega.{arith}
use Rattle.runner_text.specs.Text.{who, what, how, message, line, record_at}
use Rattle.runner_text.proofs.Laws
use Rattle.runner_text.proofs.records.line.Goals as goal

pub returns : goal.returns
unfolding line
returns c =
    let a = c.args in
    let event = c.record_of-event.ensures.value in
    let answer = c.record_of-answer.ensures.value in
    Laws.adds-five (omega (arith, c.requires))
    (Laws.adds_same (ap (who a.number) answer) c.who.ensures)
    (Laws.adds_same (ap what answer) c.what.ensures)
    (Laws.adds_same (ap how answer) c.how.ensures)
    (Laws.adds_same (ap (λ e. message e (record_at a.answers.now a.i)) event) c.message.ensures)
    c.text.ensures
