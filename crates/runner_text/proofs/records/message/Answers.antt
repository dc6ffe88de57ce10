-- `runner_text::records::message` meets its contract: what the reader hands out of the record, or a dash. Assumes nothing.
use mathlib.Core.Path.{sym, ap, ◌∙◌}
use native.Mathlib.Omega.{arith}
use Rattle.runner_text.specs.Text.{hex, shows_message, record_at}
use Rattle.runner_text.proofs.Laws
use Rattle.runner_text.proofs.Handed
use Rattle.runner_text.proofs.records.message.Goals as goal

pub hex-requires : goal.hex-requires
hex-requires c = omega (arith, c.requires.3, Handed.message-short _ _ _ c.read.ensures)

pub returns-then-shows_message : goal.returns-then-shows_message
returns-then-shows_message c =
    let a = c.args in
    let b = a.answers.now in
    let tested = c.shows_message.ensures ∙ ap (shows_message a.event.now) c.record_of.ensures.value in
    Laws.adds_as (omega (arith, Handed.message-short _ _ _ c.read.ensures))
    (ap hex (c.read.ensures ∙ Handed.handed-record b a.i c.requires.1 c.requires.2)
    ∙ sym (Handed.message-shown a.event.now (record_at b a.i) (sym tested ∙ c.if-shows_message.true)))
    c.hex.ensures

pub returns-else-shows_message : goal.returns-else-shows_message
returns-else-shows_message c =
    let a = c.args in
    let tested = c.shows_message.ensures ∙ ap (shows_message a.event.now) c.record_of.ensures.value in
    Laws.adds_as (omega arith) (sym (Handed.message-not a.event.now (record_at a.answers.now a.i) (sym tested ∙ c.if-shows_message.false))) c.text.ensures
