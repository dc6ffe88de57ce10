-- `read_and_receive::clear` meets its contract: the direction, then no message counts. Assumes nothing.
use mathlib.Core.Path.{sym, ◌∙◌, ap}
use Rattle.model.specs.Events.{need}
use Rattle.model.specs.Services.{directed}
use Rattle.tables.specs.Shown.{row_of}
use Rattle.ports.proofs.Marks.{put-none}
use Rattle.service_contracts.proofs.Refused.{kept}
use Rattle.read_and_receive.proofs.Cases.{clear-wrong, clear-done}
use Rattle.read_and_receive.proofs.clear.Goals as goal

pub returns-then-not-directed : goal.returns-then-not-directed
returns-then-not-directed c =
    λ f e.
    let r = row_of c.args.row in
    rw (clear-wrong r f _ (ap (λ n. directed (need n) r) e ∙ sym c.directed.ensures ∙ c.if-not-directed.true)) (kept c.refused.ensures)

pub returns : goal.returns
returns c =
    λ f e.
    let a = c.args in
    let r = row_of a.row in
    rw (clear-done r f _ (ap (λ n. directed (need n) r) e ∙ sym c.directed.ensures ∙ c.if-not-directed.false))
    (c.done.ensures, put-none a.numbers.now a.bytes.now a.k c.set_number.ensures)
