-- `read_and_receive::get` meets its contract: the direction, then read or receive by code. Assumes nothing.
use mathlib.Core.Path.{sym, ◌∙◌, ap}
use Rattle.model.specs.Events.{need}
use Rattle.model.specs.Services.{directed}
use Rattle.tables.specs.Shown.{row_of}
use Rattle.events.specs.Shown.{number_of}
use Rattle.service_contracts.proofs.Contents.{sized_of}
use Rattle.service_contracts.proofs.Refused.{kept}
use Rattle.read_and_receive.proofs.Cases.{get-wrong, get-read, get-receive, not-read}
use Rattle.read_and_receive.proofs.get.Goals as goal

pub returns-then-not-directed : goal.returns-then-not-directed
returns-then-not-directed c =
    λ f e.
    let r = row_of c.args.row in
    rw (get-wrong _ r f _ (ap (λ n. directed (need n) r) e ∙ sym c.directed.ensures ∙ c.if-not-directed.true)) (kept c.refused.ensures)

pub returns-in-ReadSamplingMessage : goal.returns-in-ReadSamplingMessage
returns-in-ReadSamplingMessage c =
    λ f e.
    let r = row_of c.args.row in
    rw (get-read _ r f _ (ap (λ n. directed (need n) r) e ∙ sym c.directed.ensures ∙ c.if-not-directed.false) (e ∙ ap number_of c.in-ReadSamplingMessage.is)) c.read.ensures

pub receive-requires-clause-sized : goal.receive-requires-clause-sized
receive-requires-clause-sized c =
    let a = c.args in
    sized_of a.numbers.now a.bytes.now a.k a.row c.requires.fits

pub returns-in_default : goal.returns-in_default
returns-in_default c =
    λ f e.
    let r = row_of c.args.row in
    let other = not-read c.args.code c.in_default.not-ReadSamplingMessage in
    rw (get-receive _ r f _ (ap (λ n. directed (need n) r) e ∙ sym c.directed.ensures ∙ c.if-not-directed.false) (λ x. other (sym e ∙ x))) c.receive.ensures
