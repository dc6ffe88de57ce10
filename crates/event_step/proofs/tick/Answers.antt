-- `event_step::tick` meets its contract: the next window, or the first. Assumes nothing.
use Rattle.std.proofs.Common.{suc, ◌+◌, ◌≤◌, ◌<◌, sym, ◌∙◌, ap, add-one, arith}
use mathlib.Core.Path.{ap₂}
use Rattle.model.specs.Tables.{windows}
use Rattle.model.specs.State as model
use Rattle.event_step.specs.Turned.{clock_of}
use Rattle.event_step.proofs.Laws
use Rattle.event_step.proofs.tick.Goals as goal
use Rattle.event_step.proofs.tick.Goals.{then-next-tables, else-next-tables}

pub returns : goal.returns
returns c =
    let t = c.args.tables.bytes.now in
    let k = c.args.clock in
    let time = c.later.ensures ∙ ap (λ x. model.wrap (k.time + x)) c.window_length.ensures in
    elim c.if-next-tables.branch [
      | then-next-tables w ↦
          let next : suc k.window < windows t = omega arith in
          ap₂ (λ w x. record { window = w; time = x }) (w.result-is ∙ add-one k.window) time ∙ sym (Laws.tick-next t (clock_of k) next)
      | else-next-tables w ↦
          let last : windows t ≤ suc k.window = omega arith in
          ap₂ (λ w x. record { window = w; time = x }) w.result-is time ∙ sym (Laws.tick-first t (clock_of k) last)
    ]
