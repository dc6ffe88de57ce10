use Rattle.std.proofs.Common.{◌≡◌, ◌-◌, ◌<◌, sym, ◌∙◌, ap, arith}
use Rattle.model.specs.Tables.{channels, destinations}
use Rattle.model.specs.Services.{delivered}
use Rattle.stores.specs.Ring.{written}
use Rattle.service_contracts.specs.Did.{shown}
use Rattle.moves.proofs.Channels.{held_on, turn}
use Rattle.moves.proofs.deliver.Goals as goal

pub loop-j-preserved : goal.loop-j-preserved
loop-j-preserved c =
    let l = c.loop-j in
    let a = c.args in
    let t = a.tables.bytes.now in
    let m = written a.letter.now in
    let there : a.c < channels t = omega arith in
    let more : l.j < destinations t a.c = omega arith in
    record {
      held = held_on l.invariant.held a.c there l.j more a.time m c.requires.carried c.hand_on.ensures;
      left = λ clock modes. turn l.invariant.held a.c there l.j more a.time m c.hand_on.ensures (destinations t a.c) more clock modes ∙ l.invariant.left clock modes;
    }

pub returns : goal.returns
returns c =
    λ clock modes.
    let l = c.loop-j in
    let a = c.args in
    let t = a.tables.bytes.now in
    let none : destinations t a.c - l.j ≡ 0 = omega arith in
    ap (λ i. delivered t (λ k. a.time) a.c (written a.letter.now) i l.j (shown t clock modes l.ports.numbers l.ports.bytes)) (sym none) ∙ l.invariant.left clock modes
