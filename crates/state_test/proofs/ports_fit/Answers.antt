use Rattle.std.proofs.Common.{◌≡◌, ◌-◌, ◌<◌, sym, ◌∙◌, ap, arith}
use Rattle.model.specs.Words.{all}
use Rattle.model.specs.Tables.{ports}
use Rattle.model.proofs.Searches.{all_more, all-stop}
use Rattle.state_test.specs.Tested.{port_fits, each_fits}
use Rattle.state_test.proofs.Judged.{part-inside, its-ranges, port-judged}
use Rattle.state_test.proofs.ports_fit.Goals as goal

pub loop-k-init : goal.loop-k-init
unfolding each_fits
loop-k-init c =
    let whole : c.args.tables.ports - 0 ≡ ports c.args.tables.bytes.now = omega arith in
    ap (λ n. all (port_fits c.args.tables.bytes.now c.args.numbers.now) n 0) (sym whole)

pub slice_bounds-port_fits-end : goal.slice_bounds-port_fits-end
slice_bounds-port_fits-end c =
    let there : c.loop-k.k < ports c.args.tables.bytes.now = omega arith in
    part-inside c.args.tables.bytes.now c.args.numbers.now c.requires.accepted c.requires.whole c.loop-k.k there

pub port_fits-requires-clause-ranges : goal.port_fits-requires-clause-ranges
port_fits-requires-clause-ranges c =
    let t = c.args.tables.bytes.now in
    let there : c.loop-k.k < ports t = omega arith in
    its-ranges t c.args.numbers.now c.requires.accepted c.requires.whole c.loop-k.k there c.row.ensures

pub returns-then-not-port_fits : goal.returns-then-not-port_fits
returns-then-not-port_fits c =
    let t = c.args.tables.bytes.now in
    let numbers = c.args.numbers.now in
    let there : c.loop-k.k < ports t = omega arith in
    let judged = port-judged t numbers c.requires.accepted c.requires.whole c.loop-k.k there c.row.ensures c.port_fits.ensures in
    sym (c.loop-k.invariant ∙ all-stop (port_fits t numbers) c.args.tables.ports c.loop-k.k c.loop-k-test.true (sym judged ∙ c.if-not-port_fits.true))

pub loop-k-preserved : goal.loop-k-preserved
loop-k-preserved c =
    let t = c.args.tables.bytes.now in
    let numbers = c.args.numbers.now in
    let there : c.loop-k.k < ports t = omega arith in
    let judged = port-judged t numbers c.requires.accepted c.requires.whole c.loop-k.k there c.row.ensures c.port_fits.ensures in
    c.loop-k.invariant ∙ all_more (port_fits t numbers) c.args.tables.ports c.loop-k.k c.loop-k-test.true (sym judged ∙ c.if-not-port_fits.false)
