-- `state_test::in_range` meets its contract: window, modes and ports are all that the model's test looks at. Assumes nothing.
use Rattle.std.proofs.Common.{◌≡◌, ◌&&◌, sym, ◌∙◌, ltb, arith}
use Rattle.std.proofs.lemmas.Bool.Decides.{nat_tests}
use Rattle.model.specs.Tables.{windows}
use Rattle.model.proofs.Accepted.{accepted}
use Rattle.state_test.specs.Tested.{modes_fit, each_fits}
use Rattle.state_test.proofs.Judged.{state-judged}
use Rattle.state_test.proofs.in_range.Goals as goal

pub returns-then-modes_fit : goal.returns-then-modes_fit
returns-then-modes_fit c =
    λ time bytes wide.
    let t = c.args.tables.bytes.now in
    let modes = c.args.modes.now in
    let numbers = c.args.numbers.now in
    let tested : c.ports_fit.result ≡ (ltb c.args.window (windows t) && modes_fit modes && each_fits t numbers) = grind (arith, nat_tests) in
    tested ∙ sym (state-judged t (record { window = c.args.window; time = time }) modes numbers bytes c.requires.whole.0 wide (accepted t c.requires.accepted).few_ports)

pub returns-else-modes_fit : goal.returns-else-modes_fit
returns-else-modes_fit c =
    λ time bytes wide.
    let t = c.args.tables.bytes.now in
    let modes = c.args.modes.now in
    let numbers = c.args.numbers.now in
    let tested : c.if-window-tables.value ≡ (ltb c.args.window (windows t) && modes_fit modes && each_fits t numbers) = grind (arith, nat_tests) in
    tested ∙ sym (state-judged t (record { window = c.args.window; time = time }) modes numbers bytes c.requires.whole.0 wide (accepted t c.requires.accepted).few_ports)
