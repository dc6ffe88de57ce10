-- `state_test::ports_fit` meets its contract: the whole test is what is left of it. Assumes nothing.
use Rattle.std.proofs.Common.{◌≡◌, ◌-◌}
use Rattle.model.specs.Words.{all}
use Rattle.state_test.specs.Tested.{port_fits, each_fits}
use Rattle.state_test.proofs.ports_fit.Given as goal

abbrev pub invariant-loop-k : goal.invariant-loop-k
invariant-loop-k l = each_fits l.tables.bytes.now l.numbers ≡ all (port_fits l.tables.bytes.now l.numbers) (l.tables.ports - l.k) l.k
