-- `state_test::lengths_fit` meets its contract: the whole test is what is left of it. Assumes nothing.
use Rattle.std.proofs.Common.{◌≡◌, ◌-◌}
use Rattle.model.specs.Words.{all}
use Rattle.state_test.specs.Tested.{length_fits, lengths_fit}
use Rattle.state_test.proofs.lengths_fit.Given as goal

abbrev pub invariant-loop-i : goal.invariant-loop-i
invariant-loop-i l = lengths_fit l.largest l.numbers l.oldest l.count ≡ all (length_fits l.largest l.numbers l.oldest) (l.count - l.i) l.i
