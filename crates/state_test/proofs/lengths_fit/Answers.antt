use Rattle.std.proofs.Common.{◌≡◌, true, ◌+◌, ◌%◌, ◌∙◌, get_or, arith}
use Rattle.model.proofs.Searches.{all_more}
use Rattle.model.proofs.Tests.{is-between}
use Rattle.state_test.specs.Tested.{length_fits}
use Rattle.state_test.proofs.lengths_fit.Goals as goal

pub loop-i-preserved : goal.loop-i-preserved
loop-i-preserved c =
    let a = c.args in
    let l = c.loop-i in
    let numbers = a.numbers.now in
    let fits : length_fits a.largest numbers a.oldest l.i ≡ true = is-between 1 a.largest (get_or numbers (5 + (a.oldest + l.i) % 8) 0) (omega arith) (omega arith) in
    l.invariant ∙ all_more (length_fits a.largest numbers a.oldest) a.count l.i c.loop-i-test.true fits
