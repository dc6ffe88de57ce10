-- `kernel::reader::is_handed` meets its contract: the tests in their order. Assumes nothing.
use native.Mathlib.Omega.{arith}
use Rattle.std.proofs.lemmas.Bool.Decides.{nat_tests}
use Rattle.model.specs.Answers.{is_handed}
use Rattle.kernel.proofs.reader.is_handed.Goals as goal

pub returns-then-answers-number-eq-NO_ERROR : goal.returns-then-answers-number-eq-NO_ERROR
unfolding is_handed
returns-then-answers-number-eq-NO_ERROR c = grind (arith, nat_tests, c.word32.ensures)

pub returns-else-answers-number-eq-NO_ERROR : goal.returns-else-answers-number-eq-NO_ERROR
unfolding is_handed
returns-else-answers-number-eq-NO_ERROR c = grind (arith, nat_tests)
