-- `state_buffer::read_numbers` meets its contract: after i turns the first i are read. Assumes nothing.
use mathlib.Core.Path.{◌≡◌}
use lib.ListN.{length}
use lib.Seq.{paste}
use Rattle.state_buffer.specs.Layout.{numbers_from}
use Rattle.state_buffer.proofs.read_numbers.Given as goal

abbrev pub invariant-loop-i : goal.invariant-loop-i
invariant-loop-i l = l.out ≡ paste l.initial.out 0 (numbers_from l.b (length l.initial.out) l.at) l.i
