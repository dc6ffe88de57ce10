-- `state_buffer::lay_numbers` meets its contract: after i turns the first i are laid. Assumes nothing.
use mathlib.Core.Path.{◌≡◌}
use lib.ListN.{take}
use Rattle.stores.specs.Ring.{pasted}
use Rattle.state_buffer.specs.Layout.{bytes_of_all}
use Rattle.state_buffer.proofs.lay_numbers.Given as goal

abbrev pub invariant-loop-i : goal.invariant-loop-i
invariant-loop-i l = l.out ≡ pasted l.initial.out l.at (bytes_of_all (take l.i l.numbers))
