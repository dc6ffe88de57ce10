-- `stores::Store::settled` meets its contract. The loop's invariant: the first i messages are laid out. Assumes nothing.
use mathlib.Core.Path.{◌≡◌}
use lib.ListN.{take}
use Rattle.stores.specs.Ring.{queue_of, lay_out}
use Rattle.stores.proofs.Store.settled.Given as goal

abbrev pub invariant-loop-i : goal.invariant-loop-i
invariant-loop-i l = l.settled ≡ lay_out (take l.i (queue_of l.self))
