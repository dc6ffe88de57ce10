-- `loader::first_fault` meets its contract. The loop's invariant: the whole search is what is left of it from the record on.
-- Assumes nothing.
use Prim.Native.Nat.{◌-◌}
use mathlib.Core.Path.{◌≡◌}
use Rattle.model.specs.Words.{first}
use Rattle.model.specs.Load.{first_fault}
use Rattle.loader.proofs.Faults.{is_faulty}
use Rattle.loader.proofs.first_fault.Given as goal

abbrev pub invariant-loop-number : goal.invariant-loop-number
invariant-loop-number l = first_fault l.tables.bytes.now ≡ first (is_faulty l.tables.bytes.now) (l.number-end - l.number) l.number
