-- `modes::unmake_all` meets its contract: after k turns the first k rows are swept. Assumes nothing.
use Rattle.modes.proofs.Sweep.{Swept}
use Rattle.modes.proofs.unmake_all.Given as goal

abbrev pub invariant-loop-k : goal.invariant-loop-k
invariant-loop-k l = Swept l.tables.bytes.now l.p l.k l.initial.numbers l.numbers
