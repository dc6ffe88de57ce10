-- `settled_form::put_together` meets its contract: after k turns the first k ports are laid, and what was there stands behind them.
-- Assumes nothing.
use Rattle.settled_form.specs.Settled.{PutTogether}
use Rattle.settled_form.proofs.put_together.Given as goal

abbrev pub invariant-loop-k : goal.invariant-loop-k
invariant-loop-k l = PutTogether l.numbers l.bytes l.k l.initial.out_numbers l.initial.out_bytes l.out_numbers l.out_bytes
