-- `rest`: each turn adds at most 65,536 bytes.
use Rattle.std.proofs.Common.{◌≤◌, ◌*◌}
use Rattle.runner.proofs.rest.Given as goal

abbrev pub invariant-loop : goal.invariant-loop
invariant-loop g l = l.got ≤ 65536 * l.counter
