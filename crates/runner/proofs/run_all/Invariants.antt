-- `run_all`: each turn starts from a state that passes test 29.
use Rattle.std.proofs.Common.{◌≡◌, true}
use Rattle.states.specs.Shown.{is_sound}
use Rattle.runner.proofs.run_all.Given as goal

abbrev pub invariant-loop-turns : goal.invariant-loop-turns
invariant-loop-turns g l = is_sound l.t l.state ≡ true
