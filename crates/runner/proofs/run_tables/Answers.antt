-- After a load that is accepted the turns start from a state that passes test 29.
use Rattle.runner_text.proofs.Printed.{load-sound}
use Rattle.runner.proofs.run_tables.Goals as goal

pub run_all-requires : goal.run_all-requires
run_all-requires g c = load-sound c.args.t.now c.in-Ok.loaded c.in-Ok.ensures
