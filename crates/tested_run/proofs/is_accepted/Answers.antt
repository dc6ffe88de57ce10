-- `tested_run::is_accepted` meets its contract: by the verdict. Assumes nothing.
use mathlib.Core.Path.{◌∙◌}
use Rattle.loader.proofs.Accepts.{is_ok-accepts}
use Rattle.tested_run.proofs.is_accepted.Goals as goal

pub returns : goal.returns
returns c = c.is_ok.ensures.value ∙ is_ok-accepts c.args.t.now c.judge.result c.judge.ensures
