-- `tables::layout::ports_end_from` meets its contract: the ports are a run from where the windows end on.
-- Assumes nothing.
use mathlib.Core.Path.{sym, ◌∙◌}
use Rattle.tables.proofs.Places.{ports-run, windows-within}
use Rattle.tables.proofs.layout.ports_end_from.Goals as goal

pub returns : goal.returns
returns c = c.run_end.ensures ∙ sym (ports-run _ _ c.requires)

pub run_end-requires : goal.run_end-requires
run_end-requires c = rw c.requires (windows-within c.args.t.now)
