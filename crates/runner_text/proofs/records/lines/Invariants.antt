-- `runner_text::records::lines` meets its contract: after i turns the first i lines are written. Assumes nothing.
use Prim.Native.Nat.{◌*◌}
use Rattle.runner_text.specs.Text.{lines}
use Rattle.runner_text.specs.Wrote.{Adds}
use Rattle.runner_text.proofs.records.lines.Given as goal

abbrev pub invariant-loop-i : goal.invariant-loop-i
invariant-loop-i l = Adds (318 * l.i) (lines l.first l.events l.answers l.i) l.initial.page l.page
