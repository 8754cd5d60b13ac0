use Rattle.std.proofs.Common.{◌≡◌, ◌++◌}
use Rattle.kilim_program.specs.Names.{line_of, line_up_to}
use Rattle.kilim_program.proofs.lookups.classes.line_of.Given as goal

abbrev pub invariant-loop-left : goal.invariant-loop-left
invariant-loop-left l = l.line.items ++ line_up_to l.program l.left l.at ≡ line_of l.fn.program l.fn.class

abbrev pub decreases-loop-left : goal.decreases-loop-left
decreases-loop-left l = l.left
