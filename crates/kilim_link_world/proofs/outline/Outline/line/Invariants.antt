use Rattle.std.proofs.Common.{◌≡◌, ◌++◌}
use Rattle.kilim_program.specs.Names.{line_of, line_up_to}
use Rattle.kilim_link_world.proofs.outline.Outline.line.Given as goal

abbrev pub invariant-loop-left : goal.invariant-loop-left
invariant-loop-left l = l.line ++ line_up_to l.self l.left l.at ≡ line_of l.fn.self l.fn.class

abbrev pub decreases-loop-left : goal.decreases-loop-left
decreases-loop-left l = l.left
