use Rattle.std.proofs.Common.{◌≡◌, ◌==◌}
use Rattle.std.specs.List.{list_any}
use Rattle.kilim_program.specs.declared.names.ClassId.{ClassId}
use Rattle.kilim_program.specs.Names.{line_up_to}
use Rattle.kilim_program.proofs.class.Program.is_below_within.Given as goal

abbrev pub invariant-loop-left : goal.invariant-loop-left
invariant-loop-left l = list_any (λ (c : ClassId). c.0 == l.up.0) (line_up_to l.self l.left l.at) ≡ list_any (λ (c : ClassId). c.0 == l.fn.up.0) (line_up_to l.fn.self l.fn.most l.fn.class)

abbrev pub decreases-loop-left : goal.decreases-loop-left
decreases-loop-left l = l.left
