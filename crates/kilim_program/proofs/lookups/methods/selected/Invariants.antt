use Rattle.std.proofs.Common.{◌≡◌}
use Rattle.kilim_program.specs.lookups.Lines.{selected_of}
use Rattle.kilim_program.specs.Same.{selected}
use Rattle.kilim_program.proofs.lookups.methods.selected.Given as goal

abbrev pub invariant-loop-left : goal.invariant-loop-left
invariant-loop-left l = selected_of l.program l.named l.left l.at ≡ selected l.fn.program l.fn.class l.fn.named

abbrev pub decreases-loop-left : goal.decreases-loop-left
decreases-loop-left l = l.left
