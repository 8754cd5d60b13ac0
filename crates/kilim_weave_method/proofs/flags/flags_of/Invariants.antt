use Rattle.std.proofs.Common.{◌≤◌, length, drop}
use Rattle.kilim_weave_method.specs.Flags.{AreFlags}
use Rattle.kilim_weave_method.proofs.flags.flags_of.Given as goal

abbrev pub invariant-loop-left : goal.invariant-loop-left
invariant-loop-left l = (l.left ≤ length l.fn.frames) × AreFlags (drop l.left l.fn.frames) l.flags.items

abbrev pub decreases-loop-left : goal.decreases-loop-left
decreases-loop-left l = l.left
