use Rattle.std.proofs.Common.{◌≡◌, ◌-◌, ◌≤◌}
use Rattle.std.specs.Prelude.{is_some}
use Rattle.kilim_program.specs.BuiltIn.{class_id}
use Rattle.kilim_link_inherited.specs.Roots.{inherits}
use Rattle.kilim_link_world.specs.Agrees.{each_below}
use Rattle.kilim_link_world.proofs.marks.marks_of.Given as goal

abbrev pub invariant-loop-i : goal.invariant-loop-i
invariant-loop-i l = (l.i ≤ l.count) × (l.marks ≡ each_below (λ k. is_some (inherits l.inherited (class_id k) 0)) l.i)

abbrev pub decreases-loop-i : goal.decreases-loop-i
decreases-loop-i l = l.count - l.i
