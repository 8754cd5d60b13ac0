use Rattle.std.proofs.Common.{◌≡◌, ◌-◌, ◌≤◌, List, ℕ, length, take}
use Rattle.std.specs.List.{position_from}
use Rattle.kilim_link_spec.specs.World.{is_method}
use Rattle.kilim_link_inherited.specs.Nearest.{said_by}
use Rattle.kilim_link_world.specs.Agrees.{placed}
use Rattle.kilim_link_world.proofs.nearest.methods_said.Given as goal

abbrev pub invariant-loop-i : goal.invariant-loop-i
invariant-loop-i l = (l.i ≤ length l.methods) × ((name descriptor : List ℕ) → said_by l.said name descriptor ≡ placed l.first (position_from (is_method name descriptor) 0 (take l.i l.methods)))

abbrev pub decreases-loop-i : goal.decreases-loop-i
decreases-loop-i l = length l.methods - l.i
