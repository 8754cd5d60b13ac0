use Rattle.std.proofs.Common.{◌≡◌, ◌-◌, ◌≤◌, List, ℕ, length, take}
use Rattle.kilim_link_spec.specs.World.{is_method}
use Rattle.kilim_link_inherited.specs.Index.{positions, places_from}
use Rattle.kilim_link_world.proofs.members.index_of_methods.Given as goal

abbrev pub invariant-loop-i : goal.invariant-loop-i
invariant-loop-i l = (l.i ≤ length l.methods) × ((name descriptor : List ℕ) → positions l.index.places name descriptor ≡ places_from (is_method name descriptor) 0 (take l.i l.methods))

abbrev pub decreases-loop-i : goal.decreases-loop-i
decreases-loop-i l = length l.methods - l.i
