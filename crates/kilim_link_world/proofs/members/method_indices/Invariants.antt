use Rattle.std.proofs.Common.{◌≡◌, ◌-◌, ◌≤◌, List, ℕ, length, take}
use Rattle.std.specs.Prelude.{slice_get}
use Rattle.kilim_link_spec.specs.World.{is_method, methods_at}
use Rattle.kilim_link_world.specs.Agrees.{indexed}
use Rattle.kilim_link_inherited.specs.Index.{places_from}
use Rattle.kilim_link_world.proofs.members.method_indices.Given as goal

abbrev pub invariant-loop-i : goal.invariant-loop-i
invariant-loop-i l =
    (l.i ≤ length l.classes) × (length l.indices ≡ l.i)
    × ((c : ℕ) (name descriptor : List ℕ) → indexed l.indices c name descriptor ≡ places_from (is_method name descriptor) 0 (methods_at (slice_get (take l.i l.classes) c)))

abbrev pub decreases-loop-i : goal.decreases-loop-i
decreases-loop-i l = length l.classes - l.i
