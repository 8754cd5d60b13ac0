use Rattle.std.proofs.Common.{◌≡◌, ◌-◌, ◌≤◌, List, ℕ, length, take}
use Rattle.std.specs.Prelude.{slice_get, sum_by}
use Rattle.std.specs.List.{position_from}
use Rattle.kilim_link_spec.specs.World.{is_field, fields_at}
use Rattle.kilim_link_inherited.specs.Nearest.{said_of}
use Rattle.kilim_link_world.specs.Agrees.{field_count, fields_before, placed}
use Rattle.kilim_link_world.proofs.nearest.all_fields_said.Given as goal

abbrev pub invariant-loop-i : goal.invariant-loop-i
invariant-loop-i l =
    (l.i ≤ length l.classes) × ((length l.said ≡ l.i) × ((l.total ≡ fields_before l.classes l.i)
    × ((c : ℕ) (name descriptor : List ℕ) → said_of (slice_get l.said c) name descriptor ≡ placed (fields_before l.classes c) (position_from (is_field name descriptor) 0 (fields_at (slice_get (take l.i l.classes) c))))))

abbrev pub decreases-loop-i : goal.decreases-loop-i
decreases-loop-i l = length l.classes - l.i
