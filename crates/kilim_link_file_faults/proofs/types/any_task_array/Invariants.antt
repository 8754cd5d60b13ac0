use Rattle.std.proofs.Common.{◌≡◌, ◌&&◌, drop}
use Rattle.std.specs.List.{list_any}
use Rattle.kilim_link_spec.specs.LeftOut.{is_task_base}
use Rattle.kilim_link_file_faults.specs.Shapes.{Shape}
use Rattle.kilim_link_file_faults.proofs.types.any_task_array.Given as goal

abbrev pub invariant-loop-shape : goal.invariant-loop-shape
invariant-loop-shape l = list_any (λ (s : Shape). s.is_array && is_task_base l.world s.base) (drop l.shape-index l.shapes) ≡ list_any (λ (s : Shape). s.is_array && is_task_base l.world s.base) l.shapes
