use Rattle.std.proofs.Common.{◌≡◌, drop}
use Rattle.std.specs.List.{list_any}
use Rattle.kilim_link_spec.specs.LeftOut.{is_float_base}
use Rattle.kilim_link_file_faults.specs.Shapes.{Shape}
use Rattle.kilim_link_file_faults.proofs.types.has_float_base.Given as goal

abbrev pub invariant-loop-shape : goal.invariant-loop-shape
invariant-loop-shape l = list_any (λ (s : Shape). is_float_base s.base) (drop l.shape-index l.shapes) ≡ list_any (λ (s : Shape). is_float_base s.base) l.shapes
