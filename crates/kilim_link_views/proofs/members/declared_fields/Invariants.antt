use Rattle.std.proofs.Common.{◌≡◌, map, take}
use Rattle.kilim_link_spec.specs.World.{declared_field}
use Rattle.kilim_link_views.proofs.members.declared_fields.Given as goal

abbrev pub invariant-loop-field : goal.invariant-loop-field
invariant-loop-field l = l.fields ≡ map (declared_field l.file) (take l.field-index l.file.fields)
