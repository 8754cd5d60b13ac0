use Rattle.std.proofs.Common.{◌≡◌, ◌&&◌, not, drop}
use Rattle.std.specs.List.{list_any}
use Rattle.kilim_program.specs.Names.{◌>>=◌}
use Rattle.kilim_link_spec.specs.LeftOut.{has_its_constant, has_static_field}
use Rattle.kilim_link_spec.specs.Types.{field_text, type_in}
use Rattle.kilim_link_spec.specs.World.{acc_static, has_flag, member_descriptor}
use Rattle.kilim_link_file_faults.proofs.fields.has_static_field.Given as goal

abbrev pub invariant-loop-field : goal.invariant-loop-field
invariant-loop-field l =
    list_any (λ f. has_flag acc_static f.access_flags && not (has_its_constant l.world l.file f (field_text (member_descriptor l.file f) >>= type_in l.world))) (drop l.field-index l.file.fields)
    ≡ has_static_field l.world l.file
