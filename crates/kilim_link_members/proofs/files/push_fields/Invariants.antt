use Rattle.std.proofs.Common.{◌≡◌, drop}
use Rattle.kilim_link_spec.specs.Types.{each_of}
use Rattle.kilim_link_spec.specs.Linked.{linked_field}
use Rattle.kilim_link_code.specs.Each.{behind}
use Rattle.kilim_link_members.proofs.files.push_fields.Given as goal

abbrev pub invariant-loop-field : goal.invariant-loop-field
invariant-loop-field l = behind l.into (each_of (linked_field l.world l.file l.class) (drop l.field-index l.file.fields)) ≡ behind l.fn.into (each_of (linked_field l.world l.file l.class) l.file.fields)
