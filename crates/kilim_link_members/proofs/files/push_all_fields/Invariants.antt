use Rattle.std.proofs.Common.{◌≡◌, drop, map}
use Rattle.std.specs.List.{flat_map}
use Rattle.kilim_link_spec.specs.Types.{each_of, itself}
use Rattle.kilim_link_spec.specs.Linked.{linked_field, members, numbered}
use Rattle.kilim_link_code.specs.Each.{behind}
use Rattle.kilim_link_members.proofs.files.push_all_fields.Given as goal

abbrev pub invariant-loop-file : goal.invariant-loop-file
invariant-loop-file l =
    behind l.into (each_of itself (flat_map itself (numbered (λ file c. map (linked_field l.world file c) file.fields) l.number (drop l.file-index l.files))))
    ≡ behind l.fn.into (each_of itself (members (λ file. file.fields) (linked_field l.world) l.files))
