use Rattle.std.proofs.Common.{◌≡◌, drop, map}
use Rattle.std.specs.List.{flat_map}
use Rattle.kilim_link_spec.specs.Types.{each_of, itself}
use Rattle.kilim_link_spec.specs.Linked.{linked_method, members, numbered}
use Rattle.kilim_link_code.specs.Each.{behind}
use Rattle.kilim_link_members.proofs.files.push_all_methods.Given as goal

abbrev pub invariant-loop-file : goal.invariant-loop-file
invariant-loop-file l =
    behind l.into (each_of itself (flat_map itself (numbered (λ file c. map (linked_method l.world file c) file.methods) l.number (drop l.file-index l.files))))
    ≡ behind l.fn.into (each_of itself (members (λ file. file.methods) (linked_method l.world) l.files))
