use Rattle.std.proofs.Common.{◌≡◌, drop}
use Rattle.kilim_link_spec.specs.Types.{each_of, itself}
use Rattle.kilim_link_spec.specs.Linked.{linked_class, numbered}
use Rattle.kilim_link_code.specs.Each.{behind}
use Rattle.kilim_link_members.proofs.files.push_classes.Given as goal

abbrev pub invariant-loop-file : goal.invariant-loop-file
invariant-loop-file l = behind l.into (each_of itself (numbered (linked_class l.world) l.number (drop l.file-index l.files))) ≡ behind l.fn.into (each_of itself (numbered (linked_class l.world) 0 l.files))
