use Rattle.std.proofs.Common.{◌≡◌, drop}
use Rattle.kilim_link_spec.specs.Types.{each_of}
use Rattle.kilim_link_spec.specs.Linked.{linked_method}
use Rattle.kilim_link_code.specs.Each.{behind}
use Rattle.kilim_link_members.proofs.files.push_methods.Given as goal

abbrev pub invariant-loop-method : goal.invariant-loop-method
invariant-loop-method l = behind l.into (each_of (linked_method l.world l.file l.class) (drop l.method-index l.file.methods)) ≡ behind l.fn.into (each_of (linked_method l.world l.file l.class) l.file.methods)
