use Rattle.std.proofs.Common.{◌≡◌, codes, drop}
use Rattle.std.specs.List.{list_any}
use Rattle.std.specs.Str.{bytes_eq}
use Rattle.kilim_link_spec.specs.LeftOut.{has_initializer}
use Rattle.kilim_link_spec.specs.World.{member_name}
use Rattle.kilim_link_file_faults.proofs.methods.has_initializer.Given as goal

abbrev pub invariant-loop-method : goal.invariant-loop-method
invariant-loop-method l = list_any (λ m. bytes_eq (member_name l.file m) (codes "<clinit>")) (drop l.method-index l.file.methods) ≡ has_initializer l.file
