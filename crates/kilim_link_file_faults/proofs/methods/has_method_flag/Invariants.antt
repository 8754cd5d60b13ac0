use Rattle.std.proofs.Common.{◌≡◌, drop}
use Rattle.std.specs.List.{list_any}
use Rattle.kilim_link_spec.specs.LeftOut.{has_method_flag}
use Rattle.kilim_link_spec.specs.World.{has_flag}
use Rattle.kilim_link_file_faults.proofs.methods.has_method_flag.Given as goal

abbrev pub invariant-loop-method : goal.invariant-loop-method
invariant-loop-method l = list_any (λ m. has_flag l.flag m.access_flags) (drop l.method-index l.file.methods) ≡ has_method_flag l.flag l.file
