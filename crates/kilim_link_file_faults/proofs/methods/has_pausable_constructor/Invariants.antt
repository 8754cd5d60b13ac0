use Rattle.std.proofs.Common.{◌≡◌, ◌&&◌, drop}
use Rattle.std.specs.List.{list_any}
use Rattle.kilim_link_spec.specs.LeftOut.{has_pausable_constructor}
use Rattle.kilim_link_spec.specs.Qualified.{is_constructor_name}
use Rattle.kilim_link_spec.specs.World.{is_pausable, member_name}
use Rattle.kilim_link_file_faults.proofs.methods.has_pausable_constructor.Given as goal

abbrev pub invariant-loop-method : goal.invariant-loop-method
invariant-loop-method l = list_any (λ m. is_constructor_name (member_name l.file m) && is_pausable l.file.constant_pool m) (drop l.method-index l.file.methods) ≡ has_pausable_constructor l.file
