use Rattle.std.proofs.Common.{◌≡◌, ◌&&◌, drop}
use Rattle.std.specs.List.{list_any}
use Rattle.kilim_link_spec.specs.LeftOut.{has_pausable_handlers, has_row}
use Rattle.kilim_link_spec.specs.Linked.{code_attribute}
use Rattle.kilim_link_spec.specs.World.{is_pausable}
use Rattle.kilim_link_file_faults.proofs.methods.has_pausable_handlers.Given as goal

abbrev pub invariant-loop-method : goal.invariant-loop-method
invariant-loop-method l = list_any (λ m. has_row (code_attribute m) && is_pausable l.file.constant_pool m) (drop l.method-index l.file.methods) ≡ has_pausable_handlers l.file
