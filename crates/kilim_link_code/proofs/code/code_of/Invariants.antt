use Rattle.std.proofs.Common.{◌≡◌, drop}
use Rattle.kilim_link_spec.specs.Types.{each_of}
use Rattle.kilim_link_spec.specs.Code.{placed_in}
use Rattle.kilim_link_code.specs.Each.{behind}
use Rattle.kilim_link_code.proofs.code.code_of.Given as goal

abbrev pub invariant-loop-placed : goal.invariant-loop-placed
invariant-loop-placed l = behind l.instrs (each_of (placed_in l.world l.pool) (drop l.placed-index l.code)) ≡ each_of (placed_in l.world l.pool) l.code
