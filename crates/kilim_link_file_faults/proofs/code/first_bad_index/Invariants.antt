use Rattle.std.proofs.Common.{◌≡◌, drop}
use Rattle.std.specs.List.{flat_map}
use Rattle.kilim_link_spec.specs.Code.{index_in}
use Rattle.kilim_link_spec.specs.Linked.{first_of}
use Rattle.kilim_link_spec.specs.Faults.{bad_index}
use Rattle.kilim_link_file_faults.proofs.code.first_bad_index.Given as goal

abbrev pub invariant-loop-placed : goal.invariant-loop-placed
invariant-loop-placed l = first_of (flat_map (λ p. bad_index l.pool p (index_in p.1)) (drop l.placed-index l.instrs)) ≡ first_of (flat_map (λ p. bad_index l.pool p (index_in p.1)) l.instrs)
