use Rattle.std.proofs.Common.{◌≡◌, drop}
use Rattle.kilim_link_spec.specs.Types.{each_of}
use Rattle.kilim_link_spec.specs.Code.{pair_in}
use Rattle.kilim_link_code.specs.Each.{behind}
use Rattle.kilim_link_code.proofs.places.pairs_of.Given as goal

abbrev pub invariant-loop-pair : goal.invariant-loop-pair
invariant-loop-pair l = behind l.found (each_of pair_in (drop l.pair-index l.pairs)) ≡ each_of pair_in l.pairs
