use Rattle.std.proofs.Common.{◌≡◌, map, take}
use Rattle.kilim_weave_file_spec.specs.Raw.{pair_number}
use Rattle.kilim_weave_file.proofs.forms.pair_numbers.Given as goal

abbrev pub invariant-loop-pair : goal.invariant-loop-pair
invariant-loop-pair l = l.all.items ≡ map pair_number (take l.pair-index l.pairs)
