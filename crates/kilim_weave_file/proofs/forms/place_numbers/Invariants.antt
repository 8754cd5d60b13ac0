use Rattle.std.proofs.Common.{◌≡◌, map, take}
use Rattle.kilim_weave_file_spec.specs.Raw.{place_number}
use Rattle.kilim_weave_file.proofs.forms.place_numbers.Given as goal

abbrev pub invariant-loop-to : goal.invariant-loop-to
invariant-loop-to l = l.all.items ≡ map place_number (take l.to-index l.targets)
