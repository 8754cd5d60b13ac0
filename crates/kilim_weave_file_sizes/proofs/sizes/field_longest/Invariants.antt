use Rattle.std.proofs.Common.{◌≡◌, drop}
use Rattle.kilim_weave_file_spec.specs.Sizes.{field_longest}
use Rattle.kilim_weave_file_sizes.proofs.sizes.field_longest.Given as goal

abbrev pub invariant-loop-field : goal.invariant-loop-field
invariant-loop-field l = field_longest l.program (drop l.field-index l.fields) l.longest ≡ field_longest l.program l.fields l.least
