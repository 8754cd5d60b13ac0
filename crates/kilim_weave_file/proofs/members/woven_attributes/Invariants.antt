use Rattle.std.proofs.Common.{◌≡◌}
use Rattle.std.specs.List.{filter_map}
use Rattle.kilim_weave_file_spec.specs.WovenFile.{woven_attribute}
use Rattle.kilim_weave_file.proofs.members.woven_attributes.Given as goal

abbrev pub invariant-loop-attribute : goal.invariant-loop-attribute
invariant-loop-attribute l = l.all ≡ filter_map (woven_attribute l.program l.old l.pool l.method l.counted) l.yielded
