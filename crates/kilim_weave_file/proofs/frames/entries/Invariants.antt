use Rattle.std.proofs.Common.{◌≡◌, ◌++◌, drop}
use Rattle.kilim_weave_file.specs.Parts.{entries_from}
use Rattle.kilim_weave_file_spec.specs.FullFrames.{entries}
use Rattle.kilim_weave_file.proofs.frames.entries.Given as goal

abbrev pub invariant-loop-index : goal.invariant-loop-index
invariant-loop-index l = l.all.items ++ entries_from l.skips (drop l.index l.locals) ≡ entries l.locals
