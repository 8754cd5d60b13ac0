use Rattle.std.proofs.Common.{◌≡◌, ◌++◌, drop, false}
use Rattle.kilim_class_builder.specs.Frames.{written}
use Rattle.kilim_class_builder.proofs.frames.written.Given as goal

abbrev pub invariant-loop-index : goal.invariant-loop-index
invariant-loop-index l = l.all.items ++ written l.skips (drop l.index l.locals) ≡ written false l.locals
