use Rattle.std.proofs.Common.{◌≡◌, ◌++◌, map, take}
use Rattle.kilim_class_attributes.specs.declared.parts.frame.Frame.TheVariants.{Same}
use Rattle.kilim_demo.proofs.main_class.push_same.Given as goal

abbrev pub invariant-loop-delta : goal.invariant-loop-delta
invariant-loop-delta l = l.frames ≡ l.fn.frames ++ map Same (take l.delta-index l.deltas)
