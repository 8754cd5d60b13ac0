use Rattle.std.proofs.Common.{◌≡◌, ◌++◌, take}
use Rattle.std.specs.List.{flat_map}
use Rattle.std.specs.Int.{w32}
use Rattle.kilim_class_grammar.specs.Spelling.{signed}
use Rattle.kilim_image.proofs.writing.push_each_arg.Given as goal

abbrev pub invariant-loop-arg : goal.invariant-loop-arg
invariant-loop-arg l = l.into.items ≡ l.fn.into.items ++ flat_map (signed w32) (take l.arg-index l.args)
