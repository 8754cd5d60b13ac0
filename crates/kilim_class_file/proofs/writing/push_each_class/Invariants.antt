use Rattle.std.proofs.Common.{◌≡◌, ◌++◌, take}
use Rattle.std.specs.List.{flat_map}
use Rattle.kilim_class_grammar.specs.Spelling.{u2}
use Rattle.kilim_class_file.proofs.writing.push_each_class.Given as goal

abbrev pub invariant-loop-class : goal.invariant-loop-class
invariant-loop-class l = l.into.items ≡ l.fn.into.items ++ flat_map u2 (take l.class-index l.classes)
