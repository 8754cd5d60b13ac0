use Rattle.std.specs.List.{AllByRecursion}
use Rattle.kilim_class_file.specs.Text.{ClassFits}
use Rattle.kilim_case_classes.proofs.links.class_files.Given as goal

abbrev pub invariant-loop-word : goal.invariant-loop-word
invariant-loop-word g l = AllByRecursion ClassFits l.files.items
