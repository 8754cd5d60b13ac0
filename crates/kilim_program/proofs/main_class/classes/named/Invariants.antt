use Rattle.std.proofs.Common.{◌≡◌, drop}
use Rattle.kilim_program.specs.Names.{class_from}
use Rattle.kilim_program.proofs.main_class.classes.named.Given as goal

abbrev pub invariant-loop-at : goal.invariant-loop-at
invariant-loop-at l = class_from (drop l.at l.program.classes) l.name l.at ≡ class_from l.fn.program.classes l.fn.name 0
