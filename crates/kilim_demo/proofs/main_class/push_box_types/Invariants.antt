use Rattle.std.proofs.Common.{◌≡◌, ◌++◌, ◌-◌}
use Rattle.kilim_demo.specs.MainClass.{box_types}
use Rattle.kilim_demo.proofs.main_class.push_box_types.Given as goal

abbrev pub invariant-loop : goal.invariant-loop
invariant-loop l = l.types ++ box_types (l.count - l.counter) ≡ l.fn.types ++ box_types l.count
