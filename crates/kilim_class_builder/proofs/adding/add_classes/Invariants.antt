use Rattle.std.proofs.Common.{◌≡◌, drop}
use Rattle.kilim_class_builder.specs.Adding.{classes_added}
use Rattle.kilim_class_builder.proofs.adding.add_classes.Given as goal

-- what is still to come goes on from the pool that there is
abbrev pub invariant-loop-name : goal.invariant-loop-name
invariant-loop-name l = classes_added (drop l.name-index l.names) l.pool ≡ classes_added l.names l.fn.pool
