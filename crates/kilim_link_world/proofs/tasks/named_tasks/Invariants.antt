use Rattle.std.proofs.Common.{◌≡◌, map, take}
use Rattle.std.specs.Prelude.{codes}
use Rattle.std.specs.Str.{bytes_eq}
use Rattle.kilim_link_world.proofs.tasks.named_tasks.Given as goal

abbrev pub invariant-loop-class : goal.invariant-loop-class
invariant-loop-class l = l.marks ≡ map (λ class. bytes_eq class.name (codes "kilim/Task")) (take l.class-index l.classes)
