use Rattle.std.proofs.Common.{◌≡◌, map, take}
use Rattle.kilim_link_world.proofs.tasks.own_messages.Given as goal

abbrev pub invariant-loop-class : goal.invariant-loop-class
invariant-loop-class l = l.marks ≡ map (λ class. class.message) (take l.class-index l.classes)
