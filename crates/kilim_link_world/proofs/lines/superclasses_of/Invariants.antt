use Rattle.std.proofs.Common.{◌≡◌, map, take}
use Rattle.kilim_link_world.proofs.lines.superclasses_of.Given as goal

abbrev pub invariant-loop-class : goal.invariant-loop-class
invariant-loop-class l = l.ups ≡ map (λ class. class.superclass) (take l.class-index l.classes)
