use Rattle.std.proofs.Common.{◌≡◌, map, take}
use Rattle.kilim_link_world.proofs.outlining.own_marks.Given as goal

abbrev pub invariant-loop-class : goal.invariant-loop-class
invariant-loop-class l = l.marks ≡ map (λ v. v.is_marked) (take l.class-index l.classes)
