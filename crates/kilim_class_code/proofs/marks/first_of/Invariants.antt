use Rattle.std.proofs.Common.{◌≡◌, drop}
use Rattle.std.specs.Prelude.{not}
use Rattle.std.specs.List.{find}
use Rattle.kilim_class_code.specs.Marks.{is_marked}
use Rattle.kilim_class_code.proofs.marks.first_of.Given as goal

abbrev pub invariant-loop-to : goal.invariant-loop-to
invariant-loop-to l = find (λ to. not (is_marked l.marks to)) (drop l.to-index l.targets) ≡ find (λ to. not (is_marked l.marks to)) l.targets
