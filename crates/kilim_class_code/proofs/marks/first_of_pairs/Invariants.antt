use Rattle.std.proofs.Common.{◌≡◌, drop, map}
use Rattle.std.specs.Prelude.{not}
use Rattle.std.specs.List.{find}
use Rattle.kilim_class_code.specs.Marks.{is_marked}
use Rattle.kilim_class_code.proofs.marks.first_of_pairs.Given as goal

abbrev pub invariant-loop-pair : goal.invariant-loop-pair
invariant-loop-pair l = find (λ to. not (is_marked l.marks to)) (map (λ pair. pair.1) (drop l.pair-index l.pairs)) ≡ find (λ to. not (is_marked l.marks to)) (map (λ pair. pair.1) l.pairs)
