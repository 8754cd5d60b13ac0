use Rattle.std.proofs.Common.{◌≡◌, ◌||◌, ◌==◌, not, drop}
use Rattle.std.specs.List.{list_all}
use Rattle.kilim_link_file_faults.proofs.name.has_no_marks.Given as goal

abbrev pub invariant-loop-unit : goal.invariant-loop-unit
invariant-loop-unit l = list_all (λ u. not (u == 46 || u == 59 || u == 91)) (drop l.unit-index l.name) ≡ list_all (λ u. not (u == 46 || u == 59 || u == 91)) l.name
