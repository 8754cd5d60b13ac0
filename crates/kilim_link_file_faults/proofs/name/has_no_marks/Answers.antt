use Rattle.std.proofs.Common.{◌||◌, ◌==◌, not, sym, ◌∙◌}
use Rattle.std.specs.List.{list_all}
use Rattle.std.proofs.lemmas.List.{at_drop_all}
use Rattle.kilim_link_file_faults.proofs.name.has_no_marks.Goals as goal

pub returns : goal.returns
returns c = sym (at_drop_all (list_all (λ u. not (u == 46 || u == 59 || u == 91))) c.args.name.now c.loop-unit.unit-index c.loop-unit-test.false) ∙ c.loop-unit.invariant
