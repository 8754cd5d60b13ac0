use Rattle.std.proofs.Common.{sym, ◌∙◌}
use Rattle.std.proofs.lemmas.List.{at_drop_all}
use Rattle.kilim_link_spec.specs.Faults.{are_paired}
use Rattle.kilim_link_file_faults.proofs.name.are_paired.Goals as goal

pub returns : goal.returns
returns c = sym (at_drop_all (are_paired c.loop-unit.behind_high) c.args.units.now c.loop-unit.unit-index c.loop-unit-test.false) ∙ c.loop-unit.invariant
