use Rattle.std.proofs.Common.{sym, ◌∙◌}
use Rattle.std.proofs.lemmas.List.{at_drop_all}
use Rattle.kilim_link_file_faults.specs.Slashes.{parts_from}
use Rattle.kilim_link_file_faults.proofs.name.parts_from.Goals as goal

pub returns : goal.returns
returns c = sym (at_drop_all (parts_from c.loop-unit.begins) c.args.name.now c.loop-unit.unit-index c.loop-unit-test.false) ∙ c.loop-unit.invariant
