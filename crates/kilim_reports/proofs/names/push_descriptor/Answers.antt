use Rattle.std.proofs.Common.{◌∙◌, ◌++◌, refl, ap}
use Rattle.std.proofs.lemmas.List.{take_all}
use Rattle.std.specs.List.{flat_map}
use Rattle.kilim_reports.specs.Names.{descriptor_unit}
use Rattle.kilim_reports.proofs.Loops.{behind}
use Rattle.kilim_reports.proofs.names.push_descriptor.Goals as goal

pub loop-unit-preserved : goal.loop-unit-preserved
loop-unit-preserved c = behind descriptor_unit c.args.text.now.items c.loop-unit.text.items c.push_descriptor_unit.new.text.items c.as_slice-unit-items.result.now c.loop-unit.unit-index _ 0 c.loop-unit-test.true refl c.loop-unit.invariant c.in-Ok.ensures

pub returns : goal.returns
returns c = c.loop-unit.invariant ∙ ap (λ us. c.args.text.now.items ++ flat_map descriptor_unit us) (take_all c.loop-unit.unit-index c.as_slice-unit-items.result.now c.loop-unit-test.false ∙ c.as_slice-unit-items.ensures)
