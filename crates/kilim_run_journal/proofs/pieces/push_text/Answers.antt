use Rattle.std.proofs.Common.{◌∙◌, ◌++◌, ap, arith, get_or, refl}
use Rattle.std.proofs.lemmas.List.{take_all}
use Rattle.std.specs.List.{flat_map}
use Rattle.kilim_run_journal.specs.Text.{text_unit}
use Rattle.kilim_run_journal.proofs.Pushed.{text_more}
use Rattle.kilim_run_journal.proofs.pieces.push_text.Goals as goal

pub loop-unit-preserved : goal.loop-unit-preserved
loop-unit-preserved c = text_more text_unit c.args.units.now c.loop-unit.unit-index 0 (get_or c.args.units.now c.loop-unit.unit-index 0) c.args.out.now.items c.loop-unit.out.items c.push_text_unit.new.out.items c.loop-unit-test.true refl c.loop-unit.invariant c.in-Ok.ensures

pub returns : goal.returns
returns c = c.loop-unit.invariant ∙ ap (λ units. c.args.out.now.items ++ flat_map text_unit units) (take_all c.loop-unit.unit-index c.args.units.now (omega arith))
