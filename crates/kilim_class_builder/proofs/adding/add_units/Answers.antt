use Rattle.kilim_class_builder.proofs.Adds.{text_done}
use Rattle.kilim_class_builder.proofs.adding.add_units.Goals as goal

pub returns : goal.returns
returns c = text_done c.args.units c.args.pool.now c.add.new.self c.add.result c.add.ensures.added c.add.ensures.full
