use Rattle.kilim_class_builder.proofs.Adds.{class_done}
use Rattle.kilim_class_builder.proofs.adding.class_by.Goals as goal

pub returns : goal.returns
returns c = class_done c.args.name c.args.pool.now c.add.new.self c.add.result c.add.ensures.added c.add.ensures.full
