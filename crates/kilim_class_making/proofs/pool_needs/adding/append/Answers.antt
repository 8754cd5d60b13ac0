use Rattle.kilim_class_making.proofs.pool_needs.Places.{appended}
use Rattle.kilim_class_making.proofs.pool_needs.adding.append.Goals as goal

pub returns-in-Ok : goal.returns-in-Ok
returns-in-Ok c = λ test none passes. appended c.args.pool.now c.add.new.self c.args.entry c.in-Ok.field-0 c.in-Ok.ensures.added test none passes
