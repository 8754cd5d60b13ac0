use Rattle.kilim_fiber.proofs.Beginning.{begun_by}
use Rattle.kilim_fiber.proofs.fiber.begun_fiber.Goals as goal

pub returns-clause-fiber : goal.returns-clause-fiber
returns-clause-fiber c = begun_by c.args.program.now c.args.main c.args.tree c.args.shape _ c.in-Ok.body c.new_fiber.result c.begun-beginning.ensures.beginning c.in-Ok.ensures c.new_fiber.ensures
