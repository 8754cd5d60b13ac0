use Rattle.std.proofs.Common.{◌∙◌, ap}
use Rattle.kilim_run_follow.proofs.Orders.{left_out}
use Rattle.kilim_run_follow.proofs.lending.take_out.Goals as goal

pub returns-clause-some : goal.returns-clause-some
returns-clause-some g c = record {
  parts = left_out c.args.ready.now.items c.remove.new.self.items c.in_ok-at.at c.in_ok-fiber.fiber c.in_ok-at.ensures.some.0 c.in_ok-fiber.ensures.value c.in_ok-fiber.ensures.items;
  is = ap g.F.Fibers.task_of c.in_ok-fiber.ensures.value ∙ c.in_ok-at.ensures.some.1 c.in_ok-fiber.fiber;
}
