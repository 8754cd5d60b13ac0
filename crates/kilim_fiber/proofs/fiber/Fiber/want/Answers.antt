use Rattle.std.proofs.Common.{Bool, ap}
use Rattle.kilim_fiber.proofs.fiber.Fiber.want.Goals as goal

pub returns : goal.returns
returns c = record {
  asked = c.in-Ok.asked;
  by = c.in-Ok.ensures;
  same = ap (λ (b : Bool). record c.args.self.now { asked = c.in-Ok.asked; rests = b }) c.is_resting-self.ensures;
  rested = c.may_rest.ensures c.if-not-may_rest.false;
  may = c.requires.may;
}
