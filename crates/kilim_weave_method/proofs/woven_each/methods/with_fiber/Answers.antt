use Rattle.std.proofs.Common.{◌∙◌, ◌++◌, List, Bool, ap}
use Rattle.kilim_weave_method.proofs.Outcomes.{so_of_both}
use Rattle.kilim_weave_method.proofs.woven_each.All.{with_fiber_of}
use Rattle.kilim_weave_method.proofs.woven_each.methods.with_fiber.Goals as goal

pub returns-in-Ok : goal.returns-in-Ok
returns-in-Ok c =
    so_of_both c.both.result
    (λ whole methods counted. with_fiber_of c.args.program.now c.in-Ok.fiber.methods c.args.program.now.methods c.args.all.methods whole.methods c.args.all.counted whole.counted c.in-Ok.ensures.methods c.requires methods
    (counted ∙ ap (λ (cs : List (List Bool)). c.args.all.counted ++ cs) c.in-Ok.ensures.counted))
    c.both.ensures.methods c.both.ensures.counted
