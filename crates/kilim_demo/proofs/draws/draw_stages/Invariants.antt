use Rattle.std.proofs.Common.{◌≡◌, ◌++◌, ◌-◌}
use Rattle.kilim_demo.specs.Plan.{stages_drawn}
use Rattle.kilim_demo.proofs.draws.draw_stages.Given as goal

abbrev pub invariant-loop : goal.invariant-loop
invariant-loop l = l.stages ++ stages_drawn (l.count - l.counter) l.generator ≡ stages_drawn l.count l.fn.generator
