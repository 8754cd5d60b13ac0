use Rattle.kilim_run_trees.proofs.Emitting.{ok_into}
use Rattle.kilim_run_trees.proofs.Remaining.{begins_with}
use Rattle.kilim_run_trees.proofs.standing.begin_at.Goals as goal

pub returns-clause-tokens : goal.returns-clause-tokens
returns-clause-tokens c = ok_into c.push_frame.result _ _ c.push_frame.ensures (λ pushed. begins_with c.args.program.now c.args.heap.now c.args.at c.object-object.result.now c.in-Ok.name c.args.tokens.now c.push.new.self c.object-object.ensures c.in-Ok.ensures c.in-Ok-push.ensures.ok)
