use Rattle.std.proofs.Common.{refl, get_or}
use Rattle.kilim_run_trees.proofs.Emitting.{begins_with, ok_into}
use Rattle.kilim_run_trees.proofs.shapes.begin.Goals as goal

pub returns-clause-tokens : goal.returns-clause-tokens
returns-clause-tokens c = ok_into c.push_frame.result _ _ c.push_frame.ensures (λ pushed. begins_with c.args.program.now c.args.objects.now c.args.at (get_or c.args.objects.now c.args.at c.index-objects-at.result) c.index-objects-at.result c.in-Ok.name c.args.tokens.now c.push.new.self c.requires refl c.in-Ok.ensures c.in-Ok-push.ensures.ok)
