use Rattle.kilim_weave_method.proofs.Parts.{with_same_body}
use Rattle.kilim_weave_method.proofs.copy.with_head.Goals as goal

pub returns-in-Ok : goal.returns-in-Ok
returns-in-Ok c = with_same_body c.args.method.now c.with_parts.result c.args.head c.in-Ok.body (record { code = c.args.method.now.code; frames = c.args.method.now.frames }) c.with_parts.ensures c.in-Ok.ensures
