use Rattle.kilim_mail_worker.proofs.Handing.{has_still, keeps_then}
use Rattle.kilim_mail_worker.proofs.moves.act.Goals as goal

pub settle-requires-clause-has : goal.settle-requires-clause-has
settle-requires-clause-has g c = has_still c.args.turns.now c.args.worker.now c.act_there.new.worker c.requires.has c.act_there.ensures.passes

pub returns-in-Ok-clause-passes : goal.returns-in-Ok-clause-passes
returns-in-Ok-clause-passes g c = keeps_then c.args.turns.now c.args.worker.now c.act_there.new.worker c.settle.new.worker c.act_there.ensures.passes c.settle.ensures.passes
