use Rattle.std.proofs.Common.{sym}
use Rattle.kilim_type_step.proofs.Shuffled.{off_err, rest_kept, split_ok}
use Rattle.kilim_type_step.proofs.shuffles.split.Goals as goal

pub returns-in-Ok-top-clause-split : goal.returns-in-Ok-top-clause-split
returns-in-Ok-top-clause-split c =
    split_ok c.args.words c.args.state.now c.drop_top.new.self _ _ c.in-Ok.count c.in-Ok-top.parts.items c.below.ensures c.below-2.ensures (sym c.in-Ok.ensures) c.in-Ok-top.ensures c.drop_top.ensures

pub returns-in-Ok-top-clause-rest : goal.returns-in-Ok-top-clause-rest
returns-in-Ok-top-clause-rest c = rest_kept c.args.state.now c.drop_top.new.self _ c.drop_top.ensures

pub returns-in-Err-clause-split : goal.returns-in-Err-clause-split
returns-in-Err-clause-split c = off_err c.args.words c.args.state.now.stack _ _ c.in-Err.rule c.below.ensures c.below-2.ensures (sym c.in-Err.ensures)
