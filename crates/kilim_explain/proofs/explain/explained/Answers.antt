use Rattle.kilim_explain.proofs.Lines.{said_first, said_all}
use Rattle.kilim_explain.proofs.explain.explained.Goals as goal

pub loop-i-init : goal.loop-i-init
loop-i-init g c = said_first c.args.report.now c.new-out.result.items c.new-out.ensures.items

pub returns : goal.returns
returns g c =
    said_all c.args.report.now c.loop-i.from c.loop-i.i c.loop-i.out.items c.between.result.now c.push_rest.new.out.items c.loop-i.invariant c.between.ensures c.in-Ok-push_rest.ensures
