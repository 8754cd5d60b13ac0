use Rattle.std.proofs.Common.{◌<◌, arith}
use Rattle.kilim_type_flow.proofs.Growing.{each_more, each_of_all}
use Rattle.kilim_type_flow.proofs.table.places_below.Goals as goal

pub loop-at-init : goal.loop-at-init
loop-at-init c at e lt there = absurd (omega arith)

pub loop-at-preserved : goal.loop-at-preserved
loop-at-preserved c =
    let first = c.larger-most.ensures.first in
    let second = c.larger-most.ensures.second in
    each_more c.args.method.now.code (λ e. e.0 < c.larger-most.result) c.loop-at.at c.entry_of-entry.result.now c.entry_of-entry.ensures
    (λ at e lt there. let h = c.loop-at.invariant at e lt there in omega (arith, first, h)) (omega (arith, second))

pub returns : goal.returns
returns c = each_of_all c.args.method.now.code (λ e. e.0 < c.loop-at.most) c.loop-at.at (omega arith) c.loop-at.invariant
