use Rattle.std.proofs.Common.{◌++◌, ◌∙◌, List, ap, arith}
use Rattle.std.proofs.lemmas.List.{get_or_default}
use Rattle.kilim_isolation_pauses.specs.declared.report.Report.{Report}
use Rattle.kilim_isolation.proofs.Together.{each_more}
use Rattle.kilim_isolation.proofs.check.push_each.Goals as goal

pub loop-id-preserved : goal.loop-id-preserved
loop-id-preserved c done was =
    each_more c.args.typed.now done c.args.ids.now c.loop-id.id-index _ c.loop-id.reports c.in-Ok.more c.append.new.into (omega arith) (get_or_default c.args.ids.now c.loop-id.id-index _ _ (omega arith)) c.in-Ok.ensures
    (c.in-Ok-append.ensures ∙ ap (λ (v : List Report). c.loop-id.reports ++ v) c.as_slice.ensures) (c.loop-id.invariant done was)
