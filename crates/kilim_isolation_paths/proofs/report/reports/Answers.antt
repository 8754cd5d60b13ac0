use Rattle.std.proofs.Common.{arith, subst, List}
use Rattle.std.specs.List.{AllZip}
use Rattle.std.proofs.lemmas.Option.{slice_get-get_or}
use Rattle.kilim_isolation_paths.specs.Search.{IsReportOf}
use Rattle.kilim_isolation_paths.specs.declared.found.Found.{Found}
use Rattle.kilim_isolation_paths.proofs.Lists.{take_whole}
use Rattle.kilim_isolation_paths.proofs.Ends.{found_within, reports_step}
use Rattle.kilim_isolation_paths.proofs.report.reports.Goals as goal

pub path_to-requires-clause-at : goal.path_to-requires-clause-at
path_to-requires-clause-at g c =
    found_within c.requires.found.0 c.args.store.now.entries c.args.found.now c.loop-fault.fault-index _ c.requires.found.1
    (slice_get-get_or c.args.found.now c.loop-fault.fault-index _ c.loop-fault-test.true)

pub loop-fault-preserved : goal.loop-fault-preserved
loop-fault-preserved g c =
    reports_step c.args.store.now.entries c.args.found.now c.loop-fault.fault-index _ c.in-Ok.path c.loop-fault.reports c.push.new.self c.loop-fault.invariant
    (slice_get-get_or c.args.found.now c.loop-fault.fault-index _ (omega arith)) c.in-Ok.ensures c.in-Ok-push.ensures.ok

pub returns : goal.returns
returns g c m l i = subst (λ (fs : List Found). AllZip (IsReportOf m) fs c.loop-fault.reports) (take_whole c.args.found.now c.loop-fault.fault-index (omega arith)) (c.loop-fault.invariant m l i)
