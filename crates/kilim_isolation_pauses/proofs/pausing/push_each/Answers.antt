use Rattle.std.proofs.Common.{◌++◌, get_or, refl, arith}
use Rattle.std.specs.List.{flat_map}
use Rattle.kilim_isolation_pauses.specs.Pausing.{reports_of}
use Rattle.kilim_isolation_pauses.proofs.Loops.{rest_more, rest_end}
use Rattle.kilim_isolation_pauses.proofs.pausing.push_each.Goals as goal

pub loop-id-preserved : goal.loop-id-preserved
loop-id-preserved c =
    rest_more (flat_map (reports_of c.args.typed.now)) (reports_of c.args.typed.now) c.loop-id.reports c.push_reports.new.reports (c.args.reports.now ++ flat_map (reports_of c.args.typed.now) c.args.ids.now) c.args.ids.now c.loop-id.id-index
    (get_or c.args.ids.now c.loop-id.id-index _) _ (λ y ys. refl) c.loop-id-test.true refl c.loop-id.invariant c.in_ok-push_reports.ensures

pub returns : goal.returns
returns c =
    rest_end (flat_map (reports_of c.args.typed.now)) c.loop-id.reports (c.args.reports.now ++ flat_map (reports_of c.args.typed.now) c.args.ids.now) c.args.ids.now c.loop-id.id-index refl (omega arith) c.loop-id.invariant
