use Rattle.std.proofs.Common.{◌≡◌, ◌++◌, drop}
use Rattle.kilim_type_flow.specs.Table.{live_in}
use Rattle.kilim_weave_spec.specs.Woven.{saved_from}
use Rattle.kilim_weave_code.proofs.group.saved.Given as goal

abbrev pub invariant-loop-at : goal.invariant-loop-at
invariant-loop-at l =
    l.saved.items ++ saved_from (live_in l.fn.plan.live.now l.fn.next) l.at (drop l.at l.locals) ≡ saved_from (live_in l.fn.plan.live.now l.fn.next) 0 l.locals
