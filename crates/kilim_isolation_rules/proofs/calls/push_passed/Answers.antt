use Rattle.std.proofs.Common.{◌++◌, arith}
use Rattle.kilim_isolation_rules.specs.Calls.{parameters}
use Rattle.kilim_isolation_rules.proofs.Slots.{passed_more, passed_end}
use Rattle.kilim_isolation_rules.proofs.calls.push_passed.Goals as goal

pub loop-at-preserved : goal.loop-at-preserved
loop-at-preserved c =
    passed_more c.args.tys.now c.args.qualifiers.now c.args.names.now c.args.types.now c.loop-at.passed c.push.new.self (c.args.passed.now ++ parameters c.args.tys.now c.args.qualifiers.now c.args.names.now c.args.types.now) c.loop-at.at _ _ _ _ (omega arith) c.in-Ok.ensures.ok c.loop-at.invariant

pub returns : goal.returns
returns c =
    passed_end c.args.tys.now c.args.qualifiers.now c.args.names.now c.args.types.now c.loop-at.passed (c.args.passed.now ++ parameters c.args.tys.now c.args.qualifiers.now c.args.names.now c.args.types.now) c.loop-at.at (omega arith) c.loop-at.invariant
