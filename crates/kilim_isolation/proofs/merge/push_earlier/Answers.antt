use Rattle.std.proofs.Common.{◌++◌, drop, sym, arith}
use Rattle.kilim_isolation.specs.Faults.{earlier, later}
use Rattle.kilim_isolation.proofs.Merging.{push_end, push_more, push_stop, rest_end, rest_more, rest_stop}
use Rattle.kilim_isolation.proofs.merge.push_earlier.Goals as goal

pub loop-at-preserved : goal.loop-at-preserved
loop-at-preserved c = record {
  pushed = push_more c.args.report.now c.args.others.now c.loop-at.into c.push_copy.new.into (c.args.into.now ++ earlier c.args.report.now (drop c.args.from c.args.others.now)) c.loop-at.at c.index-others-at.result _ c.loop-at-test.true c.index-others-at.is
      (sym c.if-not-comes_before.ensures) c.loop-at.invariant.pushed c.in-Ok.ensures;
  rest = rest_more c.args.report.now c.args.others.now (later c.args.report.now (drop c.args.from c.args.others.now)) c.loop-at.at c.index-others-at.result _ c.loop-at-test.true c.index-others-at.is (sym c.if-not-comes_before.ensures)
      c.loop-at.invariant.rest;
}

pub returns-then-not-comes_before-clause-pushed : goal.returns-then-not-comes_before-clause-pushed
returns-then-not-comes_before-clause-pushed c =
    push_stop c.args.report.now c.args.others.now c.loop-at.into (c.args.into.now ++ earlier c.args.report.now (drop c.args.from c.args.others.now)) c.loop-at.at c.index-others-at.result _ c.loop-at-test.true c.index-others-at.is
    (sym c.if-not-comes_before.ensures) c.loop-at.invariant.pushed

pub returns-then-not-comes_before-clause-rest : goal.returns-then-not-comes_before-clause-rest
returns-then-not-comes_before-clause-rest c =
    rest_stop c.args.report.now c.args.others.now (later c.args.report.now (drop c.args.from c.args.others.now)) c.loop-at.at c.index-others-at.result _ c.loop-at-test.true c.index-others-at.is (sym c.if-not-comes_before.ensures)
    c.loop-at.invariant.rest

pub returns-clause-pushed : goal.returns-clause-pushed
returns-clause-pushed c =
    push_end c.args.report.now c.args.others.now c.loop-at.into (c.args.into.now ++ earlier c.args.report.now (drop c.args.from c.args.others.now)) c.loop-at.at (omega arith) c.loop-at.invariant.pushed

pub returns-clause-rest : goal.returns-clause-rest
returns-clause-rest c = rest_end c.args.report.now c.args.others.now (later c.args.report.now (drop c.args.from c.args.others.now)) c.loop-at.at _ (omega arith) (omega arith) c.loop-at.invariant.rest
