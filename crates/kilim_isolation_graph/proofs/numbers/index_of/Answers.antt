use Rattle.std.proofs.Common.{◌≡◌, ap, drop, arith}
use Rattle.std.proofs.lemmas.List.{drop_all}
use Rattle.kilim_isolation_graph.specs.Canonical.{index_of}
use Rattle.kilim_isolation_graph.proofs.Loops.{index_on}
use Rattle.kilim_isolation_graph.proofs.numbers.index_of.Goals as goal

pub loop-number-preserved : goal.loop-number-preserved
loop-number-preserved c =
    let on = index_on c.args.numbers.now c.loop-number.number-index 0 c.args.wanted c.loop-number-test.true c.if-number-wanted.false in
    (omega (arith, c.loop-number.invariant.0), omega (arith, on, c.loop-number.invariant.1))

pub returns : goal.returns
returns c =
    let left : index_of c.args.wanted (drop c.loop-number.number-index c.args.numbers.now) ≡ 0 = ap (index_of c.args.wanted) (drop_all c.loop-number.number-index c.args.numbers.now (omega arith)) in
    omega (arith, left, c.loop-number.invariant.1)
