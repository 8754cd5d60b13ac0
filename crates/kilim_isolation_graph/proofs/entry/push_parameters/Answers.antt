use Rattle.std.proofs.Common.{◌++◌, arith}
use Rattle.kilim_isolation_graph.specs.Entry.{declared_parameters}
use Rattle.kilim_isolation_graph.proofs.Parameters.{parameters_more, parameters_end}
use Rattle.kilim_isolation_graph.proofs.entry.push_parameters.Goals as goal

pub loop-at-preserved : goal.loop-at-preserved
loop-at-preserved c =
    parameters_more c.args.tys.now c.args.qualifiers.now c.loop-at.list c.push.new.self (c.args.list.now ++ declared_parameters c.args.tys.now c.args.qualifiers.now) c.loop-at.at _ _ (omega arith) c.in-Ok.ensures.ok c.loop-at.invariant

pub returns : goal.returns
returns c =
    parameters_end c.args.tys.now c.args.qualifiers.now c.loop-at.list (c.args.list.now ++ declared_parameters c.args.tys.now c.args.qualifiers.now) c.loop-at.at (omega arith) c.loop-at.invariant
