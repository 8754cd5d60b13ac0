use Rattle.std.proofs.Common.{filter}
use Rattle.kilim_link_spec.specs.Faults.{is_missing}
use Rattle.kilim_link_spec.specs.Linked.{first_of}
use Rattle.kilim_link_faults.proofs.Firsts.{found_at, passed_at, none_passes}
use Rattle.kilim_link_faults.proofs.class.first_missing.Goals as goal

pub returns-then-is_missing : goal.returns-then-is_missing
returns-then-is_missing c =
    found_at (is_missing c.args.world.now) c.args.names.now c.loop-name.name-index c.name-item.result (first_of (filter (is_missing c.args.world.now) c.args.names.now)) c.is_missing.result
    c.loop-name-test.true c.name-item.is c.is_missing.ensures c.loop-name.invariant c.if-is_missing.true

pub loop-name-preserved : goal.loop-name-preserved
loop-name-preserved c =
    passed_at (is_missing c.args.world.now) c.args.names.now c.loop-name.name-index c.name-item.result (first_of (filter (is_missing c.args.world.now) c.args.names.now)) c.is_missing.result
    c.loop-name-test.true c.name-item.is c.is_missing.ensures c.loop-name.invariant c.if-is_missing.false

pub returns : goal.returns
returns c = none_passes (is_missing c.args.world.now) c.args.names.now c.loop-name.name-index c.loop-name-test.false c.loop-name.invariant
