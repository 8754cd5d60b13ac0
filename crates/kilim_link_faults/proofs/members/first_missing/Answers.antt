use Rattle.kilim_link_spec.specs.Faults.{is_no_member}
use Rattle.kilim_link_spec.specs.Linked.{first_of}
use Rattle.std.proofs.Common.{filter}
use Rattle.kilim_link_faults.proofs.Firsts.{found_at, passed_at, none_passes}
use Rattle.kilim_link_faults.proofs.members.first_missing.Goals as goal

pub returns-in-Ok-true : goal.returns-in-Ok-true
returns-in-Ok-true c =
    found_at (is_no_member c.args.world.now) c.args.members.now c.loop-member.member-index c.member-item.result (first_of (filter (is_no_member c.args.world.now) c.args.members.now)) c.in-Ok-true.field-0
    c.loop-member-test.true c.member-item.is c.in-Ok-true.ensures c.loop-member.invariant c.in-Ok-true.field-0-test

pub loop-member-preserved : goal.loop-member-preserved
loop-member-preserved c =
    passed_at (is_no_member c.args.world.now) c.args.members.now c.loop-member.member-index c.member-item.result (first_of (filter (is_no_member c.args.world.now) c.args.members.now)) c.in-Ok-false.field-0
    c.loop-member-test.true c.member-item.is c.in-Ok-false.ensures c.loop-member.invariant c.in-Ok-false.field-0-test

pub returns : goal.returns
returns c = none_passes (is_no_member c.args.world.now) c.args.members.now c.loop-member.member-index c.loop-member-test.false c.loop-member.invariant
