use Rattle.std.proofs.Common.{filter}
use Rattle.kilim_link_spec.specs.Linked.{first_of}
use Rattle.kilim_link_faults.specs.Parts.{holds_badly}
use Rattle.kilim_link_faults.proofs.Firsts.{found_at, passed_at, none_passes}
use Rattle.kilim_link_faults.proofs.fields.first_held_badly.Goals as goal

pub returns-in-Ok-true : goal.returns-in-Ok-true
returns-in-Ok-true c =
    found_at (holds_badly c.args.world.now c.args.file.now c.args.class) c.args.fields.now c.loop-field.field-index c.field-item.result (first_of (filter (holds_badly c.args.world.now c.args.file.now c.args.class) c.args.fields.now)) c.in-Ok-true.field-0
    c.loop-field-test.true c.field-item.is c.in-Ok-true.ensures c.loop-field.invariant c.in-Ok-true.field-0-test

pub loop-field-preserved : goal.loop-field-preserved
loop-field-preserved c =
    passed_at (holds_badly c.args.world.now c.args.file.now c.args.class) c.args.fields.now c.loop-field.field-index c.field-item.result (first_of (filter (holds_badly c.args.world.now c.args.file.now c.args.class) c.args.fields.now)) c.in-Ok-false.field-0
    c.loop-field-test.true c.field-item.is c.in-Ok-false.ensures c.loop-field.invariant c.in-Ok-false.field-0-test

pub returns : goal.returns
returns c = none_passes (holds_badly c.args.world.now c.args.file.now c.args.class) c.args.fields.now c.loop-field.field-index c.loop-field-test.false c.loop-field.invariant
