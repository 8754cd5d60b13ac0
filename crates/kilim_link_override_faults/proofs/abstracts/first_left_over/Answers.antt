use Rattle.kilim_link_override_faults.specs.Parts.{is_left_over}
use Rattle.kilim_link_override_faults.proofs.Firsts.{found_at, passed_at, none_found}
use Rattle.kilim_link_override_faults.proofs.abstracts.first_left_over.Goals as goal

pub returns-in-Ok-true : goal.returns-in-Ok-true
returns-in-Ok-true c = found_at (is_left_over c.args.world.now c.args.class c.args.nearer.now) c.args.methods.now c.loop-method.method-index c.method-item.result _ c.in-Ok-true.field-0 c.loop-method-test.true c.method-item.is c.in-Ok-true.ensures _ c.loop-method.invariant c.in-Ok-true.field-0-test

pub loop-method-preserved : goal.loop-method-preserved
loop-method-preserved c = passed_at (is_left_over c.args.world.now c.args.class c.args.nearer.now) c.args.methods.now c.loop-method.method-index c.method-item.result _ c.in-Ok-false.field-0 c.loop-method-test.true c.method-item.is c.in-Ok-false.ensures _ c.loop-method.invariant c.in-Ok-false.field-0-test

pub returns : goal.returns
returns c = none_found (is_left_over c.args.world.now c.args.class c.args.nearer.now) c.args.methods.now c.loop-method.method-index _ c.loop-method-test.false c.loop-method.invariant
