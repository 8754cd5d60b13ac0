use Rattle.kilim_link_spec.specs.Faults.{is_left_here}
use Rattle.kilim_link_override_faults.proofs.Firsts.{found_at, passed_at, none_found}
use Rattle.kilim_link_override_faults.proofs.abstracts.first_left_here.Goals as goal

pub returns-then-is_left_here : goal.returns-then-is_left_here
returns-then-is_left_here c = found_at (is_left_here c.args.class_is_abstract) c.args.methods.now c.loop-method.method-index c.method-item.result _ c.is_left_here.result c.loop-method-test.true c.method-item.is c.is_left_here.ensures _ c.loop-method.invariant c.if-is_left_here.true

pub loop-method-preserved : goal.loop-method-preserved
loop-method-preserved c = passed_at (is_left_here c.args.class_is_abstract) c.args.methods.now c.loop-method.method-index c.method-item.result _ c.is_left_here.result c.loop-method-test.true c.method-item.is c.is_left_here.ensures _ c.loop-method.invariant c.if-is_left_here.false

pub returns : goal.returns
returns c = none_found (is_left_here c.args.class_is_abstract) c.args.methods.now c.loop-method.method-index _ c.loop-method-test.false c.loop-method.invariant
