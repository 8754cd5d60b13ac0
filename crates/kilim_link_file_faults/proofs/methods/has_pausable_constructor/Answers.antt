use Rattle.std.proofs.Common.{◌&&◌}
use Rattle.kilim_class_file.specs.declared.class_file.MemberInfo.{MemberInfo}
use Rattle.kilim_link_spec.specs.Qualified.{is_constructor_name}
use Rattle.kilim_link_spec.specs.World.{member_name, is_pausable}
use Rattle.kilim_link_file_faults.proofs.Loops.{found_at, passed_at, none_passes}
use Rattle.kilim_link_file_faults.proofs.methods.has_pausable_constructor.Goals as goal

pub returns-then-is_pausable_constructor : goal.returns-then-is_pausable_constructor
returns-then-is_pausable_constructor c = found_at (λ (m : MemberInfo). is_constructor_name (member_name c.args.file.now m) && is_pausable c.args.file.now.constant_pool m) c.as_slice-method-items.result.now c.args.file.now.methods c.loop-method.method-index c.method-item.result c.is_pausable_constructor.result c.as_slice-method-items.ensures c.loop-method-test.true c.method-item.is c.is_pausable_constructor.ensures c.loop-method.invariant c.if-is_pausable_constructor.true

pub loop-method-preserved : goal.loop-method-preserved
loop-method-preserved c = passed_at (λ (m : MemberInfo). is_constructor_name (member_name c.args.file.now m) && is_pausable c.args.file.now.constant_pool m) c.as_slice-method-items.result.now c.args.file.now.methods c.loop-method.method-index c.method-item.result c.is_pausable_constructor.result c.as_slice-method-items.ensures c.loop-method-test.true c.method-item.is c.is_pausable_constructor.ensures c.loop-method.invariant c.if-is_pausable_constructor.false

pub returns : goal.returns
returns c = none_passes (λ (m : MemberInfo). is_constructor_name (member_name c.args.file.now m) && is_pausable c.args.file.now.constant_pool m) c.as_slice-method-items.result.now c.args.file.now.methods c.loop-method.method-index c.as_slice-method-items.ensures c.loop-method-test.false c.loop-method.invariant
