use Rattle.std.proofs.Common.{◌&&◌}
use Rattle.kilim_class_file.specs.declared.class_file.MemberInfo.{MemberInfo}
use Rattle.kilim_link_spec.specs.LeftOut.{has_row}
use Rattle.kilim_link_spec.specs.Linked.{code_attribute}
use Rattle.kilim_link_spec.specs.World.{is_pausable}
use Rattle.kilim_link_file_faults.proofs.Loops.{found_at, passed_at, none_passes}
use Rattle.kilim_link_file_faults.proofs.methods.has_pausable_handlers.Goals as goal

pub returns-then-is_pausable_with_row : goal.returns-then-is_pausable_with_row
returns-then-is_pausable_with_row c = found_at (λ (m : MemberInfo). has_row (code_attribute m) && is_pausable c.args.file.now.constant_pool m) c.as_slice-method-items.result.now c.args.file.now.methods c.loop-method.method-index c.method-item.result c.is_pausable_with_row.result c.as_slice-method-items.ensures c.loop-method-test.true c.method-item.is c.is_pausable_with_row.ensures c.loop-method.invariant c.if-is_pausable_with_row.true

pub loop-method-preserved : goal.loop-method-preserved
loop-method-preserved c = passed_at (λ (m : MemberInfo). has_row (code_attribute m) && is_pausable c.args.file.now.constant_pool m) c.as_slice-method-items.result.now c.args.file.now.methods c.loop-method.method-index c.method-item.result c.is_pausable_with_row.result c.as_slice-method-items.ensures c.loop-method-test.true c.method-item.is c.is_pausable_with_row.ensures c.loop-method.invariant c.if-is_pausable_with_row.false

pub returns : goal.returns
returns c = none_passes (λ (m : MemberInfo). has_row (code_attribute m) && is_pausable c.args.file.now.constant_pool m) c.as_slice-method-items.result.now c.args.file.now.methods c.loop-method.method-index c.as_slice-method-items.ensures c.loop-method-test.false c.loop-method.invariant
