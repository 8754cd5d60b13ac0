use Rattle.kilim_class_file.specs.declared.class_file.MemberInfo.{MemberInfo}
use Rattle.kilim_link_spec.specs.World.{has_flag}
use Rattle.kilim_link_file_faults.proofs.Loops.{found_at, passed_at, none_passes}
use Rattle.kilim_link_file_faults.proofs.methods.has_method_flag.Goals as goal

pub returns-then-has_flag : goal.returns-then-has_flag
returns-then-has_flag c = found_at (λ (m : MemberInfo). has_flag c.args.flag m.access_flags) c.as_slice-method-items.result.now c.args.file.now.methods c.loop-method.method-index c.method-item.result c.has_flag.result c.as_slice-method-items.ensures c.loop-method-test.true c.method-item.is c.has_flag.ensures c.loop-method.invariant c.if-has_flag.true

pub loop-method-preserved : goal.loop-method-preserved
loop-method-preserved c = passed_at (λ (m : MemberInfo). has_flag c.args.flag m.access_flags) c.as_slice-method-items.result.now c.args.file.now.methods c.loop-method.method-index c.method-item.result c.has_flag.result c.as_slice-method-items.ensures c.loop-method-test.true c.method-item.is c.has_flag.ensures c.loop-method.invariant c.if-has_flag.false

pub returns : goal.returns
returns c = none_passes (λ (m : MemberInfo). has_flag c.args.flag m.access_flags) c.as_slice-method-items.result.now c.args.file.now.methods c.loop-method.method-index c.as_slice-method-items.ensures c.loop-method-test.false c.loop-method.invariant
