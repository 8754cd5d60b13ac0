use Rattle.std.proofs.Common.{refl}
use Rattle.std.specs.List.{filter_map}
use Rattle.kilim_class_file.specs.declared.class_file.MemberInfo.{MemberInfo}
use Rattle.kilim_link_spec.specs.Linked.{code_attribute}
use Rattle.kilim_link_spec.specs.LeftOut.{decoded_in, left_out_op}
use Rattle.kilim_link_file_faults.proofs.Loops.{first_at, first_behind, none_first}
use Rattle.kilim_link_file_faults.proofs.methods.first_left_out.Goals as goal

pub returns-in-Ok-Some : goal.returns-in-Ok-Some
returns-in-Ok-Some c = first_at (λ (m : MemberInfo). filter_map left_out_op (decoded_in (code_attribute m))) c.args.methods.now c.args.methods.now c.loop-method.method-index c.method-item.result c.in-Ok-Some.field-0 refl c.loop-method-test.true c.method-item.is c.in-Ok-Some.ensures c.loop-method.invariant c.in-Ok-Some.found c.in-Ok-Some.field-0-is

pub loop-method-preserved : goal.loop-method-preserved
loop-method-preserved c = first_behind (λ (m : MemberInfo). filter_map left_out_op (decoded_in (code_attribute m))) c.args.methods.now c.args.methods.now c.loop-method.method-index c.method-item.result c.in-Ok-None.field-0 refl c.loop-method-test.true c.method-item.is c.in-Ok-None.ensures c.loop-method.invariant c.in-Ok-None.field-0-is

pub returns : goal.returns
returns c = none_first (λ (m : MemberInfo). filter_map left_out_op (decoded_in (code_attribute m))) c.args.methods.now c.args.methods.now c.loop-method.method-index refl c.loop-method-test.false c.loop-method.invariant
