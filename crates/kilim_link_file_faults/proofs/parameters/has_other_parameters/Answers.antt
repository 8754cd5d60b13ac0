use Rattle.std.proofs.Common.{length}
use Rattle.std.specs.List.{list_any, filter_map}
use Rattle.kilim_class_file.specs.declared.class_file.MemberInfo.{MemberInfo}
use Rattle.kilim_link_spec.specs.Annotations.{params_in}
use Rattle.kilim_link_spec.specs.LeftOut.{differs_in}
use Rattle.kilim_link_spec.specs.Types.{method_text}
use Rattle.kilim_link_spec.specs.World.{member_descriptor, parameter_parts}
use Rattle.kilim_link_file_faults.proofs.Loops.{found_at, passed_at, none_passes}
use Rattle.kilim_link_file_faults.proofs.parameters.has_other_parameters.Goals as goal

pub returns-in-Ok-true : goal.returns-in-Ok-true
returns-in-Ok-true c =
    let file = c.args.file.now in
    found_at (λ (m : MemberInfo). list_any (λ parts. differs_in (method_text (member_descriptor file m)) (length (params_in parts))) (filter_map (λ a. parameter_parts a.info) m.attributes)) c.as_slice-method-items.result.now file.methods c.loop-method.method-index c.method-item.result c.in-Ok-true.field-0
    c.as_slice-method-items.ensures c.loop-method-test.true c.method-item.is c.in-Ok-true.ensures c.loop-method.invariant c.in-Ok-true.field-0-test

pub loop-method-preserved : goal.loop-method-preserved
loop-method-preserved c =
    let file = c.args.file.now in
    passed_at (λ (m : MemberInfo). list_any (λ parts. differs_in (method_text (member_descriptor file m)) (length (params_in parts))) (filter_map (λ a. parameter_parts a.info) m.attributes)) c.as_slice-method-items.result.now file.methods c.loop-method.method-index c.method-item.result c.in-Ok-false.field-0
    c.as_slice-method-items.ensures c.loop-method-test.true c.method-item.is c.in-Ok-false.ensures c.loop-method.invariant c.in-Ok-false.field-0-test

pub returns : goal.returns
returns c =
    let file = c.args.file.now in
    none_passes (λ (m : MemberInfo). list_any (λ parts. differs_in (method_text (member_descriptor file m)) (length (params_in parts))) (filter_map (λ a. parameter_parts a.info) m.attributes)) c.as_slice-method-items.result.now file.methods c.loop-method.method-index c.as_slice-method-items.ensures c.loop-method-test.false c.loop-method.invariant
