use Rattle.std.proofs.Common.{◌&&◌, not}
use Rattle.kilim_program.specs.Names.{◌>>=◌}
use Rattle.kilim_class_file.specs.declared.class_file.MemberInfo.{MemberInfo}
use Rattle.kilim_link_spec.specs.World.{acc_static, has_flag, member_descriptor}
use Rattle.kilim_link_spec.specs.Types.{field_text, type_in}
use Rattle.kilim_link_spec.specs.LeftOut.{has_its_constant}
use Rattle.kilim_link_file_faults.proofs.Loops.{found_at, passed_at, none_passes}
use Rattle.kilim_link_file_faults.proofs.fields.has_static_field.Goals as goal

pub returns-in-Ok-true : goal.returns-in-Ok-true
returns-in-Ok-true c =
    let w = c.args.world.now in
    let file = c.args.file.now in
    found_at (λ (f : MemberInfo). has_flag acc_static f.access_flags && not (has_its_constant w file f (field_text (member_descriptor file f) >>= type_in w))) c.as_slice-field-items.result.now file.fields c.loop-field.field-index c.field-item.result c.in-Ok-true.field-0
    c.as_slice-field-items.ensures c.loop-field-test.true c.field-item.is c.in-Ok-true.ensures c.loop-field.invariant c.in-Ok-true.field-0-test

pub loop-field-preserved : goal.loop-field-preserved
loop-field-preserved c =
    let w = c.args.world.now in
    let file = c.args.file.now in
    passed_at (λ (f : MemberInfo). has_flag acc_static f.access_flags && not (has_its_constant w file f (field_text (member_descriptor file f) >>= type_in w))) c.as_slice-field-items.result.now file.fields c.loop-field.field-index c.field-item.result c.in-Ok-false.field-0
    c.as_slice-field-items.ensures c.loop-field-test.true c.field-item.is c.in-Ok-false.ensures c.loop-field.invariant c.in-Ok-false.field-0-test

pub returns : goal.returns
returns c =
    let w = c.args.world.now in
    let file = c.args.file.now in
    none_passes (λ (f : MemberInfo). has_flag acc_static f.access_flags && not (has_its_constant w file f (field_text (member_descriptor file f) >>= type_in w))) c.as_slice-field-items.result.now file.fields c.loop-field.field-index c.as_slice-field-items.ensures c.loop-field-test.false c.loop-field.invariant
