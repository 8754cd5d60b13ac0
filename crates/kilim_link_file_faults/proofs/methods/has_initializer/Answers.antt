use Rattle.std.proofs.Common.{List, ℕ, codes, ap, ◌∙◌}
use Rattle.std.specs.Str.{bytes_eq}
use Rattle.kilim_class_file.specs.declared.class_file.MemberInfo.{MemberInfo}
use Rattle.kilim_link_spec.specs.World.{member_name}
use Rattle.kilim_link_file_faults.proofs.Loops.{found_at, passed_at, none_passes}
use Rattle.kilim_link_file_faults.proofs.methods.has_initializer.Goals as goal

pub returns-then-is_text : goal.returns-then-is_text
returns-then-is_text c = found_at (λ (m : MemberInfo). bytes_eq (member_name c.args.file.now m) (codes "<clinit>")) c.as_slice-method-items.result.now c.args.file.now.methods c.loop-method.method-index c.method-item.result c.is_text.result c.as_slice-method-items.ensures c.loop-method-test.true c.method-item.is (c.is_text.ensures ∙ ap (λ (name : List ℕ). bytes_eq name (codes "<clinit>")) c.member_name.ensures) c.loop-method.invariant c.if-is_text.true

pub loop-method-preserved : goal.loop-method-preserved
loop-method-preserved c = passed_at (λ (m : MemberInfo). bytes_eq (member_name c.args.file.now m) (codes "<clinit>")) c.as_slice-method-items.result.now c.args.file.now.methods c.loop-method.method-index c.method-item.result c.is_text.result c.as_slice-method-items.ensures c.loop-method-test.true c.method-item.is (c.is_text.ensures ∙ ap (λ (name : List ℕ). bytes_eq name (codes "<clinit>")) c.member_name.ensures) c.loop-method.invariant c.if-is_text.false

pub returns : goal.returns
returns c = none_passes (λ (m : MemberInfo). bytes_eq (member_name c.args.file.now m) (codes "<clinit>")) c.as_slice-method-items.result.now c.args.file.now.methods c.loop-method.method-index c.as_slice-method-items.ensures c.loop-method-test.false c.loop-method.invariant
