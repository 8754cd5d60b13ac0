-- What a field and a method of a file are linked to, in their parts.
use Rattle.std.proofs.Common.{◌≡◌, List, Option, Some, None, refl}
use Rattle.std.proofs.lemmas.Option.{same_Some, none-some}
use Rattle.kilim_class_file.specs.declared.class_file.ClassFile.{ClassFile}
use Rattle.kilim_class_file.specs.declared.class_file.MemberInfo.{MemberInfo}
use Rattle.kilim_class_descriptors.specs.declared.types.FieldText.{FieldText}
use Rattle.kilim_class_descriptors.specs.declared.types.MethodText.{MethodText}
use Rattle.kilim_program.specs.declared.class.Field.{Field}
use Rattle.kilim_program.specs.declared.class.Method.{Method}
use Rattle.kilim_program.specs.declared.names.ClassId.{ClassId}
use Rattle.kilim_program.specs.declared.ty.Ty.{Ty}
use Rattle.kilim_program.specs.Names.{◌>>=◌}
use Rattle.kilim_link_spec.specs.Linked.{body_in, code_attribute, field_with, linked_field, linked_method, method_with}
use Rattle.kilim_link_spec.specs.declared.named.Body.{Body}
use Rattle.kilim_link_spec.specs.Types.{field_text, method_text, result_in, type_in, types_in}
use Rattle.kilim_link_spec.specs.World.{World, member_descriptor}

-- one thing after another
pub record Bound {A B : Type 0} (a : Option A) (f : A → Option B) (y : B) : Type 0 where
  pub of : A
  pub at : a ≡ Some of
  pub is : f of ≡ Some y

pub bound : {A B : Type 0} (a : Option A) (f : A → Option B) (y : B) → (a >>= f) ≡ Some y → Bound a f y
bound None f y e = absurd (none-some y e)
bound (Some x) f y e = record { of = x; at = refl; is = e }

pub record LinkedField (w : World) (file : ClassFile) (c : ClassId) (member : MemberInfo) (field : Field) : Type 0 where
  pub text : FieldText
  pub text_is : field_text (member_descriptor file member) ≡ Some text
  pub ty : Ty
  pub ty_is : type_in w text ≡ Some ty
  pub is : field_with file c member ty ≡ field

pub linked_field_is : (w : World) (file : ClassFile) (c : ClassId) (member : MemberInfo) (field : Field) → linked_field w file c member ≡ Some field → LinkedField w file c member field
linked_field_is w file c member field e =
    let t = bound (field_text (member_descriptor file member)) _ field e in
    let u = bound (type_in w t.of) _ field t.is in
    record { text = t.of; text_is = t.at; ty = u.of; ty_is = u.at; is = same_Some (field_with file c member u.of) field u.is }

pub record LinkedMethod (w : World) (file : ClassFile) (c : ClassId) (member : MemberInfo) (method : Method) : Type 0 where
  pub text : MethodText
  pub text_is : method_text (member_descriptor file member) ≡ Some text
  pub params : List Ty
  pub params_are : types_in w text.params ≡ Some params
  pub result : Option Ty
  pub result_is : result_in w text.result ≡ Some result
  pub body : Body
  pub body_is : body_in w file c member (code_attribute member) ≡ Some body
  pub is : method_with w file c member params result body ≡ method

pub linked_method_is : (w : World) (file : ClassFile) (c : ClassId) (member : MemberInfo) (method : Method) → linked_method w file c member ≡ Some method → LinkedMethod w file c member method
linked_method_is w file c member method e =
    let t = bound (method_text (member_descriptor file member)) _ method e in
    let ps = bound (types_in w t.of.params) _ method t.is in
    let r = bound (result_in w t.of.result) _ method ps.is in
    let b = bound (body_in w file c member (code_attribute member)) _ method r.is in
    record {
      text = t.of;
      text_is = t.at;
      params = ps.of;
      params_are = ps.at;
      result = r.of;
      result_is = r.at;
      body = b.of;
      body_is = b.at;
      is = same_Some (method_with w file c member ps.of r.of b.of) method b.is;
    }
