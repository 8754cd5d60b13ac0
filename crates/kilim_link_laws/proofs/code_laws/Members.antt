-- The parts of a linked field, method and body.
use Rattle.std.proofs.Common.{◌≡◌, ℕ, List, Option, Some, None, refl, sym}
use Rattle.std.proofs.lemmas.Option.{same_Some, none-some}
use Rattle.kilim_class_attributes.specs.declared.attribute.Code.{Code}
use Rattle.kilim_class_file.specs.declared.class_file.ClassFile.{ClassFile}
use Rattle.kilim_class_file.specs.declared.class_file.MemberInfo.{MemberInfo}
use Rattle.kilim_class_descriptors.specs.declared.types.FieldText.{FieldText}
use Rattle.kilim_class_descriptors.specs.declared.types.MethodText.{MethodText}
use Rattle.kilim_program.specs.declared.class.Field.{Field}
use Rattle.kilim_program.specs.declared.class.Handler.{Handler}
use Rattle.kilim_program.specs.declared.class.Method.{Method}
use Rattle.kilim_program.specs.declared.instr.Instr.{Instr}
use Rattle.kilim_program.specs.declared.names.ClassId.{ClassId}
use Rattle.kilim_program.specs.declared.ty.Ty.{Ty}
use Rattle.kilim_program.specs.declared.verified.Frame.{Frame}
use Rattle.kilim_program.specs.Names.{◌>>=◌}
use Rattle.kilim_link_spec.specs.Code.{decoded, code_of}
use Rattle.kilim_link_spec.specs.Frames.{frames_in}
use Rattle.kilim_link_spec.specs.Linked.{body_in, body_with, handlers_in, code_attribute, field_with, linked_field, linked_method, method_with}
use Rattle.kilim_link_spec.specs.declared.named.Body.{Body}
use Rattle.kilim_link_spec.specs.Types.{field_text, method_text, type_in, types_in, result_in}
use Rattle.kilim_link_spec.specs.World.{World, declared_method, member_descriptor}

-- what is there, and what comes of it
pub record Bound {A B : Type 0} (o : Option A) (next : A → Option B) (y : B) : Type 0 where
  pub x : A
  pub there : o ≡ Some x
  pub then : next x ≡ Some y

pub bound : {A B : Type 0} (o : Option A) (next : A → Option B) (y : B) → (o >>= next) ≡ Some y → Bound o next y
bound None next y e = absurd (none-some y e)
bound (Some x) next y e = record { x = x; there = refl; then = e }

pub record FieldParts (w : World) (file : ClassFile) (c : ClassId) (field : MemberInfo) (y : Field) : Type 0 where
  pub text : FieldText
  pub ty : Ty
  pub text_is : field_text (member_descriptor file field) ≡ Some text
  pub ty_is : type_in w text ≡ Some ty
  pub is : y ≡ field_with file c field ty

pub field_parts : (w : World) (file : ClassFile) (c : ClassId) (field : MemberInfo) (y : Field) → linked_field w file c field ≡ Some y → FieldParts w file c field y
field_parts w file c field y e =
    let ty_next = λ (ty : Ty). Some (field_with file c field ty) in
    let a = bound (field_text (member_descriptor file field)) (λ text. type_in w text >>= ty_next) y e in
    let b = bound (type_in w a.x) ty_next y a.then in
    record { text = a.x; ty = b.x; text_is = a.there; ty_is = b.there; is = sym (same_Some (field_with file c field b.x) y b.then) }

pub record MethodParts (w : World) (file : ClassFile) (c : ClassId) (method : MemberInfo) (y : Method) : Type 0 where
  pub text : MethodText
  pub params : List Ty
  pub result : Option Ty
  pub body : Body
  pub text_is : method_text (member_descriptor file method) ≡ Some text
  pub params_are : types_in w text.params ≡ Some params
  pub result_is : result_in w text.result ≡ Some result
  pub body_is : body_in w file c method (code_attribute method) ≡ Some body
  pub is : y ≡ method_with w file c method params result body

pub method_parts : (w : World) (file : ClassFile) (c : ClassId) (method : MemberInfo) (y : Method) → linked_method w file c method ≡ Some y → MethodParts w file c method y
method_parts w file c method y e =
    let made = λ (params : List Ty) (result : Option Ty) (body : Body). Some (method_with w file c method params result body) in
    let with_body = λ (params : List Ty) (result : Option Ty). body_in w file c method (code_attribute method) >>= made params result in
    let with_result = λ (result_text : Option FieldText) (params : List Ty). result_in w result_text >>= with_body params in
    let a = bound (method_text (member_descriptor file method)) (λ text. types_in w text.params >>= with_result text.result) y e in
    let b = bound (types_in w a.x.params) (with_result a.x.result) y a.then in
    let d = bound (result_in w a.x.result) (with_body b.x) y b.then in
    let f = bound (body_in w file c method (code_attribute method)) (made b.x d.x) y d.then in
    record {
      text = a.x;
      params = b.x;
      result = d.x;
      body = f.x;
      text_is = a.there;
      params_are = b.there;
      result_is = d.there;
      body_is = f.there;
      is = sym {a = method_with w file c method b.x d.x f.x} (same_Some (method_with w file c method b.x d.x f.x) y f.then);
    }

pub record BodyParts (w : World) (file : ClassFile) (c : ClassId) (method : MemberInfo) (code : Code) (body : Body) : Type 0 where
  pub instrs : List (ℕ × Instr)
  pub handlers : List Handler
  pub frames : List (ℕ × Frame)
  pub instrs_are : code_of w file.constant_pool (decoded code.code) ≡ Some instrs
  pub handlers_are : handlers_in w file.constant_pool code.exception_table ≡ Some handlers
  pub frames_are : frames_in w file c (declared_method file method) code ≡ Some frames
  pub is : body ≡ body_with code instrs handlers frames

pub body_parts : (w : World) (file : ClassFile) (c : ClassId) (method : MemberInfo) (code : Code) (body : Body) → body_in w file c method (Some code) ≡ Some body → BodyParts w file c method code body
body_parts w file c method code body e =
    let with_frames = λ (instrs : List (ℕ × Instr)) (handlers : List Handler). frames_in w file c (declared_method file method) code >>= λ frames. Some (body_with code instrs handlers frames) in
    let with_handlers = λ (instrs : List (ℕ × Instr)). handlers_in w file.constant_pool code.exception_table >>= with_frames instrs in
    let a = bound (code_of w file.constant_pool (decoded code.code)) with_handlers body e in
    let h = bound (handlers_in w file.constant_pool code.exception_table) (with_frames a.x) body a.then in
    let b = bound (frames_in w file c (declared_method file method) code) (λ frames. Some (body_with code a.x h.x frames)) body h.then in
    record { instrs = a.x; handlers = h.x; frames = b.x; instrs_are = a.there; handlers_are = h.there; frames_are = b.there; is = sym (same_Some (body_with code a.x h.x b.x) body b.then) }
