-- The types of linked fields and methods pass a test, where those of texts and classes do.
use Rattle.std.proofs.Common.{◌≡◌, ℕ, Bool, true, List, ◌++◌, Option, Some, None, Result, Ok, Err, refl, sym, subst, ◌∙◌, option_to_list}
use Rattle.std.specs.List.{list_all, flat_map, AllByRecursion}
use Rattle.std.proofs.lemmas.Bool.{and_from}
use Rattle.std.proofs.lemmas.List.Folds.{list_all-append}
use Rattle.std.proofs.lemmas.Option.{same_Some, none-some}
use Rattle.kilim_class_attributes.specs.declared.attribute.Code.{Code}
use Rattle.kilim_class_code.specs.declared.fault.CodeFault.{CodeFault}
use Rattle.kilim_class_code.specs.Code.{Placed}
use Rattle.kilim_class_file.specs.declared.class_file.ClassFile.{ClassFile}
use Rattle.kilim_class_file.specs.declared.class_file.MemberInfo.{MemberInfo}
use Rattle.kilim_class_descriptors.specs.declared.types.FieldText.{FieldText}
use Rattle.kilim_program.specs.declared.class.Field.{Field}
use Rattle.kilim_program.specs.declared.class.Method.{Method}
use Rattle.kilim_program.specs.declared.instr.Instr.{Instr}
use Rattle.kilim_program.specs.declared.names.ClassId.{ClassId}
use Rattle.kilim_program.specs.declared.ty.Base.TheVariants as base
use Rattle.kilim_program.specs.declared.ty.Ty.{Ty}
use Rattle.kilim_program.specs.declared.verified.Frame.{Frame}
use Rattle.kilim_program.specs.Keeps.{types_of_frame, types_of_instr, types_of_method}
use Rattle.kilim_link_spec.specs.Code.{decoded, code_of, placed_in}
use Rattle.kilim_link_spec.specs.Linked.{body_in, no_body, code_attribute, linked_field, linked_method}
use Rattle.kilim_link_spec.specs.declared.named.Body.{Body}
use Rattle.kilim_link_spec.specs.Mentions.{instrs_in, instrs_if, frames_if}
use Rattle.kilim_link_spec.specs.declared.named.Mention.TheVariants.{OfField}
use Rattle.kilim_link_spec.specs.Qualified.{params_of}
use Rattle.kilim_link_spec.specs.Types.{method_text, result_types, typed, types_of_field, types_of_method as types_of_text}
use Rattle.kilim_link_spec.specs.World.{World, declared_method, member_descriptor}
use Rattle.kilim_link_laws.proofs.code_laws.Codes.{placed_parts}
use Rattle.kilim_link_laws.proofs.code_laws.Lists.{all_map, each_of_all}
use Rattle.kilim_link_laws.proofs.code_laws.Members.{field_parts, method_parts, body_parts}
use Rattle.kilim_link_laws.proofs.code_laws.Mentions.{MethodMentions, InstrMentions, FrameMentions}
use Rattle.kilim_link_laws.proofs.code_laws.Nothing.{all_front, all_rest}
use Rattle.kilim_link_laws.proofs.code_laws.TestedFrames.{frames_pass}
use Rattle.kilim_link_laws.proofs.code_laws.TestedInstrs.{instr_passes}
use Rattle.kilim_link_laws.proofs.code_laws.TestedTypes.{GoodMention, Tested, flat_passes, result_passes, types_pass}

parts_pass : (test : Ty → Bool) (params : List Ty) (result : Option Ty) (code : List (ℕ × Instr)) (frames : List (ℕ × Frame)) → list_all test params ≡ true → list_all test (option_to_list result) ≡ true
    → list_all test (flat_map (λ e. types_of_instr e.1) code) ≡ true → list_all test (flat_map (λ e. types_of_frame e.1) frames) ≡ true
    → list_all test (params ++ (option_to_list result ++ (flat_map (λ e. types_of_instr e.1) code ++ flat_map (λ e. types_of_frame e.1) frames))) ≡ true
parts_pass test params result code frames a b c d =
    let in_code = flat_map (λ (e : ℕ × Instr). types_of_instr e.1) code in
    let in_frames = flat_map (λ (e : ℕ × Frame). types_of_frame e.1) frames in
    list_all-append test params (option_to_list result ++ (in_code ++ in_frames)) ∙ and_from _ _ a
    (list_all-append test (option_to_list result) (in_code ++ in_frames) ∙ and_from _ _ b (list_all-append test in_code in_frames ∙ and_from _ _ c d))

module _ (w : World) (Good : FieldText → Type 0) (test : Ty → Bool) (tested : Tested w Good test) where
  abbrev BodyPasses : Body → Type 0
  BodyPasses body = (list_all test (flat_map (λ e. types_of_instr e.1) body.code) ≡ true) × (list_all test (flat_map (λ e. types_of_frame e.1) body.frames) ≡ true)

  code_passes : (file : ClassFile) (r : Result (List Placed) CodeFault) (es : List (ℕ × Instr)) → AllByRecursion (InstrMentions (GoodMention Good) file) (instrs_if r) → code_of w file.constant_pool r ≡ Some es
      → list_all test (flat_map (λ e. types_of_instr e.1) es) ≡ true
  code_passes file (Err fault) es good e = absurd (none-some es e)
  code_passes file (Ok placed) es good e =
      let one = λ (q : Placed) (g : InstrMentions (GoodMention Good) file q) (x : ℕ × Instr) (there : placed_in w file.constant_pool q ≡ Some x). instr_passes w Good test tested file.constant_pool q.1 x.1 g (placed_parts w file.constant_pool q x there).there in
      flat_passes test (λ (x : ℕ × Instr). types_of_instr x.1) es
      (each_of_all (placed_in w file.constant_pool) (λ x. list_all test (types_of_instr x.1)) placed es (all_map (InstrMentions (GoodMention Good) file) _ one placed good) e)

  body_passes : (file : ClassFile) (c : ClassId) (method : MemberInfo) (attribute : Option Code) (body : Body) → test (typed 0 (base.Class c)) ≡ true → AllByRecursion Good (params_of (method_text (member_descriptor file method)))
      → AllByRecursion (InstrMentions (GoodMention Good) file) (instrs_in attribute) → AllByRecursion (FrameMentions (GoodMention Good) file) (frames_if attribute) → body_in w file c method attribute ≡ Some body → BodyPasses body
  body_passes file c method None body own params good frames e = subst BodyPasses (same_Some no_body body e) (refl, refl)
  body_passes file c method (Some code) body own params good frames e =
      let b = body_parts w file c method code body e in
      subst BodyPasses (sym b.is)
      (code_passes file (decoded code.code) b.instrs good b.instrs_are, frames_pass w Good test tested file c (declared_method file method) code b.frames own params frames b.frames_are)

  pub method_passes : (file : ClassFile) (c : ClassId) → test (typed 0 (base.Class c)) ≡ true → (method : MemberInfo) → MethodMentions (GoodMention Good) file method → (y : Method) → linked_method w file c method ≡ Some y
      → list_all test (types_of_method y) ≡ true
  method_passes file c own method k y e =
      let m = method_parts w file c method y e in
      let all : AllByRecursion Good (m.text.params ++ result_types m.text.result) = subst (λ o. AllByRecursion Good (types_of_text o)) m.text_is k.own in
      let in_params = all_front Good m.text.params (result_types m.text.result) all in
      let in_result = all_rest Good m.text.params (result_types m.text.result) all in
      let of_params = subst (λ o. AllByRecursion Good (params_of o)) (sym m.text_is) in_params in
      let body = body_passes file c method (code_attribute method) m.body own of_params k.code k.frames m.body_is in
      subst (λ x. list_all test (types_of_method x) ≡ true) (sym m.is)
      (parts_pass test m.params m.result m.body.code m.body.frames (types_pass w Good test tested m.text.params m.params in_params m.params_are) (result_passes w Good test tested m.text.result m.result in_result m.result_is) body.0 body.1)

  pub field_passes : (file : ClassFile) (c : ClassId) (field : MemberInfo) → GoodMention Good (OfField (member_descriptor file field)) → (y : Field) → linked_field w file c field ≡ Some y → test y.ty ≡ true
  field_passes file c field good y e =
      let f = field_parts w file c field y e in
      let one = subst (λ o. AllByRecursion Good (types_of_field o)) f.text_is good in
      subst (λ x. test x.ty ≡ true) (sym f.is) (tested.of_text f.text f.ty one.0 f.ty_is)
