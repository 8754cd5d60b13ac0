-- The code of each linked method is whole.
use Rattle.std.proofs.Common.{◌≡◌, ℕ, Bool, true, List, length, Option, Some, None, Result, Ok, Err, refl, sym, subst, ◌∙◌}
use Rattle.std.specs.Prelude.{◌&&◌}
use Rattle.std.specs.List.{list_all}
use Rattle.std.proofs.lemmas.Bool.{and_from}
use Rattle.std.proofs.lemmas.List.Folds.{list_all-append}
use Rattle.std.proofs.lemmas.Option.{same_Some, none-some}
use Rattle.kilim_class_attributes.specs.declared.attribute.Code.{Code}
use Rattle.kilim_class_code.specs.declared.fault.CodeFault.{CodeFault}
use Rattle.kilim_class_code.specs.Code.{Placed}
use Rattle.kilim_class_code.specs.Exact.{TargetsArePlaces}
use Rattle.kilim_class_file.specs.declared.class_file.ClassFile.{ClassFile}
use Rattle.kilim_class_file.specs.declared.class_file.MemberInfo.{MemberInfo}
use Rattle.kilim_class_file.specs.Text.{ClassFits}
use Rattle.kilim_class_pool.specs.declared.entry.Entry.{Entry}
use Rattle.kilim_class_code.specs.opcodes.Exact.{OneSpelling, Lengths}
use Rattle.kilim_program.specs.declared.class.Form.{Form}
use Rattle.kilim_program.specs.declared.class.Form.TheVariants.{Plain, Woven}
use Rattle.kilim_program.specs.declared.class.Method.{Method}
use Rattle.kilim_program.specs.declared.instr.Instr.{Instr}
use Rattle.kilim_program.specs.declared.names.ClassId.{ClassId}
use Rattle.kilim_program.specs.BuiltIn.{built_in_methods_in}
use Rattle.kilim_program.specs.Keeps.{code_is_whole}
use Rattle.kilim_program.specs.Lengths.{code_stands, targets_stand, code_ends}
use Rattle.kilim_link_spec.specs.Code.{decoded, code_of, placed_in}
use Rattle.kilim_link_spec.specs.Laws.{LinkedInParts}
use Rattle.kilim_link_spec.specs.Linked.{body_in, no_body, code_attribute, linked_method}
use Rattle.kilim_link_spec.specs.declared.named.Body.{Body}
use Rattle.kilim_link_spec.specs.Types.{each_of}
use Rattle.kilim_link_spec.specs.World.{World, world_of}
use Rattle.kilim_link_laws.proofs.code_laws.Bytes.{CodeIsBytes, codes_are_bytes}
use Rattle.kilim_link_laws.proofs.code_laws.Codes.{code_stands_there}
use Rattle.kilim_link_laws.proofs.code_laws.Decoded.{decoded_stands}
use Rattle.kilim_link_laws.proofs.code_laws.Files.{each_file_of}
use Rattle.kilim_link_laws.proofs.code_laws.Lists.{all_map, members_pass}
use Rattle.kilim_link_laws.proofs.code_laws.Members.{body_parts, method_parts}
use Rattle.kilim_link_laws.specs.code_laws.Facts.{CodeIsWhole}

record CodeParts (w : World) (pool : List Entry) (r : Result (List Placed) CodeFault) (es : List (ℕ × Instr)) : Type 0 where
  code : List Placed
  there : r ≡ Ok code
  each : each_of (placed_in w pool) code ≡ Some es

code_parts : (w : World) (pool : List Entry) (r : Result (List Placed) CodeFault) (es : List (ℕ × Instr)) → code_of w pool r ≡ Some es → CodeParts w pool r es
code_parts w pool (Ok code) es e = record { code = code; there = refl; each = e }
code_parts w pool (Err fault) es e = absurd (none-some es e)

abbrev body_is_whole : Body → Bool
body_is_whole body = code_stands 0 body.code body.code_length && (targets_stand body.code && code_ends body.code)

nothing_is_whole : body_is_whole no_body ≡ true
unfolding code_stands targets_stand code_ends
nothing_is_whole = refl

built_in_whole : (form : Form) (n : ℕ) → list_all code_is_whole (built_in_methods_in form n) ≡ true
unfolding code_is_whole code_stands targets_stand code_ends
built_in_whole Plain n = refl
built_in_whole Woven n = refl

module _ (spelling : OneSpelling) (lengths : Lengths) (places : TargetsArePlaces) where
  whole_body : (w : World) (file : ClassFile) (c : ClassId) (method : MemberInfo) (code : Option Code) → CodeIsBytes code → (body : Body) → body_in w file c method code ≡ Some body → body_is_whole body ≡ true
  whole_body w file c method None are body e = subst (λ b. body_is_whole b ≡ true) (same_Some no_body body e) nothing_is_whole
  whole_body w file c method (Some code) are body e =
      let b = body_parts w file c method code body e in
      let parts = code_parts w file.constant_pool (decoded code.code) b.instrs b.instrs_are in
      let whole = decoded_stands spelling lengths code.code parts.code are parts.there in
      subst (λ x. body_is_whole x ≡ true) (sym b.is) (code_stands_there places w file.constant_pool (length code.code) parts.code b.instrs whole.is.stands whole.none parts.each)

  whole_method : (w : World) (file : ClassFile) (c : ClassId) (method : MemberInfo) → CodeIsBytes (code_attribute method) → (y : Method) → linked_method w file c method ≡ Some y → code_is_whole y ≡ true
  unfolding code_is_whole
  whole_method w file c method are y e =
      let m = method_parts w file c method y e in
      subst (λ x. code_is_whole x ≡ true) (sym m.is) (whole_body w file c method (code_attribute method) are m.body m.body_is)

  module _ (in_parts : LinkedInParts) where
    pub code_is_whole_there : CodeIsWhole
    code_is_whole_there files form p l =
        let parts = in_parts files form p l.linked in
        let w = world_of files form in
        let each = each_file_of ClassFits _ (λ file c fits. all_map (λ m. CodeIsBytes (code_attribute m)) _ (whole_method w file c) file.methods (codes_are_bytes file fits)) 0 files l.fit in
        let own = members_pass code_is_whole (λ file. file.methods) (linked_method w) 0 files parts.methods each parts.methods_are in
        subst (λ q. list_all code_is_whole q.methods ≡ true) (sym parts.is)
        (list_all-append code_is_whole parts.methods (built_in_methods_in form (length files)) ∙ and_from _ _ own (built_in_whole form (length files)))
