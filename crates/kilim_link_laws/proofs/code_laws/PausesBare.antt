-- No linked method that pauses has an exception table, since class files with one are left out.
use Rattle.std.proofs.Common.{◌≡◌, ℕ, Bool, true, false, true≢false, not, ◌&&◌, ◌||◌, List, [], ◌∷◌, length, slice_get, Option, Some, None, refl, sym, ap, ◌∙◌}
use Rattle.std.specs.List.{list_all}
use Rattle.std.proofs.lemmas.Bool.{and_from}
use Rattle.std.proofs.lemmas.List.Folds.{list_all-append}
use Rattle.std.proofs.lemmas.Option.{same_Some}
use Rattle.kilim_class_attributes.specs.declared.attribute.Code.{Code}
use Rattle.kilim_class_file.specs.declared.class_file.ClassFile.{ClassFile}
use Rattle.kilim_class_file.specs.declared.class_file.MemberInfo.{MemberInfo}
use Rattle.kilim_program.specs.declared.class.Class.{Class}
use Rattle.kilim_program.specs.declared.class.Field.{Field}
use Rattle.kilim_program.specs.declared.class.Form.{Form}
use Rattle.kilim_program.specs.declared.class.Form.TheVariants.{Plain, Woven}
use Rattle.kilim_program.specs.declared.class.Handler.{Handler}
use Rattle.kilim_program.specs.declared.class.Method.{Method}
use Rattle.kilim_program.specs.declared.names.ClassId.{ClassId}
use Rattle.kilim_program.specs.BuiltIn.{built_in_methods_in, class_id}
use Rattle.kilim_program.specs.Handlers.{pauses_bare}
use Rattle.kilim_program.specs.Names.{is_empty}
use Rattle.kilim_link_spec.specs.Code.{code_of, decoded}
use Rattle.kilim_link_spec.specs.Frames.{frames_in}
use Rattle.kilim_link_spec.specs.Laws.{LinkedInParts, NoneHasAProblem, NoneOfEachKind}
use Rattle.kilim_link_spec.specs.LeftOut.{has_row}
use Rattle.kilim_link_spec.specs.Linked.{body_in, body_with, code_attribute, handlers_in, linked_method, no_body, program_with}
use Rattle.kilim_link_spec.specs.declared.named.Body.{Body}
use Rattle.kilim_link_spec.specs.World.{World, declared_method, world_of}
use Rattle.kilim_link_laws.specs.code_laws.Facts.{NonePausesWithTable}
use Rattle.kilim_link_laws.proofs.LeftOut.{nothing_left_out}
use Rattle.kilim_link_laws.proofs.LinkedMembers.{LinkedMethod, bound, linked_method_is}
use Rattle.kilim_link_laws.proofs.Linking.{Linking, linking}
use Rattle.kilim_link_laws.proofs.Lists.{all_by_places, none_at}
use Rattle.kilim_link_laws.proofs.Members.{member_made}

nothing_in : {A : Type 0} (xs : List A) → not (is_empty xs) ≡ false → xs ≡ []
nothing_in [] e = refl
nothing_in (x ∷ xs) e = absurd (cc)

no_rows : (w : World) (file : ClassFile) (c : ClassId) (member : MemberInfo) (o : Option Code) (body : Body) → body_in w file c member o ≡ Some body → has_row o ≡ false → body.handlers ≡ []
no_rows w file c member None body made e = ap (λ (b : Body). b.handlers) (sym (same_Some no_body body made))
no_rows w file c member (Some code) body made e =
    let instrs = bound (code_of w file.constant_pool (decoded code.code)) _ body made in
    let handlers = bound (handlers_in w file.constant_pool code.exception_table) _ body instrs.is in
    let frames = bound (frames_in w file c (declared_method file member) code) _ body handlers.is in
    let table = nothing_in code.exception_table e in
    let none : Some [] ≡ Some handlers.of = sym (ap (handlers_in w file.constant_pool) table) ∙ handlers.at in
    ap (λ (b : Body). b.handlers) (sym (same_Some (body_with code instrs.of handlers.of frames.of) body frames.is)) ∙ sym (same_Some [] handlers.of none)

-- it doesn't pause, or there is no row
bare_by : (row pauses : Bool) (hs : List Handler) → (row && pauses) ≡ false → (row ≡ false → hs ≡ []) → (not pauses || is_empty hs) ≡ true
bare_by true true hs e none = absurd (true≢false e)
bare_by true false hs e none = refl
bare_by false true hs e none = ap is_empty (none refl)
bare_by false false hs e none = refl

built_in_bare : (form : Form) (n : ℕ) → list_all pauses_bare (built_in_methods_in form n) ≡ true
built_in_bare Plain n = refl
built_in_bare Woven n = refl

module _ (files : List ClassFile) (form : Form) (classes : List Class) (fields : List Field) (methods : List Method) (l : Linking files form classes fields methods) where
  abbrev w : World
  w = world_of files form

  method_bare : (c i : ℕ) (file : ClassFile) (member : MemberInfo) (method : Method) → slice_get files c ≡ Some file → slice_get file.methods i ≡ Some member → LinkedMethod w file (class_id c) member method → pauses_bare method ≡ true
  method_bare c i file member method there inside made =
      let n = l.none c file there in
      let none = none_at (λ (m : MemberInfo). has_row (code_attribute m) && (declared_method file m).pausable) file.methods (nothing_left_out w file (class_id c) n).handlers i member inside in
      ap pauses_bare (sym made.is)
      ∙ bare_by (has_row (code_attribute member)) (declared_method file member).pausable made.body.handlers none (no_rows w file (class_id c) member (code_attribute member) made.body made.body_is)

  own_bare : list_all pauses_bare methods ≡ true
  own_bare = all_by_places pauses_bare methods (λ j method at.
      let m = member_made (λ file. file.methods) (linked_method w) files methods l.methods_are j method at in
      method_bare m.class m.place m.file m.member method m.file_at m.member_at (linked_method_is w m.file (class_id m.class) m.member method m.made))

  all_bare : list_all pauses_bare (program_with files form classes fields methods).methods ≡ true
  all_bare = list_all-append pauses_bare methods (built_in_methods_in form (length files)) ∙ and_from _ _ own_bare (built_in_bare form (length files))

module _ (in_parts : LinkedInParts) (none_has : NoneHasAProblem) (of_each : NoneOfEachKind) where
  pub none_pauses_with_table : NonePausesWithTable
  none_pauses_with_table files form p well = linking in_parts none_has of_each (λ q. list_all pauses_bare q.methods ≡ true) files form p well (all_bare files form)
