-- Fields hold what their class's kind allows.
use Rattle.std.proofs.Common.{◌≡◌, ℕ, ◌+◌, ◌<◌, Bool, true, false, not, ◌||◌, List, length, slice_get, Option, Some, None, codes, refl, sym, ap, ◌∙◌, lit<}
use Rattle.std.proofs.lemmas.Bool.{and_from, not-false}
use Rattle.kilim_lemmas.proofs.Lists.{map_none}
use Rattle.kilim_class_file.specs.declared.class_file.ClassFile.{ClassFile}
use Rattle.kilim_class_file.specs.declared.class_file.MemberInfo.{MemberInfo}
use Rattle.kilim_class_descriptors.specs.declared.types.FieldText.{FieldText}
use Rattle.kilim_program.specs.declared.class.Class.{Class}
use Rattle.kilim_program.specs.declared.class.Field.{Field}
use Rattle.kilim_program.specs.declared.class.Form.{Form}
use Rattle.kilim_program.specs.declared.class.Form.TheVariants.{Plain, Woven}
use Rattle.kilim_program.specs.declared.class.Method.{Method}
use Rattle.kilim_program.specs.declared.names.ClassId.{ClassId}
use Rattle.kilim_program.specs.declared.ty.Kind.{Kind}
use Rattle.kilim_program.specs.declared.ty.Kind.TheVariants.{Private, Value}
use Rattle.kilim_program.specs.Program.{Program}
use Rattle.kilim_program.specs.BuiltIn.{built_in_classes_in, class_id, class_type}
use Rattle.kilim_program.specs.Keeps.{fields_fit}
use Rattle.kilim_program.specs.Kinds.{class_kind, field_may_hold, is_private_kind, is_value_kind}
use Rattle.kilim_program.specs.Names.{◌>>=◌}
use Rattle.kilim_link_spec.specs.Faults.{field_kinds, may_hold}
use Rattle.kilim_link_spec.specs.Laws.{LinkedInParts, NoProblem, NoneHasAProblem, NoneOfEachKind}
use Rattle.kilim_link_spec.specs.Linked.{linked_field, program_with}
use Rattle.kilim_link_spec.specs.Types.{field_text, type_in}
use Rattle.kilim_link_spec.specs.World.{World, built_ins, member_descriptor, world_of}
use Rattle.kilim_link_laws.specs.Facts.{FieldsFit}
use Rattle.kilim_link_laws.proofs.LinkedMembers.{LinkedField, linked_field_is}
use Rattle.kilim_link_laws.proofs.Linking.{Linking, linking, none_passes}
use Rattle.kilim_link_laws.proofs.Lists.{all_by_places}
use Rattle.kilim_link_laws.proofs.Members.{member_made}
use Rattle.kilim_link_laws.proofs.Origins as origins

-- of a class without a problem each field fits
each_holds : (w : World) (file : ClassFile) (c : ClassId) → NoProblem w file c → (i : ℕ) (member : MemberInfo) → slice_get file.fields i ≡ Some member → may_hold w c (field_text (member_descriptor file member) >>= type_in w) ≡ true
unfolding field_kinds
each_holds w file c n i member there =
    not-false _ (none_passes (λ (f : MemberInfo). not (may_hold w c (field_text (member_descriptor file f) >>= type_in w))) file.fields (map_none _ _ n.fields_fit) i member there)

-- the kinds of `java/lang/Throwable` and of `java/lang/String`
many : (form : Form) → 7 < length (built_in_classes_in form 0 0)
many Plain = lit< tt
many Woven = lit< tt

some : (form : Form) → 1 < length (built_in_classes_in form 0 0)
some Plain = lit< tt
some Woven = lit< tt

private : (form : Form) → class_kind (built_ins form) (class_id 7) ≡ Private
private Plain = refl
private Woven = refl

a_value : (form : Form) → class_kind (built_ins form) (class_id 1) ≡ Value
a_value Plain = refl
a_value Woven = refl

module _ (files : List ClassFile) (form : Form) (classes : List Class) (fields : List Field) (methods : List Method) (l : Linking files form classes fields methods) where
  abbrev w : World
  w = world_of files form

  abbrev p : Program
  p = program_with files form classes fields methods

  abbrev fits : Field → Bool
  fits f = field_may_hold p (class_kind p f.owner) f.ty

  field_fits : (c i : ℕ) (file : ClassFile) (member : MemberInfo) (field : Field) → slice_get files c ≡ Some file → slice_get file.fields i ≡ Some member → LinkedField w file (class_id c) member field → fits field ≡ true
  field_fits c i file member field there inside f =
      let a = origins.agree files form classes fields methods l in
      let holds = each_holds w file (class_id c) (l.none c file there) i member inside in
      let read : (field_text (member_descriptor file member) >>= type_in w) ≡ Some f.ty = ap (λ (t : Option FieldText). t >>= type_in w) f.text_is ∙ f.ty_is in
      ap fits (sym f.is)
      ∙ (ap (λ (k : Kind). field_may_hold p k f.ty) (sym (a.class_kinds (class_id c)))
      ∙ (sym (a.may_hold (class_kind w.outline (class_id c)) f.ty)
      ∙ (ap (may_hold w (class_id c)) (sym read) ∙ holds)))

  -- an exception may hold a string
  first_fits : fits (record { name = codes "message"; ty = class_type (length files + 1); owner = class_id (length files + 7); is_static = false; is_private = true; constant = None }) ≡ true
  first_fits =
      ap (λ (k : Kind). field_may_hold p k (class_type (length files + 1))) (origins.kind_shifted files form classes fields methods l 7 (many form) ∙ private form)
      ∙ ap (λ (k : Kind). is_value_kind k || is_private_kind k) (origins.kind_shifted files form classes fields methods l 1 (some form) ∙ a_value form)

  pub fit : fields_fit p ≡ true
  unfolding fields_fit
  fit = and_from _ _ first_fits (all_by_places fits fields (λ j field at.
      let m = member_made (λ file. file.fields) (linked_field w) files fields l.fields_are j field at in
      field_fits m.class m.place m.file m.member field m.file_at m.member_at (linked_field_is w m.file (class_id m.class) m.member field m.made)))

module _ (in_parts : LinkedInParts) (none_has : NoneHasAProblem) (of_each : NoneOfEachKind) where
  pub fields_fit_of : FieldsFit
  fields_fit_of files form p well = linking in_parts none_has of_each (λ q. fields_fit q ≡ true) files form p well (fit files form)
