-- A static field has a constant of its type.
use Rattle.std.proofs.Common.{◌≡◌, ℕ, Bool, true, false, List, Option, Some, None, refl, ap, sym, subst, ◌∙◌, codes}
use Rattle.std.specs.Prelude.{◌&&◌, ◌||◌, ◌==◌, not, if◌then◌else◌}
use Rattle.std.specs.List.{list_all, AllByRecursion}
use Rattle.std.specs.Str.{bytes_eq}
use Rattle.kilim_class_file.specs.declared.class_file.ClassFile.{ClassFile}
use Rattle.kilim_class_file.specs.declared.class_file.MemberInfo.{MemberInfo}
use Rattle.kilim_program.specs.declared.class.Field.{Field}
use Rattle.kilim_program.specs.declared.names.ClassId.{ClassId}
use Rattle.kilim_program.specs.declared.ty.Base.{Base}
use Rattle.kilim_program.specs.declared.ty.Base.TheVariants as base
use Rattle.kilim_program.specs.declared.ty.Ty.{Ty}
use Rattle.kilim_program.specs.declared.value.Value.{Value}
use Rattle.kilim_program.specs.declared.value.Value.TheVariants.{Text}
use Rattle.kilim_program.specs.Keeps.{constant_fits, constants_fit, is_string_base}
use Rattle.kilim_program.specs.Names.{◌>>=◌, class_name}
use Rattle.kilim_program.specs.Program.{Program}
use Rattle.kilim_link_spec.specs.Faults.{has_its_constant}
use Rattle.kilim_link_spec.specs.Laws.{LinkedInParts, NoProblem, NoneHasAProblem, NoneOfEachKind}
use Rattle.kilim_link_spec.specs.Linked.{linked_field, constant_of}
use Rattle.kilim_link_spec.specs.Types.{field_text, type_in}
use Rattle.kilim_link_spec.specs.World.{World, world_of, member_descriptor, has_flag, acc_static}
use Rattle.kilim_link_laws.proofs.code_laws.ClassNames.{same_class_name}
use Rattle.kilim_link_laws.proofs.code_laws.Files.{each_without, each_file_map}
use Rattle.kilim_link_laws.proofs.code_laws.LeftOut.{nothing_left_out}
use Rattle.kilim_link_laws.proofs.code_laws.Lists.{all_map, members_pass}
use Rattle.kilim_link_laws.proofs.code_laws.Members.{field_parts}
use Rattle.kilim_link_laws.proofs.code_laws.Nothing.{none_any}
use Rattle.kilim_link_laws.specs.code_laws.Facts.{ConstantsFit}

-- ---- in programs with the same names

same_string : (q p : Program) → ((c : ClassId) → class_name q c ≡ class_name p c) → (b : Base) → is_string_base q b ≡ is_string_base p b
same_string q p same (base.Class c) = ap (λ (name : List ℕ). bytes_eq name (codes "java/lang/String")) (same c)
same_string q p same b = refl

same_constant : (q p : Program) → ((c : ClassId) → class_name q c ≡ class_name p c) → (ty : Ty) (v : Option Value) → constant_fits q ty v ≡ constant_fits p ty v
same_constant q p same ty (Some (Text units)) = ap (λ (b : Bool). ty.dims == 0 && b) (same_string q p same ty.base)
same_constant q p same ty v = refl

-- ---- of a linked field

passes_by : (static fits : Bool) (v : Option Value) (test : Option Value → Bool) → (static && not fits) ≡ false → test v ≡ fits → (not static || test (if static then v else None)) ≡ true
passes_by false fits v test e same = refl
passes_by true true v test e same = same
passes_by true false v test e same = absurd (cc)

abbrev HasConstant : World → ClassFile → MemberInfo → Type 0
HasConstant w file f = (has_flag acc_static f.access_flags && not (has_its_constant w file f (field_text (member_descriptor file f) >>= type_in w))) ≡ false

field_fits : (w : World) (p : Program) → ((c : ClassId) → class_name w.outline c ≡ class_name p c) → (file : ClassFile) (c : ClassId) (field : MemberInfo) → HasConstant w file field → (y : Field) → linked_field w file c field ≡ Some y
    → (not y.is_static || constant_fits p y.ty y.constant) ≡ true
field_fits w p same file c field has y e =
    let f = field_parts w file c field y e in
    let constant = constant_of file.constant_pool field in
    let found : (field_text (member_descriptor file field) >>= type_in w) ≡ Some f.ty = ap (λ o. o >>= type_in w) f.text_is ∙ f.ty_is in
    let has_it : has_its_constant w file field (field_text (member_descriptor file field) >>= type_in w) ≡ constant_fits w.outline f.ty constant = ap (has_its_constant w file field) found in
    subst (λ x. (not x.is_static || constant_fits p x.ty x.constant) ≡ true) (sym f.is)
    (passes_by (has_flag acc_static field.access_flags) _ constant (constant_fits p f.ty) has (sym (same_constant w.outline p same f.ty constant) ∙ sym has_it))

known_fields : (w : World) (file : ClassFile) (c : ClassId) → NoProblem w file c → AllByRecursion (HasConstant w file) file.fields
known_fields w file c none = none_any _ file.fields (nothing_left_out w file c none.none_left_out).static_field

module _ (in_parts : LinkedInParts) (none_has : NoneHasAProblem) (of_each_kind : NoneOfEachKind) where
  pub constants_fit_there : ConstantsFit
  unfolding constants_fit
  constants_fit_there files form p l =
      let parts = in_parts files form p l.linked in
      let w = world_of files form in
      let none = each_without of_each_kind w 0 files (none_has files form l.none) in
      let same = same_class_name files form p parts in
      let each = each_file_map (NoProblem w) _ (λ file c no_problem. all_map (HasConstant w file) _ (field_fits w p same file c) file.fields (known_fields w file c no_problem)) 0 files none in
      let test = λ (f : Field). not f.is_static || constant_fits p f.ty f.constant in
      let own = members_pass test (λ file. file.fields) (linked_field w) 0 files parts.fields each parts.fields_are in
      subst (λ fields. list_all test fields ≡ true) (ap (λ (q : Program). q.fields) (sym parts.is)) own
