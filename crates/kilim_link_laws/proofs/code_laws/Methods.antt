-- Methods are sound: a qualifier for each parameter, few argument slots, and no constructor pauses.
use Rattle.std.proofs.Common.{◌≡◌, ℕ, suc, ◌+◌, ◌≤◌, Bool, true, false, List, [], ◌∷◌, length, map, Option, Some, None, refl, ap, sym, subst, ◌∙◌, arith, sum_by}
use Rattle.std.specs.Prelude.{◌&&◌, ◌==◌, if◌then◌else◌}
use Rattle.std.specs.List.{list_all, AllByRecursion}
use Rattle.std.proofs.lemmas.Bool.{and_from, eq-eqb, le-leb, ltb-false, not_from_false}
use Rattle.std.proofs.lemmas.List.Folds.{list_all-append}
use Rattle.std.proofs.lemmas.List.Sums.{sum_by-cons}
use Rattle.std.proofs.lemmas.Option.{same_Some, none-some}
use Rattle.kilim_lemmas.proofs.Lists.{map_none}
use Rattle.kilim_class_file.specs.declared.class_file.ClassFile.{ClassFile}
use Rattle.kilim_class_file.specs.declared.class_file.MemberInfo.{MemberInfo}
use Rattle.kilim_class_descriptors.specs.declared.types.BaseText.{BaseText}
use Rattle.kilim_class_descriptors.specs.declared.types.BaseText.TheVariants as text
use Rattle.kilim_class_descriptors.specs.declared.types.FieldText.{FieldText}
use Rattle.kilim_class_descriptors.specs.declared.types.MethodText.{MethodText}
use Rattle.kilim_class_descriptors.specs.Text.{slots, slots_of, base_slots, is_wide}
use Rattle.kilim_program.specs.declared.class.Form.{Form}
use Rattle.kilim_program.specs.declared.class.Form.TheVariants.{Plain, Woven}
use Rattle.kilim_program.specs.declared.class.Method.{Method}
use Rattle.kilim_program.specs.declared.names.ClassId.{ClassId}
use Rattle.kilim_program.specs.declared.ty.Base.{Base}
use Rattle.kilim_program.specs.declared.ty.Base.TheVariants as base
use Rattle.kilim_program.specs.declared.ty.Ty.{Ty}
use Rattle.kilim_program.specs.BuiltIn.{built_in_methods_in}
use Rattle.kilim_program.specs.Keeps.{method_is_sound}
use Rattle.kilim_program.specs.Same.{argument_slots, type_slots, is_wide_base}
use Rattle.kilim_link_spec.specs.Faults.{no_descriptors, is_no_method, descriptor_broken}
use Rattle.kilim_link_spec.specs.declared.fault.Problem.TheVariants as problem
use Rattle.kilim_link_spec.specs.Laws.{LinkedInParts, NoProblem, NoneHasAProblem, NoneOfEachKind}
use Rattle.kilim_link_spec.specs.Linked.{linked_method, method_with}
use Rattle.kilim_link_spec.specs.Mentions.{mentions_of, this_slots}
use Rattle.kilim_link_spec.specs.declared.named.Mention.{Mention}
use Rattle.kilim_link_spec.specs.Qualified.{qualified, params_by, behind_first, params_of, is_constructor_name}
use Rattle.kilim_link_spec.specs.Types.{method_text, type_in, types_in, base_in, typed, each_of}
use Rattle.kilim_link_spec.specs.World.{World, world_of, declared_method, member_descriptor, member_name, parameter_types}
use Rattle.kilim_link_laws.proofs.code_laws.Files.{each_without, each_file_map}
use Rattle.kilim_link_laws.proofs.code_laws.LeftOut.{nothing_left_out}
use Rattle.kilim_link_laws.proofs.code_laws.Lists.{first_and, each_of_length, all_map, all_both, members_pass}
use Rattle.kilim_link_laws.proofs.code_laws.Members.{method_parts}
use Rattle.kilim_link_laws.proofs.code_laws.Mentions.{MethodMentions, file_mentions}
use Rattle.kilim_link_laws.proofs.code_laws.Nothing.{flat_map_none, none_any}
use Rattle.kilim_link_laws.proofs.code_laws.Rows.{mapped}
use Rattle.kilim_link_laws.specs.code_laws.Facts.{MethodsAreSound}

-- ---- argument slots

same_width : (w : World) (b : BaseText) (y : Base) → base_in w b ≡ Some y → is_wide_base y ≡ is_wide b
same_width w text.Bool y e = ap is_wide_base (sym (same_Some base.Bool y e))
same_width w text.Byte y e = ap is_wide_base (sym (same_Some base.Byte y e))
same_width w text.Char y e = ap is_wide_base (sym (same_Some base.Char y e))
same_width w text.Short y e = ap is_wide_base (sym (same_Some base.Short y e))
same_width w text.Int y e = ap is_wide_base (sym (same_Some base.Int y e))
same_width w text.Long y e = ap is_wide_base (sym (same_Some base.Long y e))
same_width w text.Float y e = absurd (none-some y e)
same_width w text.Double y e = absurd (none-some y e)
same_width w (text.Class name) y e = ap is_wide_base (sym (mapped base.Class _ y e).is)

same_slots_by : (flat wide : Bool) → (if flat && wide then 2 else 1) ≡ (if flat then base_slots wide else 1)
same_slots_by true true = refl
same_slots_by true false = refl
same_slots_by false wide = refl

same_slots : (w : World) (f : FieldText) (ty : Ty) → type_in w f ≡ Some ty → type_slots ty ≡ slots f
same_slots w f ty e =
    let m = mapped (typed f.dims) (base_in w f.base) ty e in
    ap type_slots (sym m.is) ∙ (ap (λ (b : Bool). if f.dims == 0 && b then 2 else 1) (same_width w f.base m.x m.there) ∙ same_slots_by (f.dims == 0) (is_wide f.base))

same_sum : (w : World) (fs : List FieldText) (tys : List Ty) → each_of (type_in w) fs ≡ Some tys → sum_by type_slots tys ≡ sum_by slots fs
same_sum w [] tys e = ap (sum_by type_slots) (sym (same_Some [] tys e))
same_sum w (f ∷ fs) tys e =
    let g = first_and (type_in w f) (each_of (type_in w) fs) tys e in
    ap (sum_by type_slots) g.is
    ∙ (sum_by-cons type_slots g.x g.xs
    ∙ (ap (λ (n : ℕ). n + sum_by type_slots g.xs) (same_slots w f g.x g.first_is)
    ∙ (ap (λ (n : ℕ). slots f + n) (same_sum w fs g.xs g.others_are) ∙ sym (sum_by-cons slots f fs))))

some_method : (n : ℕ) (o : Option MethodText) (m : MethodText) → o ≡ Some m → is_no_method n o ≡ false → n + slots_of m ≤ 255
some_method n None m e h = absurd (none-some m e)
some_method n (Some x) m e h = subst (λ (y : MethodText). n + slots_of y ≤ 255) (same_Some x m e) (ltb-false 255 (n + slots_of x) h)

fits_by : (test : Bool) (x : List ℕ) → (if test then x ∷ [] else []) ≡ [] → test ≡ false
fits_by true x e = absurd (cc)
fits_by false x e = refl

-- ---- qualifiers

one_each : (w : World) (fs : List FieldText) (attributes : List (List (List (List ℕ)))) → length (params_by w fs attributes) ≡ length fs
one_each w [] attributes = refl
one_each w (f ∷ fs) attributes = ap suc (one_each w fs (map behind_first attributes))

-- ---- of a linked method

abbrev NoBadDescriptor : Mention → Type 0
NoBadDescriptor m = no_descriptors m ≡ []

-- what is known of a method where there is no fault
record Known (file : ClassFile) (method : MemberInfo) : Type 0 where
  mentions : MethodMentions NoBadDescriptor file method
  no_pausing : (is_constructor_name (member_name file method) && (declared_method file method).pausable) ≡ false

qualifiers_fit : (w : World) (file : ClassFile) (c : ClassId) (method : MemberInfo) (text : MethodText) → method_text (member_descriptor file method) ≡ Some text → length (qualified w c (declared_method file method)).params ≡ length text.params
unfolding qualified
qualifiers_fit w file c method text e =
    one_each w (params_of (method_text (member_descriptor file method))) (parameter_types file.constant_pool method) ∙ ap (λ (o : Option MethodText). length (params_of o)) e

slots_fit : (w : World) (file : ClassFile) (method : MemberInfo) (text : MethodText) (params : List Ty) → method_text (member_descriptor file method) ≡ Some text → types_in w text.params ≡ Some params
    → MethodMentions NoBadDescriptor file method → this_slots method + sum_by type_slots params ≤ 255
slots_fit w file method text params there are mentions =
    let few = some_method (this_slots method) (method_text (member_descriptor file method)) text there (fits_by _ (member_descriptor file method) mentions.own) in
    omega (arith, few, same_sum w text.params params are)

method_sound : (w : World) (file : ClassFile) (c : ClassId) (method : MemberInfo) → Known file method → (y : Method) → linked_method w file c method ≡ Some y → method_is_sound y ≡ true
unfolding method_is_sound
method_sound w file c method known y e =
    let m = method_parts w file c method y e in
    let made = method_with w file c method m.params m.result m.body in
    let one : length made.qualifiers ≡ length made.params = qualifiers_fit w file c method m.text m.text_is ∙ sym (each_of_length (type_in w) m.text.params m.params m.params_are) in
    let few : argument_slots made ≤ 255 = slots_fit w file method m.text m.params m.text_is m.params_are known.mentions in
    subst (λ x. method_is_sound x ≡ true) (sym m.is)
    (and_from _ _ (eq-eqb (length made.qualifiers) (length made.params) one) (and_from _ _ (le-leb (argument_slots made) 255 few) (not_from_false _ known.no_pausing)))

known_methods : (w : World) (file : ClassFile) (c : ClassId) → NoProblem w file c → AllByRecursion (Known file) file.methods
unfolding descriptor_broken
known_methods w file c none =
    let descriptors = file_mentions NoBadDescriptor file (flat_map_none no_descriptors (mentions_of file) (map_none problem.Descriptor _ none.descriptors_are_whole)) in
    let pausing = none_any (λ m. is_constructor_name (member_name file m) && (declared_method file m).pausable) file.methods (nothing_left_out w file c none.none_left_out).pausable_constructor in
    all_both (MethodMentions NoBadDescriptor file) _ (Known file) (λ m mentions no_pausing. record { mentions = mentions; no_pausing = no_pausing }) file.methods descriptors.methods pausing

built_in_sound : (form : Form) (n : ℕ) → list_all method_is_sound (built_in_methods_in form n) ≡ true
unfolding method_is_sound
built_in_sound Plain n = refl
built_in_sound Woven n = refl

module _ (in_parts : LinkedInParts) (none_has : NoneHasAProblem) (of_each_kind : NoneOfEachKind) where
  pub methods_are_sound : MethodsAreSound
  methods_are_sound files form p l =
      let parts = in_parts files form p l.linked in
      let w = world_of files form in
      let none = each_without of_each_kind w 0 files (none_has files form l.none) in
      let each = each_file_map (NoProblem w) _ (λ file c no_problem. all_map (Known file) _ (method_sound w file c) file.methods (known_methods w file c no_problem)) 0 files none in
      let own = members_pass method_is_sound (λ file. file.methods) (linked_method w) 0 files parts.methods each parts.methods_are in
      subst (λ q. list_all method_is_sound q.methods ≡ true) (sym parts.is)
      (list_all-append method_is_sound parts.methods (built_in_methods_in form (length files)) ∙ and_from _ _ own (built_in_sound form (length files)))
