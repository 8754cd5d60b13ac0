-- There is no array of tasks in a linked program.
use Rattle.std.proofs.Common.{◌≡◌, ℕ, zero, suc, ◌+◌, Bool, true, false, List, [], ◌++◌, length, map, Option, Some, None, refl, ap, sym, subst, ◌∙◌, slice_get, arith, codes, bytes_eq}
use Rattle.std.specs.Prelude.{◌&&◌, not, nat_lt}
use Rattle.std.specs.List.{list_all, list_any, flat_map, AllByRecursion}
use Rattle.std.proofs.lemmas.Bool.{and_from, false≢true, not_from_false, or_from}
use Rattle.std.proofs.lemmas.List.Folds.{list_all-append, list_all-map}
use Rattle.std.proofs.lemmas.Option.{same_Some, none-some}
use Rattle.kilim_lemmas.proofs.Lists.{get_right}
use Rattle.kilim_class_file.specs.declared.class_file.ClassFile.{ClassFile}
use Rattle.kilim_class_descriptors.specs.declared.types.BaseText.{BaseText}
use Rattle.kilim_class_descriptors.specs.declared.types.BaseText.TheVariants as text
use Rattle.kilim_class_descriptors.specs.declared.types.FieldText.{FieldText}
use Rattle.kilim_program.specs.declared.class.Class.{Class}
use Rattle.kilim_program.specs.declared.class.Field.{Field}
use Rattle.kilim_program.specs.declared.class.Form.{Form}
use Rattle.kilim_program.specs.declared.class.Form.TheVariants.{Plain, Woven}
use Rattle.kilim_program.specs.declared.class.Method.{Method}
use Rattle.kilim_program.specs.declared.names.ClassId.{ClassId}
use Rattle.kilim_program.specs.declared.ty.Base.{Base}
use Rattle.kilim_program.specs.declared.ty.Base.TheVariants as base
use Rattle.kilim_program.specs.declared.ty.Ty.{Ty}
use Rattle.kilim_program.specs.BuiltIn.{class_id, built_in_classes_in, built_in_methods_in}
use Rattle.kilim_program.specs.Keeps.{no_task_arrays, types_of_method}
use Rattle.kilim_program.specs.Kinds.{is_task_array, is_task_base}
use Rattle.kilim_program.specs.Lengths.{is_primitive}
use Rattle.kilim_program.specs.Names.{◌>>=◌, class_at, is_named_task, is_task, line_up_to}
use Rattle.kilim_program.specs.Program.{Program}
use Rattle.kilim_link_spec.specs.Faults.{has_task_array, is_task_name, is_task_base as is_task_text}
use Rattle.kilim_link_spec.specs.Laws.{LinkedInParts, NoProblem, NoneHasAProblem, NoneOfEachKind}
use Rattle.kilim_link_spec.specs.Linked.{linked_class, linked_field, linked_method}
use Rattle.kilim_link_spec.specs.Mentions.{all_types as file_types, mentions_of, types_mentioned}
use Rattle.kilim_link_spec.specs.declared.named.Mention.TheVariants.{OfField}
use Rattle.kilim_link_spec.specs.Types.{base_in, type_in, typed}
use Rattle.kilim_link_spec.specs.World.{World, class_of, world_of, member_descriptor}
use Rattle.kilim_link_laws.proofs.code_laws.Files.{each_without, each_file_map}
use Rattle.kilim_link_laws.proofs.code_laws.LeftOut.{nothing_left_out}
use Rattle.kilim_link_laws.proofs.code_laws.Lists.{all_map, list_all_same, members_pass, made_length}
use Rattle.kilim_link_laws.proofs.code_laws.Mentions.{FileMentions, MethodMentions, file_mentions}
use Rattle.kilim_link_laws.proofs.code_laws.Nothing.{none_any, all_flat}
use Rattle.kilim_link_laws.proofs.code_laws.Rows.{mapped}
use Rattle.kilim_link_laws.proofs.code_laws.TestedMethods.{field_passes, method_passes}
use Rattle.kilim_link_laws.proofs.code_laws.TestedTypes.{GoodMention, Tested, flat_passes}
use Rattle.kilim_link_laws.specs.code_laws.Facts.{NoTaskArrays}

abbrev fits : Program → Ty → Bool
fits p ty = not (is_task_array p ty)

-- an array of tasks by its text
abbrev NoTasks : World → FieldText → Type 0
NoTasks w f = (nat_lt 0 f.dims && is_task_text w f.base) ≡ false

-- the tasks of the outline are those of the program
abbrev SameTasks : World → Program → Type 0
SameTasks w p = (c : ClassId) → is_task w.outline c ≡ is_task p c

module _ (w : World) (p : Program) (same : SameTasks w p) where
  same_text : (b : BaseText) (y : Base) → base_in w b ≡ Some y → is_task_base p y ≡ is_task_text w b
  same_text text.Bool y e = ap (is_task_base p) (sym (same_Some base.Bool y e))
  same_text text.Byte y e = ap (is_task_base p) (sym (same_Some base.Byte y e))
  same_text text.Char y e = ap (is_task_base p) (sym (same_Some base.Char y e))
  same_text text.Short y e = ap (is_task_base p) (sym (same_Some base.Short y e))
  same_text text.Int y e = ap (is_task_base p) (sym (same_Some base.Int y e))
  same_text text.Long y e = ap (is_task_base p) (sym (same_Some base.Long y e))
  same_text text.Float y e = absurd (none-some y e)
  same_text text.Double y e = absurd (none-some y e)
  same_text (text.Class name) y e =
      let m = mapped base.Class (class_of w name) y e in
      ap (is_task_base p) (sym m.is) ∙ (sym (same m.x) ∙ ap (is_task_name w) (sym m.there))

  text_fits : (f : FieldText) (ty : Ty) → NoTasks w f → type_in w f ≡ Some ty → fits p ty ≡ true
  text_fits f ty free e =
      let m = mapped (typed f.dims) (base_in w f.base) ty e in
      subst (λ t. fits p t ≡ true) m.is (not_from_false _ (ap (λ (t : Bool). nat_lt 0 f.dims && t) (same_text f.base m.x m.there) ∙ free))

  primitive_fits : (element : Base) → is_primitive element ≡ true → fits p (typed 1 element) ≡ true
  primitive_fits (base.Class c) e = absurd (false≢true e)
  primitive_fits b e = refl

  pub tested : Tested w (NoTasks w) (fits p)
  tested = record { of_text = text_fits; of_class = λ name c e. refl; of_primitive = primitive_fits }

  task_free : (file : ClassFile) → has_task_array w file ≡ false → AllByRecursion (GoodMention (NoTasks w)) (mentions_of file)
  unfolding file_types
  task_free file e = all_flat (NoTasks w) types_mentioned (mentions_of file) (none_any (λ f. nat_lt 0 f.dims && is_task_text w f.base) (file_types file) e)

  pub known_file : (file : ClassFile) (c : ClassId) → NoProblem w file c → FileMentions (GoodMention (NoTasks w)) file
  known_file file c none = file_mentions (GoodMention (NoTasks w)) file (task_free file (nothing_left_out w file c none.none_left_out).task_array)

-- ---- the built-in methods

abbrev task_by : (ClassId → Bool) → Base → Bool
task_by task (base.Class c) = task c
task_by task b = false

abbrev fits_by : (ClassId → Bool) → Ty → Bool
fits_by task ty = not (nat_lt 0 ty.dims && task_by task ty.base)

built_in_by : (form : Form) (n : ℕ) (task : ClassId → Bool) → task (class_id (n + 2)) ≡ false → list_all (λ m. list_all (fits_by task) (types_of_method m)) (built_in_methods_in form n) ≡ true
built_in_by Plain n task e = rw e refl
built_in_by Woven n task e = rw e refl

same_base : (p : Program) (b : Base) → task_by (is_task p) b ≡ is_task_base p b
same_base p (base.Class c) = refl
same_base p b = refl

same_fits : (p : Program) (ty : Ty) → fits_by (is_task p) ty ≡ fits p ty
same_fits p ty = ap (λ (b : Bool). not (nat_lt 0 ty.dims && b)) (same_base p ty.base)

built_in_fits : (p : Program) (form : Form) (n : ℕ) → is_task p (class_id (n + 2)) ≡ false → list_all (λ m. list_all (fits p) (types_of_method m)) (built_in_methods_in form n) ≡ true
built_in_fits p form n e =
    list_all_same (λ m. list_all (fits p) (types_of_method m)) (λ m. list_all (fits_by (is_task p)) (types_of_method m))
    (λ m. list_all_same (fits p) (fits_by (is_task p)) (λ ty. sym (same_fits p ty)) (types_of_method m)) (built_in_methods_in form n)
    ∙ built_in_by form n (is_task p) e

-- ---- `kilim/Message` is no task

abbrev above : Program → ℕ → Option ClassId → List ClassId
above p k o = elim o [ None ↦ [] | Some up ↦ line_up_to p k up ]

abbrev named_task : Option Class → Bool
named_task o = bytes_eq (elim o [ None ↦ [] | Some class ↦ class.name ]) (codes "kilim/Task")

abbrev superclass_at : Program → ClassId → Option ClassId
superclass_at p c = class_at p c >>= λ (class : Class). class.superclass

no_task_step : (p : Program) (k : ℕ) (c : ClassId) (o : Option ClassId) → superclass_at p c ≡ o → is_named_task p c ≡ false → list_any (is_named_task p) (above p k o) ≡ false → list_any (is_named_task p) (line_up_to p (suc k) c) ≡ false
no_task_step p k c o e named rest = or_from _ _ named (subst (λ q. list_any (is_named_task p) (above p k q) ≡ false) (sym e) rest)

no_task_top : (p : Program) (k : ℕ) (c : ClassId) → superclass_at p c ≡ None → is_named_task p c ≡ false → list_any (is_named_task p) (line_up_to p k c) ≡ false
no_task_top p zero c e named = refl
no_task_top p (suc k) c e named = no_task_step p k c None e named refl

no_task_below : (p : Program) (k : ℕ) (c up : ClassId) → superclass_at p c ≡ Some up → is_named_task p c ≡ false → superclass_at p up ≡ None → is_named_task p up ≡ false → list_any (is_named_task p) (line_up_to p k c) ≡ false
no_task_below p zero c up e named top top_named = refl
no_task_below p (suc k) c up e named top top_named = no_task_step p k c (Some up) e named (no_task_top p k up top top_named)

message_is_no_task : (p : Program) (classes : List Class) (form : Form) (n m : ℕ) → length classes ≡ n → p.classes ≡ classes ++ built_in_classes_in form n m → is_task p (class_id (n + 2)) ≡ false
message_is_no_task p classes form n m len are =
    let built = built_in_classes_in form n m in
    let message : class_at p (class_id (n + 2)) ≡ slice_get built 2 = ap (λ (cs : List Class). slice_get cs (n + 2)) are ∙ get_right classes built (n + 2) 2 (omega (arith, len)) in
    let object : class_at p (class_id n) ≡ slice_get built 0 = ap (λ (cs : List Class). slice_get cs n) are ∙ get_right classes built n 0 (omega (arith, len)) in
    no_task_below p (length p.classes) (class_id (n + 2)) (class_id n)
    (ap (λ (o : Option Class). o >>= λ (class : Class). class.superclass) message) (ap named_task message)
    (ap (λ (o : Option Class). o >>= λ (class : Class). class.superclass) object) (ap named_task object)

-- ---- all of it

module _ (in_parts : LinkedInParts) (none_has : NoneHasAProblem) (of_each_kind : NoneOfEachKind) where
  pub no_task_arrays_there : NoTaskArrays
  unfolding no_task_arrays
  no_task_arrays_there files form p l same =
      let parts = in_parts files form p l.linked in
      let w = world_of files form in
      let n = length files in
      let none = each_without of_each_kind w 0 files (none_has files form l.none) in
      let of_methods = each_file_map (NoProblem w) _ (λ file c no_problem. all_map (MethodMentions (GoodMention (NoTasks w)) file) _ (method_passes w (NoTasks w) (fits p) (tested w p same) file c refl) file.methods (known_file w p same file c no_problem).methods) 0 files none in
      let of_fields = each_file_map (NoProblem w) _ (λ file c no_problem. all_map (λ f. GoodMention (NoTasks w) (OfField (member_descriptor file f))) _ (field_passes w (NoTasks w) (fits p) (tested w p same) file c) file.fields (known_file w p same file c no_problem).fields) 0 files none in
      let method_test = λ (m : Method). list_all (fits p) (types_of_method m) in
      let field_test = λ (f : Field). fits p f.ty in
      let own_methods = members_pass method_test (λ file. file.methods) (linked_method w) 0 files parts.methods of_methods parts.methods_are in
      let own_fields = members_pass field_test (λ file. file.fields) (linked_field w) 0 files parts.fields of_fields parts.fields_are in
      let len = made_length (linked_class w) 0 files parts.classes parts.classes_are in
      let no_task = message_is_no_task p parts.classes form n (length parts.methods) len (ap (λ (q : Program). q.classes) parts.is) in
      let methods_fit : list_all method_test (parts.methods ++ built_in_methods_in form n) ≡ true = list_all-append method_test parts.methods (built_in_methods_in form n) ∙ and_from _ _ own_methods (built_in_fits p form n no_task) in
      let in_fields = list_all-map (fits p) (λ (f : Field). f.ty) p.fields ∙ (ap (list_all field_test) (ap (λ (q : Program). q.fields) parts.is) ∙ own_fields) in
      let in_methods = flat_passes (fits p) types_of_method p.methods (ap (list_all method_test) (ap (λ (q : Program). q.methods) parts.is) ∙ methods_fit) in
      list_all-append (fits p) (map (λ (f : Field). f.ty) p.fields) (flat_map types_of_method p.methods) ∙ and_from _ _ in_fields in_methods
