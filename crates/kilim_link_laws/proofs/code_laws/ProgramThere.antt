-- Where there is no fault there is a program.
use Rattle.std.proofs.Common.{◌≡◌, Bool, false, ◌||◌, not, List, [], ◌∷◌, Option, Some, None, refl, ap, sym, subst}
use Rattle.std.proofs.lemmas.Bool.{or_parts}
use Rattle.std.specs.List.{flat_map, filter_map, cons_option, AllByRecursion}
use Rattle.kilim_lemmas.proofs.Lists.{map_none}
use Rattle.kilim_class_attributes.specs.declared.attribute.Code.{Code}
use Rattle.kilim_class_code.specs.Code.{Placed}
use Rattle.kilim_class_code.specs.Exact.{TargetsArePlaces}
use Rattle.kilim_class_file.specs.declared.class_file.ClassFile.{ClassFile}
use Rattle.kilim_class_file.specs.declared.class_file.MemberInfo.{MemberInfo}
use Rattle.kilim_class_descriptors.specs.declared.types.FieldText.{FieldText}
use Rattle.kilim_program.specs.declared.class.Class.{Class}
use Rattle.kilim_program.specs.declared.class.Field.{Field}
use Rattle.kilim_program.specs.declared.class.Form.{Form}
use Rattle.kilim_program.specs.declared.class.Method.{Method}
use Rattle.kilim_program.specs.declared.names.ClassId.{ClassId}
use Rattle.kilim_program.specs.declared.ty.Ty.{Ty}
use Rattle.kilim_program.specs.Names.{◌>>=◌}
use Rattle.kilim_link_spec.specs.Faults.{bad_rows, begins_as_array, handler_faults, is_bad_row, row_faults, row_stands, code_broken, code_fault, code_faults, decoded_in, is_no_member, left_out_op, member_missing}
use Rattle.kilim_link_spec.specs.Laws.{NoProblem, NoneHasAProblem, NoneOfEachKind}
use Rattle.kilim_link_spec.specs.Linked.{body_in, code_attribute, linked_class, linked_field, linked_method, method_with, field_with, members, numbered, program_of, program_with}
use Rattle.kilim_link_spec.specs.declared.named.Body.{Body}
use Rattle.kilim_link_spec.specs.Mentions.{this_slots, members_named, members_of_operand, operand_of, instrs_of, rows_if}
use Rattle.kilim_link_spec.specs.declared.named.Member.{Member}
use Rattle.kilim_link_spec.specs.declared.named.Mention.TheVariants.{OfField}
use Rattle.kilim_link_spec.specs.Qualified.{params_of}
use Rattle.kilim_link_spec.specs.Types.{each_of, itself, field_text, method_text, type_in, types_in, result_in}
use Rattle.kilim_link_spec.specs.World.{World, world_of, class_of, class_text, super_name, member_descriptor}
use Rattle.kilim_link_laws.proofs.code_laws.CodeThere.{KnownCode, NoArray, body_there}
use Rattle.kilim_link_laws.proofs.code_laws.Files.{each_without, each_file_map}
use Rattle.kilim_link_laws.proofs.code_laws.Good.{Good, good_mentions}
use Rattle.kilim_link_laws.proofs.code_laws.InstrsThere.{MembersThere}
use Rattle.kilim_link_laws.proofs.code_laws.LeftOut.{nothing_left_out}
use Rattle.kilim_link_laws.proofs.code_laws.Lists.{EachFile, all_both, all_map}
use Rattle.kilim_link_laws.proofs.code_laws.Mentions.{FileMentions, MethodMentions, file_mentions}
use Rattle.kilim_link_laws.proofs.code_laws.Nothing.{flat_map_none, filter_none, all_flat, no_numbers}
use Rattle.kilim_link_laws.proofs.code_laws.There.{There, there, same_there, next_there, AllThere, classes_there, members_there}
use Rattle.kilim_link_laws.proofs.code_laws.TypesThere.{field_there, method_there}
use Rattle.kilim_link_laws.specs.code_laws.Facts.{NoFaultLinks}

-- ---- what is known of a method

kept_none : {B : Type 0} (y : Option B) (ys : List B) → cons_option y ys ≡ [] → (y ≡ None) × (ys ≡ [])
kept_none None ys e = (refl, e)
kept_none (Some y) ys e = absurd (cc)

filter_map_none : {A B : Type 0} (f : A → Option B) (xs : List A) → filter_map f xs ≡ [] → AllByRecursion (λ x. f x ≡ None) xs
filter_map_none f [] e = tt
filter_map_none f (x ∷ xs) e = let k = kept_none (f x) (filter_map f xs) e in (k.0, filter_map_none f xs k.1)

abbrev Members : World → ClassFile → MemberInfo → Type 0
Members w file m = AllByRecursion (λ (p : Placed). MembersThere w (operand_of file.constant_pool p.1)) (instrs_of m)

abbrev Decoded : ClassFile → MemberInfo → Type 0
Decoded file m = AllByRecursion (λ r. code_fault file.constant_pool r ≡ None) (decoded_in (code_attribute m))

abbrev NotLeftOut : MemberInfo → Type 0
NotLeftOut m = AllByRecursion (λ r. left_out_op r ≡ None) (decoded_in (code_attribute m))

record Known (w : World) (file : ClassFile) (m : MemberInfo) : Type 0 where
  mentions : MethodMentions (Good w) file m
  code : KnownCode w file (code_attribute m)

all_members : (w : World) (file : ClassFile) (c : ClassId) → NoProblem w file c → AllByRecursion (Members w file) file.methods
unfolding member_missing members_named
all_members w file c none =
    let Passes = λ (m : Member). is_no_member w m ≡ false in
    let of_instr = λ (p : Placed). members_of_operand (operand_of file.constant_pool p.1) in
    let of_method = λ (m : MemberInfo). flat_map of_instr (instrs_of m) in
    let all = filter_none (is_no_member w) (members_named file) (map_none _ _ none.no_member_missing) in
    all_map (λ m. AllByRecursion Passes (of_method m)) (Members w file) (λ m each. all_flat Passes of_instr (instrs_of m) each) file.methods (all_flat Passes of_method file.methods all)

all_decoded : (w : World) (file : ClassFile) (c : ClassId) → NoProblem w file c → AllByRecursion (Decoded file) file.methods
unfolding code_broken
all_decoded w file c none =
    all_map (λ m. code_faults file m ≡ []) (Decoded file) (λ m e. filter_map_none (code_fault file.constant_pool) (decoded_in (code_attribute m)) (map_none _ _ e)) file.methods (flat_map_none (code_faults file) file.methods none.code_is_whole)

all_not_left : (w : World) (file : ClassFile) (c : ClassId) → NoProblem w file c → AllByRecursion NotLeftOut file.methods
all_not_left w file c none =
    let of_method = λ (m : MemberInfo). decoded_in (code_attribute m) in
    all_flat (λ r. left_out_op r ≡ None) of_method file.methods (filter_map_none left_out_op (flat_map of_method file.methods) (nothing_left_out w file c none.none_left_out).ops)

or_last : (x y : Bool) → (x || y) ≡ false → y ≡ false
or_last x y e = (or_parts x y e).1

no_array : (file : ClassFile) (m : MemberInfo) (o : Option Code) → bad_rows file.constant_pool (instrs_of m) o ≡ [] → AllByRecursion (NoArray file) (rows_if o)
no_array file m None e = tt
no_array file m (Some code) e =
    let pool = file.constant_pool in
    let bad = is_bad_row pool code (instrs_of m) in
    all_map (λ row. bad row ≡ false) (NoArray file) (λ row b. or_last (not (row_stands code (instrs_of m) row)) (begins_as_array (class_text pool row.catch_type)) b) code.exception_table (no_numbers bad 0 code.exception_table e)

all_no_arrays : (w : World) (file : ClassFile) (c : ClassId) → NoProblem w file c → AllByRecursion (λ m. AllByRecursion (NoArray file) (rows_if (code_attribute m))) file.methods
unfolding handler_faults
all_no_arrays w file c none =
    all_map (λ m. row_faults file m ≡ []) (λ m. AllByRecursion (NoArray file) (rows_if (code_attribute m))) (λ m e. no_array file m (code_attribute m) (map_none _ _ e)) file.methods
    (flat_map_none (row_faults file) file.methods none.tables_stand)

known_methods : (w : World) (file : ClassFile) (c : ClassId) → NoProblem w file c → FileMentions (Good w) file → AllByRecursion (Known w file) file.methods
known_methods w file c none mentions =
    let NoArrays = λ (m : MemberInfo). AllByRecursion (NoArray file) (rows_if (code_attribute m)) in
    let sound = all_both (Decoded file) NotLeftOut (λ m. NoArrays m → MethodMentions (Good w) file m → Members w file m → Known w file m)
    (λ m d n a mentioned named. record { mentions = mentioned; code = record { mentions = mentioned.code; members = named; rows = mentioned.rows; no_arrays = a; frames = mentioned.frames; faults = d; left_out = n } })
    file.methods (all_decoded w file c none) (all_not_left w file c none) in
    let both = all_both (λ m. NoArrays m → MethodMentions (Good w) file m → Members w file m → Known w file m) NoArrays (λ m. MethodMentions (Good w) file m → Members w file m → Known w file m) (λ m f x. f x) file.methods sound (all_no_arrays w file c none) in
    let with_mentions = all_both (λ m. MethodMentions (Good w) file m → Members w file m → Known w file m) (MethodMentions (Good w) file) (λ m. Members w file m → Known w file m) (λ m f x. f x) file.methods both mentions.methods in
    all_both (λ m. Members w file m → Known w file m) (Members w file) (Known w file) (λ m f x. f x) file.methods with_mentions (all_members w file c none)

-- ---- the members

linked_class_there : (w : World) (file : ClassFile) (c : ClassId) → FileMentions (Good w) file → There (linked_class w file c)
linked_class_there w file c g = next_there (class_of w (super_name file)) _ g.superclass.names.0.there (λ up is. there _)

next_is : {A B : Type 0} (o : Option A) (next : A → Option B) (x : A) → o ≡ Some x → There (next x) → There (o >>= next)
next_is o next x e t = same_there (o >>= next) (next x) (ap (λ q. q >>= next) e) t

linked_field_there : (w : World) (file : ClassFile) (c : ClassId) (f : MemberInfo) → Good w (OfField (member_descriptor file f)) → There (linked_field w file c f)
linked_field_there w file c f g =
    let t = field_there w (member_descriptor file f) g in
    let with_type = λ (ty : Ty). Some (field_with file c f ty) in
    next_is (field_text (member_descriptor file f)) (λ text. type_in w text >>= with_type) t.text t.is (next_there (type_in w t.text) with_type t.ty (λ ty is. there (field_with file c f ty)))

module _ (places : TargetsArePlaces) where
  linked_method_there : (w : World) (file : ClassFile) (c : ClassId) (m : MemberInfo) → Known w file m → There (linked_method w file c m)
  linked_method_there w file c m k =
      let t = method_there w (this_slots m) (member_descriptor file m) k.mentions.own in
      let made = λ (params : List Ty) (result : Option Ty) (body : Body). Some (method_with w file c m params result body) in
      let with_body = λ (params : List Ty) (result : Option Ty). body_in w file c m (code_attribute m) >>= made params result in
      let with_result = λ (result_text : Option FieldText) (params : List Ty). result_in w result_text >>= with_body params in
      let each_param = subst (λ o. AllThere (type_in w) (params_of o)) (sym t.is) t.each_param in
      let body = body_there places w file c m (code_attribute m) each_param k.code in
      next_is (method_text (member_descriptor file m)) (λ text. types_in w text.params >>= with_result text.result) t.text t.is
      (next_there (types_in w t.text.params) (with_result t.text.result) t.params
      (λ params are. next_there (result_in w t.text.result) (with_body params) t.result
      (λ result is. next_there (body_in w file c m (code_attribute m)) (made params result) body (λ b is_body. there (method_with w file c m params result b)))))

  record Linkable (w : World) (file : ClassFile) (c : ClassId) : Type 0 where
    class : There (linked_class w file c)
    fields : AllThere (linked_field w file c) file.fields
    methods : AllThere (linked_method w file c) file.methods

  linkable : (w : World) (file : ClassFile) (c : ClassId) → NoProblem w file c → Linkable w file c
  linkable w file c none =
      let g = file_mentions (Good w) file (good_mentions w file c none) in
      record {
        class = linked_class_there w file c g;
        fields = all_map (λ f. Good w (OfField (member_descriptor file f))) (λ f. There (linked_field w file c f)) (linked_field_there w file c) file.fields g.fields;
        methods = all_map (Known w file) (λ m. There (linked_method w file c m)) (linked_method_there w file c) file.methods (known_methods w file c none g);
      }

  program_there : (files : List ClassFile) (form : Form) → EachFile (Linkable (world_of files form)) 0 files → There (program_of files form)
  unfolding program_of
  program_there files form each =
      let w = world_of files form in
      let made = λ (classes : List Class) (fields : List Field) (methods : List Method). Some (program_with files form classes fields methods) in
      let all_methods = each_of itself (members (λ file. file.methods) (linked_method w) files) in
      let all_fields = each_of itself (members (λ file. file.fields) (linked_field w) files) in
      let with_fields = λ (classes : List Class) (fields : List Field). all_methods >>= made classes fields in
      next_there (each_of itself (numbered (linked_class w) 0 files)) (λ classes. all_fields >>= with_fields classes)
      (classes_there (linked_class w) 0 files (each_file_map (Linkable w) (λ file c. There (linked_class w file c)) (λ file c l. l.class) 0 files each))
      (λ classes are. next_there all_fields (with_fields classes)
      (members_there (λ file. file.fields) (linked_field w) 0 files (each_file_map (Linkable w) (λ file c. AllThere (linked_field w file c) file.fields) (λ file c l. l.fields) 0 files each))
      (λ fields fields_are. next_there all_methods (made classes fields)
      (members_there (λ file. file.methods) (linked_method w) 0 files (each_file_map (Linkable w) (λ file c. AllThere (linked_method w file c) file.methods) (λ file c l. l.methods) 0 files each))
      (λ methods methods_are. there (program_with files form classes fields methods))))

  module _ (none_has : NoneHasAProblem) (of_each_kind : NoneOfEachKind) where
    pub no_fault_links : NoFaultLinks
    no_fault_links files form none =
        let w = world_of files form in
        let each = each_file_map (NoProblem w) (Linkable w) (linkable w) 0 files (each_without of_each_kind w 0 files (none_has files form none)) in
        let t = program_there files form each in
        (t.x, t.is)
