-- As many classes, methods and fields stand in the world of files as in their program.
use Rattle.std.proofs.Common.{◌≡◌, ℕ, zero, suc, ◌+◌, ◌<◌, ◌≤◌, Bool, List, [], ◌∷◌, ◌++◌, length, map, take, slice_get, sum_by, Option, Some, refl, ap, sym, ◌∙◌, arith}
use Rattle.std.specs.List.{flat_map, position_from}
use Rattle.std.proofs.lemmas.List.{length-append, length-map}
use Rattle.std.proofs.lemmas.List.Sums.{sum_by-append, sum_by-cons}
use Rattle.std.proofs.lemmas.Option.{same_Some, none-some}
use Rattle.kilim_class_file.specs.declared.class_file.ClassFile.{ClassFile}
use Rattle.kilim_class_file.specs.declared.class_file.MemberInfo.{MemberInfo}
use Rattle.kilim_program.specs.declared.class.Form.{Form}
use Rattle.kilim_program.specs.declared.class.Form.TheVariants.{Plain, Woven}
use Rattle.kilim_program.specs.declared.names.ClassId.{ClassId}
use Rattle.kilim_program.specs.BuiltIn.{class_id, built_in_classes_in, built_in_methods_in}
use Rattle.kilim_program.specs.Program.{Program}
use Rattle.kilim_link_spec.specs.Laws.{Parts}
use Rattle.kilim_link_spec.specs.Linked.{linked_field, linked_method, numbered}
use Rattle.kilim_link_spec.specs.Types.{itself}
use Rattle.kilim_link_spec.specs.World.{World, built_ins, declared_field, declared_method, is_message_by, outline_with, outlined, view_of_built_in, view_of_file, world_of}
use Rattle.kilim_link_spec.specs.declared.view.ClassView.{ClassView}
use Rattle.kilim_link_laws.proofs.code_laws.ClassNames.{name_of, program_names}
use Rattle.kilim_link_laws.proofs.code_laws.Lists.{EachFile, each_of_length}
use Rattle.kilim_link_laws.proofs.code_laws.Rows.{if_cases}

-- ---- places in lists

pub position_within : {A : Type 0} (test : A → Bool) (n : ℕ) (xs : List A) (m : ℕ) → position_from test n xs ≡ Some m → m < n + length xs
position_within test n [] m e = absurd (none-some m e)
position_within test n (x ∷ xs) m e =
    if_cases (m < n + length (x ∷ xs)) (test x) n m (position_from test (n + 1) xs)
    (λ here same. omega (arith, same))
    (λ there later. let l = position_within test (n + 1) xs m later in omega (arith, l)) e

-- those of an element and of all before it
pub sum_within : {A : Type 0} (count : A → ℕ) (xs : List A) (n : ℕ) (x : A) → slice_get xs n ≡ Some x → sum_by count (take n xs) + count x ≤ sum_by count xs
sum_within count [] n x e = absurd (none-some x e)
sum_within count (y ∷ xs) zero x e =
    let all = sum_by-cons count y xs in
    let same : count y ≡ count x = ap count (same_Some y x e) in
    omega (arith, all, same)
sum_within count (y ∷ xs) (suc n) x e =
    let all = sum_by-cons count y xs in
    let front = sum_by-cons count y (take n xs) in
    let later = sum_within count xs n x e in
    omega (arith, all, front, later)

-- ---- a file's view in the world

abbrev pub ViewAt : List ClassView → ClassFile → ClassId → Type 0
ViewAt views file c = slice_get views c.0 ≡ Some (view_of_file file)

views_from : (views : List ClassView) (n : ℕ) (files : List ClassFile) → ((k : ℕ) (file : ClassFile) → slice_get files k ≡ Some file → slice_get views (n + k) ≡ Some (view_of_file file)) → EachFile (ViewAt views) n files
views_from views n [] each = tt
views_from views n (file ∷ files) each =
    let here : n ≡ n + 0 = omega arith in (
      ap (slice_get views) here ∙ each 0 file refl,
      views_from views (suc n) files (λ k other there. let next : suc n + k ≡ n + suc k = omega arith in ap (slice_get views) next ∙ each (suc k) other there),
    )

front_view : (files : List ClassFile) (built : List ClassView) (k : ℕ) (file : ClassFile) → slice_get files k ≡ Some file → slice_get (map view_of_file files ++ built) k ≡ Some (view_of_file file)
front_view [] built k file there = absurd (none-some file there)
front_view (f ∷ files) built zero file there = ap (λ (g : ClassFile). Some (view_of_file g)) (same_Some f file there)
front_view (f ∷ files) built (suc k) file there = front_view files built k file there

pub views_there : (files : List ClassFile) (form : Form) → EachFile (ViewAt (world_of files form).classes) 0 files
unfolding world_of
views_there files form =
    let built = map (view_of_built_in (built_ins form)) (built_in_classes_in form 0 0) in
    views_from (map view_of_file files ++ built) 0 files
    (λ k file there. let same : 0 + k ≡ k = omega arith in ap (slice_get (map view_of_file files ++ built)) same ∙ front_view files built k file there)

-- ---- how many there are

abbrev pub count_methods : ClassView → ℕ
count_methods v = length v.methods

abbrev pub count_fields : ClassView → ℕ
count_fields v = length v.fields

members_count : {A : Type 0} (list : ClassFile → List MemberInfo) (make : ClassFile → ClassId → MemberInfo → Option A) (count : ClassView → ℕ) → ((file : ClassFile) → count (view_of_file file) ≡ length (list file)) → (n : ℕ) (files : List ClassFile)
    → sum_by count (map view_of_file files) ≡ length (flat_map itself (numbered (λ file c. map (make file c) (list file)) n files))
members_count list make count same n [] = refl
members_count list make count same n (file ∷ files) =
    let sum = sum_by-cons count (view_of_file file) (map view_of_file files) in
    let own = map (make file (class_id n)) (list file) in
    let others = flat_map itself (numbered (λ file c. map (make file c) (list file)) (suc n) files) in
    let both = length-append own others in
    let one = length-map (list file) (make file (class_id n)) in
    let first = same file in
    let later = members_count list make count same (suc n) files in
    omega (arith, sum, both, one, first, later)

built_in_methods_count : (form : Form) (n : ℕ) → sum_by count_methods (map (view_of_built_in (built_ins form)) (built_in_classes_in form 0 0)) ≡ length (built_in_methods_in form n)
built_in_methods_count Plain n = refl
built_in_methods_count Woven n = refl

built_in_fields_count : (form : Form) → sum_by count_fields (map (view_of_built_in (built_ins form)) (built_in_classes_in form 0 0)) ≡ 0
built_in_fields_count Plain = refl
built_in_fields_count Woven = refl

outlined_count : (all : List ClassView) (mark : ClassId → ClassView → Bool) (n : ℕ) (vs : List ClassView) → length (outlined all mark n vs) ≡ length vs
outlined_count all mark n [] = refl
outlined_count all mark n (v ∷ vs) = ap suc (outlined_count all mark (n + 1) vs)

outline_count : (files : List ClassFile) (form : Form) → length (world_of files form).outline.classes ≡ length (world_of files form).classes
unfolding world_of
outline_count files form =
    let views = map view_of_file files ++ map (view_of_built_in (built_ins form)) (built_in_classes_in form 0 0) in
    let marked = outline_with form views (λ c v. v.is_marked) in
    outlined_count views (λ c v. is_message_by marked c) 0 views

-- the same numbers
pub record Counts (w : World) (p : Program) : Type 0 where
  pub outline : length w.outline.classes ≡ length p.classes
  pub classes : length w.classes ≡ length p.classes
  pub methods : sum_by count_methods w.classes ≡ length p.methods
  -- the first field of a program is built in
  pub fields : suc (sum_by count_fields w.classes) ≡ length p.fields

methods_count : (files : List ClassFile) (form : Form) (p : Program) → Parts files form p → sum_by count_methods (world_of files form).classes ≡ length p.methods
unfolding world_of
methods_count files form p parts =
    let w = world_of files form in
    let built = map (view_of_built_in (built_ins form)) (built_in_classes_in form 0 0) in
    let sum = sum_by-append count_methods (map view_of_file files) built in
    let own = members_count (λ file. file.methods) (linked_method w) count_methods (λ file. length-map file.methods (declared_method file)) 0 files in
    let there = each_of_length itself (flat_map itself (numbered (λ file c. map (linked_method w file c) file.methods) 0 files)) parts.methods parts.methods_are in
    let others = built_in_methods_count form (length files) in
    let both = length-append parts.methods (built_in_methods_in form (length files)) in
    let all : length p.methods ≡ length (parts.methods ++ built_in_methods_in form (length files)) = ap (λ (q : Program). length q.methods) parts.is in
    omega (arith, sum, own, there, others, both, all)

fields_count : (files : List ClassFile) (form : Form) (p : Program) → Parts files form p → suc (sum_by count_fields (world_of files form).classes) ≡ length p.fields
unfolding world_of
fields_count files form p parts =
    let w = world_of files form in
    let built = map (view_of_built_in (built_ins form)) (built_in_classes_in form 0 0) in
    let sum = sum_by-append count_fields (map view_of_file files) built in
    let own = members_count (λ file. file.fields) (linked_field w) count_fields (λ file. length-map file.fields (declared_field file)) 0 files in
    let there = each_of_length itself (flat_map itself (numbered (λ file c. map (linked_field w file c) file.fields) 0 files)) parts.fields parts.fields_are in
    let others = built_in_fields_count form in
    let all : length p.fields ≡ suc (length parts.fields) = ap (λ (q : Program). length q.fields) parts.is in
    omega (arith, sum, own, there, others, all)

pub counts : (files : List ClassFile) (form : Form) (p : Program) → Parts files form p → Counts (world_of files form) p
counts files form p parts =
    let w = world_of files form in
    let same : length w.outline.classes ≡ length p.classes = sym (length-map w.outline.classes name_of) ∙ (ap length (sym (program_names files form p parts)) ∙ length-map p.classes name_of) in
    record { outline = same; classes = sym (outline_count files form) ∙ same; methods = methods_count files form p parts; fields = fields_count files form p parts }
