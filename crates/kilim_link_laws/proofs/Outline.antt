-- The outline of a world is the program that its files link to, without its members.
use Rattle.std.proofs.Common.{◌≡◌, ◌<◌, ℕ, zero, suc, ◌+◌, Bool, true, false, ◌||◌, nat_lt, List, [], ◌∷◌, map, length, slice_get, Option, Some, None, option_map, option_to_list, codes, refl, sym, ap, subst, ◌∙◌, add-zero, ltb-true, arith}
use Rattle.std.proofs.lemmas.List.{length-append, length-map}
use Rattle.kilim_class_file.specs.declared.class_file.ClassFile.{ClassFile}
use Rattle.kilim_program.specs.declared.class.Class.{Class}
use Rattle.kilim_program.specs.declared.class.Field.{Field}
use Rattle.kilim_program.specs.declared.class.Form.{Form}
use Rattle.kilim_program.specs.declared.class.Form.TheVariants.{Plain, Woven}
use Rattle.kilim_program.specs.declared.class.Method.{Method}
use Rattle.kilim_program.specs.declared.names.ClassId.{ClassId}
use Rattle.kilim_program.specs.Program.{Program}
use Rattle.kilim_program.specs.BuiltIn.{built_in_classes_in, class_id}
use Rattle.kilim_program.specs.Keeps.{each_class_from}
use Rattle.kilim_program.proofs.BuiltIns.{each_class_at}
use Rattle.kilim_program.specs.Kinds.{is_marked}
use Rattle.kilim_program.specs.Names.{◌>>=◌, class_at, class_name, line_of, line_up_to}
use Rattle.kilim_program.specs.Same.{same_flag}
use Rattle.kilim_link_spec.specs.World.{World, built_ins, is_message_by, number_of, outline_with, outlined, view_of_built_in, view_of_file, world_of}
use Rattle.kilim_link_spec.specs.declared.view.ClassView.{ClassView}
use Rattle.std.specs.List.{list_all, list_any}
use Rattle.std.proofs.lemmas.Bool.{and_parts}
use Rattle.std.proofs.lemmas.Option.{none-some, same_Some, slice_get_within}
use Rattle.kilim_lemmas.proofs.Lists.{get_right, get_some}
use Rattle.kilim_link_laws.specs.Bridge.{bare}
use Rattle.kilim_link_laws.proofs.Linking.{Linking}
use Rattle.kilim_link_laws.proofs.Lists.{get_map, mapped_at}
use Rattle.kilim_link_laws.proofs.Named.{length-outlined, outlined_at, outlined_one}
use Rattle.kilim_link_laws.proofs.Shifted.{shift_class}
use Rattle.kilim_link_laws.proofs.Unique.{built_views, number_at, views}

-- ---- the built-in classes

abbrev pub object_name : List ℕ
object_name = codes "java/lang/Object"

-- where the first of them has a number
abbrev pub placed : ℕ → Class → Class
placed first class = record { name = class.name; superclass = option_map (shift_class first) class.superclass; is_abstract = class.is_abstract; message = class.message; fields = []; methods = [] }

pub bare_built_in : (form : Form) (first method : ℕ) → map bare (built_in_classes_in form first method) ≡ map (placed first) (built_in_classes_in form 0 0)
bare_built_in Plain first method = rw (add-zero) refl
bare_built_in Woven first method = rw (add-zero) refl

pub map_same_at : {A B : Type 0} (f g : A → B) (xs : List A) → map f xs ≡ map g xs → (n : ℕ) (x : A) → slice_get xs n ≡ Some x → f x ≡ g x
map_same_at f g xs e n x there = same_Some (f x) (g x) (sym (mapped_at f xs n x there) ∙ (ap (λ (ys : List _). slice_get ys n) e ∙ mapped_at g xs n x there))

-- what the first is, and how many there are
pub record Begins (form : Form) : Type 0 where
  pub object : Class
  pub at : slice_get (built_in_classes_in form 0 0) 0 ≡ Some object
  pub more : ℕ
  pub count : length (built_in_classes_in form 0 0) ≡ suc more

pub begins : (form : Form) → Begins form
begins Plain = record { object = _; at = refl; more = 17; count = refl }
begins Woven = record { object = _; at = refl; more = 18; count = refl }

-- ---- what a table says of each of them

pub by_table : (form : Form) (test : ClassId → Class → Bool) → each_class_from test 0 (built_in_classes_in form 0 0) ≡ true → (k : ℕ) (class : Class) → slice_get (built_in_classes_in form 0 0) k ≡ Some class → test (class_id k) class ≡ true
by_table form test all k class there =
    let number : 0 + k ≡ k = omega arith in
    subst (λ (m : ℕ). test (class_id m) class ≡ true) number (each_class_at test 0 (built_in_classes_in form 0 0) all k class there)

-- a superclass stands before its class
supers_stand_before : (form : Form) → each_class_from (λ c class. list_all (λ (d : ClassId). nat_lt d.0 c.0) (option_to_list class.superclass)) 0 (built_in_classes_in form 0 0) ≡ true
supers_stand_before Plain = refl
supers_stand_before Woven = refl

one_before : (k : ℕ) (s : Option ClassId) (d : ClassId) → list_all (λ (e : ClassId). nat_lt e.0 k) (option_to_list s) ≡ true → s ≡ Some d → d.0 < k
one_before k None d all is = absurd (none-some d is)
one_before k (Some e) d all is =
    ltb-true d.0 k (ap (λ (f : ClassId). nat_lt f.0 k) (sym (same_Some e d is)) ∙ (and_parts (nat_lt e.0 k) true all).0)

pub up_before : (form : Form) (k : ℕ) (class : Class) (d : ClassId) → slice_get (built_in_classes_in form 0 0) k ≡ Some class → class.superclass ≡ Some d → d.0 < k
up_before form k class d there is =
    one_before k class.superclass d (by_table form (λ c class. list_all (λ (e : ClassId). nat_lt e.0 c.0) (option_to_list class.superclass)) (supers_stand_before form) k class there) is

pub flags_agree : (a b : Bool) → same_flag a b ≡ true → a ≡ b
flags_agree true true e = refl
flags_agree true false e = absurd (cc)
flags_agree false true e = absurd (cc)
flags_agree false false e = refl

-- ---- their lines

-- the classes of a program from a number on have the superclasses of the built-in ones
abbrev pub HasUps : Program → Form → ℕ → Type 0
HasUps q form first =
    (k : ℕ) (class : Class) → slice_get (built_in_classes_in form 0 0) k ≡ Some class → (class_at q (class_id (first + k)) >>= λ (c : Class). c.superclass) ≡ option_map (shift_class first) class.superclass

above_shifted : (q : Program) (form : Form) (first n m : ℕ) (o : Option ClassId) → ((d : ClassId) → o ≡ Some d → line_up_to q n (shift_class first d) ≡ map (shift_class first) (line_up_to (built_ins form) m d)) →
    elim (option_map (shift_class first) o) [ None ↦ [] | Some d ↦ line_up_to q n d ] ≡ map (shift_class first) (elim o [ None ↦ [] | Some d ↦ line_up_to (built_ins form) m d ])
above_shifted q form first n m None each = refl
above_shifted q form first n m (Some d) each = each d refl

pub line_shifted : (q : Program) (form : Form) (first n m k : ℕ) → HasUps q form first → k < n → k < m → k < length (built_in_classes_in form 0 0) →
    line_up_to q n (class_id (first + k)) ≡ map (shift_class first) (line_up_to (built_ins form) m (class_id k))
line_shifted q form first zero m k ups left right there = absurd (omega (arith, left))
line_shifted q form first (suc n) zero k ups left right there = absurd (omega (arith, right))
line_shifted q form first (suc n) (suc m) k ups left right there =
    let class = get_some (built_in_classes_in form 0 0) k there in
    ap (λ (o : Option ClassId). class_id (first + k) ∷ elim o [ None ↦ [] | Some d ↦ line_up_to q n d ]) (ups k class.0 class.1)
    ∙ (ap (λ (ds : List ClassId). class_id (first + k) ∷ ds)
    (above_shifted q form first n m class.0.superclass (λ d is. let less = up_before form k class.0 d class.1 is in line_shifted q form first n m d.0 ups (omega (arith, less, left)) (omega (arith, less, right)) (omega (arith, less, there))))
    ∙ sym (ap (λ (o : Option Class). map (shift_class first) (class_id k ∷ elim (o >>= λ (c : Class). c.superclass) [ None ↦ [] | Some d ↦ line_up_to (built_ins form) m d ])) class.1))

pub any_shifted : (first : ℕ) (test other : ClassId → Bool) → ((d : ClassId) → test (shift_class first d) ≡ other d) → (ds : List ClassId) → list_any test (map (shift_class first) ds) ≡ list_any other ds
any_shifted first test other each [] = refl
any_shifted first test other each (d ∷ ds) =
    ap (λ (b : Bool). b || list_any test (map (shift_class first) ds)) (each d) ∙ ap (λ (b : Bool). other d || b) (any_shifted first test other each ds)

-- each is marked as its line says
marks_agree : (form : Form) → each_class_from (λ c class. same_flag (list_any (λ (d : ClassId). is_marked (class_at (built_ins form) d)) (line_of (built_ins form) c)) class.message) 0 (built_in_classes_in form 0 0) ≡ true
marks_agree Plain = refl
marks_agree Woven = refl

module _ (files : List ClassFile) (form : Form) (classes : List Class) (fields : List Field) (methods : List Method) (l : Linking files form classes fields methods) where
  abbrev w : World
  w = world_of files form

  abbrev vs : List ClassView
  vs = views files form

  abbrev marked : Program
  marked = outline_with form vs (λ c v. v.is_marked)

  abbrev mark : ClassId → ClassView → Bool
  mark c v = is_message_by marked c

  length-views : length vs ≡ length files + length (built_in_classes_in form 0 0)
  length-views = length-append (map view_of_file files) (built_views form) ∙ (ap (λ (n : ℕ). n + length (built_views form)) (length-map files view_of_file) ∙ ap (λ (n : ℕ). length files + n) (length-map (built_in_classes_in form 0 0) (view_of_built_in (built_ins form))))

  pub built_view_at : (k : ℕ) (class : Class) → slice_get (built_in_classes_in form 0 0) k ≡ Some class → slice_get vs (length files + k) ≡ Some (view_of_built_in (built_ins form) class)
  built_view_at k class there =
      let len : length files + k ≡ length (map view_of_file files) + k = ap (λ (n : ℕ). n + k) (sym (length-map files view_of_file)) in
      get_right (map view_of_file files) (built_views form) (length files + k) k len ∙ mapped_at (view_of_built_in (built_ins form)) (built_in_classes_in form 0 0) k class there

  -- a class of the outline, and of the outline that has each class's own mark
  one_at : (m : ClassId → ClassView → Bool) (n : ℕ) (v : ClassView) → slice_get vs n ≡ Some v → slice_get (outlined vs m 0 vs) n ≡ Some (outlined_one vs m n v)
  one_at m n v there =
      let number : 0 + n ≡ n = omega arith in
      outlined_at vs m 0 vs n ∙ (ap (option_map (outlined_one vs m (0 + n))) there ∙ ap (λ (k : ℕ). Some (outlined_one vs m k v)) number)

  view_at : (k : ℕ) → slice_get vs (length files + k) ≡ option_map (view_of_built_in (built_ins form)) (slice_get (built_in_classes_in form 0 0) k)
  view_at k =
      let len : length files + k ≡ length (map view_of_file files) + k = ap (λ (n : ℕ). n + k) (sym (length-map files view_of_file)) in
      get_right (map view_of_file files) (built_views form) (length files + k) k len ∙ get_map (view_of_built_in (built_ins form)) (built_in_classes_in form 0 0) k

  super_by : (s : Option ClassId) → ((d : ClassId) → s ≡ Some d → d.0 < length (built_in_classes_in form 0 0)) → (option_map (class_name (built_ins form)) s >>= number_of vs) ≡ option_map (shift_class (length files)) s
  super_by None within = refl
  super_by (Some d) within =
      let class = get_some (built_in_classes_in form 0 0) d.0 (within d refl) in
      ap (λ (o : Option Class). number_of vs (elim o [ None ↦ [] | Some c ↦ c.name ])) class.1
      ∙ number_at files form classes fields methods l (length files + d.0) (view_of_built_in (built_ins form) class.0) (built_view_at d.0 class.0 class.1)

  pub built_super : (k : ℕ) (class : Class) → slice_get (built_in_classes_in form 0 0) k ≡ Some class →
      (option_map (class_name (built_ins form)) class.superclass >>= number_of vs) ≡ option_map (shift_class (length files)) class.superclass
  built_super k class there =
      let within = slice_get_within (built_in_classes_in form 0 0) k class there in
      super_by class.superclass (λ d is. let less = up_before form k class d there is in omega (arith, less, within))

  has_ups : (m : ClassId → ClassView → Bool) → HasUps (outline_with form vs m) form (length files)
  has_ups m k class there = ap (λ (o : Option Class). o >>= λ (c : Class). c.superclass) (one_at m (length files + k) _ (built_view_at k class there)) ∙ built_super k class there

  marked_by : (m : ClassId → ClassView → Bool) (n : ℕ) (o : Option Class) → ((c : ClassId) (v : ClassView) → m c v ≡ v.is_marked) → is_marked (option_map (outlined_one vs m n) (option_map (view_of_built_in (built_ins form)) o)) ≡ is_marked o
  marked_by m n None own = refl
  marked_by m n (Some class) own = own (class_id n) (view_of_built_in (built_ins form) class)

  mark_shifted : (d : ClassId) → is_marked (class_at marked (shift_class (length files) d)) ≡ is_marked (class_at (built_ins form) d)
  mark_shifted d =
      let m : ClassId → ClassView → Bool = λ c v. v.is_marked in
      ap is_marked (outlined_at vs m 0 vs (length files + d.0) ∙ ap (option_map (outlined_one vs m (0 + (length files + d.0)))) (view_at d.0))
      ∙ marked_by m (0 + (length files + d.0)) (slice_get (built_in_classes_in form 0 0) d.0) (λ c v. refl)

  pub built_mark : (k : ℕ) (class : Class) → slice_get (built_in_classes_in form 0 0) k ≡ Some class → is_message_by marked (class_id (length files + k)) ≡ class.message
  built_mark k class there =
      let m : ClassId → ClassView → Bool = λ c v. v.is_marked in
      let within = slice_get_within (built_in_classes_in form 0 0) k class there in
      let views_count = length-views in
      let all = length-outlined vs m 0 vs in
      ap (list_any (λ d. is_marked (class_at marked d)))
      (line_shifted marked form (length files) (length marked.classes) (length (built_in_classes_in form 0 0)) k (has_ups m) (omega (arith, within, views_count, all)) within within)
      ∙ (any_shifted (length files) (λ d. is_marked (class_at marked d)) (λ d. is_marked (class_at (built_ins form) d)) mark_shifted (line_of (built_ins form) (class_id k))
      ∙ flags_agree _ _ (by_table form (λ c class. same_flag (list_any (λ (d : ClassId). is_marked (class_at (built_ins form) d)) (line_of (built_ins form) c)) class.message) (marks_agree form) k class there))
