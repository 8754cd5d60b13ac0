-- Where a class of a linked program comes from: a file, or the built-in classes.
use Rattle.std.proofs.Common.{◌≡◌, ◌<◌, ℕ, suc, ◌+◌, Bool, true, ◌||◌, if◌then◌else◌, List, [], ◌∷◌, map, length, slice_get, Option, Some, None, option_map, bytes_eq, codes, refl, sym, ap, subst, ◌∙◌, arith}
use Rattle.std.specs.List.{list_any}
use Rattle.std.proofs.lemmas.Bool.{and_from}
use Rattle.std.proofs.lemmas.List.{length-append, length-map}
use Rattle.std.proofs.lemmas.Option.{slice_get_within}
use Rattle.kilim_lemmas.proofs.Lists.{get_right}
use Rattle.kilim_class_file.specs.declared.class_file.ClassFile.{ClassFile}
use Rattle.kilim_program.specs.declared.class.Class.{Class}
use Rattle.kilim_program.specs.declared.class.Field.{Field}
use Rattle.kilim_program.specs.declared.class.Form.{Form}
use Rattle.kilim_program.specs.declared.class.Form.TheVariants.{Plain, Woven}
use Rattle.kilim_program.specs.declared.class.Method.{Method}
use Rattle.kilim_program.specs.declared.names.ClassId.{ClassId}
use Rattle.kilim_program.specs.declared.ty.Kind.TheVariants.{Value, Tree, Private}
use Rattle.kilim_program.specs.Program.{Program}
use Rattle.kilim_program.specs.BuiltIn.{built_in_classes_in, class_id}
use Rattle.kilim_program.specs.Keeps.{ancestors_of, each_class, each_class_from, line_above, superclass_of}
use Rattle.kilim_program.specs.Kinds.{class_kind, is_marked, is_message, is_value_class}
use Rattle.kilim_program.specs.Names.{◌>>=◌, class_at, class_name, is_named_task, is_task, line_of}
use Rattle.kilim_program.specs.Same.{same_flag}
use Rattle.kilim_link_spec.specs.Linked.{linked_class, program_with}
use Rattle.kilim_link_spec.specs.World.{World, built_ins, world_of}
use Rattle.kilim_link_laws.specs.Bridge.{Agree, bare}
use Rattle.kilim_link_laws.proofs.Bared.{bared_agrees}
use Rattle.kilim_link_laws.proofs.Bridge as bridge
use Rattle.kilim_link_laws.proofs.Bridge.{LinkedClass, linked_class_is}
use Rattle.kilim_link_laws.proofs.Linking.{Linking}
use Rattle.kilim_link_laws.proofs.Lists.{Left, Right, Side, get_map, mapped_at, origin, side}
use Rattle.kilim_link_laws.proofs.Made.{file_made}
use Rattle.kilim_link_laws.proofs.Outline.{HasUps, any_shifted, bare_built_in, by_table, flags_agree, line_shifted, placed, up_before}
use Rattle.kilim_link_laws.proofs.Shifted.{shift_class}

-- ---- a test of each class

each_from : (test : ClassId → Class → Bool) (n : ℕ) (classes : List Class) → ((k : ℕ) (class : Class) → slice_get classes k ≡ Some class → test (class_id (n + k)) class ≡ true) → each_class_from test n classes ≡ true
each_from test n [] each = refl
each_from test n (class ∷ classes) each =
    let number : n ≡ n + 0 = omega arith in
    and_from (test (class_id n) class) (each_class_from test (suc n) classes) (ap (λ (m : ℕ). test (class_id m) class) number ∙ each 0 class refl)
    (each_from test (suc n) classes (λ k other there. let number : suc n + k ≡ n + suc k = omega arith in ap (λ (m : ℕ). test (class_id m) other) number ∙ each (suc k) other there))

pub each_by_places : (p : Program) (test : ClassId → Class → Bool) → ((n : ℕ) (class : Class) → slice_get p.classes n ≡ Some class → test (class_id n) class ≡ true) → each_class p test ≡ true
each_by_places p test each = each_from test 0 p.classes (λ k class there. let number : 0 + k ≡ k = omega arith in ap (λ (m : ℕ). test (class_id m) class) number ∙ each k class there)

-- ---- a built-in class

-- the class at that place of the built-in ones, where the first has number 0
pub record BuiltIn (form : Form) (first k : ℕ) (class : Class) : Type 0 where
  pub of : Class
  pub at : slice_get (built_in_classes_in form 0 0) k ≡ Some of
  pub is : placed first of ≡ bare class

pub built_in_of : (form : Form) (first method k : ℕ) (class : Class) → slice_get (built_in_classes_in form first method) k ≡ Some class → BuiltIn form first k class
built_in_of form first method k class there =
    let o = origin (placed first) (built_in_classes_in form 0 0) k (bare class)
    (ap (λ (cs : List Class). slice_get cs k) (sym (bare_built_in form first method)) ∙ mapped_at bare (built_in_classes_in form first method) k class there) in
    record { of = o.of; at = o.at; is = o.is }

pub length-built_in : (form : Form) (first method : ℕ) → length (built_in_classes_in form first method) ≡ length (built_in_classes_in form 0 0)
length-built_in form first method =
    sym (length-map (built_in_classes_in form first method) bare) ∙ (ap length (bare_built_in form first method) ∙ length-map (built_in_classes_in form 0 0) (placed first))

-- ---- of a linked program

pub data ClassOrigin (files : List ClassFile) (form : Form) (method n : ℕ) (class : Class) : Type 0 where
  OfFile : (file : ClassFile) → slice_get files n ≡ Some file → LinkedClass (world_of files form) file (class_id n) class → ClassOrigin files form method n class
  OfBuiltIn : (k : ℕ) → n ≡ length files + k → slice_get (built_in_classes_in form (length files) method) k ≡ Some class → ClassOrigin files form method n class

abbrev name_in : Option Class → List ℕ
name_in o = elim o [ None ↦ [] | Some class ↦ class.name ]

name_bare : (o : Option Class) → name_in (option_map bare o) ≡ name_in o
name_bare None = refl
name_bare (Some class) = refl

name_placed : (first : ℕ) (o : Option Class) → name_in (option_map (placed first) o) ≡ name_in o
name_placed first None = refl
name_placed first (Some class) = refl

mark_bare : (o : Option Class) → is_marked (option_map bare o) ≡ is_marked o
mark_bare None = refl
mark_bare (Some class) = refl

mark_placed : (first : ℕ) (o : Option Class) → is_marked (option_map (placed first) o) ≡ is_marked o
mark_placed first None = refl
mark_placed first (Some class) = refl

up_bare : (o : Option Class) → superclass_of (option_map bare o) ≡ superclass_of o
up_bare None = refl
up_bare (Some class) = refl

up_placed : (first : ℕ) (o : Option Class) → superclass_of (option_map (placed first) o) ≡ option_map (shift_class first) (superclass_of o)
up_placed first None = refl
up_placed first (Some class) = refl

up_is : (o : Option Class) → (o >>= λ (class : Class). class.superclass) ≡ superclass_of o
up_is None = refl
up_is (Some class) = refl

-- a class of tasks among the built-in ones is `kilim/Task` itself
tasks_agree : (form : Form) → each_class_from (λ c class. same_flag (is_task (built_ins form) c) (bytes_eq class.name (codes "kilim/Task"))) 0 (built_in_classes_in form 0 0) ≡ true
tasks_agree Plain = refl
tasks_agree Woven = refl

module _ (files : List ClassFile) (form : Form) (classes : List Class) (fields : List Field) (methods : List Method) (l : Linking files form classes fields methods) where
  abbrev w : World
  w = world_of files form

  abbrev p : Program
  p = program_with files form classes fields methods

  abbrev built : List Class
  built = built_in_classes_in form (length files) (length methods)

  pub agree : Agree w.outline p
  agree = subst (λ (q : Program). Agree q p) (sym (bridge.outline_is_bared files form classes fields methods l)) (bared_agrees p)

  pub count : length classes ≡ length files
  count = bridge.length-classes files form classes fields methods l

  origin_by : (n : ℕ) (class : Class) → Side classes built n class → ClassOrigin files form (length methods) n class
  origin_by n class (Left e) =
      let f = file_made (linked_class w) files classes l.classes_are n class e in
      OfFile f.file f.at (linked_class_is w f.file (class_id n) class f.is)
  origin_by n class (Right k is e) = let c = count in OfBuiltIn k (omega (arith, is, c)) e

  pub class_origin : (n : ℕ) (class : Class) → slice_get p.classes n ≡ Some class → ClassOrigin files form (length methods) n class
  class_origin n class there = origin_by n class (side classes built n class there)

  pub built_at : (k : ℕ) (class : Class) → slice_get built k ≡ Some class → class_at p (class_id (length files + k)) ≡ Some class
  built_at k class there = let c = count in get_right classes built (length files + k) k (omega (arith, c)) ∙ there

  -- ---- the program is that of the built-in classes, from a number on

  class_bared : (d : ClassId) → option_map bare (class_at p (shift_class (length files) d)) ≡ option_map (placed (length files)) (class_at (built_ins form) d)
  class_bared d =
      let c = count in
      ap (option_map bare) (get_right classes built (length files + d.0) d.0 (omega (arith, c)))
      ∙ (sym (get_map bare built d.0)
      ∙ (ap (λ (cs : List Class). slice_get cs d.0) (bare_built_in form (length files) (length methods)) ∙ get_map (placed (length files)) (built_in_classes_in form 0 0) d.0))

  pub name_shifted : (d : ClassId) → class_name p (shift_class (length files) d) ≡ class_name (built_ins form) d
  name_shifted d = sym (name_bare (class_at p (shift_class (length files) d))) ∙ (ap name_in (class_bared d) ∙ name_placed (length files) (class_at (built_ins form) d))

  pub message_shifted : (d : ClassId) → is_message p (shift_class (length files) d) ≡ is_message (built_ins form) d
  message_shifted d = sym (mark_bare (class_at p (shift_class (length files) d))) ∙ (ap is_marked (class_bared d) ∙ mark_placed (length files) (class_at (built_ins form) d))

  up_shifted : (d : ClassId) → superclass_of (class_at p (shift_class (length files) d)) ≡ option_map (shift_class (length files)) (superclass_of (class_at (built_ins form) d))
  up_shifted d = sym (up_bare (class_at p (shift_class (length files) d))) ∙ (ap superclass_of (class_bared d) ∙ up_placed (length files) (class_at (built_ins form) d))

  has_ups : HasUps p form (length files)
  has_ups k class there = up_is (class_at p (class_id (length files + k))) ∙ (up_shifted (class_id k) ∙ ap (λ (o : Option Class). option_map (shift_class (length files)) (superclass_of o)) there)

  pub built_line : (k : ℕ) → k < length (built_in_classes_in form 0 0) → line_of p (class_id (length files + k)) ≡ map (shift_class (length files)) (line_of (built_ins form) (class_id k))
  built_line k within =
      let both = length-append classes built in
      let c = count in
      let len = length-built_in form (length files) (length methods) in
      line_shifted p form (length files) (length p.classes) (length (built_in_classes_in form 0 0)) k has_ups (omega (arith, both, c, len, within)) within within

  above_by : (o : Option ClassId) → ((d : ClassId) → o ≡ Some d → d.0 < length (built_in_classes_in form 0 0)) → line_above p (option_map (shift_class (length files)) o) ≡ map (shift_class (length files)) (line_above (built_ins form) o)
  above_by None within = refl
  above_by (Some d) within = built_line d.0 (within d refl)

  pub built_ancestors : (k : ℕ) (class : Class) → slice_get (built_in_classes_in form 0 0) k ≡ Some class → ancestors_of p (class_id (length files + k)) ≡ map (shift_class (length files)) (ancestors_of (built_ins form) (class_id k))
  built_ancestors k class there =
      let within = slice_get_within (built_in_classes_in form 0 0) k class there in
      ap (line_above p) (up_shifted (class_id k))
      ∙ above_by (superclass_of (class_at (built_ins form) (class_id k))) (λ d is. let less = up_before form k class d there (ap superclass_of (sym there) ∙ is) in omega (arith, less, within))

  pub built_name : (k : ℕ) (class : Class) → slice_get built k ≡ Some class → (o : BuiltIn form (length files) k class) → class_name p (class_id (length files + k)) ≡ o.of.name
  built_name k class there o =
      ap (λ (a : Option Class). elim a [ None ↦ [] | Some c ↦ c.name ]) (built_at k class there) ∙ ap (λ (c : Class). c.name) (sym o.is)

  pub built_message : (k : ℕ) (class : Class) → slice_get built k ≡ Some class → (o : BuiltIn form (length files) k class) → is_message p (class_id (length files + k)) ≡ o.of.message
  built_message k class there o = ap is_marked (built_at k class there) ∙ ap (λ (c : Class). c.message) (sym o.is)

  pub task_shifted : (k : ℕ) → k < length (built_in_classes_in form 0 0) → is_task p (class_id (length files + k)) ≡ is_task (built_ins form) (class_id k)
  task_shifted k within =
      ap (list_any (is_named_task p)) (built_line k within)
      ∙ any_shifted (length files) (is_named_task p) (is_named_task (built_ins form)) (λ d. ap (λ (name : List ℕ). bytes_eq name (codes "kilim/Task")) (name_shifted d)) (line_of (built_ins form) (class_id k))

  pub built_task : (k : ℕ) (class : Class) → slice_get (built_in_classes_in form 0 0) k ≡ Some class → is_task p (class_id (length files + k)) ≡ bytes_eq class.name (codes "kilim/Task")
  built_task k class there =
      task_shifted k (slice_get_within (built_in_classes_in form 0 0) k class there)
      ∙ flags_agree _ _ (by_table form (λ c class. same_flag (is_task (built_ins form) c) (bytes_eq class.name (codes "kilim/Task"))) (tasks_agree form) k class there)

  pub kind_shifted : (k : ℕ) → k < length (built_in_classes_in form 0 0) → class_kind p (class_id (length files + k)) ≡ class_kind (built_ins form) (class_id k)
  kind_shifted k within =
      let c = class_id (length files + k) in
      ap (λ (n : List ℕ). if is_value_class n then Value else (if is_task p c || is_message p c then Tree else Private)) (name_shifted (class_id k))
      ∙ (ap (λ (b : Bool). if is_value_class (class_name (built_ins form) (class_id k)) then Value else (if b || is_message p c then Tree else Private)) (task_shifted k within)
      ∙ ap (λ (b : Bool). if is_value_class (class_name (built_ins form) (class_id k)) then Value else (if is_task (built_ins form) (class_id k) || b then Tree else Private)) (message_shifted (class_id k)))
