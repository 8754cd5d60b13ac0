-- What the built-in methods are that give a tree away, and `execute`.
use Rattle.std.proofs.Common.{◌≡◌, ℕ, zero, suc, ◌+◌, Bool, true, false, cond, List, [], ◌∷◌, length, Option, Some, None, refl, sym, ap, ◌∙◌}
use Rattle.std.specs.Prelude.{◌&&◌, ◌||◌, codes}
use Rattle.std.specs.List.{AllByRecursion, list_any}
use Rattle.std.specs.Str.{bytes_eq}
use Rattle.std.proofs.lemmas.Bool.{or_left}
use Rattle.kilim_program.specs.declared.class.Form.TheVariants.{Plain}
use Rattle.kilim_program.specs.declared.class.Class.{Class}
use Rattle.kilim_program.specs.declared.class.Method.{Method}
use Rattle.kilim_program.specs.declared.names.ClassId.{ClassId}
use Rattle.kilim_program.specs.declared.names.MethodId.{MethodId}
use Rattle.kilim_program.specs.declared.ty.Base.{Base}
use Rattle.kilim_program.specs.declared.ty.Base.TheVariants as base
use Rattle.kilim_program.specs.declared.ty.Kind.{Kind}
use Rattle.kilim_program.specs.declared.ty.Kind.TheVariants as kind
use Rattle.kilim_program.specs.declared.ty.Qualifier.{Qualifier}
use Rattle.kilim_program.specs.declared.ty.Qualifier.TheVariants.{Cuttable, Free, Safe}
use Rattle.kilim_program.specs.declared.ty.Ty.{Ty}
use Rattle.kilim_program.specs.Program.{Program}
use Rattle.kilim_program.proofs.BuiltIns.{exceptions_too}
use Rattle.kilim_program.specs.BuiltIn.{built_in_methods_in, class_id, class_type}
use Rattle.kilim_program.specs.Fits.{fits_type}
use Rattle.kilim_program.specs.Keeps.{Keeps}
use Rattle.kilim_program.specs.Kinds.{class_kind, is_message, is_value_class}
use Rattle.kilim_program.specs.Names.{class_at, class_name, is_named_task, is_task, method_at, ◌>>=◌}
use Rattle.kilim_program.specs.Same.{is_constructor}
use Rattle.kilim_run_machine.specs.Natives.{Native, native_method, native_named, native_of, natives}
use Rattle.kilim_run_machine.specs.Natives as native
use Rattle.kilim_run_machine.proofs.Named.{native_is_named}
use Rattle.kilim_lemmas.proofs.Texts.{same_text}
use Rattle.kilim_isolation_graph.specs.Entry.{declared_parameters, parameters_of}
use Rattle.kilim_isolation_rules.specs.Calls.{is_owned}
use Rattle.kilim_type_sound.proofs.BuiltInMembers.{NamedAt, named_at}
use Rattle.kilim_isolation_laws.proofs.typed_threads.fine.Natives.{built_in_one, first, task_name}
use Rattle.kilim_isolation_laws.proofs.typed_threads.Booting.{line_begins}
use Rattle.kilim_isolation_laws.specs.graph_rows.Holds.{Tree, Trees, object_sort, sort_by}
use Rattle.kilim_isolation_laws.proofs.sorts.KindsOfClasses.{ClassFlow}
use Rattle.kilim_isolation_laws.proofs.sorts.Sorted.{classes_flow, message_is_tree}

-- ---- by their names

abbrev pub Puts : ℕ → Method → Type 0
Puts n m = (m.is_static ≡ false) × (m.owner ≡ class_id (n + 5)) × (m.receiver ≡ Safe) × (m.params ≡ class_type (n + 2) ∷ []) × (m.qualifiers ≡ Free ∷ [])

abbrev pub Begins : ℕ → Qualifier → Method → Type 0
Begins n q m = (m.is_static ≡ false) × (m.owner ≡ class_id (n + 4)) × (m.receiver ≡ q) × (m.params ≡ []) × (m.qualifiers ≡ [])

abbrev NamedSo : List ℕ → (Method → Type 0) → Method → Type 0
NamedSo name P m = bytes_eq m.name name ≡ true → P m

no : {A : Type 0} → false ≡ true → A
no e = absurd (cc)

puts_so : (n : ℕ) → AllByRecursion (NamedSo (codes "put") (Puts n)) (built_in_methods_in Plain n)
puts_so n = (no, (no, (no, (no, (no, (no, (no, (no, (no, ((λ e. (refl, refl, refl, refl, refl)), (no, (no, (no, (no, (no, (no, (no, (no, (no, (no, exceptions_too (NamedSo (codes "put") (Puts n)) n [] (λ c. no) (λ c. no) no tt))))))))))))))))))))

waits_so : (n : ℕ) → AllByRecursion (NamedSo (codes "putw") (Puts n)) (built_in_methods_in Plain n)
waits_so n = (no, (no, (no, (no, (no, (no, (no, (no, (no, (no, ((λ e. (refl, refl, refl, refl, refl)), (no, (no, (no, (no, (no, (no, (no, (no, (no, exceptions_too (NamedSo (codes "putw") (Puts n)) n [] (λ c. no) (λ c. no) no tt))))))))))))))))))))

starts_so : (n : ℕ) → AllByRecursion (NamedSo (codes "start") (Begins n Free)) (built_in_methods_in Plain n)
starts_so n = (no, (no, (no, (no, (no, ((λ e. (refl, refl, refl, refl, refl)), (no, (no, (no, (no, (no, (no, (no, (no, (no, (no, (no, (no, (no, (no, exceptions_too (NamedSo (codes "start") (Begins n Free)) n [] (λ c. no) (λ c. no) no tt))))))))))))))))))))

executes_so : (n : ℕ) → AllByRecursion (NamedSo (codes "execute") (λ m. Begins n Cuttable m × (is_constructor m ≡ false) × (m.is_private ≡ false))) (built_in_methods_in Plain n)
executes_so n = (no, (no, (no, (no, (no, (no, ((λ e. ((refl, refl, refl, refl, refl), refl, refl)), (no, (no, (no, (no, (no, (no, (no, (no, (no, (no, (no, (no, (no, exceptions_too (NamedSo (codes "execute") (λ m. Begins n Cuttable m × (is_constructor m ≡ false) × (m.is_private ≡ false))) n [] (λ c. no) (λ c. no) no tt))))))))))))))))))))

-- ---- by what they do

abbrev is_put : Native → Bool
is_put native.Put = true
is_put k = false

abbrev is_wait : Native → Bool
is_wait native.PutWait = true
is_wait k = false

abbrev is_start : Native → Bool
is_start native.Start = true
is_start k = false

abbrev Called : (Native → Bool) → List ℕ → List ℕ × List ℕ × Native → Type 0
Called test text e = test e.2 ≡ true → e.1 ≡ text

all_put : AllByRecursion (Called is_put (codes "put")) natives
all_put = (no, (no, ((λ e. refl), (no, (no, (no, (no, (no, (no, (no, (no, (no, (no, (no, (no, (no, (no, (no, (no, (no, (no, (no, tt))))))))))))))))))))))

all_wait : AllByRecursion (Called is_wait (codes "putw")) natives
all_wait = (no, (no, (no, ((λ e. refl), (no, (no, (no, (no, (no, (no, (no, (no, (no, (no, (no, (no, (no, (no, (no, (no, (no, (no, tt))))))))))))))))))))))

all_start : AllByRecursion (Called is_start (codes "start")) natives
all_start = ((λ e. refl), (no, (no, (no, (no, (no, (no, (no, (no, (no, (no, (no, (no, (no, (no, (no, (no, (no, (no, (no, (no, (no, tt))))))))))))))))))))))

called_so : (test : Native → Bool) (text : List ℕ) (ns : List (List ℕ × List ℕ × Native)) → AllByRecursion (Called test text) ns → (class name : List ℕ) (k : Native) → native_named ns class name ≡ Some k → test k ≡ true → bytes_eq name text ≡ true
called_so test text [] all class name k e is = absurd (cc)
called_so test text (x ∷ ns) all class name k e is = by (bytes_eq class x.0) (bytes_eq name x.1) refl refl e (λ later. called_so test text ns all.1 class name k later is)
  where
    by : (a b : Bool) → bytes_eq class x.0 ≡ a → bytes_eq name x.1 ≡ b → cond (a && b) (Some x.2) (native_named ns class name) ≡ Some k → (native_named ns class name ≡ Some k → bytes_eq name text ≡ true) → bytes_eq name text ≡ true
    by true true f g e again = ap (bytes_eq name) (sym (all.0 (ap test (let s : x.2 ≡ k = cc in s) ∙ is))) ∙ g
    by true false f g e again = again e
    by false b f g e again = again e

message_at : (a b : ℕ) → NamedAt Plain a b 2 (codes "kilim/Message")
message_at a b = record { class = _; at = refl; is = refl }

pub not_owned : (z : Bool) → is_owned (cond z (Some Safe) None) ≡ false
not_owned true = refl
not_owned false = refl

named_there : (o : Option Class) (name : List ℕ) → bytes_eq [] name ≡ false → bytes_eq (elim o [ None ↦ [] | Some class ↦ class.name ]) name ≡ true → (class : Class) × (o ≡ Some class)
named_there None name some e = absurd (cc)
named_there (Some class) name some e = (class, refl)

module _ (p : Program) (keeps : Keeps p) (form : p.form ≡ Plain) where
  abbrev pub n : ℕ
  n = first p keeps form

  name_of : (test : Native → Bool) (text : List ℕ) → AllByRecursion (Called test text) natives → (id : MethodId) (m : Method) (k : Native) → method_at p id ≡ Some m → native_of p id ≡ Some k → test k ≡ true → (m.built_in ≡ true) × (bytes_eq m.name text ≡ true)
  name_of test text all id m k there known is =
      let w = native_is_named (class_name p m.owner) m k (sym (ap (λ (o : Option Method). o >>= native_method p) there) ∙ known) in
      (w.0, called_so test text natives all (class_name p m.owner) m.name k w.1 is)

  pub put_is : (id : MethodId) (m : Method) → method_at p id ≡ Some m → native_of p id ≡ Some native.Put → Puts n m
  put_is id m there known = let w = name_of is_put (codes "put") all_put id m native.Put there known refl in built_in_one p keeps form (NamedSo (codes "put") (Puts n)) (puts_so n) id m there w.0 w.1

  pub wait_is : (id : MethodId) (m : Method) → method_at p id ≡ Some m → native_of p id ≡ Some native.PutWait → Puts n m
  wait_is id m there known = let w = name_of is_wait (codes "putw") all_wait id m native.PutWait there known refl in built_in_one p keeps form (NamedSo (codes "putw") (Puts n)) (waits_so n) id m there w.0 w.1

  pub start_is : (id : MethodId) (m : Method) → method_at p id ≡ Some m → native_of p id ≡ Some native.Start → Begins n Free m
  start_is id m there known = let w = name_of is_start (codes "start") all_start id m native.Start there known refl in built_in_one p keeps form (NamedSo (codes "start") (Begins n Free)) (starts_so n) id m there w.0 w.1

  pub execute_is : (id : MethodId) (m : Method) → method_at p id ≡ Some m → m.built_in ≡ true → bytes_eq m.name (codes "execute") ≡ true → Begins n Cuttable m × (is_constructor m ≡ false) × (m.is_private ≡ false)
  execute_is id m there own name = built_in_one p keeps form (NamedSo (codes "execute") (λ m. Begins n Cuttable m × (is_constructor m ≡ false) × (m.is_private ≡ false))) (executes_so n) id m there own name

  -- ---- kinds

  pub message_kind : class_kind p (class_id (n + 2)) ≡ kind.Tree
  message_kind = message_is_tree p keeps (class_id (n + 2)) (same_text (class_name p (class_id (n + 2))) (codes "kilim/Message") (named_at p keeps Plain form 2 (codes "kilim/Message") (message_at n (length keeps.built_in.own_methods))))

  pub task_named : is_named_task p (class_id (n + 4)) ≡ true
  task_named = same_text (class_name p (class_id (n + 4))) (codes "kilim/Task") (task_name p keeps form)

  pub task_kind : class_kind p (class_id (n + 4)) ≡ kind.Tree
  task_kind = by (named_there (class_at p (class_id (n + 4))) (codes "kilim/Task") refl task_named)
    where
      by : (class : Class) × (class_at p (class_id (n + 4)) ≡ Some class) → class_kind p (class_id (n + 4)) ≡ kind.Tree
      by w =
          let line = line_begins p keeps form (class_id (n + 4)) w.0 w.1 in
          let task : is_task p (class_id (n + 4)) ≡ true = ap (λ (ds : List ClassId). list_any (is_named_task p) ds) line.1 ∙ or_left (is_named_task p (class_id (n + 4))) (list_any (is_named_task p) line.0) task_named in
          ap (λ (x : List ℕ). cond (is_value_class x) kind.Value (cond (is_task p (class_id (n + 4)) || is_message p (class_id (n + 4))) kind.Tree kind.Private)) (task_name p keeps form)
          ∙ ap (λ (z : Bool). cond (z || is_message p (class_id (n + 4))) kind.Tree kind.Private) task

  -- a task is a tree
  pub tree_of_task : (c : ClassId) → class_kind p c ≡ kind.Tree → object_sort p (class_type c.0) ≡ Tree 0 Trees
  tree_of_task c e = ap (sort_by p (class_type c.0)) e ∙ ap (λ (k : Kind). Tree 0 (Rattle.kilim_isolation_laws.specs.graph_rows.Holds.stuff_of p (base.Class c) k)) e

  -- what is of a type that is a tree is one
  pub below_tree : (c : Ty) (k : ClassId) → class_kind p k ≡ kind.Tree → fits_type p c (class_type k.0) ≡ true → object_sort p c ≡ Tree 0 Trees
  unfolding fits_type
  below_tree c k tree e = by c.dims c.base refl refl e
    where
      flows : (x y : Kind) → ClassFlow x y → y ≡ kind.Tree → x ≡ kind.Tree
      flows kind.Tree kind.Tree f e = refl
      flows kind.Value kind.Tree f e = absurd f
      flows kind.Private kind.Tree f e = absurd f
      flows x kind.Value f e = absurd (cc)
      flows x kind.Private f e = absurd (cc)

      by : (d : ℕ) (b : Base) → c.dims ≡ d → c.base ≡ b → Rattle.kilim_program.specs.Fits.type_assignable p d b 0 (base.Class k) ≡ true → object_sort p c ≡ Tree 0 Trees
      by zero (base.Class a) ed eb e =
          ap (λ (d : ℕ). object_sort p (record { dims = d; base = c.base })) ed ∙ (ap (λ (b : Base). object_sort p (record { dims = 0; base = b })) eb ∙ tree_of_task a (flows (class_kind p a) (class_kind p k) ((classes_flow p keeps).kinds a k e) tree))
      by (suc d) b ed eb e = absurd (let x = sym tree ∙ (classes_flow p keeps).object (base.Class k) e in cc)
      by zero base.Bool ed eb e = absurd (cc)
      by zero base.Byte ed eb e = absurd (cc)
      by zero base.Char ed eb e = absurd (cc)
      by zero base.Short ed eb e = absurd (cc)
      by zero base.Int ed eb e = absurd (cc)
      by zero base.Long ed eb e = absurd (cc)

  -- ---- parameters

  pub put_parameters : (m : Method) → Puts n m → parameters_of m ≡ record { ty = class_type (n + 5); qualifier = Safe } ∷ record { ty = class_type (n + 2); qualifier = Free } ∷ []
  put_parameters m e =
      ap (λ (z : Bool). cond z (declared_parameters m.params m.qualifiers) (record { ty = class_type m.owner.0; qualifier = m.receiver } ∷ declared_parameters m.params m.qualifiers)) e.0
      ∙ (ap (λ (c : ClassId). record { ty = class_type c.0; qualifier = m.receiver } ∷ declared_parameters m.params m.qualifiers) e.1
      ∙ (ap (λ (q : Qualifier). record { ty = class_type (n + 5); qualifier = q } ∷ declared_parameters m.params m.qualifiers) e.2
      ∙ (ap (λ (tys : List Ty). record { ty = class_type (n + 5); qualifier = Safe } ∷ declared_parameters tys m.qualifiers) e.3
      ∙ ap (λ (qs : List Qualifier). record { ty = class_type (n + 5); qualifier = Safe } ∷ declared_parameters (class_type (n + 2) ∷ []) qs) e.4)))

  pub start_parameters : (m : Method) → Begins n Free m → parameters_of m ≡ record { ty = class_type (n + 4); qualifier = Free } ∷ []
  start_parameters m e =
      ap (λ (z : Bool). cond z (declared_parameters m.params m.qualifiers) (record { ty = class_type m.owner.0; qualifier = m.receiver } ∷ declared_parameters m.params m.qualifiers)) e.0
      ∙ (ap (λ (c : ClassId). record { ty = class_type c.0; qualifier = m.receiver } ∷ declared_parameters m.params m.qualifiers) e.1
      ∙ (ap (λ (q : Qualifier). record { ty = class_type (n + 4); qualifier = q } ∷ declared_parameters m.params m.qualifiers) e.2
      ∙ (ap (λ (tys : List Ty). record { ty = class_type (n + 4); qualifier = Free } ∷ declared_parameters tys m.qualifiers) e.3
      ∙ ap (λ (qs : List Qualifier). record { ty = class_type (n + 4); qualifier = Free } ∷ declared_parameters [] qs) e.4)))
