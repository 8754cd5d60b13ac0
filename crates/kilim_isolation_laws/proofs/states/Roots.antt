-- What is of the class of messages may be put, and what is of that of tasks may be started.
use Rattle.std.proofs.Common.{◌≡◌, inl, inr, ℕ, zero, suc, ◌+◌, ◌≤◌, Bool, true, false, true≢false, cond, eqb, List, [], ◌∷◌, length, Option, Some, None, refl, sym, ap, subst, ◌∙◌, arith}
use Rattle.std.specs.Prelude.{◌&&◌, ◌||◌, not, slice_get, codes}
use Rattle.std.specs.List.{list_any}
use Rattle.std.specs.Str.{bytes_eq}
use Rattle.std.proofs.lemmas.Bool.{eqb-true, or_left}
use Rattle.kilim_program.specs.declared.class.Class.{Class}
use Rattle.kilim_program.specs.declared.class.Form.TheVariants.{Plain, Woven}
use Rattle.kilim_program.specs.declared.class.Form.{Form}
use Rattle.kilim_program.specs.declared.names.ClassId.{ClassId}
use Rattle.kilim_program.specs.declared.ty.Base.{Base}
use Rattle.kilim_program.specs.declared.ty.Base.TheVariants as base
use Rattle.kilim_program.specs.declared.ty.Kind.{Kind}
use Rattle.kilim_program.specs.declared.ty.Kind.TheVariants as kind
use Rattle.kilim_program.specs.declared.ty.Ty.{Ty}
use Rattle.kilim_program.specs.BuiltIn.{built_in_classes_in, class_id, class_type}
use Rattle.kilim_program.specs.Fits.{class_assignable, fits_type, is_named, type_assignable}
use Rattle.kilim_program.specs.Keeps.{Keeps, none_is_both}
use Rattle.kilim_program.specs.Kinds.{class_kind, is_marked, is_message, is_value_class}
use Rattle.kilim_program.specs.Names.{◌>>=◌, class_at, class_name, is_named_task, is_task, line_of, line_up_to}
use Rattle.kilim_program.specs.Program.{Program}
use Rattle.kilim_run_state.specs.Trees.{OfMessage, OfTask, is_root}
use Rattle.kilim_type_sound.proofs.BuiltInMembers.{NamedAt, named_at}
use Rattle.kilim_type_laws.proofs.members.Through.{cases, each_at, message_at, message_top}
use Rattle.kilim_isolation_laws.proofs.sorts.Lines.{message_kind, object_is_private, step_up}
use Rattle.kilim_isolation_laws.proofs.typed_threads.fine.Natives.{first, object_name, task_name}
use Rattle.kilim_isolation_laws.proofs.typed_threads.Booting.{line_begins}
use Rattle.kilim_isolation_laws.proofs.typed_threads.Executing.{same_class}
use Rattle.kilim_lemmas.proofs.Lists.{get_right}

message_marked : (form : Form) (a b : ℕ) → is_marked (slice_get (built_in_classes_in form a b) 2) ≡ true
message_marked Plain a b = refl
message_marked Woven a b = refl

message_class : (a b : ℕ) → NamedAt Plain a b 2 (codes "kilim/Message")
message_class a b = record { class = _; at = refl; is = refl }

task_class : (a b : ℕ) → (class : Class) × (slice_get (built_in_classes_in Plain a b) 4 ≡ Some class) × (class.superclass ≡ Some (class_id a))
task_class a b = (_, refl, refl)

some_same : {A : Type 0} (x y : A) → Some x ≡ Some y → x ≡ y
some_same x y e = cc

any_weaker : (test weak : ClassId → Bool) → ((d : ClassId) → test d ≡ true → weak d ≡ true) → (ds : List ClassId) → list_any test ds ≡ true → list_any weak ds ≡ true
any_weaker test weak w [] e = absurd (cc)
any_weaker test weak w (d ∷ ds) e = by (test d) refl e (λ later. any_weaker test weak w ds later)
  where
    right : (a b : Bool) → b ≡ true → (a || b) ≡ true
    right true b e = refl
    right false b e = e

    by : (z : Bool) → test d ≡ z → (z || list_any test ds) ≡ true → (list_any test ds ≡ true → list_any weak ds ≡ true) → (weak d || list_any weak ds) ≡ true
    by true t e again = or_left (weak d) (list_any weak ds) (w d t)
    by false t e again = right (weak d) (list_any weak ds) (again e)

-- a tree's class is a task's or a message's
tree_kind : (v t m : Bool) → cond v kind.Value (cond (t || m) kind.Tree kind.Private) ≡ kind.Tree → (t || m) ≡ true
tree_kind true t m e = absurd (cc)
tree_kind false true m e = refl
tree_kind false false true e = refl
tree_kind false false false e = absurd (cc)

module _ (p : Program) (keeps : Keeps p) (form : p.form ≡ Plain) where
  abbrev n : ℕ
  n = first p keeps form

  abbrev methods : ℕ
  methods = length keeps.built_in.own_methods

  abbrev up : ClassId → Option ClassId
  up c = class_at p c >>= λ (class : Class). class.superclass

  abbrev line_from : ℕ → Option ClassId → List ClassId
  line_from k o = elim o [ None ↦ [] | Some u ↦ line_up_to p k u ]

  abbrev message : ClassId
  message = class_id (n + 2)

  abbrev task : ClassId
  task = class_id (n + 4)

  message_name : class_name p message ≡ codes "kilim/Message"
  message_name = named_at p keeps Plain form 2 (codes "kilim/Message") (message_class n methods)

  not_object : (c : ClassId) (name : List ℕ) → class_name p c ≡ name → bytes_eq name (codes "java/lang/Object") ≡ false → is_named p (codes "java/lang/Object") c ≡ true → ⊥
  not_object c name is other e = let no = ap (λ (x : List ℕ). bytes_eq x (codes "java/lang/Object")) is ∙ other in cc

  message_is : is_message p message ≡ true
  message_is =
      ap is_marked (message_at p keeps message (ap (λ (x : List ℕ). bytes_eq x (codes "kilim/Message")) message_name) ∙ sym (message_top p.form n methods).at) ∙ message_marked p.form n methods

  task_at : class_at p task ≡ Some (task_class n methods).0
  task_at =
      ap (λ (cs : List Class). slice_get cs (n + 4)) keeps.built_in.classes
      ∙ (get_right keeps.built_in.own_classes (built_in_classes_in p.form n methods) (n + 4) 4 refl ∙ (ap (λ (f : Form). slice_get (built_in_classes_in f n methods) 4) form ∙ (task_class n methods).1))

  task_is : is_task p task ≡ true
  task_is =
      let line = line_begins p keeps form task (task_class n methods).0 task_at in
      ap (λ (ds : List ClassId). list_any (is_named_task p) ds) line.1 ∙ or_left (is_named_task p task) (list_any (is_named_task p) line.0) (ap (λ (x : List ℕ). bytes_eq x (codes "kilim/Task")) (task_name p keeps form))

  -- ---- a subclass of a message class is one

  any_more : (test : ClassId → Bool) (m k : ℕ) (a : ClassId) → m ≤ k → list_any test (line_up_to p m a) ≡ true → list_any test (line_up_to p k a) ≡ true
  any_more test zero k a le e = absurd (cc)
  any_more test (suc m) zero a le e = absurd (omega (arith, le))
  any_more test (suc m) (suc k) a le e = by (test a) (up a) e (λ u later. any_more test m k u (omega (arith, le)) later)
    where
      by : (z : Bool) (o : Option ClassId) → (z || list_any test (line_from m o)) ≡ true → ((u : ClassId) → list_any test (line_up_to p m u) ≡ true → list_any test (line_up_to p k u) ≡ true) → (z || list_any test (line_from k o)) ≡ true
      by true o e again = refl
      by false None e again = e
      by false (Some u) e again = again u e

  task_above : (c u : ClassId) → up c ≡ Some u → is_named_task p c ≡ false → is_task p c ≡ true → is_task p u ≡ true
  task_above c u e none any = by (length p.classes) refl any
    where
      by : (k : ℕ) → length p.classes ≡ k → list_any (is_named_task p) (line_up_to p k c) ≡ true → is_task p u ≡ true
      by zero size any = absurd (cc)
      by (suc k) size any =
          let a : list_any (is_named_task p) (line_from k (up c)) ≡ true = sym (ap (λ (z : Bool). z || list_any (is_named_task p) (line_from k (up c))) none) ∙ any in
          any_more (is_named_task p) k (length p.classes) u (omega (arith, size)) (subst (λ (o : Option ClassId). list_any (is_named_task p) (line_from k o) ≡ true) e a)

  -- none is both
  not_both : (c : ClassId) (class : Class) → class_at p c ≡ Some class → is_task p c ≡ true → is_message p c ≡ true → ⊥
  unfolding none_is_both
  not_both c class at t m =
      let one = each_at (λ (k : ClassId) (class : Class). not (is_task p k && is_message p k)) 0 p.classes c.0 class keeps.both at in
      let number : 0 + c.0 ≡ c.0 = omega arith in
      let here = subst (λ (k : ℕ). not (is_task p (class_id k) && is_message p (class_id k)) ≡ true) number one in
      by (is_task p c) (is_message p c) t m here
    where
      by : (a b : Bool) → a ≡ true → b ≡ true → not (a && b) ≡ true → ⊥
      by true true t m e = cc
      by true false t m e = cc
      by false b t m e = cc

  there : (c : ClassId) → is_message p c ≡ true → (class : Class) × (class_at p c ≡ Some class)
  there c e = by (class_at p c) refl e
    where
      by : (o : Option Class) → class_at p c ≡ o → is_marked o ≡ true → (class : Class) × (class_at p c ≡ Some class)
      by None at e = absurd (cc)
      by (Some class) at e = (class, at)

  no_message : (u : ClassId) → is_named p (codes "java/lang/Object") u ≡ true → is_message p u ≡ true → ⊥
  no_message u o m = let same : kind.Tree ≡ kind.Private = sym (message_kind p keeps u m) ∙ object_is_private p keeps u o in differ same
    where
      is_tree : Kind → Bool
      is_tree kind.Tree = true
      is_tree k = false

      differ : kind.Tree ≡ kind.Private → ⊥
      differ e = let z = ap is_tree e in cc

  message_down : (c u : ClassId) → up c ≡ Some u → is_message p u ≡ true → is_message p c ≡ true
  message_down c u e m = elim (step_up p keeps c u e) [
    | inr o ↦ absurd (no_message u o m)
    | inl k ↦ by (is_task p c) (is_message p c) refl refl (tree_kind (is_value_class (class_name p c)) (is_task p c) (is_message p c) (sym k ∙ message_kind p keeps u m))
  ]
    where
      object_above : is_named_task p c ≡ true → is_named p (codes "java/lang/Object") u ≡ true
      object_above own =
          let number = same_class p keeps form (codes "kilim/Task") refl c task own (ap (λ (x : List ℕ). bytes_eq x (codes "kilim/Task")) (task_name p keeps form)) in
          let above : up c ≡ Some (class_id n) = ap (λ (k : ℕ). up (class_id k)) number ∙ (ap (λ (o : Option Class). o >>= λ (class : Class). class.superclass) task_at ∙ (task_class n methods).2) in
          subst (λ (d : ClassId). is_named p (codes "java/lang/Object") d ≡ true) (some_same (class_id n) u (sym above ∙ e)) (ap (λ (x : List ℕ). bytes_eq x (codes "java/lang/Object")) (object_name p keeps form))

      named : (z : Bool) → is_named_task p c ≡ z → is_task p c ≡ true → ⊥
      named false other t = let w = there u m in not_both u w.0 w.1 (task_above c u e other t) m
      named true own t = no_message u (object_above own) m

      by : (t a : Bool) → is_task p c ≡ t → is_message p c ≡ a → (t || a) ≡ true → a ≡ true
      by t true et ea e = refl
      by true false et ea e = absurd (named (is_named_task p c) refl et)
      by false false et ea e = absurd (cc)

  message_line : (k : ℕ) (c : ClassId) → list_any (is_message p) (line_up_to p k c) ≡ true → is_message p c ≡ true
  message_line zero c e = absurd (cc)
  message_line (suc k) c e = by (is_message p c) (up c) refl refl e (λ u later. message_line k u later)
    where
      by : (z : Bool) (o : Option ClassId) → is_message p c ≡ z → up c ≡ o → (z || list_any (is_message p) (line_from k o)) ≡ true → ((u : ClassId) → list_any (is_message p) (line_up_to p k u) ≡ true → is_message p u ≡ true) → z ≡ true
      by true o m f e again = refl
      by false None m f e again = absurd (cc)
      by false (Some u) m f e again = sym m ∙ message_down c u f (again u e)

  -- ---- roots

  marked : (o : Option Class) → is_marked o ≡ (elim o [ None ↦ false | Some class ↦ class.message ])
  marked None = refl
  marked (Some class) = refl

  class_message : (c : ClassId) → class_assignable p c message ≡ true → is_message p c ≡ true
  class_message c e =
      cases (list_any (λ (d : ClassId). eqb d.0 (n + 2)) (line_of p c)) (is_named p (codes "java/lang/Object") message) (is_named p (codes "kilim/Message") message) (list_any (is_message p) (line_of p c)) e
      (λ l. message_line (length p.classes) c (any_weaker (λ (d : ClassId). eqb d.0 (n + 2)) (is_message p) (λ d s. subst (λ (k : ℕ). is_message p (class_id k) ≡ true) (sym (eqb-true d.0 (n + 2) s)) message_is) (line_of p c) l))
      (λ o. absurd (not_object message (codes "kilim/Message") message_name refl o))
      (λ m any. message_line (length p.classes) c any)

  class_task : (c : ClassId) → class_assignable p c task ≡ true → is_task p c ≡ true
  class_task c e =
      cases (list_any (λ (d : ClassId). eqb d.0 (n + 4)) (line_of p c)) (is_named p (codes "java/lang/Object") task) (is_named p (codes "kilim/Message") task) (list_any (is_message p) (line_of p c)) e
      (λ l. any_weaker (λ (d : ClassId). eqb d.0 (n + 4)) (is_named_task p) (λ d s. subst (λ (k : ℕ). is_named_task p (class_id k) ≡ true) (sym (eqb-true d.0 (n + 4) s)) (ap (λ (x : List ℕ). bytes_eq x (codes "kilim/Task")) (task_name p keeps form))) (line_of p c) l)
      (λ o. absurd (not_object task (codes "kilim/Task") (task_name p keeps form) refl o))
      (λ m any. absurd (let no = ap (λ (x : List ℕ). bytes_eq x (codes "kilim/Message")) (task_name p keeps form) in true≢false (sym m ∙ no)))

  message_by : (d : ℕ) (b : Base) → type_assignable p d b 0 (base.Class message) ≡ true → is_root p OfMessage (record { dims = d; base = b }) ≡ true
  message_by zero (base.Class c) e = sym (marked (class_at p c)) ∙ class_message c e
  message_by (suc d) b e = absurd (not_object message (codes "kilim/Message") message_name refl e)
  message_by zero base.Bool e = absurd (cc)
  message_by zero base.Byte e = absurd (cc)
  message_by zero base.Char e = absurd (cc)
  message_by zero base.Short e = absurd (cc)
  message_by zero base.Int e = absurd (cc)
  message_by zero base.Long e = absurd (cc)

  task_by : (d : ℕ) (b : Base) → type_assignable p d b 0 (base.Class task) ≡ true → is_root p OfTask (record { dims = d; base = b }) ≡ true
  task_by zero (base.Class c) e = class_task c e
  task_by (suc d) b e = absurd (not_object task (codes "kilim/Task") (task_name p keeps form) refl e)
  task_by zero base.Bool e = absurd (cc)
  task_by zero base.Byte e = absurd (cc)
  task_by zero base.Char e = absurd (cc)
  task_by zero base.Short e = absurd (cc)
  task_by zero base.Int e = absurd (cc)
  task_by zero base.Long e = absurd (cc)

  pub message_root : (ty : Ty) → fits_type p ty (class_type (n + 2)) ≡ true → is_root p OfMessage ty ≡ true
  unfolding fits_type
  message_root ty e = message_by ty.dims ty.base e

  pub task_root : (ty : Ty) → fits_type p ty (class_type (n + 4)) ≡ true → is_root p OfTask ty ≡ true
  unfolding fits_type
  task_root ty e = task_by ty.dims ty.base e

  -- both are trees
  pub message_tree : class_kind p message ≡ kind.Tree
  message_tree = message_kind p keeps message message_is

  -- the class of tasks is a task's, and none of values
  pub task_tree : class_kind p task ≡ kind.Tree
  task_tree =
      let name = task_name p keeps form in
      ap (λ (x : List ℕ). cond (is_value_class x) kind.Value (cond (is_task p task || is_message p task) kind.Tree kind.Private)) name
      ∙ ap (λ (z : Bool). cond (z || is_message p task) kind.Tree kind.Private) task_is
