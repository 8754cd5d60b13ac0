-- Which values are of the built-in classes, and which methods are those of strings.
use Rattle.std.proofs.Common.{◌≡◌, ◌≢◌, ◌⊎◌, inl, inr, ℕ, zero, suc, ◌+◌, Bool, true, false, cond, eqb, List, [], ◌∷◌, length, Option, Some, None, refl, sym, ap, subst, ◌∙◌, arith}
use Rattle.std.specs.Prelude.{◌||◌, not, slice_get, codes}
use Rattle.std.specs.FinMap.{get}
use Rattle.std.specs.List.{AllByRecursion, list_any}
use Rattle.std.specs.Str.{bytes_eq}
use Rattle.std.proofs.lemmas.Bool.{and_from, and_parts, eqb-true, false≢true, or_left}
use Rattle.kilim_program.specs.declared.class.Class.{Class}
use Rattle.kilim_program.specs.declared.class.Form.{Form}
use Rattle.kilim_program.specs.declared.class.Form.TheVariants.{Plain}
use Rattle.kilim_program.specs.declared.class.Method.{Method}
use Rattle.kilim_program.specs.declared.names.BoxName.{BoxName}
use Rattle.kilim_program.specs.declared.names.ClassId.{ClassId}
use Rattle.kilim_program.specs.declared.names.MethodId.{MethodId}
use Rattle.kilim_program.specs.declared.ty.Base.{Base}
use Rattle.kilim_program.specs.declared.ty.Base.TheVariants as base
use Rattle.kilim_program.specs.declared.ty.Kind.{Kind}
use Rattle.kilim_program.specs.declared.ty.Kind.TheVariants as kind
use Rattle.kilim_program.specs.declared.ty.Ty.{Ty}
use Rattle.kilim_program.specs.declared.value.Value.{Value}
use Rattle.kilim_program.specs.declared.value.Value.TheVariants.{Box, Fiber, Int, Long, Null, Ref, Text}
use Rattle.kilim_program.specs.declared.verified.VType.TheVariants.{Object}
use Rattle.kilim_program.specs.BuiltIn.{built_in_classes_in, built_in_methods_in, class_id, class_type}
use Rattle.kilim_program.specs.Fits.{fits_type, is_named, type_assignable}
use Rattle.kilim_program.specs.Keeps.{Keeps}
use Rattle.kilim_program.specs.Kinds.{class_kind, is_message, is_value_class}
use Rattle.kilim_program.specs.Names.{◌>>=◌, class_at, class_name, class_named, is_named_task, is_task, line_of, line_up_to, method_at}
use Rattle.kilim_program.specs.Program.{Program}
use Rattle.kilim_program.proofs.BuiltIns.{exceptions_too}
use Rattle.kilim_program.specs.Same.{is_constructor}
use Rattle.kilim_lemmas.proofs.Lists.{get_right}
use Rattle.kilim_lemmas.proofs.Texts.{text_is}
use Rattle.kilim_type_sound.specs.Fits.{Classes, ContentFits, HeapFits, IsThere, has_type, is_of}
use Rattle.kilim_type_sound.proofs.BuiltInMembers.{named_at}
use Rattle.kilim_type_laws.proofs.members.ClassMethods.{IsAmong, owner_has}
use Rattle.kilim_type_sound.proofs.TextClass.{alone}
use Rattle.kilim_type_laws.proofs.members.Through.{Top, cases}
use Rattle.kilim_type_laws.proofs.members.ValueClasses.{all_of_at, found_name, type_is}
use Rattle.kilim_isolation_laws.proofs.typed_threads.fine.Natives.{built_in_one, first, object_name, task_name}
use Rattle.kilim_isolation_laws.proofs.typed_threads.fine.Shown.{no_fiber_class}
use Rattle.kilim_run_state.specs.declared.value.Object.{Object as HeapObject}
use Rattle.kilim_run_state.specs.declared.value.Token.{Token}
use Rattle.kilim_run_state.specs.declared.value.Token.TheVariants as token
use Rattle.kilim_program.specs.Members.{named_class, named_type}
use Rattle.kilim_run_state.specs.Machine.{Objects}
use Rattle.kilim_program.specs.Members.{is_concrete}
use Rattle.kilim_run_machine.specs.Natives.{is_built_in_constructor, is_of_message, is_text_method}
use Rattle.kilim_isolation_laws.proofs.sorts.Choosing.{of_object}
use Rattle.kilim_isolation_laws.proofs.sorts.KindsOfClasses.{ClassFlow}
use Rattle.kilim_isolation_laws.proofs.sorts.Sorted.{classes_flow, message_is_tree}
use Rattle.kilim_run_model.specs.Lone.{printed}
use Rattle.kilim_type_spec.specs.Typed.{has_code}
use Rattle.kilim_fiber_laws.proofs.courses.answers.Deeds.{IsMessage}

-- ---- the class of strings

string_top : (a b : ℕ) → Top Plain a b 1 (Some (class_id a)) (codes "java/lang/String")
string_top a b = record { class = _; at = refl; is = refl; superclass = refl; fields = refl }

object_top : (a b : ℕ) → Top Plain a b 0 None (codes "java/lang/Object")
object_top a b = record { class = _; at = refl; is = refl; superclass = refl; fields = refl }

some : {A : Type 0} {x y : A} → Some x ≡ Some y → x ≡ y
some e = cc

string_methods : (a b : ℕ) (c : Class) → slice_get (built_in_classes_in Plain a b) 1 ≡ Some c → c.methods ≡ record { 0 = b + 1 } ∷ record { 0 = b + 2 } ∷ record { 0 = b + 3 } ∷ []
string_methods a b c e = let s : _ ≡ c = some e in sym (ap (λ (x : Class). x.methods) s)

all_built : (n : ℕ) → AllByRecursion (λ (m : Method). m.built_in ≡ true) (built_in_methods_in Plain n)
all_built n = (refl, (refl, (refl, (refl, (refl, (refl, (refl, (refl, (refl, (refl, (refl, (refl, (refl, (refl, (refl, (refl, (refl, (refl, (refl, (refl, exceptions_too (λ (m : Method). m.built_in ≡ true) n [] (λ c. refl) (λ c. refl) refl tt))))))))))))))))))))

all_bare : (n : ℕ) → AllByRecursion (λ (m : Method). has_code m ≡ false) (built_in_methods_in Plain n)
all_bare n = (refl, (refl, (refl, (refl, (refl, (refl, (refl, (refl, (refl, (refl, (refl, (refl, (refl, (refl, (refl, (refl, (refl, (refl, (refl, (refl, exceptions_too (λ (m : Method). has_code m ≡ false) n [] (λ c. refl) (λ c. refl) refl tt))))))))))))))))))))

number_of : Base → ℕ
number_of (base.Class c) = c.0
number_of b = 0

number_same : (a b : ClassId) → class_type a.0 ≡ class_type b.0 → a.0 ≡ b.0
unfolding number_of
number_same a b e = ap (λ (ty : Ty). number_of ty.base) e

abbrev pub NotNull : Value → Type 0
NotNull v = v ≢ Null

module _ (p : Program) (keeps : Keeps p) (form : p.form ≡ Plain) where
  abbrev n : ℕ
  n = first p keeps form

  abbrev methods : ℕ
  methods = length keeps.built_in.own_methods

  built_at : (k : ℕ) (class : Class) → slice_get (built_in_classes_in Plain (length keeps.built_in.own_classes) (length keeps.built_in.own_methods)) k ≡ Some class → class_at p (class_id (length keeps.built_in.own_classes + k)) ≡ Some class
  built_at k class at =
      ap (λ (cs : List Class). slice_get cs (length keeps.built_in.own_classes + k)) keeps.built_in.classes
      ∙ (get_right keeps.built_in.own_classes (built_in_classes_in p.form (length keeps.built_in.own_classes) (length keeps.built_in.own_methods)) (length keeps.built_in.own_classes + k) k refl
      ∙ (ap (λ (f : Form). slice_get (built_in_classes_in f (length keeps.built_in.own_classes) (length keeps.built_in.own_methods)) k) form ∙ at))

  method_built : (id : MethodId) (m : Method) (k : ℕ) → id.0 ≡ length keeps.built_in.own_methods + k → method_at p id ≡ Some m → m.built_in ≡ true
  method_built id m k place there =
      all_of_at (λ (x : Method). x.built_in ≡ true) (built_in_methods_in Plain (length keeps.built_in.own_classes)) (all_built (length keeps.built_in.own_classes)) k m
      (sym (get_right keeps.built_in.own_methods (built_in_methods_in p.form (length keeps.built_in.own_classes)) id.0 k place ∙ ap (λ (f : Form). slice_get (built_in_methods_in f (length keeps.built_in.own_classes)) k) form)
      ∙ (sym (ap (λ (ms : List Method). slice_get ms id.0) keeps.built_in.methods) ∙ there))

  -- what is built in has no code
  pub bare : (id : MethodId) (m : Method) → method_at p id ≡ Some m → m.built_in ≡ true → has_code m ≡ false
  bare id m there own = built_in_one p keeps form (λ (x : Method). has_code x ≡ false) (all_bare (length keeps.built_in.own_classes)) id m there own

  -- ---- classes by their names

  pub string_name : class_name p (class_id (first p keeps form + 1)) ≡ codes "java/lang/String"
  string_name = named_at p keeps Plain form 1 (codes "java/lang/String") (record { class = _; at = refl; is = refl })

  pub message_name : class_name p (class_id (first p keeps form + 2)) ≡ codes "kilim/Message"
  message_name = named_at p keeps Plain form 2 (codes "kilim/Message") (record { class = _; at = refl; is = refl })

  pub mailbox_name : class_name p (class_id (first p keeps form + 5)) ≡ codes "kilim/Mailbox"
  mailbox_name = named_at p keeps Plain form 5 (codes "kilim/Mailbox") (record { class = _; at = refl; is = refl })

  pub sys_name : class_name p (class_id (first p keeps form + 6)) ≡ codes "kilim/Sys"
  sys_name = named_at p keeps Plain form 6 (codes "kilim/Sys") (record { class = _; at = refl; is = refl })

  -- A built-in constructor that takes something, and not the message of an exception, has a receiver of another class than that of strings.
  OtherClass : Method → Type 0
  OtherClass m = is_built_in_constructor m ≡ false → is_of_message m ≡ false → is_constructor m ≡ true → (is_text_method p m ≡ false) × (m.is_static ≡ false)

  all_other : AllByRecursion OtherClass (built_in_methods_in Plain (length keeps.built_in.own_classes))
  unfolding OtherClass
  all_other = ((λ a o b. absurd (let z : true ≡ false = a in cc)), ((λ a o b. absurd (let z : false ≡ true = b in cc)), ((λ a o b. absurd (let z : false ≡ true = b in cc)), ((λ a o b. absurd (let z : false ≡ true = b in cc)), ((λ a o b. absurd (let z : true ≡ false = a in cc)), ((λ a o b. absurd (let z : false ≡ true = b in cc)), ((λ a o b. absurd (let z : false ≡ true = b in cc)), ((λ a o b. absurd (let z : true ≡ false = a in cc)), ((λ a o b. (ap (λ (x : List ℕ). bytes_eq x (codes "java/lang/String")) mailbox_name, refl)), ((λ a o b. absurd (let z : false ≡ true = b in cc)), ((λ a o b. absurd (let z : false ≡ true = b in cc)), ((λ a o b. absurd (let z : false ≡ true = b in cc)), ((λ a o b. absurd (let z : false ≡ true = b in cc)), ((λ a o b. absurd (let z : false ≡ true = b in cc)), ((λ a o b. absurd (let z : false ≡ true = b in cc)), ((λ a o b. absurd (let z : false ≡ true = b in cc)), ((λ a o b. absurd (let z : false ≡ true = b in cc)), ((λ a o b. absurd (let z : false ≡ true = b in cc)), ((λ a o b. absurd (let z : false ≡ true = b in cc)), ((λ a o b. absurd (let z : false ≡ true = b in cc)), exceptions_too OtherClass (length keeps.built_in.own_classes) [] (λ c a o b. absurd (let z : true ≡ false = a in cc)) (λ c a o b. absurd (let z : true ≡ false = o in cc)) (λ a o b. absurd (let z : false ≡ true = b in cc)) tt))))))))))))))))))))

  pub constructs_other : (id : MethodId) (m : Method) → method_at p id ≡ Some m → m.built_in ≡ true → is_built_in_constructor m ≡ false → is_of_message m ≡ false → is_constructor m ≡ true → (is_text_method p m ≡ false) × (m.is_static ≡ false)
  unfolding OtherClass
  constructs_other id m there own = built_in_one p keeps form OtherClass all_other id m there own

  same_class : (name : List ℕ) → bytes_eq [] name ≡ false → (a b : ClassId) → bytes_eq (class_name p a) name ≡ true → bytes_eq (class_name p b) name ≡ true → a.0 ≡ b.0
  unfolding number_of
  same_class name is a b e f =
      let t : class_type a.0 ≡ class_type b.0 = some (sym (type_is p keeps name a is e) ∙ type_is p keeps name b is f) in
      ap (λ (ty : Ty). number_of ty.base) t

  text_is_one : (c : ClassId) → bytes_eq (class_name p c) (codes "java/lang/String") ≡ true → c.0 ≡ first p keeps form + 1
  text_is_one c e = same_class (codes "java/lang/String") refl c (class_id (first p keeps form + 1)) e (ap (λ (x : List ℕ). bytes_eq x (codes "java/lang/String")) string_name)

  -- a method of the class of strings is built in
  own_text : (id : MethodId) (m : Method) → method_at p id ≡ Some m → bytes_eq (class_name p m.owner) (codes "java/lang/String") ≡ true → m.built_in ≡ true
  own_text id m there e =
      let top = string_top (length keeps.built_in.own_classes) (length keeps.built_in.own_methods) in
      let at : class_at p m.owner ≡ Some top.class = ap (λ (k : ℕ). class_at p (class_id k)) (text_is_one m.owner e) ∙ built_at 1 top.class top.at in
      by (subst (λ (xs : List MethodId). IsAmong id xs) (string_methods (length keeps.built_in.own_classes) (length keeps.built_in.own_methods) top.class top.at) (owner_has p keeps id m there top.class at))
    where
      by : IsAmong id (record { 0 = length keeps.built_in.own_methods + 1 } ∷ record { 0 = length keeps.built_in.own_methods + 2 } ∷ record { 0 = length keeps.built_in.own_methods + 3 } ∷ []) → m.built_in ≡ true
      by (inl e) = method_built id m 1 (ap (λ (x : MethodId). x.0) e) there
      by (inr (inl e)) = method_built id m 2 (ap (λ (x : MethodId). x.0) e) there
      by (inr (inr (inl e))) = method_built id m 3 (ap (λ (x : MethodId). x.0) e) there
      by (inr (inr (inr i))) = absurd i

  pub own_text_is : (id : MethodId) (m : Method) → method_at p id ≡ Some m → bytes_eq (class_name p m.owner) (codes "java/lang/String") ≡ true → is_text_method p m ≡ true
  own_text_is id m there e = and_from m.built_in (bytes_eq (class_name p m.owner) (codes "java/lang/String")) (own_text id m there e) e

  -- ---- the line of the class of strings

  line_object : (k : ℕ) (b : ClassId) → list_any (λ (d : ClassId). eqb d.0 b.0) (line_up_to p k (class_id (first p keeps form))) ≡ true → b.0 ≡ first p keeps form
  line_object zero b e = absurd (false≢true e)
  line_object (suc k) b e = by (eqb (first p keeps form) b.0) refl (subst (λ (o : Option ClassId). (eqb (first p keeps form) b.0 || list_any (λ (d : ClassId). eqb d.0 b.0) (elim o [ None ↦ [] | Some u ↦ line_up_to p k u ])) ≡ true) up e)
    where
      top : Top Plain (length keeps.built_in.own_classes) (length keeps.built_in.own_methods) 0 None (codes "java/lang/Object")
      top = object_top (length keeps.built_in.own_classes) (length keeps.built_in.own_methods)

      up : (class_at p (class_id (first p keeps form)) >>= λ (class : Class). class.superclass) ≡ None
      up = ap (λ (o : Option Class). o >>= λ (class : Class). class.superclass) (ap (λ (j : ℕ). class_at p (class_id j)) (let z : first p keeps form ≡ first p keeps form + 0 = omega arith in z) ∙ built_at 0 top.class top.at) ∙ top.superclass

      by : (z : Bool) → eqb (first p keeps form) b.0 ≡ z → (z || false) ≡ true → b.0 ≡ first p keeps form
      by true is e = sym (eqb-true (first p keeps form) b.0 is)
      by false is e = absurd (false≢true e)

  line_text : (k : ℕ) (s b : ClassId) → s.0 ≡ first p keeps form + 1 → list_any (λ (d : ClassId). eqb d.0 b.0) (line_up_to p k s) ≡ true → (b.0 ≡ s.0) ⊎ (b.0 ≡ first p keeps form)
  line_text zero s b is e = absurd (false≢true e)
  line_text (suc k) s b is e =
      by (eqb s.0 b.0) refl (subst (λ (o : Option ClassId). (eqb s.0 b.0 || list_any (λ (d : ClassId). eqb d.0 b.0) (elim o [ None ↦ [] | Some u ↦ line_up_to p k u ])) ≡ true) up e)
    where
      top : Top Plain (length keeps.built_in.own_classes) (length keeps.built_in.own_methods) 1 (Some (class_id (length keeps.built_in.own_classes))) (codes "java/lang/String")
      top = string_top (length keeps.built_in.own_classes) (length keeps.built_in.own_methods)

      up : (class_at p s >>= λ (class : Class). class.superclass) ≡ Some (class_id (first p keeps form))
      up = ap (λ (o : Option Class). o >>= λ (class : Class). class.superclass) (ap (λ (j : ℕ). class_at p (class_id j)) is ∙ built_at 1 top.class top.at) ∙ top.superclass

      by : (z : Bool) → eqb s.0 b.0 ≡ z → (z || list_any (λ (d : ClassId). eqb d.0 b.0) (line_up_to p k (class_id (first p keeps form)))) ≡ true → (b.0 ≡ s.0) ⊎ (b.0 ≡ first p keeps form)
      by true is e = inl (sym (eqb-true s.0 b.0 is))
      by false is e = inr (line_object k b e)

  is_object_name : (b : ClassId) → b.0 ≡ first p keeps form → is_named p (codes "java/lang/Object") b ≡ true
  is_object_name b e = ap (λ (j : ℕ). is_named p (codes "java/lang/Object") (class_id j)) e ∙ ap (λ (x : List ℕ). bytes_eq x (codes "java/lang/Object")) (object_name p keeps form)

  value_kind : (c : ClassId) (name : List ℕ) → bytes_eq (class_name p c) name ≡ true → is_value_class name ≡ true → class_kind p c ≡ kind.Value
  value_kind c name e value = ap (λ (x : List ℕ). cond (is_value_class x) kind.Value (cond (is_task p c || is_message p c) kind.Tree kind.Private)) (text_is (class_name p c) name e) ∙ ap (λ (z : Bool). cond z kind.Value (cond (is_task p c || is_message p c) kind.Tree kind.Private)) value

  -- what a string's class is assignable to declares no method but those of strings, and constructors
  pub text_alone : (id : MethodId) (m : Method) → method_at p id ≡ Some m → is_text_method p m ≡ false → is_constructor m ≡ false → (s : ClassId) → bytes_eq (class_name p s) (codes "java/lang/String") ≡ true → fits_type p (class_type s.0) (class_type m.owner.0) ≡ true → ⊥
  unfolding fits_type
  text_alone id m there other plain s text e =
      cases (list_any (λ (d : ClassId). eqb d.0 m.owner.0) (line_of p s)) (is_named p (codes "java/lang/Object") m.owner) (is_named p (codes "kilim/Message") m.owner) (list_any (is_message p) (line_of p s)) e
      (λ l. in_line (line_text (length p.classes) s m.owner (text_is_one s text) l))
      of_objects
      (λ q k. subst (λ (j : Kind). ClassFlow j kind.Tree) (value_kind s (codes "java/lang/String") text refl) (subst (λ (j : Kind). ClassFlow (class_kind p s) j) (message_is_tree p keeps m.owner q) ((classes_flow p keeps).kinds s m.owner e)))
    where
      of_objects : is_named p (codes "java/lang/Object") m.owner ≡ true → ⊥
      of_objects o = false≢true (sym plain ∙ (of_object p keeps id m there o).0)

      in_line : (m.owner.0 ≡ s.0) ⊎ (m.owner.0 ≡ first p keeps form) → ⊥
      in_line (inl same) = false≢true (sym other ∙ own_text_is id m there (ap (λ (j : ℕ). bytes_eq (class_name p (class_id j)) (codes "java/lang/String")) same ∙ text))
      in_line (inr same) = of_objects (is_object_name m.owner same)

  -- ---- kinds

  kind_named : (c : ClassId) → class_kind p c ≡ kind.Value → is_value_class (class_name p c) ≡ true
  kind_named c e = by (is_value_class (class_name p c)) e
    where
      tree : (z : Bool) → cond z kind.Tree kind.Private ≡ kind.Value → ⊥
      tree true e = absurd (cc)
      tree false e = absurd (cc)

      by : (z : Bool) → cond z kind.Value (cond (is_task p c || is_message p c) kind.Tree kind.Private) ≡ kind.Value → z ≡ true
      by true e = refl
      by false e = absurd (tree (is_task p c || is_message p c) e)

  text_kind : class_kind p (class_id (first p keeps form + 1)) ≡ kind.Value
  text_kind = value_kind (class_id (first p keeps form + 1)) (codes "java/lang/String") (ap (λ (x : List ℕ). bytes_eq x (codes "java/lang/String")) string_name) refl

  mailbox_kind : class_kind p (class_id (first p keeps form + 5)) ≡ kind.Value
  mailbox_kind = value_kind (class_id (first p keeps form + 5)) (codes "kilim/Mailbox") (ap (λ (x : List ℕ). bytes_eq x (codes "kilim/Mailbox")) mailbox_name) refl

  message_kind : class_kind p (class_id (first p keeps form + 2)) ≡ kind.Tree
  message_kind = message_is_tree p keeps (class_id (first p keeps form + 2)) (ap (λ (x : List ℕ). bytes_eq x (codes "kilim/Message")) message_name)

  task_kind : class_kind p (class_id (first p keeps form + 4)) ≡ kind.Tree
  task_kind =
      ap (λ (x : List ℕ). cond (is_value_class x) kind.Value (cond (is_task p (class_id (first p keeps form + 4)) || is_message p (class_id (first p keeps form + 4))) kind.Tree kind.Private)) (task_name p keeps form)
      ∙ ap (λ (z : Bool). cond (z || is_message p (class_id (first p keeps form + 4))) kind.Tree kind.Private) task
    where
      named : is_named_task p (class_id (first p keeps form + 4)) ≡ true
      named = ap (λ (x : List ℕ). bytes_eq x (codes "kilim/Task")) (task_name p keeps form)

      by : (cs : List Class) (k : ℕ) (c : ClassId) (class : Class) → slice_get cs c.0 ≡ Some class → length cs ≡ k → is_named_task p c ≡ true → list_any (is_named_task p) (line_up_to p k c) ≡ true
      by [] k c class at is e = absurd (cc)
      by (x ∷ cs) zero c class at is e = absurd (omega (arith, is))
      by (x ∷ cs) (suc k) c class at is e = or_left (is_named_task p c) _ e

      task : is_task p (class_id (first p keeps form + 4)) ≡ true
      task = by p.classes (length p.classes) (class_id (first p keeps form + 4)) _ (built_at 4 _ refl) refl named

  -- ---- values that are of such a class

  named_as : (name : List ℕ) (ty : Ty) → is_of p (named_type p name) ty ≡ true → (d : ClassId) × (bytes_eq (class_name p d) name ≡ true) × (fits_type p (class_type d.0) ty ≡ true)
  named_as name ty e = by (class_named p name) refl e
    where
      by : (o : Option ClassId) → class_named p name ≡ o → is_of p (named_class o) ty ≡ true → (d : ClassId) × (bytes_eq (class_name p d) name ≡ true) × (fits_type p (class_type d.0) ty ≡ true)
      by None there e = absurd (false≢true e)
      by (Some d) there e = (d, found_name p keeps name d there, e)

  no_fiber : (ty : Ty) → is_of p (named_type p (codes "kilim/Fiber")) ty ≡ true → ⊥
  no_fiber ty e = false≢true (sym (ap (λ (o : Option Ty). is_of p o ty) (no_fiber_class p keeps form)) ∙ e)

  -- a string or a mailbox is of no class of trees
  tree_no_value : (c : ClassId) → class_kind p c ≡ kind.Tree → (name : List ℕ) → is_value_class name ≡ true → is_of p (named_type p name) (class_type c.0) ≡ true → ⊥
  unfolding fits_type
  tree_no_value c tree name value e =
      let d = named_as name (class_type c.0) e in
      subst (λ (k : Kind). ClassFlow k kind.Tree) (value_kind d.0 name d.1 value) (subst (λ (k : Kind). ClassFlow (class_kind p d.0) k) tree ((classes_flow p keeps).kinds d.0 c d.2))

  -- no object is of a class of values
  ref_no_value : (of : Classes) (h : Objects) → HeapFits p of h → (k : ℕ) (o : HeapObject) → get h k ≡ Some o → (c : ClassId) → class_kind p c ≡ kind.Value → is_of p (of k) (class_type c.0) ≡ true → ⊥
  unfolding fits_type
  ref_no_value of h heap k o at c value e = by o.class.dims o.class.base (heap.objects k o at) (subst (λ (x : Option Ty). is_of p x (class_type c.0) ≡ true) (heap.classes k o at) e)
    where
      flows : (x y : Kind) → ClassFlow x y → y ≡ kind.Value → x ≡ kind.Value
      flows kind.Value kind.Value f e = refl
      flows kind.Tree kind.Value f e = absurd f
      flows kind.Private kind.Value f e = absurd f
      flows x kind.Tree f e = absurd (cc)
      flows x kind.Private f e = absurd (cc)

      private_not : kind.Private ≡ kind.Value → ⊥
      private_not e = absurd (cc)

      by : (d : ℕ) (b : Base) → ContentFits p of d b o → type_assignable p d b 0 (base.Class c) ≡ true → ⊥
      by zero (base.Class a) fit e =
          let is = kind_named a (flows (class_kind p a) (class_kind p c) ((classes_flow p keeps).kinds a c e) value) in
          false≢true (sym (ap not is) ∙ (and_parts (is_concrete (class_at p a)) (not (is_value_class (class_name p a))) fit.0).1)
      by (suc d) b fit e = private_not (sym ((classes_flow p keeps).object (base.Class c) e) ∙ value)
      by zero base.Bool fit e = fit
      by zero base.Byte fit e = fit
      by zero base.Char fit e = fit
      by zero base.Short fit e = fit
      by zero base.Int fit e = fit
      by zero base.Long fit e = fit

  -- ---- arguments

  module _ (m : Method) (of : Classes) where
    pub task_is : (v : Value) → NotNull v → has_type p m of (Object (class_type (first p keeps form + 4))) v ≡ true → (k : ℕ) × (v ≡ Ref k)
    task_is (Int x) nn e = absurd (false≢true e)
    task_is (Long x) nn e = absurd (false≢true e)
    task_is Null nn e = absurd (nn refl)
    task_is (Ref k) nn e = (k, refl)
    task_is (Text units) nn e = absurd (tree_no_value (class_id (first p keeps form + 4)) task_kind (codes "java/lang/String") refl e)
    task_is (Box box) nn e = absurd (tree_no_value (class_id (first p keeps form + 4)) task_kind (codes "kilim/Mailbox") refl e)
    task_is Fiber nn e = absurd (no_fiber (class_type (first p keeps form + 4)) e)

    pub message_is : (v : Value) → has_type p m of (Object (class_type (first p keeps form + 2))) v ≡ true → IsMessage v
    message_is (Int x) e = absurd (false≢true e)
    message_is (Long x) e = absurd (false≢true e)
    message_is Null e = tt
    message_is (Ref k) e = tt
    message_is (Text units) e = absurd (tree_no_value (class_id (first p keeps form + 2)) message_kind (codes "java/lang/String") refl e)
    message_is (Box box) e = absurd (tree_no_value (class_id (first p keeps form + 2)) message_kind (codes "kilim/Mailbox") refl e)
    message_is Fiber e = absurd (no_fiber (class_type (first p keeps form + 2)) e)

    module _ (h : Objects) (heap : HeapFits p of h) where
      pub box_is : (v : Value) → NotNull v → IsThere h v → has_type p m of (Object (class_type (first p keeps form + 5))) v ≡ true → (box : BoxName) × (v ≡ Box box)
      unfolding fits_type
      box_is (Int x) nn t e = absurd (false≢true e)
      box_is (Long x) nn t e = absurd (false≢true e)
      box_is Null nn t e = absurd (nn refl)
      box_is (Ref k) nn t e = absurd (ref_no_value of h heap k t.0 t.1 (class_id (first p keeps form + 5)) mailbox_kind e)
      box_is (Text units) nn t e = absurd (text_no_box e)
        where
          apart : (b : ClassId) → (b.0 ≡ first p keeps form + 5) → (s : ClassId) → s.0 ≡ first p keeps form + 1 → (b.0 ≡ s.0) ⊎ (b.0 ≡ first p keeps form) → ⊥
          apart b five s one (inl e) = omega (arith, five, one, e)
          apart b five s one (inr e) = omega (arith, five, e)

          other : (name : List ℕ) → bytes_eq (codes "kilim/Mailbox") name ≡ false → is_named p name (class_id (first p keeps form + 5)) ≡ true → ⊥
          other name differs e = false≢true (sym differs ∙ (sym (ap (λ (x : List ℕ). bytes_eq x name) mailbox_name) ∙ e))

          text_no_box : is_of p (named_type p (codes "java/lang/String")) (class_type (first p keeps form + 5)) ≡ true → ⊥
          text_no_box e =
              let d = named_as (codes "java/lang/String") (class_type (first p keeps form + 5)) e in
              cases (list_any (λ (x : ClassId). eqb x.0 (first p keeps form + 5)) (line_of p d.0)) (is_named p (codes "java/lang/Object") (class_id (first p keeps form + 5))) (is_named p (codes "kilim/Message") (class_id (first p keeps form + 5))) (list_any (is_message p) (line_of p d.0)) d.2
              (λ l. apart (class_id (first p keeps form + 5)) refl d.0 (text_is_one d.0 d.1) (line_text (length p.classes) d.0 (class_id (first p keeps form + 5)) (text_is_one d.0 d.1) l))
              (λ o. other (codes "java/lang/Object") refl o)
              (λ q k. other (codes "kilim/Message") refl q)
      box_is (Box box) nn t e = (box, refl)
      box_is Fiber nn t e = absurd (no_fiber (class_type (first p keeps form + 5)) e)

      -- what is of the class of strings is printed
      pub text_shown : (v : Value) → IsThere h v → has_type p m of (Object (class_type (first p keeps form + 1))) v ≡ true → (t : Token) × (printed v ≡ Some t)
      text_shown (Int x) t e = absurd (false≢true e)
      text_shown (Long x) t e = absurd (false≢true e)
      text_shown Null t e = (token.Null, refl)
      text_shown (Ref k) t e = absurd (ref_no_value of h heap k t.0 t.1 (class_id (first p keeps form + 1)) text_kind e)
      text_shown (Text units) t e = (token.Text units, refl)
      text_shown (Box box) t e = absurd (box_no_text e)
        where
          text_named : bytes_eq (class_name p (class_id (first p keeps form + 1))) (codes "java/lang/String") ≡ true
          text_named = ap (λ (x : List ℕ). bytes_eq x (codes "java/lang/String")) string_name

          box_no_text : is_of p (named_type p (codes "kilim/Mailbox")) (class_type (first p keeps form + 1)) ≡ true → ⊥
          box_no_text e =
              let d = named_as (codes "kilim/Mailbox") (class_type (first p keeps form + 1)) e in
              let same : d.0.0 ≡ first p keeps form + 1 = number_same d.0 (class_id (first p keeps form + 1)) (alone p keeps (class_id (first p keeps form + 1)) text_named (class_type d.0.0) d.2) in
              false≢true (ap (λ (x : List ℕ). bytes_eq x (codes "kilim/Mailbox")) (sym string_name) ∙ (ap (λ (j : ℕ). bytes_eq (class_name p (class_id j)) (codes "kilim/Mailbox")) (sym same) ∙ d.1))
      text_shown Fiber t e = absurd (no_fiber (class_type (first p keeps form + 1)) e)
