-- Where the constructor of the main class begins, its frame fits.
use Rattle.std.proofs.Common.{◌≡◌, ◌⊎◌, inl, inr, ℕ, zero, suc, ◌+◌, Bool, true, false, cond, eqb, List, [], ◌∷◌, ◌++◌, length, map, reverse, filter, Option, Some, None, refl, sym, ap, subst, ◌∙◌, arith}
use Rattle.std.specs.Prelude.{◌&&◌, ◌||◌, not, is_none, slice_get, codes}
use Rattle.std.specs.List.{flat_map, list_any, list_all}
use Rattle.std.specs.Str.{bytes_eq}
use Rattle.std.proofs.lemmas.Bool.{and_parts, and_from, eq-eqb, eqb-true, not-true}
use Rattle.kilim_program.specs.declared.class.Class.{Class}
use Rattle.kilim_program.specs.declared.class.Field.{Field}
use Rattle.kilim_program.specs.declared.class.Form.TheVariants.{Plain, Woven}
use Rattle.kilim_program.specs.declared.class.Form.{Form}
use Rattle.kilim_program.specs.declared.class.Method.{Method}
use Rattle.kilim_program.specs.declared.names.ClassId.{ClassId}
use Rattle.kilim_program.specs.declared.names.FieldId.{FieldId}
use Rattle.kilim_program.specs.declared.names.MethodId.{MethodId}
use Rattle.kilim_program.specs.declared.ty.Base.{Base}
use Rattle.kilim_program.specs.declared.ty.Base.TheVariants as base
use Rattle.kilim_program.specs.declared.ty.Ty.{Ty}
use Rattle.kilim_program.specs.declared.value.Value.TheVariants as value
use Rattle.kilim_program.specs.BuiltIn.{built_in_classes_in, built_in_methods_in, class_id, class_type}
use Rattle.kilim_program.specs.Fits.{fits_type, is_reference_base}
use Rattle.kilim_program.specs.Keeps.{Keeps, is_left_abstract, is_same_id, none_is_left_abstract}
use Rattle.kilim_program.specs.Names.{◌>>=◌, class_at, class_name, field_of, fields_of, first_that, is_empty, is_named_task, is_task, line_of, line_up_to, method_at, methods_of}
use Rattle.kilim_program.specs.Program.{Program}
use Rattle.kilim_program.specs.Same.{answers, same_result, same_signature, same_types, selected}
use Rattle.kilim_run_state.specs.Machine.{Objects, Activation}
use Rattle.kilim_program.specs.Members.{constructor_of, is_concrete, is_fit_main, is_instance_field, is_own_constructor, is_plain_method}
use Rattle.kilim_run_machine.specs.Moves.{entered}
use Rattle.kilim_run_state.specs.Objects.{first_field, first_value, first_value_of, new_object}
use Rattle.kilim_run_model.specs.State.{begun_in, begun_on}
use Rattle.kilim_lemmas.proofs.Lists.{get_right}
use Rattle.kilim_lemmas.proofs.Texts.{text_is}
use Rattle.kilim_type_sound.specs.Fits.{Classes, FieldFits, FieldsFit, Fits, HeapFits, ObjectFits, Typing, Verified, Wanted, has_objects, is_of, is_value_of}
use Rattle.kilim_type_sound.proofs.Bodies.{bodies}
use Rattle.kilim_type_laws.proofs.members.ClassMethods.{IsAmong, among_left, any_among, names_owner}
use Rattle.kilim_type_laws.proofs.members.FromKeeps.{all_weaker, among_both, itself, own_body}
use Rattle.kilim_type_sound.proofs.Grounds.{facts_hold}
use Rattle.kilim_type_sound.proofs.Grown.{beginnings_fit}
use Rattle.kilim_type_laws.proofs.members.Through.{each_at}
use Rattle.kilim_isolation_laws.proofs.typed_threads.fine.Natives.{first, object_name}
use Rattle.kilim_isolation_laws.proofs.typed_threads.Executing.{same_class}

some_same : {A : Type 0} (x y : A) → Some x ≡ Some y → x ≡ y
some_same x y e = cc

-- ---- what the first plain constructor is

is_nothing : {A : Type 0} (o : Option A) → is_none o ≡ true → o ≡ None
is_nothing None e = refl
is_nothing (Some x) e = absurd (cc)

is_nil : {A : Type 0} (xs : List A) → is_empty xs ≡ true → xs ≡ []
is_nil [] e = refl
is_nil (x ∷ xs) e = absurd (cc)

pub record IsPlainOne (m : Method) : Type 0 where
  pub name : m.name ≡ codes "<init>"
  pub params : m.params ≡ []
  pub result : m.result ≡ None

plain_one : (o : Option Method) → (elim o [ None ↦ false | Some method ↦ bytes_eq method.name (codes "<init>") && (is_empty method.params && is_none method.result) ]) ≡ true → (m : Method) → o ≡ Some m → IsPlainOne m
plain_one None e m is = absurd (cc)
plain_one (Some x) e m is =
    let same = some_same x m is in
    let a = and_parts (bytes_eq x.name (codes "<init>")) (is_empty x.params && is_none x.result) e in
    let b = and_parts (is_empty x.params) (is_none x.result) a.1 in
    subst (λ (y : Method). IsPlainOne y) same (record { name = text_is x.name (codes "<init>") a.0; params = is_nil x.params b.0; result = is_nothing x.result b.1 })

first_passes : (test : MethodId → Bool) (xs : List MethodId) (f : MethodId) → first_that test xs ≡ Some f → (test f ≡ true) × IsAmong f xs
first_passes test [] f e = absurd (cc)
first_passes test (x ∷ xs) f e = by (test x) refl e (λ rest. first_passes test xs f rest)
  where
    by : (z : Bool) → test x ≡ z → cond z (Some x) (first_that test xs) ≡ Some f → (first_that test xs ≡ Some f → (test f ≡ true) × IsAmong f xs) → (test f ≡ true) × ((f ≡ x) ⊎ IsAmong f xs)
    by true is e again = let s = some_same x f e in (subst (λ (y : MethodId). test y ≡ true) s is, inl (sym s))
    by false is e again = let r = again e in (r.0, inr r.1)

-- the first that passes a test is the first that passes a stronger one, where it passes that
first_stronger : (test strong : MethodId → Bool) → ((x : MethodId) → strong x ≡ true → test x ≡ true) → (xs ys : List MethodId) (f : MethodId) → first_that test xs ≡ Some f → strong f ≡ true → first_that strong (xs ++ ys) ≡ Some f
first_stronger test strong w [] ys f e s = absurd (cc)
first_stronger test strong w (x ∷ xs) ys f e s = by (test x) (strong x) refl refl e (λ rest. first_stronger test strong w xs ys f rest s)
  where
    by : (a b : Bool) → test x ≡ a → strong x ≡ b → cond a (Some x) (first_that test xs) ≡ Some f → (first_that test xs ≡ Some f → first_that strong (xs ++ ys) ≡ Some f) → cond b (Some x) (first_that strong (xs ++ ys)) ≡ Some f
    by true true ta sb e again = e
    by true false ta sb e again = absurd (let same = ap strong (some_same x f e) in cc)
    by false true ta sb e again = absurd (let t = w x sb in cc)
    by false false ta sb e again = again e

-- what answers a plain constructor is one
answer_plain : (p : Program) (m : Method) → IsPlainOne m → (x : MethodId) → answers m (method_at p x) ≡ true → is_plain_method p (codes "<init>") x ≡ true
answer_plain p m one x e = by (method_at p x) e
  where
    no_params : (tys : List Ty) → same_types [] tys ≡ true → is_empty tys ≡ true
    no_params [] e = refl
    no_params (ty ∷ tys) e = absurd (cc)

    no_result : (o : Option Ty) → same_result None o ≡ true → is_none o ≡ true
    no_result None e = refl
    no_result (Some ty) e = absurd (cc)

    by : (o : Option Method) → answers m o ≡ true → (elim o [ None ↦ false | Some method ↦ bytes_eq method.name (codes "<init>") && (is_empty method.params && is_none method.result) ]) ≡ true
    by None e = absurd (cc)
    by (Some other) e =
        let a = and_parts (not other.is_private) (same_signature m other) e in
        let b = and_parts (bytes_eq m.name other.name) (same_types m.params other.params && same_result m.result other.result) a.1 in
        let c = and_parts (same_types m.params other.params) (same_result m.result other.result) b.1 in
        let name : bytes_eq other.name (codes "<init>") ≡ true = subst (λ (n : List ℕ). bytes_eq n (codes "<init>") ≡ true) (text_is m.name other.name b.0) (ap (λ (n : List ℕ). bytes_eq n (codes "<init>")) one.name) in
        and_from (bytes_eq other.name (codes "<init>")) _ name (and_from (is_empty other.params) (is_none other.result)
        (no_params other.params (subst (λ (tys : List Ty). same_types tys other.params ≡ true) one.params c.0))
        (no_result other.result (subst (λ (o : Option Ty). same_result o other.result ≡ true) one.result c.1)))

-- it answers itself, where it isn't private
answers_itself : (m : Method) → IsPlainOne m → m.is_private ≡ false → answers m (Some m) ≡ true
answers_itself m one public =
    and_from (not m.is_private) (same_signature m m) (ap not public)
    (and_from (bytes_eq m.name m.name) _ (ap (λ (n : List ℕ). bytes_eq n n) one.name)
    (and_from (same_types m.params m.params) _ (ap (λ (tys : List Ty). same_types tys tys) one.params) (ap (λ (o : Option Ty). same_result o o) one.result)))

-- ---- an abstract method isn't private

abbrev public_abstract : Method → Bool
public_abstract m = not (m.is_abstract && m.is_private)

own_public : (p : Program) (m : Method) → own_body p m ≡ true → public_abstract m ≡ true
own_public p m e = by m.is_abstract m.is_private m.is_static (and_parts _ _ (and_parts (not m.built_in) _ e).1).1
  where
    by : (a q s : Bool) → not (a && (q || s)) ≡ true → not (a && q) ≡ true
    by true true s e = e
    by true false s e = refl
    by false q s e = refl

built_public : (form : Form) (n : ℕ) → list_all public_abstract (built_in_methods_in form n) ≡ true
built_public Plain n = refl
built_public Woven n = refl

-- ---- new objects

zero_typed : (p : Program) (of : Classes) (b : Base) → is_value_of p of (record { dims = 0; base = b }) (first_value_of b) ≡ true
zero_typed p of base.Bool = refl
zero_typed p of base.Byte = refl
zero_typed p of base.Char = refl
zero_typed p of base.Short = refl
zero_typed p of base.Int = refl
zero_typed p of base.Long = refl
zero_typed p of (base.Class c) = refl

first_typed : (p : Program) (of : Classes) (ty : Ty) → is_value_of p of ty (first_value ty) ≡ true
first_typed p of ty = by (eqb ty.dims 0) refl
  where
    by : (z : Bool) → eqb ty.dims 0 ≡ z → is_value_of p of ty (cond z (first_value_of ty.base) value.Null) ≡ true
    by true e = subst (λ (d : ℕ). is_value_of p of (record { dims = d; base = ty.base }) (first_value_of ty.base) ≡ true) (sym (eqb-true ty.dims 0 e)) (zero_typed p of ty.base)
    by false e = ap (λ (z : Bool). not z || is_reference_base ty.base) e

module _ (p : Program) (of : Classes) (x : FieldId) (kept : List FieldId) where
  static_made : (z : Bool) (field : Field) → field_of p x ≡ Some field → FieldsFit p of kept (map (first_field p) kept) → FieldsFit p of (cond z (x ∷ kept) kept) (map (first_field p) (cond z (x ∷ kept) kept))
  static_made false field e others = others
  static_made true field e others = (refl, subst (λ (o : Option Field). FieldFits p of o (elim o [ None ↦ value.Null | Some f ↦ first_value f.ty ])) (sym e) (first_typed p of field.ty), others)

  one_made : (o : Option Field) → field_of p x ≡ o → FieldsFit p of kept (map (first_field p) kept) →
      FieldsFit p of (cond (elim o [ None ↦ false | Some field ↦ not field.is_static ]) (x ∷ kept) kept) (map (first_field p) (cond (elim o [ None ↦ false | Some field ↦ not field.is_static ]) (x ∷ kept) kept))
  one_made None e others = others
  one_made (Some field) e others = static_made (not field.is_static) field e others

made_fields : (p : Program) (of : Classes) (fs : List FieldId) → FieldsFit p of (filter (is_instance_field p) fs) (map (first_field p) (filter (is_instance_field p) fs))
made_fields p of [] = tt
made_fields p of (x ∷ fs) = one_made p of x (filter (is_instance_field p) fs) (field_of p x) refl (made_fields p of fs)

-- ---- a task's class is none of strings or mailboxes

record Second (form : Form) (a b k : ℕ) (name : List ℕ) : Type 0 where
  class : Class
  at : slice_get (built_in_classes_in form a b) k ≡ Some class
  is : class.name ≡ name
  superclass : class.superclass ≡ Some (class_id a)

string_second : (a b : ℕ) → Second Plain a b 1 (codes "java/lang/String")
string_second a b = record { class = _; at = refl; is = refl; superclass = refl }

mailbox_second : (a b : ℕ) → Second Plain a b 5 (codes "kilim/Mailbox")
mailbox_second a b = record { class = _; at = refl; is = refl; superclass = refl }

record Top (a b : ℕ) : Type 0 where
  class : Class
  at : slice_get (built_in_classes_in Plain a b) 0 ≡ Some class
  superclass : class.superclass ≡ None

object_top : (a b : ℕ) → Top a b
object_top a b = record { class = _; at = refl; superclass = refl }

module _ (p : Program) (keeps : Keeps p) (form : p.form ≡ Plain) where
  abbrev n : ℕ
  n = first p keeps form

  abbrev methods : ℕ
  methods = length keeps.built_in.own_methods

  abbrev up : ClassId → Option ClassId
  up c = class_at p c >>= λ (class : Class). class.superclass

  abbrev line_from : ℕ → Option ClassId → List ClassId
  line_from k o = elim o [ None ↦ [] | Some u ↦ line_up_to p k u ]

  of_one : (test : ClassId → Bool) (k : ℕ) (b : ClassId) → up b ≡ None → list_any test (line_up_to p k b) ≡ true → test b ≡ true
  of_one test zero b e any = absurd (cc)
  of_one test (suc k) b e any = by (test b) (subst (λ (o : Option ClassId). (test b || list_any test (line_from k o)) ≡ true) e any)
    where
      by : (z : Bool) → (z || false) ≡ true → z ≡ true
      by true e = refl
      by false e = e

  of_two : (test : ClassId → Bool) (k : ℕ) (b u : ClassId) → up b ≡ Some u → up u ≡ None → list_any test (line_up_to p k b) ≡ true → test b ≡ false → test u ≡ false → ⊥
  of_two test zero b u e f any x y = cc
  of_two test (suc k) b u e f any x y =
      let rest : list_any test (line_up_to p k u) ≡ true = sym (ap (λ (z : Bool). z || list_any test (line_up_to p k u)) x) ∙ subst (λ (o : Option ClassId). (test b || list_any test (line_from k o)) ≡ true) e any in
      let yes = of_one test k u f rest in
      cc

  built_at : (k : ℕ) (class : Class) → slice_get (built_in_classes_in Plain n methods) k ≡ Some class → class_at p (class_id (n + k)) ≡ Some class
  built_at k class at =
      ap (λ (cs : List Class). slice_get cs (n + k)) keeps.built_in.classes
      ∙ (get_right keeps.built_in.own_classes (built_in_classes_in p.form n methods) (n + k) k refl ∙ (ap (λ (f : Form). slice_get (built_in_classes_in f n methods) k) form ∙ at))

  object_up : up (class_id n) ≡ None
  object_up =
      let top = object_top n methods in
      let at = subst (λ (k : ℕ). class_at p (class_id k) ≡ Some top.class) (let z : n + 0 ≡ n = omega arith in z) (built_at 0 top.class top.at) in
      ap (λ (o : Option Class). o >>= λ (class : Class). class.superclass) at ∙ top.superclass

  no_second : (k : ℕ) (name : List ℕ) → bytes_eq [] name ≡ false → bytes_eq name name ≡ true → bytes_eq name (codes "kilim/Task") ≡ false → Second Plain n methods k name → (c : ClassId) → is_task p c ≡ true → bytes_eq (class_name p c) name ≡ true → ⊥
  no_second k name some self other s c task is =
      let at = built_at k s.class s.at in
      let named : bytes_eq (class_name p (class_id (n + k))) name ≡ true = ap (λ (o : Option Class). bytes_eq (elim o [ None ↦ [] | Some class ↦ class.name ]) name) at ∙ (ap (λ (x : List ℕ). bytes_eq x name) s.is ∙ self) in
      let number = same_class p keeps form name some c (class_id (n + k)) is named in
      let here : class_at p c ≡ Some s.class = ap (λ (j : ℕ). class_at p (class_id j)) number ∙ at in
      of_two (is_named_task p) (length p.classes) c (class_id n) (ap (λ (o : Option Class). o >>= λ (class : Class). class.superclass) here ∙ s.superclass) object_up task
      (ap (λ (x : List ℕ). bytes_eq x (codes "kilim/Task")) (text_is (class_name p c) name is) ∙ other) (ap (λ (x : List ℕ). bytes_eq x (codes "kilim/Task")) (object_name p keeps form))

  pub task_has_objects : (c : ClassId) → is_concrete (class_at p c) ≡ true → is_task p c ≡ true → has_objects p c ≡ true
  task_has_objects c concrete task = and_from (is_concrete (class_at p c)) _ concrete (by (bytes_eq (class_name p c) (codes "java/lang/String")) (bytes_eq (class_name p c) (codes "kilim/Mailbox")) refl refl)
    where
      by : (a b : Bool) → bytes_eq (class_name p c) (codes "java/lang/String") ≡ a → bytes_eq (class_name p c) (codes "kilim/Mailbox") ≡ b → not (a || b) ≡ true
      by true b e f = absurd (no_second 1 (codes "java/lang/String") refl refl refl (string_second n methods) c task e)
      by false true e f = absurd (no_second 5 (codes "kilim/Mailbox") refl refl refl (mailbox_second n methods) c task f)
      by false false e f = refl

  pub new_fits : (of : Classes) (c : ClassId) → is_concrete (class_at p c) ≡ true → is_task p c ≡ true → ObjectFits p of (new_object p c)
  new_fits of c concrete task = (task_has_objects c concrete task, made_fields p of (flat_map (fields_of p) (reverse (line_of p c))), refl)

  -- ---- a class that isn't abstract has no abstract constructor

  pub line_begins : (c : ClassId) (class : Class) → class_at p c ≡ Some class → (ds : List ClassId) × (line_of p c ≡ c ∷ ds)
  line_begins c class at = by p.classes (length p.classes) at refl
    where
      by : (cs : List Class) (k : ℕ) → slice_get cs c.0 ≡ Some class → length cs ≡ k → (ds : List ClassId) × (line_up_to p k c ≡ c ∷ ds)
      by [] k at is = absurd (cc)
      by (x ∷ cs) zero at is = absurd (omega (arith, is))
      by (x ∷ cs) (suc k) at is = (_, refl)

  constructor_selected : (c : ClassId) (id : MethodId) (m : Method) (class : Class) → class_at p c ≡ Some class → constructor_of p c ≡ Some id → method_at p id ≡ Some m → IsPlainOne m → m.is_private ≡ false → selected p c m ≡ Some id
  constructor_selected c id m class at is there one public =
      let line = line_begins c class at in
      ap (λ (ds : List ClassId). first_that (λ x. answers m (method_at p x)) (flat_map (methods_of p) ds)) line.1
      ∙ first_stronger (is_plain_method p (codes "<init>")) (λ x. answers m (method_at p x)) (answer_plain p m one) (methods_of p c) (flat_map (methods_of p) line.0) id is (ap (answers m) there ∙ answers_itself m one public)

  abstract_public : (id : MethodId) (m : Method) → method_at p id ≡ Some m → m.is_abstract ≡ true → m.is_private ≡ false
  abstract_public id m there e =
      let t = among_both p public_abstract keeps.built_in.own_methods (built_in_methods_in p.form n) id.0 m (all_weaker p (own_body p) public_abstract (own_public p) keeps.built_in.own_methods keeps.built_in.bodies)
      (built_public p.form n) (subst (λ (ms : List Method). slice_get ms id.0 ≡ Some m) keeps.built_in.methods there) in
      by m.is_private (subst (λ (z : Bool). not (z && m.is_private) ≡ true) e t)
    where
      by : (z : Bool) → not (true && z) ≡ true → z ≡ false
      by true e = absurd (cc)
      by false e = refl

  not_abstract : (c : ClassId) (id : MethodId) (m : Method) → is_concrete (class_at p c) ≡ true → constructor_of p c ≡ Some id → method_at p id ≡ Some m → IsPlainOne m → IsAmong id (methods_of p c) → m.is_abstract ≡ false
  unfolding none_is_left_abstract
  not_abstract c id m concrete is there one among = by (class_at p c) refl concrete
    where
      second : (a b : Bool) → not a ≡ true → (a || b) ≡ true → b ≡ true
      second true b n e = absurd (cc)
      second false b n e = e

      left : (class : Class) → class_at p c ≡ Some class → (z : Bool) → m.is_abstract ≡ z → list_any (λ (x : MethodId). is_left_abstract p c x (method_at p x)) (flat_map (methods_of p) (line_of p c)) ≡ false → z ≡ false
      left class at false s none = refl
      left class at true s none =
          let public = abstract_public id m there s in
          let again = constructor_selected c id m class at is there one public in
          let here = ap (λ (o : Option Method). is_left_abstract p c id o) there ∙ (ap (λ (z : Bool). z && is_same_id id (selected p c m)) s ∙ (ap (λ (o : Option MethodId). is_same_id id o) again ∙ eq-eqb id.0 id.0 refl)) in
          let line = line_begins c class at in
          let inside : IsAmong id (flat_map (methods_of p) (line_of p c)) = subst (λ (ds : List ClassId). IsAmong id (flat_map (methods_of p) ds)) (sym line.1) (among_left id (methods_of p c) (flat_map (methods_of p) line.0) among) in
          let any = any_among (λ (x : MethodId). is_left_abstract p c x (method_at p x)) (flat_map (methods_of p) (line_of p c)) id inside here in
          absurd (cc)

      by : (o : Option Class) → class_at p c ≡ o → is_concrete o ≡ true → m.is_abstract ≡ false
      by None at concrete = absurd (cc)
      by (Some class) at concrete =
          let one = each_at (λ (k : ClassId) (class : Class). class.is_abstract || not (list_any (λ (x : MethodId). is_left_abstract p k x (method_at p x)) (flat_map (methods_of p) (line_of p k)))) 0 p.classes c.0 class keeps.abstract_left at in
          let number : 0 + c.0 ≡ c.0 = omega arith in
          let here = subst (λ (j : ℕ). (class.is_abstract || not (list_any (λ (x : MethodId). is_left_abstract p (class_id j) x (method_at p x)) (flat_map (methods_of p) (line_of p (class_id j))))) ≡ true) number one in
          left class at m.is_abstract refl (not-true _ (second class.is_abstract _ concrete here))

  -- ---- the first frame

  module _ (typing : Typing) (live : Wanted) (verified : Verified p typing live) (of : Classes) (h : Objects) (heap : HeapFits p of h) where
    constructor_begins : (c : ClassId) (k : ℕ) (frames : List Activation) (id : MethodId) (m : Method) → is_concrete (class_at p c) ≡ true → of k ≡ Some (class_type c.0) → constructor_of p c ≡ Some id → method_at p id ≡ Some m → is_own_constructor (Some m) ≡ true →
        begun_in p id k (Some m) ≡ Some frames → Fits p typing live of frames h
    constructor_begins c k frames id m concrete class is there own begun =
        let found = first_passes (is_plain_method p (codes "<init>")) (methods_of p c) id is in
        let one = plain_one (method_at p id) found.0 m there in
        let parts = and_parts (not m.is_static) (not m.built_in) own in
        let built = not-true m.built_in parts.1 in
        let code = bodies p keeps id m there built (not_abstract c id m concrete is there one found.1) in
        let owner : m.owner.0 ≡ c.0 = names_owner p keeps c id m there found.1 in
        subst (λ (fs : List Activation). Fits p typing live of fs h) (some_same (entered p id (value.Ref k ∷ []) ∷ []) frames (ap (λ (z : Bool). Some (cond z [] (entered p id (value.Ref k ∷ []) ∷ []))) (sym built) ∙ begun))
        (beginnings_fit p typing live of (facts_hold p keeps) verified id m k h there code (not-true m.is_static parts.0) one.params
        (ap (λ (o : Option Ty). is_of p o (class_type m.owner.0)) class ∙ (ap (λ (j : ℕ). fits_type p (class_type c.0) (class_type j)) owner ∙ itself p keeps (class_type c.0))) heap)

    pub boot_begins : (c : ClassId) (k : ℕ) (frames : List Activation) → is_fit_main p c ≡ true → of k ≡ Some (class_type c.0) → begun_on p (constructor_of p c) k ≡ Some frames → Fits p typing live of frames h
    boot_begins c k frames fit class begun =
        let a = and_parts (is_concrete (class_at p c)) _ fit in
        let b = and_parts (is_task p c) _ a.1 in
        by (constructor_of p c) refl b.1 begun a.0
      where
        with_method : (id : MethodId) → constructor_of p c ≡ Some id → (o : Option Method) → method_at p id ≡ o → is_own_constructor o ≡ true → begun_in p id k o ≡ Some frames → is_concrete (class_at p c) ≡ true → Fits p typing live of frames h
        with_method id is None there own begun concrete = absurd (cc)
        with_method id is (Some m) there own begun concrete = constructor_begins c k frames id m concrete class is there own begun

        by : (o : Option MethodId) → constructor_of p c ≡ o → is_own_constructor (o >>= method_at p) ≡ true → begun_on p o k ≡ Some frames → is_concrete (class_at p c) ≡ true → Fits p typing live of frames h
        by None is own begun concrete = absurd (cc)
        by (Some id) is own begun concrete = with_method id is (method_at p id) refl own begun concrete
