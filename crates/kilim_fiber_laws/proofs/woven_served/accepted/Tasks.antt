-- What the `execute` of a task takes: the task's object alone.
use Rattle.std.proofs.Common.{◌≡◌, ℕ, suc, ◌+◌, Bool, true, false, cond, eqb, List, [], ◌∷◌, ◌++◌, Option, Some, None, refl, sym, ap, subst, ◌∙◌}
use Rattle.std.specs.Prelude.{◌||◌, codes, map, slice_get}
use Rattle.std.specs.List.{list_any}
use Rattle.std.specs.Str.{bytes_eq}
use Rattle.std.proofs.lemmas.Bool.{and_from, and_parts, eq-eqb, false≢true, or_left}
use Rattle.kilim_program.specs.declared.class.Form.TheVariants.{Plain}
use Rattle.kilim_program.specs.declared.class.Method.{Method}
use Rattle.kilim_program.specs.declared.names.ClassId.{ClassId}
use Rattle.kilim_program.specs.declared.names.MethodId.{MethodId}
use Rattle.kilim_program.specs.declared.ty.Qualifier.TheVariants.{Cuttable}
use Rattle.kilim_program.specs.declared.ty.Ty.{Ty}
use Rattle.kilim_program.specs.declared.value.Value.{Value}
use Rattle.kilim_program.specs.declared.value.Value.TheVariants.{Null, Ref}
use Rattle.kilim_program.specs.declared.verified.VType.TheVariants.{UninitThis}
use Rattle.kilim_program.specs.BuiltIn.{class_id, class_type}
use Rattle.kilim_program.specs.Fits.{fits_type}
use Rattle.kilim_program.specs.Keeps.{Keeps}
use Rattle.kilim_program.specs.Names.{◌>>=◌, first_that, is_named_task, is_task, line_of, method_at}
use Rattle.kilim_program.specs.Program.{Program}
use Rattle.kilim_program.specs.Same.{is_constructor, selected}
use Rattle.kilim_type_laws.specs.members.Chosen.{IsChosen}
use Rattle.kilim_type_sound.specs.Fits.{have_types}
use Rattle.kilim_type_sound.specs.Sound.{argument_types}
use Rattle.kilim_type_laws.proofs.members.Finding.{finds}
use Rattle.kilim_type_sound.proofs.Grounds.{facts_hold}
use Rattle.kilim_program.specs.Members.{execute_of, is_task_execute}
use Rattle.kilim_isolation_laws.proofs.Natives.{Begins, execute_is, n, task_named}
use Rattle.kilim_run_model.specs.State.{Setting}
use Rattle.kilim_isolation_laws.proofs.typed_threads.Executing.{same_class}
use Rattle.kilim_type_spec.specs.Step.{class_vtype, vtype}
use Rattle.kilim_fiber_laws.proofs.courses.Takes.{takes_typed}
use Rattle.kilim_fiber_spec.specs.Links.{Forms, Takes}
use Rattle.kilim_fiber_spec.specs.Thread.{self_in, self_of}

some_is : {A : Type 0} (x y : A) → Some x ≡ Some y → x ≡ y
some_is x y e = cc

record IsFound (test : Method → Bool) (xs : List Method) (x : Method) : Type 0 where
  place : ℕ
  at : slice_get xs place ≡ Some x
  passes : test x ≡ true

first_there : (test : Method → Bool) (xs : List Method) (x : Method) → first_that test xs ≡ Some x → IsFound test xs x
first_there test [] x e = absurd (cc)
first_there test (y ∷ xs) x e = by (test y) refl e (λ later. first_there test xs x later)
  where
    by : (z : Bool) → test y ≡ z → cond z (Some y) (first_that test xs) ≡ Some x → (first_that test xs ≡ Some x → IsFound test xs x) → IsFound test (y ∷ xs) x
    by true t e again = let same = some_is y x e in record { place = 0; at = e; passes = subst (λ (z : Method). test z ≡ true) same t }
    by false t e again = let f = again e in record { place = suc f.place; at = f.at; passes = f.passes }

any_weaker : (test weak : ClassId → Bool) → ((d : ClassId) → test d ≡ true → weak d ≡ true) → (ds : List ClassId) → list_any test ds ≡ true → list_any weak ds ≡ true
any_weaker test weak w [] e = absurd (false≢true e)
any_weaker test weak w (d ∷ ds) e = by (test d) refl e (λ later. any_weaker test weak w ds later)
  where
    right : (a b : Bool) → b ≡ true → (a || b) ≡ true
    right true b e = refl
    right false b e = e

    by : (z : Bool) → test d ≡ z → (z || list_any test ds) ≡ true → (list_any test ds ≡ true → list_any weak ds ≡ true) → (weak d || list_any weak ds) ≡ true
    by true t e again = or_left (weak d) (list_any weak ds) (w d t)
    by false t e again = right (weak d) (list_any weak ds) (again e)

-- the method that a task begins with
pub record IsTaken (p : Program) (f : MethodId) : Type 0 where
  pub method : Method
  pub there : method_at p f ≡ Some method
  pub instance : method.is_static ≡ false
  pub params : method.params ≡ []

module _ (p : Program) (keeps : Keeps p) (form : p.form ≡ Plain) where
  task_line : (c : ClassId) → is_task p c ≡ true → list_any (λ (d : ClassId). eqb d.0 (n p keeps form + 4)) (line_of p c) ≡ true
  task_line c e =
      any_weaker (is_named_task p) (λ d. eqb d.0 (n p keeps form + 4))
      (λ d t. eq-eqb d.0 (n p keeps form + 4) (same_class p keeps form (codes "kilim/Task") refl d (class_id (n p keeps form + 4)) t (task_named p keeps form))) (line_of p c) e

  found_execute : (c : ClassId) → is_task p c ≡ true → (id : MethodId) (named : Method) → method_at p id ≡ Some named → is_task_execute named ≡ true → (f : MethodId) → selected p c named ≡ Some f → IsTaken p f
  found_execute c task id named there passes f found =
      let parts = and_parts named.built_in (bytes_eq named.name (codes "execute")) passes in
      let ex = execute_is p keeps form id named there parts.0 parts.1 in
      let line : list_any (λ (d : ClassId). eqb d.0 named.owner.0) (line_of p c) ≡ true = subst (λ (o : ClassId). list_any (λ (d : ClassId). eqb d.0 o.0) (line_of p c) ≡ true) (sym ex.0.1) (task_line c task) in
      by (finds p keeps id named there ex.2 ex.1 c line) ex.0
    where
      by : (g : MethodId) × (selected p c named ≡ Some g) × IsChosen p c named g → Begins (n p keeps form) Cuttable named → IsTaken p f
      by w b =
          let s : IsChosen p c named f = subst (λ (g : MethodId). IsChosen p c named g) (some_is w.0 f (sym w.1 ∙ found)) w.2 in
          record { method = s.method; there = s.there; instance = s.is_static ∙ b.0; params = s.params ∙ b.3 }

  pub execute_taken : (c : ClassId) → is_task p c ≡ true → (f : MethodId) → execute_of p c ≡ Some f → IsTaken p f
  execute_taken c task f e = by (first_that is_task_execute p.methods) refl e
    where
      none : None ≡ Some f → ⊥
      none e = cc

      by : (o : Option Method) → first_that is_task_execute p.methods ≡ o → (o >>= selected p c) ≡ Some f → IsTaken p f
      by None at e = absurd (none e)
      by (Some named) at e = let w = first_there is_task_execute p.methods named at in found_execute c task (record { 0 = w.place }) named w.at w.passes f e

  -- where each name is of the class of the method
  object_typed : (m : Method) (k : ℕ) → m.params ≡ [] → m.is_static ≡ false → have_types p m (λ q. Some (class_type m.owner.0)) (argument_types m) (Ref k ∷ []) ≡ true
  object_typed m k params instance =
      subst (λ (tys : List Ty). have_types p m (λ q. Some (class_type m.owner.0)) ((cond m.is_static [] (cond (is_constructor m) UninitThis (class_vtype m.owner) ∷ [])) ++ map vtype tys) (Ref k ∷ []) ≡ true) (sym params)
      (subst (λ (z : Bool). have_types p m (λ q. Some (class_type m.owner.0)) ((cond z [] (cond (is_constructor m) UninitThis (class_vtype m.owner) ∷ [])) ++ []) (Ref k ∷ []) ≡ true) (sym instance) (by (is_constructor m)))
    where
      itself : fits_type p (class_type m.owner.0) (class_type m.owner.0) ≡ true
      itself = (facts_hold p keeps).order.itself (class_type m.owner.0)

      by : (z : Bool) → have_types p m (λ q. Some (class_type m.owner.0)) (cond z UninitThis (class_vtype m.owner) ∷ []) (Ref k ∷ []) ≡ true
      by true = and_from (fits_type p (class_type m.owner.0) (class_type m.owner.0)) true itself refl
      by false = and_from (fits_type p (class_type m.owner.0) (class_type m.owner.0)) true itself refl

module _ (set : Setting) (keeps : Keeps set.program) (plain : set.program.form ≡ Plain) (W : Program) (marks : List (List Bool)) (form : Forms set W marks) where
  pub takes_task : (f : MethodId) → (x : IsTaken set.program f) → (k : ℕ) → Takes set W marks form f (Ref k ∷ []) (Ref k)
  takes_task f x k =
      let is : self_of set.program f (Ref k ∷ []) ≡ Ref k = ap (λ (o : Option Method). self_in o (Ref k ∷ [])) x.there ∙ ap (λ (z : Bool). cond z Null (Ref k)) x.instance in
      subst (λ (y : Value). Takes set W marks form f (Ref k ∷ []) y) is
      (takes_typed set W marks form f x.method x.there (λ q. Some (class_type x.method.owner.0)) (Ref k ∷ []) (object_typed set.program keeps plain x.method k x.params x.instance))
