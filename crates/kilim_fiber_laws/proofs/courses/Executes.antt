-- `execute` of the main class takes the task's object alone.
use Rattle.std.proofs.Common.{◌≡◌, ℕ, suc, ◌+◌, Bool, true, false, cond, eqb, List, [], ◌∷◌, ◌++◌, Option, Some, None, refl, sym, ap, subst, ◌∙◌}
use Rattle.std.specs.Prelude.{◌||◌, ◌==◌, length, slice_get, codes, map}
use Rattle.std.specs.List.{AllByRecursion, list_any}
use Rattle.std.specs.Str.{bytes_eq}
use Rattle.std.proofs.lemmas.Bool.{and_from, and_parts, eq-eqb, or_left}
use Rattle.std.proofs.lemmas.Option.{none-some, same_Some}
use Rattle.kilim_program.specs.declared.class.Form.{Form}
use Rattle.kilim_program.specs.declared.class.Form.TheVariants.{Plain}
use Rattle.kilim_program.specs.declared.ty.Qualifier.TheVariants.{Cuttable}
use Rattle.kilim_program.specs.declared.class.Method.{Method}
use Rattle.kilim_program.specs.declared.names.ClassId.{ClassId}
use Rattle.kilim_program.specs.declared.names.MethodId.{MethodId}
use Rattle.kilim_program.specs.declared.ty.Ty.{Ty}
use Rattle.kilim_program.specs.declared.value.Value.{Value}
use Rattle.kilim_program.specs.declared.value.Value.TheVariants.{Null, Ref}
use Rattle.kilim_program.specs.BuiltIn.{built_in_method, built_in_methods_in, class_id, class_type}
use Rattle.kilim_program.specs.Fits.{fits_type}
use Rattle.kilim_program.specs.Keeps.{Keeps}
use Rattle.kilim_program.specs.Names.{◌>>=◌, class_at, first_that, is_named_task, is_task, line_of, method_at}
use Rattle.kilim_program.specs.Program.{Program}
use Rattle.kilim_program.proofs.BuiltIns.{exceptions_too}
use Rattle.kilim_program.specs.Same.{is_constructor, selected}
use Rattle.kilim_run_machine.specs.Does.{chosen, chosen_by}
use Rattle.kilim_program.specs.Members.{execute_of, is_concrete, is_fit_main, is_own_constructor, is_task_execute, constructor_of}
use Rattle.kilim_type_sound.specs.Fits.{have_types}
use Rattle.kilim_type_sound.specs.Sound.{argument_types}
use Rattle.kilim_type_laws.proofs.members.Finding.{finds_chosen}
use Rattle.kilim_type_sound.proofs.Grounds.{facts_hold}
use Rattle.kilim_isolation_laws.proofs.typed_threads.fine.Natives.{built_in_one, first, task_name}
use Rattle.kilim_run_model.specs.State.{Setting}
use Rattle.kilim_isolation_laws.proofs.typed_threads.Executing.{IsExecute, same_class}
use Rattle.kilim_type_spec.specs.Step.{class_vtype, vtype}
use Rattle.kilim_program.specs.declared.verified.VType.TheVariants.{UninitThis}
use Rattle.kilim_fiber_laws.proofs.courses.Takes.{takes_typed}
use Rattle.kilim_fiber_spec.specs.Links.{Forms, Takes}
use Rattle.kilim_fiber_spec.specs.Thread.{self_in, self_of}

abbrev ExecutesAs : ℕ → Method → Type 0
ExecutesAs n m = is_task_execute m ≡ true → IsExecute n m

all_execute : (n : ℕ) → AllByRecursion (ExecutesAs n) (built_in_methods_in Plain n)
all_execute n = ((λ e. absurd (let z : false ≡ true = e in cc)), ((λ e. absurd (let z : false ≡ true = e in cc)), ((λ e. absurd (let z : false ≡ true = e in cc)), ((λ e. absurd (let z : false ≡ true = e in cc)), ((λ e. absurd (let z : false ≡ true = e in cc)), ((λ e. absurd (let z : false ≡ true = e in cc)), ((λ e. record { owner = refl; params = refl; instance = refl; plain = refl; public = refl }), ((λ e. absurd (let z : false ≡ true = e in cc)), ((λ e. absurd (let z : false ≡ true = e in cc)), ((λ e. absurd (let z : false ≡ true = e in cc)), ((λ e. absurd (let z : false ≡ true = e in cc)), ((λ e. absurd (let z : false ≡ true = e in cc)), ((λ e. absurd (let z : false ≡ true = e in cc)), ((λ e. absurd (let z : false ≡ true = e in cc)), ((λ e. absurd (let z : false ≡ true = e in cc)), ((λ e. absurd (let z : false ≡ true = e in cc)), ((λ e. absurd (let z : false ≡ true = e in cc)), ((λ e. absurd (let z : false ≡ true = e in cc)), ((λ e. absurd (let z : false ≡ true = e in cc)), ((λ e. absurd (let z : false ≡ true = e in cc)), exceptions_too (ExecutesAs n) n [] (λ c e. absurd (let z : false ≡ true = e in cc)) (λ c e. absurd (let z : false ≡ true = e in cc)) (λ e. absurd (let z : false ≡ true = e in cc)) tt))))))))))))))))))))

record IsFound (test : Method → Bool) (ms : List Method) (m : Method) : Type 0 where
  place : ℕ
  at : slice_get ms place ≡ Some m
  passes : test m ≡ true

first_there : (test : Method → Bool) (ms : List Method) (m : Method) → first_that test ms ≡ Some m → IsFound test ms m
first_there test [] m e = absurd (cc)
first_there test (x ∷ ms) m e = by (test x) refl e (λ later. first_there test ms m later)
  where
    by : (z : Bool) → test x ≡ z → cond z (Some x) (first_that test ms) ≡ Some m → (first_that test ms ≡ Some m → IsFound test ms m) → IsFound test (x ∷ ms) m
    by true t e again = let same = same_Some x m e in record { place = 0; at = ap (λ (y : Method). Some y) same; passes = subst (λ (y : Method). test y ≡ true) same t }
    by false t e again = let f = again e in record { place = suc f.place; at = f.at; passes = f.passes }

-- ---- a task's line has the class of tasks

any_weaker : (test weak : ClassId → Bool) → ((d : ClassId) → test d ≡ true → weak d ≡ true) → (ds : List ClassId) → list_any test ds ≡ true → list_any weak ds ≡ true
any_weaker test weak w [] e = absurd (cc)
any_weaker test weak w (d ∷ ds) e = by (test d) refl e (λ later. any_weaker test weak w ds later)
  where
    right : (a b : Bool) → b ≡ true → (a || b) ≡ true
    right true b e = refl
    right false b e = e

    by : (z : Bool) → test d ≡ z → (z || list_any test ds) ≡ true → (list_any test ds ≡ true → list_any weak ds ≡ true) → (weak d || list_any weak ds) ≡ true
    by true t e again = or_left (weak d) (list_any weak ds) (w d t)
    by false t e again = right (weak d) (list_any weak ds) (again e)

module _ (p : Program) (keeps : Keeps p) (form : p.form ≡ Plain) where
  abbrev n : ℕ
  n = first p keeps form

  task_is : (d : ClassId) → is_named_task p d ≡ true → eqb d.0 (n + 4) ≡ true
  task_is d e = eq-eqb d.0 (n + 4) (same_class p keeps form (codes "kilim/Task") refl d (class_id (n + 4)) e (ap (λ (x : List ℕ). bytes_eq x (codes "kilim/Task")) (task_name p keeps form)))

  task_fits : (c : ClassId) → is_task p c ≡ true → fits_type p (class_type c.0) (class_type (n + 4)) ≡ true
  unfolding fits_type
  task_fits c e = or_left (list_any (λ d. eqb d.0 (n + 4)) (line_of p c)) _ (any_weaker (is_named_task p) (λ d. eqb d.0 (n + 4)) task_is (line_of p c) e)

  execute_is : (m : Method) → first_that is_task_execute p.methods ≡ Some m → (id : MethodId) × (method_at p id ≡ Some m) × IsExecute n m
  execute_is m e =
      let f = first_there is_task_execute p.methods m e in
      let id : MethodId = record { 0 = f.place } in
      (id, f.at, built_in_one p keeps form (ExecutesAs n) (all_execute n) id m f.at (and_parts m.built_in _ f.passes).0 f.passes)

  pub record Executes (f : MethodId) : Type 0 where
    pub method : Method
    pub there : method_at p f ≡ Some method
    pub params : method.params ≡ []
    pub instance : method.is_static ≡ false

  selected_executes : (c : ClassId) → is_concrete (class_at p c) ≡ true → is_task p c ≡ true → (named : Method) (id : MethodId) → method_at p id ≡ Some named → IsExecute n named → (f : MethodId) → selected p c named ≡ Some f → Executes f
  selected_executes c concrete task named id at ex f is =
      let owner : fits_type p (class_type c.0) (class_type named.owner.0) ≡ true = subst (λ (d : ClassId). fits_type p (class_type c.0) (class_type d.0) ≡ true) (sym ex.owner) (task_fits c task) in
      let s = ((facts_hold p keeps).selects id named at ex.instance ex.plain (class_type c.0) concrete owner).0 in
      let same : chosen p named id (class_type c.0) ≡ f = ap (λ (z : Bool). cond z id (chosen_by (selected p c named) id)) ex.public ∙ ap (λ (o : Option MethodId). chosen_by o id) is in
      record { method = s.method; there = ap (method_at p) (sym same) ∙ s.there; params = s.params ∙ ex.params; instance = s.instance }

  pub executes : (c : ClassId) → is_fit_main p c ≡ true → (f : MethodId) → execute_of p c ≡ Some f → Executes f
  executes c fit f e = by (first_that is_task_execute p.methods) refl e
    where
      by : (o : Option Method) → first_that is_task_execute p.methods ≡ o → (o >>= selected p c) ≡ Some f → Executes f
      by None there e = absurd (none-some f e)
      by (Some named) there e =
          let parts = and_parts (is_concrete (class_at p c)) _ fit in
          let x = execute_is named there in
          selected_executes c parts.0 (and_parts (is_task p c) (is_own_constructor (constructor_of p c >>= method_at p)) parts.1).0 named x.0 x.1 x.2 f e

  -- some method of tasks is the built-in one, and the main class has one for it
  first_after : (test : Method → Bool) (xs ys : List Method) (y : Method) → first_that test ys ≡ Some y → (m : Method) × (first_that test (xs ++ ys) ≡ Some m)
  first_after test [] ys y e = (y, e)
  first_after test (x ∷ xs) ys y e = by (test x) (first_after test xs ys y e)
    where
      by : (z : Bool) → ((m : Method) × (first_that test (xs ++ ys) ≡ Some m)) → (m : Method) × (cond z (Some x) (first_that test (xs ++ ys)) ≡ Some m)
      by true again = (x, refl)
      by false again = again

  abbrev the_built_in : ℕ → Method
  the_built_in k = built_in_method (codes "execute") (class_id (k + 4)) [] None false true Cuttable []

  named_execute : (m : Method) × (first_that is_task_execute p.methods ≡ Some m)
  named_execute =
      let own = keeps.built_in.own_methods in
      let k = length keeps.built_in.own_classes in
      subst (λ (ms : List Method). (m : Method) × (first_that is_task_execute ms ≡ Some m)) (sym keeps.built_in.methods)
      (first_after is_task_execute own (built_in_methods_in p.form k) (the_built_in k) (subst (λ (f : Form). first_that is_task_execute (built_in_methods_in f k) ≡ Some (the_built_in k)) (sym form) refl))

  pub has_execute : (c : ClassId) → is_fit_main p c ≡ true → (f : MethodId) × (execute_of p c ≡ Some f)
  has_execute c fit =
      let named = named_execute in
      let x = execute_is named.0 named.1 in
      let parts = and_parts (is_concrete (class_at p c)) _ fit in
      let task = (and_parts (is_task p c) (is_own_constructor (constructor_of p c >>= method_at p)) parts.1).0 in
      let line : list_any (λ (d : ClassId). d.0 == named.0.owner.0) (line_of p c) ≡ true =
      subst (λ (k : ClassId). list_any (λ (d : ClassId). d.0 == k.0) (line_of p c) ≡ true) (sym x.2.owner) (any_weaker (is_named_task p) (λ d. eqb d.0 (n + 4)) task_is (line_of p c) task) in
      let f = finds_chosen p x.0 named.0 c keeps x.1 x.2.public x.2.plain line in
      (f.0, ap (λ (o : Option Method). o >>= selected p c) named.1 ∙ f.1)

  -- where each name is of the class of the method
  object_typed : (m : Method) (k : ℕ) → m.params ≡ [] → m.is_static ≡ false → have_types p m (λ q. Some (class_type m.owner.0)) (argument_types m) (Ref k ∷ []) ≡ true
  object_typed m k params instance =
      subst (λ (tys : List Ty). have_types p m (λ q. Some (class_type m.owner.0)) ((cond m.is_static [] (cond (is_constructor m) UninitThis (class_vtype m.owner) ∷ [])) ++ map vtype tys) (Ref k ∷ []) ≡ true) (sym params)
      (subst (λ (z : Bool). have_types p m (λ q. Some (class_type m.owner.0)) ((cond z [] (cond (is_constructor m) UninitThis (class_vtype m.owner) ∷ [])) ++ []) (Ref k ∷ []) ≡ true) (sym instance) (by (is_constructor m)))
    where
      itself : fits_type p (class_type m.owner.0) (class_type m.owner.0) ≡ true
      itself = (facts_hold p keeps).order.itself (class_type m.owner.0)

      by : (z : Bool) → have_types p m (λ q. Some (class_type m.owner.0)) (cond z UninitThis (class_vtype m.owner) ∷ []) (Ref k ∷ []) ≡ true
      by true = and_from (fits_type p (class_type m.owner.0) (class_type m.owner.0)) true itself refl
      by false = and_from (fits_type p (class_type m.owner.0) (class_type m.owner.0)) true itself refl

module _ (set : Setting) (keeps : Keeps set.program) (plain : set.program.form ≡ Plain) (main : is_fit_main set.program set.main ≡ true) (W : Program) (marks : List (List Bool)) (form : Forms set W marks) where
  pub takes_object : (c : MethodId) (k : ℕ) → execute_of set.program set.main ≡ Some c → Takes set W marks form c (Ref k ∷ []) (Ref k)
  takes_object c k e =
      let x = executes set.program keeps plain set.main main c e in
      let is : self_of set.program c (Ref k ∷ []) ≡ Ref k = ap (λ (o : Option Method). self_in o (Ref k ∷ [])) x.there ∙ ap (λ (z : Bool). cond z Null (Ref k)) x.instance in
      subst (λ (y : Value). Takes set W marks form c (Ref k ∷ []) y) is
      (takes_typed set W marks form c x.method x.there (λ q. Some (class_type x.method.owner.0)) (Ref k ∷ []) (object_typed set.program keeps plain x.method k x.params x.instance))
