-- What begins has a method to begin with.
use Rattle.std.proofs.Common.{◌≡◌, ℕ, suc, ◌+◌, Bool, true, false, cond, eqb, List, [], ◌∷◌, Option, Some, None, refl, sym, ap, subst, ◌∙◌}
use Rattle.std.specs.Prelude.{◌||◌, slice_get, codes}
use Rattle.std.specs.FinMap.{get}
use Rattle.std.specs.List.{list_any}
use Rattle.std.specs.Str.{bytes_eq}
use Rattle.std.proofs.lemmas.Bool.{and_parts, eq-eqb, false≢true, or_left}
use Rattle.std.proofs.lemmas.Option.{none-some, same_Some}
use Rattle.kilim_program.specs.declared.class.Form.TheVariants.{Plain}
use Rattle.kilim_program.specs.declared.class.Method.{Method}
use Rattle.kilim_program.specs.declared.names.ClassId.{ClassId}
use Rattle.kilim_program.specs.declared.names.MethodId.{MethodId}
use Rattle.kilim_program.specs.declared.ty.Base.{Base}
use Rattle.kilim_program.specs.declared.ty.Base.TheVariants as base
use Rattle.kilim_program.specs.BuiltIn.{class_id}
use Rattle.kilim_program.specs.Keeps.{Keeps}
use Rattle.kilim_program.specs.Members.{constructor_of, execute_of, is_concrete, is_fit_main, is_own_constructor, is_task_execute}
use Rattle.kilim_program.specs.Names.{◌>>=◌, class_at, first_that, is_named_task, is_task, line_of, method_at}
use Rattle.kilim_program.specs.Program.{Program}
use Rattle.kilim_program.specs.Same.{selected}
use Rattle.kilim_run_state.specs.declared.value.Object.{Object}
use Rattle.kilim_run_state.specs.Machine.{Objects}
use Rattle.kilim_run_state.specs.Trees.{OfTask, is_root}
use Rattle.kilim_run_model.specs.State.{begun_in, begun_on, class_of, execute_frames}
use Rattle.kilim_type_laws.proofs.members.Finding.{finds_chosen}
use Rattle.kilim_isolation_laws.proofs.Natives.{execute_is, n, task_named}
use Rattle.kilim_isolation_laws.proofs.typed_threads.Executing.{same_class}
use Rattle.kilim_fiber_laws.proofs.courses.Executes.{has_execute}

begun_some : (p : Program) (f : MethodId) (m : Method) (k : ℕ) → method_at p f ≡ Some m → begun_on p (Some f) k ≡ None → ⊥
begun_some p f m k there e = none (sym (ap (begun_in p f k) there) ∙ e)
  where
    none : begun_in p f k (Some m) ≡ None → ⊥
    none e = cc

-- a main class has a constructor
pub constructs : (p : Program) (c : ClassId) (k : ℕ) → is_fit_main p c ≡ true → begun_on p (constructor_of p c) k ≡ None → ⊥
constructs p c k fit e =
    let a = and_parts (is_concrete (class_at p c)) _ fit in
    let b = and_parts (is_task p c) _ a.1 in
    by (constructor_of p c) b.1 e
  where
    with_method : (id : MethodId) (o : Option Method) → is_own_constructor o ≡ true → begun_in p id k o ≡ None → ⊥
    with_method id None own e = cc
    with_method id (Some m) own e = cc

    by : (o : Option MethodId) → is_own_constructor (o >>= method_at p) ≡ true → begun_on p o k ≡ None → ⊥
    by None own e = cc
    by (Some id) own e = with_method id (method_at p id) own e

-- ---- the `execute` of tasks

record IsFound (ms : List Method) (m : Method) : Type 0 where
  place : ℕ
  at : slice_get ms place ≡ Some m
  passes : is_task_execute m ≡ true

found : (ms : List Method) (m : Method) → first_that is_task_execute ms ≡ Some m → IsFound ms m
found [] m e = absurd (none-some m e)
found (x ∷ ms) m e = by (is_task_execute x) refl e (λ later. found ms m later)
  where
    by : (z : Bool) → is_task_execute x ≡ z → cond z (Some x) (first_that is_task_execute ms) ≡ Some m → (first_that is_task_execute ms ≡ Some m → IsFound ms m) → IsFound (x ∷ ms) m
    by true t e again = record { place = 0; at = e; passes = subst (λ (y : Method). is_task_execute y ≡ true) (same_Some x m e) t }
    by false t e again = let f = again e in record { place = suc f.place; at = f.at; passes = f.passes }

any_weaker : (test weak : ClassId → Bool) → ((d : ClassId) → test d ≡ true → weak d ≡ true) → (ds : List ClassId) → list_any test ds ≡ true → list_any weak ds ≡ true
any_weaker test weak w [] e = absurd (false≢true e)
any_weaker test weak w (d ∷ ds) e = by (test d) refl e (λ later. any_weaker test weak w ds later)
  where
    right : (a b : Bool) → b ≡ true → (a || b) ≡ true
    right true b e = refl
    right false b e = e

    by : (z : Bool) → test d ≡ z → (z || list_any test ds) ≡ true → (list_any test ds ≡ true → list_any weak ds ≡ true) → (weak d || list_any weak ds) ≡ true
    by true t e again = or_left (weak d) (list_any weak ds) (w d t)
    by false t e again = right (weak d) (list_any weak ds) (again e)

module _ (p : Program) (keeps : Keeps p) (form : p.form ≡ Plain) (main : ClassId) (fit : is_fit_main p main ≡ true) where
  -- some built-in method is it
  named : (m : Method) × (first_that is_task_execute p.methods ≡ Some m)
  named = let f = has_execute p keeps form main fit in by f.0 (first_that is_task_execute p.methods) refl f.1
    where
      by : (f : MethodId) (o : Option Method) → first_that is_task_execute p.methods ≡ o → (o >>= selected p main) ≡ Some f → (m : Method) × (first_that is_task_execute p.methods ≡ Some m)
      by f None e is = absurd (none-some f is)
      by f (Some m) e is = (m, e)

  task_line : (c : ClassId) → is_task p c ≡ true → list_any (λ (d : ClassId). eqb d.0 (n p keeps form + 4)) (line_of p c) ≡ true
  task_line c e =
      any_weaker (is_named_task p) (λ d. eqb d.0 (n p keeps form + 4))
      (λ d t. eq-eqb d.0 (n p keeps form + 4) (same_class p keeps form (codes "kilim/Task") refl d (class_id (n p keeps form + 4)) t (task_named p keeps form))) (line_of p c) e

  -- a class of tasks has a method for it
  pub task_begun : (c : ClassId) (k : ℕ) → is_task p c ≡ true → begun_on p (execute_of p c) k ≡ None → ⊥
  task_begun c k task e =
      let m = named.0 in
      let w = found p.methods m named.1 in
      let id : MethodId = record { 0 = w.place } in
      let parts = and_parts m.built_in (bytes_eq m.name (codes "execute")) w.passes in
      let ex = execute_is p keeps form id m w.at parts.0 parts.1 in
      let line : list_any (λ (d : ClassId). eqb d.0 m.owner.0) (line_of p c) ≡ true = subst (λ (o : ClassId). list_any (λ (d : ClassId). eqb d.0 o.0) (line_of p c) ≡ true) (sym ex.0.1) (task_line c task) in
      let f = finds_chosen p id m c keeps w.at ex.2 ex.1 line in
      begun_some p f.0 f.2.method k f.2.there (sym (ap (λ (o : Option Method). begun_on p (o >>= selected p c) k) named.1 ∙ ap (λ (o : Option MethodId). begun_on p o k) f.1) ∙ e)

  -- a task object begins
  pub started : (h : Objects) (root : ℕ) (o : Object) → get h root ≡ Some o → is_root p OfTask o.class ≡ true → execute_frames p h root ≡ None → ⊥
  started h root o at kind e =
      by o.class.dims o.class.base kind (sym (ap (λ (x : Option Object). begun_on p (x >>= λ (object : Object). class_of object.class.base >>= λ c. execute_of p c) root) at) ∙ e)
    where
      by : (d : ℕ) (b : Base) → is_root p OfTask (record { dims = d; base = b }) ≡ true → begun_on p (class_of b >>= λ c. execute_of p c) root ≡ None → ⊥
      by d (base.Class c) kind e = task_begun c root (and_parts (eqb d 0) (is_task p c) kind).1 e
      by d base.Bool kind e = false≢true (and_parts (eqb d 0) false kind).1
      by d base.Byte kind e = false≢true (and_parts (eqb d 0) false kind).1
      by d base.Char kind e = false≢true (and_parts (eqb d 0) false kind).1
      by d base.Short kind e = false≢true (and_parts (eqb d 0) false kind).1
      by d base.Int kind e = false≢true (and_parts (eqb d 0) false kind).1
      by d base.Long kind e = false≢true (and_parts (eqb d 0) false kind).1
