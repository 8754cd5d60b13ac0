-- `execute` of a class of tasks.
use Rattle.std.proofs.Common.{◌≡◌, inl, inr, ℕ, suc, ◌+◌, Bool, true, false, cond, eqb, List, [], ◌∷◌, length, Option, Some, None, refl, sym, ap, subst, ◌∙◌}
use Rattle.std.specs.Prelude.{◌||◌, codes, slice_get}
use Rattle.std.specs.List.{list_any}
use Rattle.std.specs.Str.{bytes_eq}
use Rattle.std.proofs.lemmas.Bool.{and_parts, eq-eqb, false≢true, or_left}
use Rattle.kilim_program.specs.declared.class.Form.TheVariants.{Plain}
use Rattle.kilim_program.specs.declared.class.Method.{Method}
use Rattle.kilim_program.specs.declared.names.ClassId.{ClassId}
use Rattle.kilim_program.specs.declared.names.MethodId.{MethodId}
use Rattle.kilim_program.specs.declared.ty.Qualifier.TheVariants.{Cuttable}
use Rattle.kilim_program.specs.BuiltIn.{class_id, class_type}
use Rattle.kilim_program.specs.Keeps.{Keeps}
use Rattle.kilim_program.specs.Names.{◌>>=◌, first_that, is_named_task, is_task, line_of, method_at}
use Rattle.kilim_program.specs.Program.{Program}
use Rattle.kilim_program.specs.Same.{is_constructor, selected}
use Rattle.kilim_type_laws.specs.members.Chosen.{IsChosen}
use Rattle.kilim_type_laws.proofs.members.Finding.{finds}
use Rattle.kilim_isolation_laws.specs.graph_rows.Holds.{Tree, Trees, object_sort}
use Rattle.kilim_program.specs.Members.{execute_of, is_task_execute}
use Rattle.kilim_isolation_laws.proofs.sorts.Choosing.{of_object}
use Rattle.kilim_isolation_laws.proofs.sorts.Lines.{in_line}
use Rattle.kilim_isolation_laws.proofs.Natives.{Begins, execute_is, n, task_named, tree_of_task}
use Rattle.kilim_isolation_laws.proofs.typed_threads.Executing.{same_class}

some_is : {A : Type 0} (x y : A) → Some x ≡ Some y → x ≡ y
some_is x y e = cc

record IsFound {A : Type 0} (test : A → Bool) (xs : List A) (x : A) : Type 0 where
  place : ℕ
  at : slice_get xs place ≡ Some x
  passes : test x ≡ true

first_there : {A : Type 0} (test : A → Bool) (xs : List A) (x : A) → first_that test xs ≡ Some x → IsFound test xs x
first_there test [] x e = absurd (cc)
first_there {A} test (y ∷ xs) x e = by (test y) refl e (λ later. first_there test xs x later)
  where
    by : (z : Bool) → test y ≡ z → cond z (Some y) (first_that test xs) ≡ Some x → (first_that test xs ≡ Some x → IsFound test xs x) → IsFound test (y ∷ xs) x
    by true t e again = let same = some_is y x e in record { place = 0; at = e; passes = subst (λ (z : A). test z ≡ true) same t }
    by false t e again = let f = again e in record { place = suc f.place; at = f.at; passes = f.passes }

any_weaker : (test weak : ClassId → Bool) → ((d : ClassId) → test d ≡ true → weak d ≡ true) → (ds : List ClassId) → list_any test ds ≡ true → list_any weak ds ≡ true
any_weaker test weak w [] e = absurd (false≢true e)
any_weaker test weak w (d ∷ ds) e = by (test d) refl e (λ later. any_weaker test weak w ds later)
  where
    right : (a b : Bool) → b ≡ true → (a || b) ≡ true
    right true b e = refl
    right false b e = e

    by : (z : Bool) → test d ≡ z → (z || list_any test ds) ≡ true → (list_any test ds ≡ true → list_any weak ds ≡ true) → (weak d || list_any weak ds) ≡ true
    by true t e again = or_left (weak d) (list_any weak ds) (w d t)
    by false t e again = right (weak d) (list_any weak ds) (again e)

-- the method that a task of class c begins with
pub record IsExecute (p : Program) (c : ClassId) (f : MethodId) : Type 0 where
  pub method : Method
  pub there : method_at p f ≡ Some method
  pub instance : method.is_static ≡ false
  pub params : method.params ≡ []
  pub qualifiers : method.qualifiers ≡ []
  pub receiver : method.receiver ≡ Cuttable
  pub plain : is_constructor method ≡ false
  pub in_line : list_any (λ d. eqb d.0 method.owner.0) (line_of p c) ≡ true
  pub owner : object_sort p (class_type method.owner.0) ≡ Tree 0 Trees

module _ (p : Program) (keeps : Keeps p) (form : p.form ≡ Plain) where
  task_line : (c : ClassId) → is_task p c ≡ true → list_any (λ (d : ClassId). eqb d.0 (n p keeps form + 4)) (line_of p c) ≡ true
  task_line c e =
      any_weaker (is_named_task p) (λ d. eqb d.0 (n p keeps form + 4))
      (λ d t. eq-eqb d.0 (n p keeps form + 4) (same_class p keeps form (codes "kilim/Task") refl d (class_id (n p keeps form + 4)) t (task_named p keeps form))) (line_of p c) e

  found_execute : (c : ClassId) → is_task p c ≡ true → (id : MethodId) (named : Method) → method_at p id ≡ Some named → is_task_execute named ≡ true → (f : MethodId) → selected p c named ≡ Some f →
      Rattle.kilim_program.specs.Kinds.class_kind p c ≡ Rattle.kilim_program.specs.declared.ty.Kind.TheVariants.Tree → IsExecute p c f
  found_execute c task id named there passes f found kind =
      let parts = and_parts named.built_in (bytes_eq named.name (codes "execute")) passes in
      let ex = execute_is p keeps form id named there parts.0 parts.1 in
      let line : list_any (λ (d : ClassId). eqb d.0 named.owner.0) (line_of p c) ≡ true = subst (λ (o : ClassId). list_any (λ (d : ClassId). eqb d.0 o.0) (line_of p c) ≡ true) (sym ex.0.1) (task_line c task) in
      by (finds p keeps id named there ex.2 ex.1 c line) ex.0 ex.1
    where
      by : (g : MethodId) × (selected p c named ≡ Some g) × IsChosen p c named g → Begins (n p keeps form) Cuttable named → is_constructor named ≡ false → IsExecute p c f
      by w b other =
          let s : IsChosen p c named f = subst (λ (g : MethodId). IsChosen p c named g) (some_is w.0 f (sym w.1 ∙ found)) w.2 in
          let plain : is_constructor s.method ≡ false = ap (λ (x : List ℕ). bytes_eq x (codes "<init>")) s.name ∙ other in
          record {
            method = s.method;
            there = s.there;
            instance = s.is_static ∙ b.0;
            params = s.params ∙ b.3;
            qualifiers = s.qualifiers ∙ b.4;
            receiver = s.receiver ∙ b.2;
            plain = plain;
            in_line = s.in_line;
            owner = tree_of_task p keeps form s.method.owner (elim (in_line p keeps (length p.classes) c s.method.owner s.in_line) [
              | inl k ↦ k ∙ kind
              | inr o ↦ absurd (false≢true (sym plain ∙ (of_object p keeps f s.method s.there o).0))
            ]);
          }

  pub execute_found : (c : ClassId) → is_task p c ≡ true → Rattle.kilim_program.specs.Kinds.class_kind p c ≡ Rattle.kilim_program.specs.declared.ty.Kind.TheVariants.Tree → (f : MethodId) → execute_of p c ≡ Some f → IsExecute p c f
  execute_found c task kind f e = by (first_that is_task_execute p.methods) refl e
    where
      by : (o : Option Method) → first_that is_task_execute p.methods ≡ o → (o >>= selected p c) ≡ Some f → IsExecute p c f
      by None at e = absurd (none e)
        where
          none : None ≡ Some f → ⊥
          none e = cc
      by (Some named) at e = let w = first_there is_task_execute p.methods named at in found_execute c task (record { 0 = w.place }) named w.at w.passes f e kind
