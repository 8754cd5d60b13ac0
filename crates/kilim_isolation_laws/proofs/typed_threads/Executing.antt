-- Where `execute` of a task begins, its frame fits.
use Rattle.std.proofs.Common.{◌≡◌, inl, inr, ℕ, suc, ◌+◌, Bool, true, false, cond, eqb, List, [], ◌∷◌, Option, Some, None, refl, sym, ap, subst, ◌∙◌}
use Rattle.std.specs.Prelude.{◌||◌, slice_get, codes}
use Rattle.std.specs.List.{AllByRecursion, list_any}
use Rattle.std.specs.Str.{bytes_eq}
use Rattle.std.proofs.lemmas.Bool.{and_parts, eq-eqb, or_left}
use Rattle.kilim_program.specs.declared.class.Form.TheVariants.{Plain}
use Rattle.kilim_program.specs.declared.class.Method.{Method}
use Rattle.kilim_program.specs.declared.names.ClassId.{ClassId}
use Rattle.kilim_program.specs.declared.names.MethodId.{MethodId}
use Rattle.kilim_program.specs.declared.ty.Base.{Base}
use Rattle.kilim_program.specs.declared.ty.Base.TheVariants as base
use Rattle.kilim_program.specs.declared.ty.Ty.{Ty}
use Rattle.kilim_program.specs.declared.value.Value.TheVariants.{Ref}
use Rattle.kilim_program.specs.BuiltIn.{built_in_methods_in, class_id, class_type}
use Rattle.kilim_program.specs.Fits.{fits_type}
use Rattle.kilim_program.specs.Keeps.{Keeps}
use Rattle.kilim_program.specs.Names.{◌>>=◌, class_at, class_name, first_that, is_named_task, is_task, line_of, method_at}
use Rattle.kilim_program.specs.Program.{Program}
use Rattle.kilim_program.proofs.BuiltIns.{exceptions_too}
use Rattle.kilim_program.specs.Same.{is_constructor, selected}
use Rattle.kilim_run_machine.specs.Does.{chosen, chosen_by}
use Rattle.kilim_run_state.specs.Machine.{Objects, Activation}
use Rattle.kilim_program.specs.Members.{execute_of, is_concrete, is_task_execute}
use Rattle.kilim_run_machine.specs.Moves.{entered}
use Rattle.kilim_run_model.specs.State.{begun_in, begun_on}
use Rattle.kilim_type_sound.specs.Facts.{Selected}
use Rattle.kilim_type_sound.specs.Fits.{Classes, Fits, HeapFits, Typing, Verified, Wanted, is_of}
use Rattle.kilim_type_sound.proofs.Grounds.{facts_hold}
use Rattle.kilim_type_sound.proofs.Grown.{beginnings_fit}
use Rattle.kilim_type_laws.proofs.members.ValueClasses.{type_is}
use Rattle.kilim_isolation_laws.proofs.typed_threads.fine.Natives.{built_in_one, first, task_name}

some_same : {A : Type 0} (x y : A) → Some x ≡ Some y → x ≡ y
some_same x y e = cc

-- ---- what the built-in `execute` is

pub record IsExecute (n : ℕ) (m : Method) : Type 0 where
  pub owner : m.owner ≡ class_id (n + 4)
  pub params : m.params ≡ []
  pub instance : m.is_static ≡ false
  pub plain : is_constructor m ≡ false
  pub public : m.is_private ≡ false

abbrev ExecutesAs : ℕ → Method → Type 0
ExecutesAs n m = is_task_execute m ≡ true → IsExecute n m

all_execute : (n : ℕ) → AllByRecursion (ExecutesAs n) (built_in_methods_in Plain n)
all_execute n = ((λ e. absurd (let z : false ≡ true = e in cc)), ((λ e. absurd (let z : false ≡ true = e in cc)), ((λ e. absurd (let z : false ≡ true = e in cc)), ((λ e. absurd (let z : false ≡ true = e in cc)), ((λ e. absurd (let z : false ≡ true = e in cc)), ((λ e. absurd (let z : false ≡ true = e in cc)), ((λ e. record { owner = refl; params = refl; instance = refl; plain = refl; public = refl }), ((λ e. absurd (let z : false ≡ true = e in cc)), ((λ e. absurd (let z : false ≡ true = e in cc)), ((λ e. absurd (let z : false ≡ true = e in cc)), ((λ e. absurd (let z : false ≡ true = e in cc)), ((λ e. absurd (let z : false ≡ true = e in cc)), ((λ e. absurd (let z : false ≡ true = e in cc)), ((λ e. absurd (let z : false ≡ true = e in cc)), ((λ e. absurd (let z : false ≡ true = e in cc)), ((λ e. absurd (let z : false ≡ true = e in cc)), ((λ e. absurd (let z : false ≡ true = e in cc)), ((λ e. absurd (let z : false ≡ true = e in cc)), ((λ e. absurd (let z : false ≡ true = e in cc)), ((λ e. absurd (let z : false ≡ true = e in cc)), exceptions_too (ExecutesAs n) n [] (λ c e. absurd (let z : false ≡ true = e in cc)) (λ c e. absurd (let z : false ≡ true = e in cc)) (λ e. absurd (let z : false ≡ true = e in cc)) tt))))))))))))))))))))

record IsFound (test : Method → Bool) (ms : List Method) (m : Method) : Type 0 where
  place : ℕ
  at : slice_get ms place ≡ Some m
  passes : test m ≡ true

first_there : (test : Method → Bool) (ms : List Method) (m : Method) → first_that test ms ≡ Some m → IsFound test ms m
first_there test [] m e = absurd (cc)
first_there test (x ∷ ms) m e = by (test x) refl e (λ later. first_there test ms m later)
  where
    by : (z : Bool) → test x ≡ z → cond z (Some x) (first_that test ms) ≡ Some m → (first_that test ms ≡ Some m → IsFound test ms m) → IsFound test (x ∷ ms) m
    by true t e again = let same = some_same x m e in record { place = 0; at = ap (λ (y : Method). Some y) same; passes = subst (λ (y : Method). test y ≡ true) same t }
    by false t e again = let f = again e in record { place = suc f.place; at = f.at; passes = f.passes }

-- ---- a task's line has the class of tasks

any_weaker : (test weak : ClassId → Bool) → ((d : ClassId) → test d ≡ true → weak d ≡ true) → (ds : List ClassId) → list_any test ds ≡ true → list_any weak ds ≡ true
any_weaker test weak w [] e = absurd (cc)
any_weaker test weak w (d ∷ ds) e = by (test d) refl e (λ later. any_weaker test weak w ds later)
  where
    right : (a b : Bool) → b ≡ true → (a || b) ≡ true
    right true b e = refl
    right false b e = e

    by : (z : Bool) → test d ≡ z → (z || list_any test ds) ≡ true → (list_any test ds ≡ true → list_any weak ds ≡ true) → (weak d || list_any weak ds) ≡ true
    by true t e again = or_left (weak d) (list_any weak ds) (w d t)
    by false t e again = right (weak d) (list_any weak ds) (again e)

abbrev number_of : Base → ℕ
number_of (base.Class c) = c.0
number_of b = 0

module _ (p : Program) (keeps : Keeps p) (form : p.form ≡ Plain) where
  abbrev n : ℕ
  n = first p keeps form

  pub same_class : (name : List ℕ) → bytes_eq [] name ≡ false → (a b : ClassId) → bytes_eq (class_name p a) name ≡ true → bytes_eq (class_name p b) name ≡ true → a.0 ≡ b.0
  same_class name some a b e f =
      let t : class_type a.0 ≡ class_type b.0 = some_same (class_type a.0) (class_type b.0) (sym (type_is p keeps name a some e) ∙ type_is p keeps name b some f) in
      ap (λ (ty : Ty). number_of ty.base) t

  task_is : (d : ClassId) → is_named_task p d ≡ true → eqb d.0 (n + 4) ≡ true
  task_is d e = eq-eqb d.0 (n + 4) (same_class (codes "kilim/Task") refl d (class_id (n + 4)) e (ap (λ (x : List ℕ). bytes_eq x (codes "kilim/Task")) (task_name p keeps form)))

  task_fits : (c : ClassId) → is_task p c ≡ true → fits_type p (class_type c.0) (class_type (n + 4)) ≡ true
  unfolding fits_type
  task_fits c e = or_left (list_any (λ d. eqb d.0 (n + 4)) (line_of p c)) _ (any_weaker (is_named_task p) (λ d. eqb d.0 (n + 4)) task_is (line_of p c) e)

  execute_is : (m : Method) → first_that is_task_execute p.methods ≡ Some m → (id : MethodId) × (method_at p id ≡ Some m) × IsExecute n m
  execute_is m e =
      let f = first_there is_task_execute p.methods m e in
      let id : MethodId = record { 0 = f.place } in
      (id, f.at, built_in_one p keeps form (ExecutesAs n) (all_execute n) id m f.at (and_parts m.built_in _ f.passes).0 f.passes)

  module _ (typing : Typing) (live : Wanted) (verified : Verified p typing live) (of : Classes) (h : Objects) (heap : HeapFits p of h) where
    -- a method that is selected for the built-in one
    selected_begins : (c : ClassId) (k : ℕ) (frames : List Activation) (named : Method) (id : MethodId) → method_at p id ≡ Some named → IsExecute n named → is_concrete (class_at p c) ≡ true → is_task p c ≡ true → of k ≡ Some (class_type c.0) →
        (found : MethodId) → selected p c named ≡ Some found → begun_in p found k (method_at p found) ≡ Some frames → Fits p typing live of frames h
    selected_begins c k frames named id at ex concrete task class found is begun =
        let owner : fits_type p (class_type c.0) (class_type named.owner.0) ≡ true = subst (λ (d : ClassId). fits_type p (class_type c.0) (class_type d.0) ≡ true) (sym ex.owner) (task_fits c task) in
        let s = (facts_hold p keeps).selects id named at ex.instance ex.plain (class_type c.0) concrete owner in
        let same : chosen p named id (class_type c.0) ≡ found = ap (λ (z : Bool). cond z id (chosen_by (selected p c named) id)) ex.public ∙ ap (λ (o : Option MethodId). chosen_by o id) is in
        by found same s begun
      where
        ends : (f : MethodId) (s : (s : Selected p named f) × (fits_type p (class_type c.0) (class_type s.method.owner.0) ≡ true)) → begun_in p f k (Some s.0.method) ≡ Some frames → Fits p typing live of frames h
        ends f s begun = elim s.0.code [
          | inl built ↦ subst (λ (fs : List Activation). Fits p typing live of fs h) (some_same [] frames (ap (λ (z : Bool). Some (cond z [] (entered p f (Ref k ∷ []) ∷ []))) (sym built) ∙ begun)) (record { frames = tt; heap = heap })
          | inr own ↦
              subst (λ (fs : List Activation). Fits p typing live of fs h) (some_same (entered p f (Ref k ∷ []) ∷ []) frames (ap (λ (z : Bool). Some (cond z [] (entered p f (Ref k ∷ []) ∷ []))) (sym own.0) ∙ begun))
              (beginnings_fit p typing live of (facts_hold p keeps) verified f s.0.method k h s.0.there own.1 s.0.instance (s.0.params ∙ ex.params) (ap (λ (o : Option Ty). is_of p o (class_type s.0.method.owner.0)) class ∙ s.1) heap)
        ]

        by : (f : MethodId) → chosen p named id (class_type c.0) ≡ f → ((s : Selected p named (chosen p named id (class_type c.0))) × (fits_type p (class_type c.0) (class_type s.method.owner.0) ≡ true)) → begun_in p f k (method_at p f) ≡ Some frames → Fits p typing live of frames h
        by f same s begun =
            let t : (s : Selected p named f) × (fits_type p (class_type c.0) (class_type s.method.owner.0) ≡ true) = subst (λ (g : MethodId). (s : Selected p named g) × (fits_type p (class_type c.0) (class_type s.method.owner.0) ≡ true)) same s in
            ends f t (ap (λ (o : Option Method). begun_in p f k o) (sym t.0.there) ∙ begun)

    pub execute_begins : (c : ClassId) (k : ℕ) (frames : List Activation) → is_concrete (class_at p c) ≡ true → is_task p c ≡ true → of k ≡ Some (class_type c.0) → begun_on p (execute_of p c) k ≡ Some frames → Fits p typing live of frames h
    execute_begins c k frames concrete task class begun = by (first_that is_task_execute p.methods) refl begun
      where
        found : (named : Method) → first_that is_task_execute p.methods ≡ Some named → (o : Option MethodId) → selected p c named ≡ o → begun_on p o k ≡ Some frames → Fits p typing live of frames h
        found named there None is begun = absurd (cc)
        found named there (Some f) is begun = let ex = execute_is named there in selected_begins c k frames named ex.0 ex.1 ex.2 concrete task class f is begun

        by : (o : Option Method) → first_that is_task_execute p.methods ≡ o → begun_on p (o >>= selected p c) k ≡ Some frames → Fits p typing live of frames h
        by None there begun = absurd (cc)
        by (Some named) there begun = found named there (selected p c named) refl begun
