-- A thread begins so that it stands.
use Rattle.std.proofs.Common.{◌≡◌, ◌⊎◌, inl, inr, ℕ, zero, suc, ◌+◌, Bool, true, false, cond, eqb, List, [], ◌∷◌, length, map, ◌≢◌, Option, Some, None, refl, sym, ap, subst, ◌∙◌, arith}
use Rattle.std.specs.Prelude.{◌&&◌, ◌||◌, not, slice_get, codes, is_none}
use Rattle.std.specs.FinMap.{empty, get, insert, get-empty}
use Rattle.std.specs.List.{list_any}
use Rattle.std.specs.Str.{bytes_eq}
use Rattle.std.proofs.lemmas.Bool.{and_parts, eq-eqb, eqb-true, not-true, or_left}
use Rattle.kilim_program.specs.declared.class.Field.{Field}
use Rattle.kilim_program.specs.declared.class.Method.{Method}
use Rattle.kilim_program.specs.declared.names.ClassId.{ClassId}
use Rattle.kilim_program.specs.declared.names.FieldId.{FieldId}
use Rattle.kilim_program.specs.declared.names.MethodId.{MethodId}
use Rattle.kilim_program.specs.declared.ty.Base.{Base}
use Rattle.kilim_program.specs.declared.ty.Base.TheVariants as base
use Rattle.kilim_program.specs.declared.ty.Kind.TheVariants as kind
use Rattle.kilim_program.specs.declared.ty.Qualifier.TheVariants.{Cuttable, Free}
use Rattle.kilim_program.specs.declared.ty.Ty.{Ty}
use Rattle.kilim_program.specs.declared.value.Value.{Value}
use Rattle.kilim_program.specs.declared.value.Value.TheVariants.{Null, Ref}
use Rattle.kilim_program.specs.Program.{Program}
use Rattle.kilim_program.specs.BuiltIn.{class_id, class_type}
use Rattle.kilim_program.specs.Kinds.{class_kind}
use Rattle.kilim_program.specs.Names.{class_at, class_name, field_of, first_that, is_empty, is_named_task, is_task, line_of, method_at, methods_of, ◌>>=◌}
use Rattle.kilim_program.specs.Same.{is_constructor, selected}
use Rattle.kilim_run_state.specs.declared.value.Object.{Object}
use Rattle.kilim_run_state.specs.declared.value.Token.{Token}
use Rattle.kilim_run_state.specs.Machine.{Activation, Objects}
use Rattle.kilim_program.specs.Members.{constructor_of, execute_of, is_concrete, is_own_constructor, is_plain_method, is_task_execute, object_fields}
use Rattle.kilim_run_machine.specs.Moves.{entered}
use Rattle.kilim_run_state.specs.Objects.{first_field, first_value, first_value_of, new_object}
use Rattle.kilim_run_state.specs.Shapes.{field_in}
use Rattle.kilim_run_state.specs.Trees.{OfTask, built, is_root, with_objects}
use Rattle.kilim_run_model.specs.declared.deed.Beginning.{Beginning}
use Rattle.kilim_run_model.specs.Course.{lone_begun, lone_built, lone_in}
use Rattle.kilim_run_model.specs.declared.deed.Beginning.TheVariants.{Begun, Boot}
use Rattle.kilim_run_model.specs.Lone.{Lone}
use Rattle.kilim_run_model.specs.State.{Alive, Setting, begun_in, begun_on, class_of, execute_frames, is_fit}
use Rattle.kilim_type_laws.specs.Laws.{typing_at}
use Rattle.kilim_isolation_laws.specs.forest.Heap.{IsForest, Up}
use Rattle.kilim_type_laws.specs.members.Chosen.{IsChosen}
use Rattle.kilim_type_sound.specs.Fits.{Classes, Wanted}
use Rattle.kilim_type_laws.proofs.members.ClassMethods.{IsAmong, names_owner}
use Rattle.kilim_type_laws.proofs.members.Finding.{finds}
use Rattle.kilim_isolation_laws.specs.typed_threads.fine.Typed.{FitsAs, IsVerified}
use Rattle.kilim_isolation_laws.proofs.typed_threads.Executing.{same_class}
use Rattle.kilim_isolation_laws.proofs.typed_threads.Read.{built_is}
use Rattle.kilim_isolation_laws.specs.graph_rows.Holds.{Fits, HeapFits, IsOf, ObjectFits, Tree, Trees, field_sort, field_sort_of, held_at, held_by, object_sort, refers, refers_in, trees, tree_held}
use Rattle.kilim_isolation_laws.specs.graph_rows.Holds as holds
use Rattle.kilim_isolation_laws.specs.graph_rows.Facts.{IsTaken}
use Rattle.kilim_isolation_laws.proofs.graph_rows.Heaps.{is_or_not, put_other, put_there}
use Rattle.kilim_isolation_laws.proofs.graph_rows.Making.{new_fits, zero_fits}
use Rattle.kilim_isolation_laws.specs.reached_objects.graphs.Threads.{BeginsOn, EndFits, IsSound, Listed, TopIsCoded}
use Rattle.kilim_isolation_laws.specs.reached_objects.graphs.Threads as graphs
use Rattle.kilim_isolation_laws.proofs.reached_objects.graphs.Beginning.{beginnings_keep}
use Rattle.kilim_isolation_laws.proofs.heaps.Heaps.{get_new, taken_trees_come}
use Rattle.kilim_isolation_laws.proofs.sorts.Choosing.{of_object, sizes}
use Rattle.kilim_isolation_laws.proofs.sorts.Lines.{in_line}
use Rattle.kilim_isolation_laws.specs.Standing.{MainBegins, Standing}
use Rattle.kilim_isolation_laws.proofs.Moving.{top_coded}
use Rattle.kilim_isolation_laws.proofs.Natives.{Begins, execute_is, n, task_kind, task_named, tree_of_task}

one_of : {A : Type 0} (o : Option A) (x y : A) → o ≡ Some x → o ≡ Some y → x ≡ y
one_of o x y e f = cc

-- ---- the first of a list that passes a test

record IsFound {A : Type 0} (test : A → Bool) (xs : List A) (x : A) : Type 0 where
  place : ℕ
  at : slice_get xs place ≡ Some x
  among : IsAmong x xs
  passes : test x ≡ true

first_there : {A : Type 0} (test : A → Bool) (xs : List A) (x : A) → first_that test xs ≡ Some x → IsFound test xs x
first_there test [] x e = absurd (cc)
first_there {A} test (y ∷ xs) x e = by (test y) refl e (λ later. first_there test xs x later)
  where
    by : (z : Bool) → test y ≡ z → cond z (Some y) (first_that test xs) ≡ Some x → (first_that test xs ≡ Some x → IsFound test xs x) → IsFound test (y ∷ xs) x
    by true t e again = let same = one_of (Some y) y x refl e in record { place = 0; at = e; among = inl (sym same); passes = subst (λ (z : A). test z ≡ true) same t }
    by false t e again = let f = again e in record { place = suc f.place; at = f.at; among = inr f.among; passes = f.passes }

any_weaker : (test weak : ClassId → Bool) → ((d : ClassId) → test d ≡ true → weak d ≡ true) → (ds : List ClassId) → list_any test ds ≡ true → list_any weak ds ≡ true
any_weaker test weak w [] e = absurd (cc)
any_weaker test weak w (d ∷ ds) e = by (test d) refl e (λ later. any_weaker test weak w ds later)
  where
    right : (a b : Bool) → b ≡ true → (a || b) ≡ true
    right true b e = refl
    right false b e = e

    by : (z : Bool) → test d ≡ z → (z || list_any test ds) ≡ true → (list_any test ds ≡ true → list_any weak ds ≡ true) → (weak d || list_any weak ds) ≡ true
    by true t e again = or_left (weak d) (list_any weak ds) (w d t)
    by false t e again = right (weak d) (list_any weak ds) (again e)

no_length : {A : Type 0} (xs : List A) → length xs ≡ 0 → xs ≡ []
no_length [] e = refl
no_length (x ∷ xs) e = absurd (omega (arith, e))

none_there : {A : Type 0} (xs : List A) → is_empty xs ≡ true → xs ≡ []
none_there [] e = refl
none_there (x ∷ xs) e = absurd (cc)

cuttable_free : Cuttable ≡ Free → ⊥
cuttable_free e = cc

abbrev no_objects : Objects
no_objects = empty

no_object : (x : ℕ) → get no_objects x ≡ None
no_object x = get-empty _ x

nothing_there : {A : Type 0} (x : ℕ) (o : Object) → get no_objects x ≡ Some o → A
nothing_there x o e = absurd (let z = no_object x in cc)

-- ---- a new object alone

first_value_fits : (p : Program) (h : Objects) (o : Option Field) → Fits p h (field_sort_of p o) (elim o [ None ↦ Null | Some field ↦ first_value field.ty ])
first_value_fits p h None = (refl, refl)
first_value_fits p h (Some field) = zero_fits p h field.ty field.ty.dims

first_refers : (o : Option Field) → refers (elim o [ None ↦ Null | Some field ↦ first_value field.ty ]) ≡ None
first_refers None = refl
first_refers (Some field) = by (eqb field.ty.dims 0) field.ty.base
  where
    by : (b : Bool) (c : Base) → refers (cond b (first_value_of c) Null) ≡ None
    by false c = refl
    by true base.Bool = refl
    by true base.Byte = refl
    by true base.Char = refl
    by true base.Short = refl
    by true base.Int = refl
    by true base.Long = refl
    by true (base.Class c) = refl

abbrev field_id : ℕ → FieldId
field_id k = record { 0 = k }

new_field : (p : Program) (fs : List FieldId) (f : FieldId) (v : Value) → field_in (map (first_field p) fs) f ≡ Some v → (h : Objects) → Fits p h (field_sort p f) v × (refers v ≡ None)
new_field p [] f v e h = absurd (cc)
new_field p (k ∷ fs) f v e h = by (eqb k.0 f.0) refl e (λ later. new_field p fs f v later h)
  where
    by : (z : Bool) → eqb k.0 f.0 ≡ z → cond z (Some (first_field p k).1) (field_in (map (first_field p) fs) f) ≡ Some v → (field_in (map (first_field p) fs) f ≡ Some v → Fits p h (field_sort p f) v × (refers v ≡ None)) → Fits p h (field_sort p f) v × (refers v ≡ None)
    by true same e again =
        let w : (first_field p k).1 ≡ v = one_of (Some (first_field p k).1) (first_field p k).1 v refl e in
        (subst (λ (z : FieldId). Fits p h (field_sort p z) v) (ap field_id (eqb-true k.0 f.0 same)) (subst (λ (x : Value). Fits p h (field_sort p k) x) w (first_value_fits p h (field_of p k))), ap refers (sym w) ∙ first_refers (field_of p k))
    by false same e again = again e

new_holds : (p : Program) (c : ClassId) (z : Bool × ℕ) → held_by (new_object p c) z ≡ None
new_holds p c (true, k) = refl
new_holds p c (false, k) = by (field_in (new_object p c).fields (field_id k)) refl
  where
    by : (x : Option Value) → field_in (new_object p c).fields (field_id k) ≡ x → refers_in x ≡ None
    by None e = refl
    by (Some v) e = (new_field p (object_fields p c) (field_id k) v e empty).1

module _ (p : Program) (c : ClassId) where
  abbrev one : Objects
  one = insert empty 0 (new_object p c)

  nothing_held : (o i : ℕ) → (trees p one).to o i ≡ None
  nothing_held o i = by (is_or_not o 0)
    where
      of_sort : (s : holds.Sort) → tree_held (new_object p c) s i ≡ None
      of_sort (Tree d x) = new_holds p c (holds.half i)
      of_sort holds.Anything = refl
      of_sort holds.Wide = refl
      of_sort holds.Word = refl
      of_sort holds.Own = refl

      by : (o ≡ 0) ⊎ (o ≢ 0) → held_at p (get one o) i ≡ None
      by (inl e) = ap (λ (k : ℕ). held_at p (get one k) i) e ∙ (ap (λ (x : Option Object). held_at p x i) (put_there empty 0 (new_object p c)) ∙ of_sort (object_sort p (new_object p c).class))
      by (inr other) = ap (λ (x : Option Object). held_at p x i) (put_other empty 0 (new_object p c) o other ∙ no_object o)

  held_none : {A : Type 0} (o i x : ℕ) → (trees p one).to o i ≡ Some x → A
  held_none o i x e = absurd (let z = nothing_held o i in cc)

  pub one_forest : IsForest (trees p one)
  one_forest = record { one = λ x a b i j e f. held_none a i x e; ends = λ x. Up (λ q i e. held_none q i x e); there = λ q i x e. held_none q i x e }

-- ---- threads

module _ (set : Setting) (wanted : Wanted) (listed : Listed) (sound : IsSound set.program (typing_at set.program) listed) (is : IsVerified set (typing_at set.program) wanted) (main : is_fit set ≡ true) where
  abbrev p : Program
  p = set.program

  abbrev number : ℕ
  number = n p is.keeps is.form

  abbrev StandOn : Option ℕ → Objects → List Activation → Type 0
  StandOn kept h frames = graphs.FramesFit p (typing_at p) listed kept h frames

  -- ---- tasks are trees

  task_line : (c : ClassId) → is_task p c ≡ true → list_any (λ d. eqb d.0 (number + 4)) (line_of p c) ≡ true
  task_line c e = any_weaker (is_named_task p) (λ d. eqb d.0 (number + 4)) (λ d t. eq-eqb d.0 (number + 4) (same_class p is.keeps is.form (codes "kilim/Task") refl d (class_id (number + 4)) t (task_named p is.keeps is.form))) (line_of p c) e

  pub kind_of_task : (c : ClassId) → is_task p c ≡ true → class_kind p c ≡ kind.Tree
  kind_of_task c e = elim (in_line p is.keeps (length p.classes) c (class_id (number + 4)) (task_line c e)) [
    | inl k ↦ sym k ∙ task_kind p is.keeps is.form
    | inr o ↦ absurd (let a = Rattle.kilim_lemmas.proofs.Texts.text_is (class_name p (class_id (number + 4))) (codes "kilim/Task") (task_named p is.keeps is.form) in let b : bytes_eq (codes "kilim/Task") (codes "java/lang/Object") ≡ true = ap (λ (x : List ℕ). bytes_eq x (codes "java/lang/Object")) (sym a) ∙ o in different b)
  ]
    where
      different : bytes_eq (codes "kilim/Task") (codes "java/lang/Object") ≡ true → ⊥
      different e = let z : false ≡ true = e in cc

  pub task_sort : (c : ClassId) → is_task p c ≡ true → object_sort p (class_type c.0) ≡ Tree 0 Trees
  task_sort c e = tree_of_task p is.keeps is.form c (kind_of_task c e)

  -- ---- `execute`

  module _ (h : Objects) (q : ℕ) (c : ClassId) (frames : List Activation) (task : is_task p c ≡ true) (heap : HeapFits p h) (forest : IsForest (trees p h)) (tree : IsOf p h q (Tree 0 Trees)) (coded : TopIsCoded p frames) where
    nothing_kept : EndFits p None h
    nothing_kept = record { heap = heap; forest = forest; there = λ o e. absurd (cc) }

    -- a method that is found for the built-in one
    method_stands : (f : MethodId) (named m : Method) → method_at p f ≡ Some m → (same : m.name ≡ named.name) → (m.is_static ≡ false) → m.params ≡ [] → m.qualifiers ≡ [] → m.receiver ≡ Cuttable → is_constructor named ≡ false → list_any (λ d. eqb d.0 m.owner.0) (line_of p c) ≡ true →
        (z : Bool) → Some (cond z [] (entered p f (Ref q ∷ []) ∷ [])) ≡ Some frames → StandOn None h frames
    method_stands f named m there same instance none plain receiver other line true e = subst (λ (fs : List Activation). StandOn None h fs) (one_of (Some []) [] frames refl e) nothing_kept
    method_stands f named m there same instance none plain receiver other line false e =
        let frames_are = one_of (Some (entered p f (Ref q ∷ []) ∷ [])) (entered p f (Ref q ∷ []) ∷ []) frames refl e in
        subst (λ (fs : List Activation). StandOn None h fs) frames_are (beginnings_keep p (typing_at p) listed None sound f m h q there (record {
          coded = subst (λ (fs : List Activation). TopIsCoded p fs) (sym frames_are) coded m there;
          instance = instance;
          plain = none;
          none = plain;
          heap = heap;
          forest = forest;
          is = tree;
          owner = tree_of_task p is.keeps is.form m.owner (elim (in_line p is.keeps (length p.classes) c m.owner line) [
            | inl k ↦ k ∙ kind_of_task c task
            | inr o ↦ absurd (let a = (of_object p is.keeps f m there o).0 in let b : is_constructor m ≡ false = ap (λ (x : List ℕ). bytes_eq x (codes "<init>")) same ∙ other in cc)
          ]);
          whole = λ free k i edge. cuttable_free (sym receiver ∙ free);
          keeps = λ o e. absurd (cc);
        }))

    found_stands : (id : MethodId) (named : Method) → method_at p id ≡ Some named → is_task_execute named ≡ true → (f : MethodId) → selected p c named ≡ Some f → begun_in p f q (method_at p f) ≡ Some frames → StandOn None h frames
    found_stands id named there passes f found begun =
        let parts = and_parts named.built_in (bytes_eq named.name (codes "execute")) passes in
        let ex = execute_is p is.keeps is.form id named there parts.0 parts.1 in
        let line : list_any (λ (d : ClassId). eqb d.0 named.owner.0) (line_of p c) ≡ true = subst (λ (o : ClassId). list_any (λ (d : ClassId). eqb d.0 o.0) (line_of p c) ≡ true) (sym ex.0.1) (task_line c task) in
        by (finds p is.keeps id named there ex.2 ex.1 c line) ex.0 ex.1
      where
        by : (g : MethodId) × (selected p c named ≡ Some g) × IsChosen p c named g → Begins number Cuttable named → is_constructor named ≡ false → StandOn None h frames
        by w b other =
            let s : IsChosen p c named f = subst (λ (g : MethodId). IsChosen p c named g) (one_of (selected p c named) w.0 f w.1 found) w.2 in
            method_stands f named s.method s.there s.name (s.is_static ∙ b.0) (s.params ∙ b.3) (s.qualifiers ∙ b.4) (s.receiver ∙ b.2) other s.in_line s.method.built_in (ap (λ (o : Option Method). begun_in p f q o) (sym s.there) ∙ begun)

    pub execute_stands : begun_on p (execute_of p c) q ≡ Some frames → StandOn None h frames
    execute_stands begun = by (first_that is_task_execute p.methods) refl begun
      where
        selects : (named : Method) → first_that is_task_execute p.methods ≡ Some named → (o : Option MethodId) → selected p c named ≡ o → begun_on p o q ≡ Some frames → StandOn None h frames
        selects named at None found begun = absurd (cc)
        selects named at (Some f) found begun = let w = first_there is_task_execute p.methods named at in found_stands (record { 0 = w.place }) named w.at w.passes f found begun

        by : (o : Option Method) → first_that is_task_execute p.methods ≡ o → begun_on p (o >>= selected p c) q ≡ Some frames → StandOn None h frames
        by None at begun = absurd (cc)
        by (Some named) at begun = selects named at (selected p c named) refl begun

  -- ---- task 0

  fit_parts : (is_task p set.main ≡ true) × (is_own_constructor (constructor_of p set.main >>= method_at p) ≡ true)
  fit_parts = and_parts (is_task p set.main) _ (and_parts (is_concrete (class_at p set.main)) _ main).1

  module _ (begins : MainBegins p set.main) (frames : List Activation) (coded : TopIsCoded p frames) where
    boot_method : (id : MethodId) (m : Method) → constructor_of p set.main ≡ Some id → method_at p id ≡ Some m → (not m.is_static && not m.built_in) ≡ true → (z : Bool) → m.built_in ≡ z → Some (cond z [] (entered p id (Ref 0 ∷ []) ∷ [])) ≡ Some frames → StandOn (Some 0) (one p set.main) frames
    boot_method id m con at own true is_one e = absurd (let a = not-true m.built_in (and_parts (not m.is_static) (not m.built_in) own).1 in cc)
    boot_method id m con at own false is_one e =
        let frames_are = one_of (Some (entered p id (Ref 0 ∷ []) ∷ [])) (entered p id (Ref 0 ∷ []) ∷ []) frames refl e in
        let w = first_there (is_plain_method p (codes "<init>")) (methods_of p set.main) id con in
        let plain : (bytes_eq m.name (codes "<init>") && (is_empty m.params && is_none m.result)) ≡ true = sym (ap (λ (o : Option Method). elim o [ None ↦ false | Some method ↦ bytes_eq method.name (codes "<init>") && (is_empty method.params && is_none method.result) ]) at) ∙ w.passes in
        let none = none_there m.params (and_parts (is_empty m.params) _ (and_parts (bytes_eq m.name (codes "<init>")) _ plain).1).0 in
        let owner : m.owner.0 ≡ set.main.0 = names_owner p is.keeps set.main id m at w.among in
        subst (λ (fs : List Activation). StandOn (Some 0) (one p set.main) fs) frames_are (beginnings_keep p (typing_at p) listed (Some 0) sound id m (one p set.main) 0 at (record {
          coded = subst (λ (fs : List Activation). TopIsCoded p fs) (sym frames_are) coded m at;
          instance = not-true m.is_static (and_parts (not m.is_static) (not m.built_in) own).0;
          plain = none;
          none = no_length m.qualifiers (sizes p is.keeps id m at ∙ ap length none);
          heap = new_fits p empty 0 (new_object p set.main) (no_object 0) (new_holds p set.main) (λ o object e. nothing_there o object e) (record { fields = λ k v e. ((new_field p (object_fields p set.main) k v e (one p set.main)).0, sound.keeps.may set.main k v e); elements = λ k v e. absurd (cc) });
          forest = one_forest p set.main;
          is = (new_object p set.main, put_there empty 0 (new_object p set.main), task_sort set.main fit_parts.0);
          owner = ap (λ (k : ℕ). object_sort p (class_type k)) owner ∙ task_sort set.main fit_parts.0;
          whole = λ free k i edge. held_none p set.main k i 0 edge;
          keeps = λ o e. (one_of (Some 0) o 0 e refl, begins id m con at);
        }))

    boot_on : (o : Option MethodId) → constructor_of p set.main ≡ o → is_own_constructor (o >>= method_at p) ≡ true → begun_on p o 0 ≡ Some frames → StandOn (Some 0) (one p set.main) frames
    boot_on None con own e = absurd (cc)
    boot_on (Some id) con own e = by (method_at p id) refl own e
      where
        by : (o : Option Method) → method_at p id ≡ o → is_own_constructor o ≡ true → begun_in p id 0 o ≡ Some frames → StandOn (Some 0) (one p set.main) frames
        by None at own e = absurd (cc)
        by (Some m) at own e = boot_method id m con at own m.built_in refl e

  lone_stands : (h : Objects) (next : ℕ) (kept : Option ℕ) (o : Option (List Activation)) (l : Lone) → lone_in h next kept o ≡ Some l → ((frames : List Activation) → o ≡ Some frames → l ≡ record { heap = h; next = next; thread = Alive frames 0 0; kept = kept } → StandOn kept h frames) → Standing p (typing_at p) listed l
  lone_stands h next kept None l e stands = absurd (cc)
  lone_stands h next kept (Some frames) l e stands =
      let same = one_of (Some (record { heap = h; next = next; thread = Alive frames 0 0; kept = kept })) (record { heap = h; next = next; thread = Alive frames 0 0; kept = kept }) l refl e in
      subst (λ (x : Lone). Standing p (typing_at p) listed x) same (stands frames refl (sym same))

  coded_at : (of : Classes) (l : Lone) → FitsAs set (typing_at p) wanted of l → (h : Objects) (next : ℕ) (kept : Option ℕ) (frames : List Activation) → l ≡ record { heap = h; next = next; thread = Alive frames 0 0; kept = kept } → TopIsCoded p frames
  coded_at of l on h next kept frames e = top_coded set wanted listed sound is main of frames (subst (λ (x : Lone). FitsAs set (typing_at p) wanted of x) e on).fits.frames

  -- ---- a started task

  begun_stands : (of : Classes) (l : Lone) → FitsAs set (typing_at p) wanted of l → (shape : List Token) (o : Option (List Object)) → built p OfTask 0 shape ≡ o → lone_built p o ≡ Some l → Standing p (typing_at p) listed l
  begun_stands of l on shape None at e = absurd (cc)
  begun_stands of l on shape (Some objects) at e =
      lone_stands (with_objects empty 0 objects) (length objects) None (execute_frames p (with_objects empty 0 objects) 0) l e
      (λ frames begun same. root_stands frames (coded_at of l on (with_objects empty 0 objects) (length objects) None frames same) (subst (λ (x : Lone). FitsAs set (typing_at p) wanted of x) same on) taken.is.0 taken.is.1 begun)
    where
      h : Objects
      h = with_objects empty 0 objects

      no_edge : {A : Type 0} (o i x : ℕ) → (trees p empty).to o i ≡ Some x → A
      no_edge o i x e = absurd (let z : held_at p (get empty o) i ≡ None = ap (λ (x : Option Object). held_at p x i) (no_object o) in cc)

      nothing : IsForest (trees p empty)
      nothing = record { one = λ x a b i j e f. no_edge a i x e; ends = λ x. Up (λ q i e. no_edge q i x e); there = λ q i x e. no_edge q i x e }

      taken : IsTaken p empty (with_objects empty 0 objects) 0 0 Trees
      taken = taken_trees_come p sound.keeps empty 0 OfTask shape objects (λ x le. no_object x) nothing at

      class_stands : (frames : List Activation) → TopIsCoded p frames → (d : ℕ) (b : Base) → is_root p OfTask (record { dims = d; base = b }) ≡ true → begun_on p (class_of b >>= λ c. execute_of p c) 0 ≡ Some frames → StandOn None (with_objects empty 0 objects) frames
      class_stands frames coded zero (base.Class c) task e = execute_stands (with_objects empty 0 objects) 0 c frames task (λ o object at. taken.fits o object (no_object o) at) taken.forest taken.is coded e
      class_stands frames coded (suc d) b task e = absurd (let z = eqb-true (suc d) 0 (and_parts _ _ task).0 in omega (arith, z))
      class_stands frames coded zero base.Bool task e = absurd (cc)
      class_stands frames coded zero base.Byte task e = absurd (cc)
      class_stands frames coded zero base.Char task e = absurd (cc)
      class_stands frames coded zero base.Short task e = absurd (cc)
      class_stands frames coded zero base.Int task e = absurd (cc)
      class_stands frames coded zero base.Long task e = absurd (cc)

      root_stands : (frames : List Activation) → TopIsCoded p frames → FitsAs set (typing_at p) wanted of (record { heap = with_objects empty 0 objects; next = length objects; thread = Alive frames 0 0; kept = None }) → (object : Object) → get (with_objects empty 0 objects) 0 ≡ Some object → execute_frames p (with_objects empty 0 objects) 0 ≡ Some frames → StandOn None (with_objects empty 0 objects) frames
      root_stands frames coded on object there begun =
          class_stands frames coded object.class.dims object.class.base (root_is object there)
          (sym (ap (λ (o : Option Object). begun_on p (o >>= λ (object : Object). class_of object.class.base >>= λ c. execute_of p c) 0) there) ∙ begun)
        where
          root_is : (object : Object) → get (with_objects empty 0 objects) 0 ≡ Some object → is_root p OfTask object.class ≡ true
          root_is object there =
              let b = built_is p OfTask 0 shape objects at in
              let first : get (with_objects empty 0 objects) 0 ≡ Some b.first = ap (λ (os : List Object). get (with_objects empty 0 os) 0) b.is ∙ first_placed b.first b.rest in
              subst (λ (ty : Ty). is_root p OfTask ty ≡ true) (sym b.class ∙ ap (λ (o : Object). o.class) (one_of (get (with_objects empty 0 objects) 0) b.first object first there)) b.kind
            where
              first_placed : (o : Object) (os : List Object) → get (with_objects empty 0 (o ∷ os)) 0 ≡ Some o
              first_placed o os = get_new empty 0 (o ∷ os) 0 o refl

  -- ---- both

  pub beginnings_stand : MainBegins p set.main → (of : Classes) (b : Beginning) (l : Lone) → lone_begun set b ≡ Some l → FitsAs set (typing_at p) wanted of l → Standing p (typing_at p) listed l
  beginnings_stand begins of Boot l e on =
      lone_stands (one p set.main) 1 (Some 0) (begun_on p (constructor_of p set.main) 0) l e
      (λ frames begun same. boot_on begins frames (coded_at of l on (one p set.main) 1 (Some 0) frames same) (constructor_of p set.main) refl fit_parts.1 begun)
  beginnings_stand begins of (Begun shape) l e on = begun_stands of l on shape (built p OfTask 0 shape) refl e
