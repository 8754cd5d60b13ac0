-- The members of the fiber in a woven program, and the built-in `execute`.
use Rattle.std.proofs.Common.{◌≡◌, ℕ, zero, suc, ◌+◌, Bool, true, false, not, ◌&&◌, ◌||◌, List, [], ◌∷◌, ◌++◌, length, Option, Some, None, refl, sym, ap, subst, ◌∙◌, arith}
use Rattle.kilim_run_machine.proofs.Named.{named_native}
use Rattle.std.specs.Prelude.{slice_get, codes, if◌then◌else◌, ◌==◌}
use Rattle.std.specs.List.{AllByRecursion, list_any}
use Rattle.std.specs.Str.{bytes_eq}
use Rattle.std.proofs.lemmas.Bool.{and_parts, eq-eqb, false≢true, or_left}
use Rattle.std.proofs.lemmas.Option.{same_Some}
use Rattle.kilim_program.specs.declared.class.Class.{Class}
use Rattle.kilim_program.specs.declared.class.Form.TheVariants.{Plain, Woven}
use Rattle.kilim_program.specs.declared.class.Method.{Method}
use Rattle.kilim_program.specs.declared.names.ClassId.{ClassId}
use Rattle.kilim_program.specs.declared.names.MethodId.{MethodId}
use Rattle.kilim_program.specs.declared.ty.Base.{Base}
use Rattle.kilim_program.specs.declared.ty.Base.TheVariants as base
use Rattle.kilim_program.specs.declared.ty.Ty.{Ty}
use Rattle.kilim_program.specs.BuiltIn.{built_in_methods_in, class_id, class_type, fiber_methods}
use Rattle.kilim_program.specs.Keeps.{Keeps}
use Rattle.kilim_program.specs.Names.{class_at, class_from, class_name, is_empty, is_named_task, is_task, line_of, method_at}
use Rattle.kilim_program.specs.Program.{Program}
use Rattle.kilim_program.proofs.BuiltIns.{exceptions_too}
use Rattle.kilim_program.specs.Same.{is_constructor}
use Rattle.kilim_program.specs.Members.{named_class, named_type}
use Rattle.kilim_program.specs.Members.{is_task_execute}
use Rattle.kilim_run_machine.specs.Natives.{FiberMember, Pc, Down, Up, Save, Place, Restore, Receiver, OfFiber, is_built_in_constructor, is_handed_out, is_of_message, is_take, is_text_method, native_method, native_named, natives, takes_object}
use Rattle.kilim_lemmas.proofs.Lists.{get_right}
use Rattle.kilim_type_sound.proofs.BuiltInMembers.{built_in_at, none_built_in}
use Rattle.kilim_type_laws.proofs.members.ValueClasses.{all_of_at, type_is}
use Rattle.kilim_isolation_laws.proofs.typed_threads.fine.Natives.{task_name}
use Rattle.kilim_weave_spec.specs.Form.{AllWoven, WovenForm, first_class}
use Rattle.kilim_weave_spec.specs.Woven.{fiber_ty, member}
use Rattle.kilim_weave_laws.proofs.woven_programs.Methods.{members_behind}
use Rattle.kilim_weave_laws.proofs.woven_programs.Theorem as theorem
use Rattle.kilim_weave_laws.proofs.woven_programs.classes.BuiltIns as built
use Rattle.kilim_fiber_laws.proofs.stands.shares.Names as names

-- a member of the fiber, in any program in which its class has that name
pub record FitMember (W : Program) (m : Method) : Type 0 where
  pub member : FiberMember
  pub native : native_method W m ≡ Some (OfFiber member)
  pub built_in : m.built_in ≡ true
  pub is_private : m.is_private ≡ false
  pub plain : is_constructor m ≡ false
  pub locals : m.max_locals ≡ 0
  pub text : is_text_method W m ≡ false
  pub handed_out : is_handed_out W m ≡ true

module _ (W : Program) where
  pub no_text : (m : Method) → class_name W m.owner ≡ codes "kilim/Fiber" → m.built_in ≡ true → is_text_method W m ≡ false
  no_text m e b = ap (λ (z : Bool). z && bytes_eq (class_name W m.owner) (codes "java/lang/String")) b ∙ ap (λ (z : List ℕ). true && bytes_eq z (codes "java/lang/String")) e

  no_take : (m : Method) → class_name W m.owner ≡ codes "kilim/Fiber" → m.built_in ≡ true → is_take W m ≡ false
  no_take m e b =
      ap (λ (z : Bool). (z && bytes_eq (class_name W m.owner) (codes "kilim/Sys")) && bytes_eq m.name (codes "take")) b ∙ ap (λ (z : List ℕ). (true && bytes_eq z (codes "kilim/Sys")) && bytes_eq m.name (codes "take")) e

  no_message : (m : Method) → m.built_in ≡ true → is_constructor m ≡ false → bytes_eq m.name (codes "getMessage") ≡ false → is_of_message m ≡ false
  no_message m b c g =
      ap (λ (z : Bool). (z && (bytes_eq m.name (codes "<init>") && takes_object m.params)) || (z && bytes_eq m.name (codes "getMessage"))) b
      ∙ ap (λ (z : Bool). (true && (z && takes_object m.params)) || (true && bytes_eq m.name (codes "getMessage"))) c ∙ g

  pub handed : (m : Method) → class_name W m.owner ≡ codes "kilim/Fiber" → m.built_in ≡ true → is_constructor m ≡ false → bytes_eq m.name (codes "getMessage") ≡ false → is_handed_out W m ≡ true
  handed m e b c g =
      ap (λ (z : Bool). z && not (is_built_in_constructor m || (is_text_method W m || (is_take W m || is_of_message m)))) b
      ∙ ap (λ (z : Bool). true && not (z || (is_text_method W m || (is_take W m || is_of_message m)))) (ap (λ (z : Bool). z && (bytes_eq m.name (codes "<init>") && is_empty m.params)) b ∙ ap (λ (z : Bool). true && (z && is_empty m.params)) c)
      ∙ ap (λ (z : Bool). true && not (false || (z || (is_take W m || is_of_message m)))) (no_text m e b) ∙ ap (λ (z : Bool). true && not (false || (false || (z || is_of_message m)))) (no_take m e b)
      ∙ ap (λ (z : Bool). true && not (false || (false || (false || z)))) (no_message m b c g)

  pub native_is : (m : Method) (k : FiberMember) → class_name W m.owner ≡ codes "kilim/Fiber" → native_named natives (codes "kilim/Fiber") m.name ≡ Some (OfFiber k) → m.built_in ≡ true → is_constructor m ≡ false → bytes_eq m.name (codes "getMessage") ≡ false → native_method W m ≡ Some (OfFiber k)
  native_is m k e n b c g = named_native (class_name W m.owner) m (handed m e b c g) ∙ ap (λ (z : List ℕ). native_named natives z m.name) e ∙ n

  abbrev pub of_fiber : (m : Method) (k : FiberMember) → class_name W m.owner ≡ codes "kilim/Fiber" → native_named natives (codes "kilim/Fiber") m.name ≡ Some (OfFiber k) → m.built_in ≡ true → m.is_private ≡ false → is_constructor m ≡ false → bytes_eq m.name (codes "getMessage") ≡ false → m.max_locals ≡ 0 → FitMember W m
  of_fiber m k e n b p c g l = record { member = k; native = native_is m k e n b c g; built_in = b; is_private = p; plain = c; locals = l; text = no_text m e b; handed_out = handed m e b c g }

  pub all_members : (n : ℕ) → class_name W (class_id (n + 18)) ≡ codes "kilim/Fiber" → AllByRecursion (FitMember W) (fiber_methods Woven n)
  all_members n e = (
    of_fiber _ Pc e refl refl refl refl refl refl,
    (
      of_fiber _ Down e refl refl refl refl refl refl,
      (
        of_fiber _ Up e refl refl refl refl refl refl,
        (
          of_fiber _ Save e refl refl refl refl refl refl,
          (
            of_fiber _ Save e refl refl refl refl refl refl,
            (
              of_fiber _ Save e refl refl refl refl refl refl,
              (
                of_fiber _ Place e refl refl refl refl refl refl,
                (
                  of_fiber _ Restore e refl refl refl refl refl refl,
                  (
                    of_fiber _ Restore e refl refl refl refl refl refl,
                    (
                      of_fiber _ Restore e refl refl refl refl refl refl,
                      (of_fiber _ Receiver e refl refl refl refl refl refl, tt),
                    ),
                  ),
                ),
              ),
            ),
          ),
        ),
      ),
    ),
  )

-- what stands behind the old methods
behind_them : (P : Program) (ms ws : List Method) (cs : List (List Bool)) → AllWoven P ms ws cs → (k : ℕ) (b : Method) → slice_get ms k ≡ None → slice_get ws k ≡ Some b → (j : ℕ) × (slice_get (fiber_methods Woven (first_class P)) j ≡ Some b)
behind_them P [] ws cs a k b n e = (k, subst (λ (z : List Method). slice_get z k ≡ Some b) a.0 e)
behind_them P (x ∷ ms) [] cs a k b n e = absurd a
behind_them P (x ∷ ms) (w ∷ ws) [] a k b n e = absurd a
behind_them P (x ∷ ms) (w ∷ ws) (c ∷ cs) a zero b n e = absurd (cc)
behind_them P (x ∷ ms) (w ∷ ws) (c ∷ cs) a (suc k) b n e = behind_them P ms ws cs a.1 k b n e

module _ (P W : Program) (counted : List (List Bool)) (keeps : Keeps P) (plainly : P.form ≡ Plain) (form : WovenForm P W counted) where
  number : first_class P + 18 ≡ length P.classes
  number = let e = theorem.first_is P W counted keeps plainly form in let n = theorem.how_many P W counted keeps plainly form in omega (arith, e, n)

  pub fiber_at : class_at W (class_id (length P.classes)) ≡ Some (theorem.fiber_parts P W counted keeps plainly form)
  fiber_at =
      ap (λ (cs : List Class). slice_get cs (length P.classes)) (names.grown P W counted keeps plainly form)
      ∙ get_right P.classes (theorem.fiber_parts P W counted keeps plainly form ∷ []) (length P.classes) 0 (omega arith)

  pub fiber_name : class_name W (class_id (first_class P + 18)) ≡ codes "kilim/Fiber"
  fiber_name = ap (λ (n : ℕ). class_name W (class_id n)) number ∙ ap (λ (o : Option Class). elim o [ None ↦ [] | Some class ↦ class.name ]) fiber_at

  -- every other method of the woven program is one of them
  pub other_is : (id : MethodId) (b : Method) → method_at P id ≡ None → method_at W id ≡ Some b → FitMember W b
  other_is id b none there =
      let j = behind_them P P.methods W.methods counted form.methods id.0 b none there in
      all_of_at (FitMember W) (fiber_methods Woven (first_class P)) (all_members W (first_class P) fiber_name) j.0 b j.1

  pub member_at : (n : ℕ) (m : Method) → slice_get (fiber_methods Woven (first_class P)) n ≡ Some m → (method_at W (member P n) ≡ Some m) × FitMember W m
  member_at n m e =
      let r = members_behind P P.methods W.methods counted form.methods in (
        ap (λ (ms : List Method). slice_get ms (length P.methods + n)) r.1
            ∙ (get_right r.0 (fiber_methods Woven (first_class P)) (length P.methods + n) n (ap (λ (k : ℕ). k + n) (sym r.2)) ∙ e),
        all_of_at (FitMember W) (fiber_methods Woven (first_class P)) (all_members W (first_class P) fiber_name) n m e,
      )

  -- ---- the built-in `execute`

  abbrev n : ℕ
  n = length keeps.built_in.own_classes

  pub record IsExecute (m : Method) : Type 0 where
    pub owner : m.owner ≡ class_id (n + 4)
    pub plain : is_constructor m ≡ false
    pub public : m.is_private ≡ false
    pub pausable : m.pausable ≡ true

  abbrev ExecutesAs : Method → Type 0
  ExecutesAs m = is_task_execute m ≡ true → IsExecute m

  all_execute : AllByRecursion ExecutesAs (built_in_methods_in Plain n)
  all_execute = (
    (λ e. absurd (false≢true e)),
    (
      (λ e. absurd (false≢true e)),
      (
        (λ e. absurd (false≢true e)),
        (
          (λ e. absurd (false≢true e)),
          (
            (λ e. absurd (false≢true e)),
            (
              (λ e. absurd (false≢true e)),
              (
                (λ e. record { owner = refl; plain = refl; public = refl; pausable = refl }),
                (
                  (λ e. absurd (false≢true e)),
                  (
                    (λ e. absurd (false≢true e)),
                    (
                      (λ e. absurd (false≢true e)),
                      (
                        (λ e. absurd (false≢true e)),
                        (
                          (λ e. absurd (false≢true e)),
                          (
                            (λ e. absurd (false≢true e)),
                            ((λ e. absurd (false≢true e)), ((λ e. absurd (false≢true e)), ((λ e. absurd (false≢true e)), ((λ e. absurd (false≢true e)), ((λ e. absurd (false≢true e)), ((λ e. absurd (false≢true e)), ((λ e. absurd (false≢true e)), exceptions_too ExecutesAs n [] (λ c e. absurd (false≢true e)) (λ c e. absurd (false≢true e)) (λ e. absurd (false≢true e)) tt))))))),
                          ),
                        ),
                      ),
                    ),
                  ),
                ),
              ),
            ),
          ),
        ),
      ),
    ),
  )

  pub execute_is : (id : MethodId) (m : Method) → method_at P id ≡ Some m → is_task_execute m ≡ true → IsExecute m
  execute_is id m at e =
      let b = built_in_at keeps.built_in.own_methods (built_in_methods_in P.form n) id.0 m (subst (λ (ms : List Method). slice_get ms id.0 ≡ Some m) keeps.built_in.methods at) (none_built_in P keeps) (and_parts m.built_in _ e).0 in
      all_of_at ExecutesAs (built_in_methods_in Plain n) all_execute b.0 m (subst (λ (f : _). slice_get (built_in_methods_in f n) b.0 ≡ Some m) plainly b.1) e

  any_weaker : (test weak : ClassId → Bool) → ((d : ClassId) → test d ≡ true → weak d ≡ true) → (ds : List ClassId) → list_any test ds ≡ true → list_any weak ds ≡ true
  any_weaker test weak w [] e = absurd (cc)
  any_weaker test weak w (d ∷ ds) e = by (test d) refl e (λ later. any_weaker test weak w ds later)
    where
      right : (a b : Bool) → b ≡ true → (a || b) ≡ true
      right true b e = refl
      right false b e = e

      by : (z : Bool) → test d ≡ z → (z || list_any test ds) ≡ true → (list_any test ds ≡ true → list_any weak ds ≡ true) → (weak d || list_any weak ds) ≡ true
      by true t e again = or_left (weak d) (list_any weak ds) (w d t)
      by false t e again = right (weak d) (list_any weak ds) (again e)

  number_of : Base → ℕ
  number_of (base.Class c) = c.0
  number_of b = 0

  task_is : (d : ClassId) → is_named_task P d ≡ true → (d.0 == n + 4) ≡ true
  unfolding number_of
  task_is d e =
      let t = type_is P keeps (codes "kilim/Task") d refl e in
      let s = type_is P keeps (codes "kilim/Task") (class_id (n + 4)) refl (ap (λ (x : List ℕ). bytes_eq x (codes "kilim/Task")) (task_name P keeps plainly)) in
      let same : class_type d.0 ≡ class_type (n + 4) = same_Some _ _ (sym t ∙ s) in
      eq-eqb d.0 (n + 4) (ap (λ (ty : Ty). number_of ty.base) same)

  -- a task's line has the class of tasks
  pub task_line : (c : ClassId) (m : Method) → IsExecute m → is_task P c ≡ true → list_any (λ (d : ClassId). d.0 == m.owner.0) (line_of P c) ≡ true
  task_line c m x e = subst (λ (k : ClassId). list_any (λ (d : ClassId). d.0 == k.0) (line_of P c) ≡ true) (sym x.owner) (any_weaker (is_named_task P) (λ d. d.0 == n + 4) task_is (line_of P c) e)

  -- the class of the fiber
  no_fiber : (cs : List Class) (k : ℕ) → Rattle.std.specs.List.list_all (λ c. not (bytes_eq c.name (codes "kilim/Fiber"))) cs ≡ true → class_from (cs ++ theorem.fiber_parts P W counted keeps plainly form ∷ []) (codes "kilim/Fiber") k ≡ Some (record { 0 = k + length cs })
  no_fiber [] k h = ap (λ (z : ℕ). Some (class_id z)) (omega arith)
  no_fiber (c ∷ cs) k h =
      let p = and_parts (not (bytes_eq c.name (codes "kilim/Fiber"))) _ h in
      let e : suc k + length cs ≡ k + suc (length cs) = omega arith in
      by (bytes_eq c.name (codes "kilim/Fiber")) p.0 (no_fiber cs (suc k) p.1 ∙ ap (λ (z : ℕ). Some (class_id z)) e)
    where
      by : (b : Bool) → not b ≡ true → class_from (cs ++ theorem.fiber_parts P W counted keeps plainly form ∷ []) (codes "kilim/Fiber") (suc k) ≡ Some (class_id (k + suc (length cs)))
          → (if b then Some (record { 0 = k }) else class_from (cs ++ theorem.fiber_parts P W counted keeps plainly form ∷ []) (codes "kilim/Fiber") (suc k)) ≡ Some (class_id (k + suc (length cs)))
      by true h e = absurd (false≢true h)
      by false h e = e

  pub fiber_is : named_type W (codes "kilim/Fiber") ≡ Some (fiber_ty P)
  fiber_is =
      ap named_class (ap (λ (cs : List Class). class_from cs (codes "kilim/Fiber") 0) (names.grown P W counted keeps plainly form)
      ∙ (no_fiber P.classes 0 (built.none_is_fiber P W counted keeps plainly form) ∙ ap (λ (z : ℕ). Some (class_id z)) (let e : 0 + length P.classes ≡ length P.classes = omega arith in e)))
