-- What a built-in method does to what is kept: nothing, but for a tree that it is given, which goes, and one that comes.
use Rattle.std.proofs.Common.{◌≡◌, ◌⊎◌, inl, inr, cond, ℕ, ◌+◌, ◌≤◌, ℤ, Bool, true, false, List, [], ◌∷◌, length, Option, Some, None, refl, sym, ap, subst, ◌∙◌, zero, suc, pos, negsuc, arith}
use Rattle.std.specs.Prelude.{◌&&◌}
use Rattle.std.specs.FinMap.{get}
use Rattle.std.proofs.lemmas.Bool.{and_parts, false≢true}
use Rattle.kilim_program.specs.declared.class.Method.{Method}
use Rattle.kilim_program.specs.declared.names.BoxName.{BoxName}
use Rattle.kilim_program.specs.declared.names.ClassId.{ClassId}
use Rattle.kilim_program.specs.declared.names.MethodId.{MethodId}
use Rattle.kilim_program.specs.declared.ty.Kind.{Kind}
use Rattle.kilim_program.specs.declared.ty.Kind.TheVariants as kind
use Rattle.kilim_program.specs.declared.ty.Qualifier.TheVariants.{Free, Safe}
use Rattle.kilim_program.specs.declared.ty.Ty.{Ty}
use Rattle.kilim_program.specs.declared.value.Value.{Value}
use Rattle.kilim_program.specs.declared.value.Value.TheVariants.{Box, Int, Null, Ref}
use Rattle.kilim_program.specs.declared.verified.VType.{VType}
use Rattle.kilim_program.specs.BuiltIn.{class_id, class_type, int_type}
use Rattle.kilim_program.specs.Kinds.{class_kind, is_tree_kind, kind_of}
use Rattle.kilim_program.specs.Names.{method_at}
use Rattle.kilim_isolation_laws.proofs.typed_threads.fine.Natives.{gives, native_gives}
use Rattle.kilim_type_sound.specs.Fits.{Classes, have_types, is_of}
use Rattle.kilim_type_sound.specs.Sound.{AsksFit, native_types}
use Rattle.kilim_isolation_laws.specs.forest.Heap.{Below, Here, IsForest, Then}
use Rattle.kilim_isolation_laws.specs.graph_rows.Facts.{IsGivenAway, IsTaken}
use Rattle.kilim_isolation_laws.specs.graph_rows.Holds.{Fits, IsOf, Sort, Tree, Trees, is_tree_object, refers, trees, type_sort}
use Rattle.kilim_run_journal.specs.declared.entry.Act.{Act}
use Rattle.kilim_run_journal.specs.declared.entry.Act.TheVariants.{Empty, End, Put, Start, Take}
use Rattle.kilim_run_state.specs.declared.cause.EndCause.{EndCause}
use Rattle.kilim_run_state.specs.declared.cause.EndCause.TheVariants as cause
use Rattle.kilim_run_state.specs.declared.value.Object.{Object}
use Rattle.kilim_run_state.specs.declared.value.Token.{Token}
use Rattle.kilim_run_state.specs.Machine.{Activation, Objects}
use Rattle.kilim_run_machine.specs.Moves.{push_value}
use Rattle.kilim_run_machine.specs.Natives.{Native, native_of}
use Rattle.kilim_run_machine.specs.Natives as native
use Rattle.kilim_run_state.specs.Shapes.{shape_of}
use Rattle.kilim_run_state.specs.Trees.{OfMessage, built, tree_names, with_objects, without}
use Rattle.kilim_isolation_graph.specs.declared.entry.Parameter.{Parameter}
use Rattle.kilim_isolation_graph.specs.Entry.{parameters_of, quality}
use Rattle.kilim_isolation_laws.specs.Laws.{IsRunOfAccepted, listed_at}
use Rattle.kilim_isolation_laws.proofs.Moving.{forest_of}
use Rattle.kilim_isolation_laws.proofs.Natives.{Begins, Puts, below_tree, message_kind, n, not_owned, put_is, put_parameters, start_is, start_parameters, task_kind, tree_of_task, wait_is}
use Rattle.kilim_isolation_laws.specs.reached_objects.graphs.Threads.{AskFits, Gives}
use Rattle.kilim_run_model.specs.declared.deed.Deed.{Deed}
use Rattle.kilim_run_model.specs.Lone.{arg_at, printed}
use Rattle.kilim_run_model.specs.State.{Setting}
use Rattle.kilim_isolation_laws.proofs.heaps.Heaps.{taken_trees_come}
use Rattle.kilim_isolation_laws.proofs.names.Given.{given_trees_leave}
use Rattle.kilim_type_spec.specs.Step.{class_vtype, vtype}
use Rattle.kilim_type_laws.specs.Laws.{typing_at}
use Rattle.kilim_fiber_spec.specs.lone.Law.{lone_frames}
use Rattle.kilim_fiber_laws.proofs.receivers.Chain.{wants_all}
use Rattle.kilim_fiber_laws.proofs.receivers.Held.{Held, HeldIn, IsPrivate, Keeps, held_map, rules_hold, verified}
use Rattle.kilim_fiber_spec.specs.Acts.{Action, Wants, World, acting, asks, ending, gives_arg, last, native_does, prints, probe_by, put_by, puts, puts_value, receives, start_by, starts, take_by, put_wait_by, put_waits, waits_value, bounds, counted}
use Rattle.kilim_fiber_spec.specs.Acts as action
use Rattle.kilim_fiber_spec.specs.Fibers.{frame}
use Rattle.kilim_fiber_laws.proofs.receivers.Landing.{asked_raised}
use Rattle.kilim_fiber_spec.specs.Thread.{At, Frame, Run, Stop, Thread, push, raised_behind}

some_same : {A : Type 0} (o : Option A) (x y : A) → o ≡ Some x → o ≡ Some y → x ≡ y
some_same o x y e f = cc

module _ (set : Setting) (run : IsRunOfAccepted set) (of : Classes) (next : ℕ) (fresh : (q : ℕ) → next ≤ q → of q ≡ None) (m : MethodId) (q : ℕ) (l s : List Value) (x : Value) (b : List Frame) (c : MethodId) (args : List Value) (h : Objects)
    (typed : AsksFit set.program (typing_at set.program) wants_all of c args (frame m q l s ∷ lone_frames b) h) (kept : Option ℕ) (full : AskFits set.program (typing_at set.program) (listed_at set.program) kept c args (frame m q l s ∷ lone_frames b) h)
    (before : List Activation → List Activation) (each : (pre : List Activation) → length pre ≤ length b → (o : ℕ) → Keeps set run h (before pre) o → AskFits set.program (typing_at set.program) (listed_at set.program) (Some o) c args (frame m q l s ∷ pre) h)
    (held : Held set run h before m x b) where
  abbrev number : ℕ
  number = n set.program run.keeps run.form

  abbrev message : Ty
  message = class_type (n set.program run.keeps run.form + 2)

  module _ (k : Option ℕ) (frames : List Activation) (fits : AskFits set.program (typing_at set.program) (listed_at set.program) k c args frames h) where
    same : typed.callee ≡ fits.callee
    same = some_same (method_at set.program c) typed.callee fits.callee typed.there fits.is

    result : (own : Native) → native_of set.program c ≡ Some own → fits.callee.result ≡ gives (n set.program run.keeps run.form) own
    result own known = native_gives set.program run.keeps run.form c fits.callee own fits.is (subst (λ (z : Method). z.built_in ≡ true) same typed.built_in) known

    arguments : have_types set.program fits.callee of (native_types fits.callee) args ≡ true
    arguments = subst (λ (z : Method). have_types set.program z of (native_types z) args ≡ true) same typed.arguments

    quality_free : (d : ClassId) → class_kind set.program d ≡ kind.Tree → quality set.program (class_type d.0) Free ≡ Some Free
    quality_free d e = ap (λ (z : Kind). cond (is_tree_kind z) (Some Free) None) e

    given_message : Puts (n set.program run.keeps run.form) fits.callee → (box : BoxName) (root : ℕ) → args ≡ Box box ∷ Ref root ∷ [] → (is_of set.program (of root) (class_type (n set.program run.keeps run.form + 2)) ≡ true) × Gives set.program (parameters_of fits.callee) args root
    given_message puts box root own = (
      (and_parts (is_of set.program (of root) message) true (and_parts _ (is_of set.program (of root) message && true) a).1).0,
      subst (λ (qs : List Parameter). Gives set.program qs args root) (sym (put_parameters set.program run.keeps run.form fits.callee puts))
          (subst (λ (vs : List Value). Gives set.program (record { ty = class_type (n set.program run.keeps run.form + 5); qualifier = Safe } ∷ record { ty = message; qualifier = Free } ∷ []) vs root) (sym own)
          (inr (not_owned (is_tree_kind (kind_of set.program (class_type (n set.program run.keeps run.form + 5)))), inl (quality_free (class_id (n set.program run.keeps run.form + 2)) (message_kind set.program run.keeps run.form), refl, tt)))),
    )
      where
        types : native_types fits.callee ≡ class_vtype (class_id (n set.program run.keeps run.form + 5)) ∷ vtype message ∷ []
        types =
            ap (λ (z : Bool). native_types (record fits.callee { is_static = z })) puts.0
            ∙ (ap (λ (d : ClassId). native_types (record fits.callee { is_static = false; owner = d })) puts.1
            ∙ ap (λ (tys : List Ty). native_types (record fits.callee { is_static = false; owner = class_id (n set.program run.keeps run.form + 5); params = tys })) puts.3)

        a : have_types set.program fits.callee of (class_vtype (class_id (n set.program run.keeps run.form + 5)) ∷ vtype message ∷ []) (Box box ∷ Ref root ∷ []) ≡ true
        a = subst (λ (vs : List Value). have_types set.program fits.callee of (class_vtype (class_id (n set.program run.keeps run.form + 5)) ∷ vtype message ∷ []) vs ≡ true) own (subst (λ (ts : List VType). have_types set.program fits.callee of ts args ≡ true) types arguments)

    put_given : (box : BoxName) (root : ℕ) → native_of set.program c ≡ Some native.Put → args ≡ Box box ∷ Ref root ∷ [] → (is_of set.program (of root) (class_type (n set.program run.keeps run.form + 2)) ≡ true) × Gives set.program (parameters_of fits.callee) args root
    put_given box root known own = given_message (put_is set.program run.keeps run.form c fits.callee fits.is known) box root own

    wait_given : (box : BoxName) (root : ℕ) → native_of set.program c ≡ Some native.PutWait → args ≡ Box box ∷ Ref root ∷ [] → (is_of set.program (of root) (class_type (n set.program run.keeps run.form + 2)) ≡ true) × Gives set.program (parameters_of fits.callee) args root
    wait_given box root known own = given_message (wait_is set.program run.keeps run.form c fits.callee fits.is known) box root own

    start_given : (root : ℕ) → native_of set.program c ≡ Some native.Start → args ≡ Ref root ∷ [] → (is_of set.program (of root) (class_type (n set.program run.keeps run.form + 4)) ≡ true) × Gives set.program (parameters_of fits.callee) args root
    start_given root known own = (
      (and_parts (is_of set.program (of root) (class_type (n set.program run.keeps run.form + 4))) true a).0,
      subst (λ (qs : List Parameter). Gives set.program qs args root) (sym (start_parameters set.program run.keeps run.form fits.callee starts))
          (subst (λ (vs : List Value). Gives set.program (record { ty = class_type (n set.program run.keeps run.form + 4); qualifier = Free } ∷ []) vs root) (sym own) (inl (quality_free (class_id (n set.program run.keeps run.form + 4)) (task_kind set.program run.keeps run.form), refl, tt))),
    )
      where
        starts : Begins (n set.program run.keeps run.form) Free fits.callee
        starts = start_is set.program run.keeps run.form c fits.callee fits.is known

        types : native_types fits.callee ≡ class_vtype (class_id (n set.program run.keeps run.form + 4)) ∷ []
        types =
            ap (λ (z : Bool). native_types (record fits.callee { is_static = z })) starts.0
            ∙ (ap (λ (d : ClassId). native_types (record fits.callee { is_static = false; owner = d })) starts.1
            ∙ ap (λ (tys : List Ty). native_types (record fits.callee { is_static = false; owner = class_id (n set.program run.keeps run.form + 4); params = tys })) starts.3)

        a : have_types set.program fits.callee of (class_vtype (class_id (n set.program run.keeps run.form + 4)) ∷ []) (Ref root ∷ []) ≡ true
        a = subst (λ (vs : List Value). have_types set.program fits.callee of (class_vtype (class_id (n set.program run.keeps run.form + 4)) ∷ []) vs ≡ true) own (subst (λ (ts : List VType). have_types set.program fits.callee of ts args ≡ true) types arguments)

  -- ---- how the thread goes on

  abbrev go : World → Option Value → Thread
  go after v = Run m q l (push v s) x b after

  with_none : (own : Native) → native_of set.program c ≡ Some own → gives (n set.program run.keeps run.form) own ≡ None → (now : Objects) → now ≡ h → Held set run now (λ pre. frame m q l s ∷ pre) m x b
  with_none own known none now e =
      subst (λ (k : Objects). Held set run k (λ pre. frame m q l s ∷ pre) m x b) (sym e)
      (held_map set run b h h before (λ pre. frame m q l s ∷ pre) (λ pre le o t. let fits = each pre le o t in fits.done (result (Some o) (frame m q l s ∷ pre) fits own known ∙ none)) (λ o z. z) m x held)

  with_value : (own : Native) → native_of set.program c ≡ Some own → (ty : Ty) (v : Value) → gives (n set.program run.keeps run.form) own ≡ Some ty → Fits set.program h (type_sort set.program ty) v → (kind_of set.program ty ≡ kind.Tree → refers v ≡ None) → (now : Objects) → now ≡ h →
      Held set run now (λ pre. frame m q l (v ∷ s) ∷ pre) m x b
  with_value own known ty v some fit null now e =
      subst (λ (k : Objects). Held set run k (λ pre. frame m q l (v ∷ s) ∷ pre) m x b) (sym e)
      (held_map set run b h h before (λ pre. frame m q l (v ∷ s) ∷ pre) (λ pre le o t. let fits = each pre le o t in fits.answered ty v (result (Some o) (frame m q l s ∷ pre) fits own known ∙ some) fit null) (λ o z. z) m x held)

  with_int : (own : Native) → native_of set.program c ≡ Some own → gives (n set.program run.keeps run.form) own ≡ Some int_type → (i : ℤ) (now : Objects) → now ≡ h → Held set run now (λ pre. frame m q l (Int i ∷ s) ∷ pre) m x b
  with_int own known some i now e = with_value own known int_type (Int i) some (refl, refl) (λ tree. refl) now e

  message_sort : type_sort set.program message ≡ Tree 0 Trees
  message_sort = tree_of_task set.program run.keeps run.form (class_id (n set.program run.keeps run.form + 2)) (message_kind set.program run.keeps run.form)

  with_null : (own : Native) → native_of set.program c ≡ Some own → gives (n set.program run.keeps run.form) own ≡ Some message → (now : Objects) → now ≡ h → Held set run now (λ pre. frame m q l (Null ∷ s) ∷ pre) m x b
  with_null own known some now e = with_value own known message Null some (subst (λ (z : Sort). Fits set.program h z Null) (sym message_sort) (refl, λ o e. absurd (cc))) (λ tree. refl) now e

  -- ---- a tree goes

  not_below : IsForest (trees set.program h) → (root o : ℕ) → (trees set.program h).has root ≡ true → IsPrivate set run h o → Below (trees set.program h) root o → ⊥
  not_below forest root o tree private below = false≢true (sym (ap (is_tree_object set.program) private.1 ∙ private.2) ∙ has below)
    where
      has : Below (trees set.program h) root o → (trees set.program h).has o ≡ true
      has (Here e) = ap (trees set.program h).has (sym e) ∙ tree
      has (Then p i below e) = (forest.there p i o e).1

  goes_away : (own : Native) → native_of set.program c ≡ Some own → gives (n set.program run.keeps run.form) own ≡ None → (root : ℕ) (shape : List Token) (d : ClassId) → class_kind set.program d ≡ kind.Tree → is_of set.program (of root) (class_type d.0) ≡ true →
      ((k : Option ℕ) (frames : List Activation) (fits : AskFits set.program (typing_at set.program) (listed_at set.program) k c args frames h) → Gives set.program (parameters_of fits.callee) args root) → shape_of set.program h root ≡ Some shape →
      (now : Objects) → now ≡ without h (tree_names set.program h root) → Held set run now (λ pre. frame m q l s ∷ pre) m x b
  goes_away own known none root shape d tree isof given e now same_heap =
      subst (λ (k : Objects). Held set run k (λ pre. frame m q l s ∷ pre) m x b) (sym same_heap)
      (held_map set run b h (without h (tree_names set.program h root)) before (λ pre. frame m q l s ∷ pre)
      (λ pre le o t. let fits = each pre le o t in fits.gives (result (Some o) (frame m q l s ∷ pre) fits own known ∙ none) root (given (Some o) (frame m q l s ∷ pre) fits) (without h (tree_names set.program h root)) away)
      private m x held)
    where
      forest : IsForest (trees set.program h)
      forest = forest_of set wants_all (listed_at set.program) (rules_hold set run) (verified set run) run.main kept h (frame m q l s ∷ lone_frames b) (full.done (result kept (frame m q l s ∷ lone_frames b) full own known ∙ none))

      whole : ((trees set.program h).has root ≡ true) × ((j i : ℕ) → (trees set.program h).to j i ≡ Some root → ⊥)
      whole = full.whole root (given kept (frame m q l s ∷ lone_frames b) full)

      root_is : (o : Option Object) → get h root ≡ o → is_tree_object set.program o ≡ true → IsOf set.program h root (Tree 0 Trees)
      root_is None at z = absurd (cc)
      root_is (Some object) at z = (object, at, below_tree set.program run.keeps run.form object.class d tree (subst (λ (o : Option Ty). is_of set.program o (class_type d.0) ≡ true) (typed.heap.classes root object at) isof))

      away : IsGivenAway set.program h (without h (tree_names set.program h root)) root
      away = (given_trees_leave set.program of h root shape run.keeps typed.heap forest (root_is (get h root) refl whole.0) e).0

      private : (o : ℕ) → IsPrivate set run h o → IsPrivate set run (without h (tree_names set.program h root)) o
      private o z = by (away.rest o)
        where
          by : Below (trees set.program h) root o ⊎ (get (without h (tree_names set.program h root)) o ≡ get h o) → IsPrivate set run (without h (tree_names set.program h root)) o
          by (inl below) = absurd (not_below forest root o whole.0 z below)
          by (inr same) = (z.0, same ∙ z.1, z.2)

  -- ---- a tree comes

  comes : (own : Native) → native_of set.program c ≡ Some own → gives (n set.program run.keeps run.form) own ≡ Some message → (objects : List Object) (shape : List Token) → built set.program OfMessage next shape ≡ Some objects →
      (now : Objects) (name : ℕ) → name ≡ next → now ≡ with_objects h next objects → Held set run now (λ pre. frame m q l (Ref name ∷ s) ∷ pre) m x b
  comes own known some objects shape e now name named same_heap =
      subst (λ (j : ℕ). Held set run now (λ pre. frame m q l (Ref j ∷ s) ∷ pre) m x b) (sym named)
      (subst (λ (k : Objects). Held set run k (λ pre. frame m q l (Ref next ∷ s) ∷ pre) m x b) (sym same_heap)
      (held_map set run b h (with_objects h next objects) before (λ pre. frame m q l (Ref next ∷ s) ∷ pre)
      (λ pre le o t. let fits = each pre le o t in fits.comes message (result (Some o) (frame m q l s ∷ pre) fits own known ∙ some) (with_objects h next objects) next 0 Trees taken message_sort (message_kind set.program run.keeps run.form))
      (λ o z. (z.0, taken.old o z.0 z.1, z.2)) m x held))
    where
      forest : IsForest (trees set.program h)
      forest = forest_of set wants_all (listed_at set.program) (rules_hold set run) (verified set run) run.main kept h (push_value Null (frame m q l s ∷ lone_frames b))
          (full.answered message Null (result kept (frame m q l s ∷ lone_frames b) full own known ∙ some) (subst (λ (z : Sort). Fits set.program h z Null) (sym message_sort) (refl, λ o e. absurd (cc))) (λ tree. refl))

      no_object : (y : ℕ) → next ≤ y → get h y ≡ None
      no_object y le = by (get h y) refl
        where
          by : (o : Option Object) → get h y ≡ o → o ≡ None
          by None at = refl
          by (Some object) at = absurd (let e = sym (typed.heap.classes y object at) ∙ fresh y le in cc)

      taken : IsTaken set.program h (with_objects h next objects) next 0 Trees
      taken = taken_trees_come set.program (rules_hold set run).keeps h next OfMessage shape objects no_object forest e

  -- ---- by what it is

  module _ (w : World) (same_heap : w.heap ≡ h) (same_next : w.next ≡ next) where
    acted : (wish : Action) (k : Deed → List Deed → Thread) → ((d : Deed) (rest : List Deed) → HeldIn set run (k d rest)) → HeldIn set run (acting set w Stop wish k)
    acted wish k z = by w.deeds
      where
        by : (ds : List Deed) → HeldIn set run (elim ds [ [] ↦ Stop (Wants wish w) | deed ∷ rest ↦ k deed rest ])
        by [] = tt
        by (d ∷ rest) = z d rest

    at_last : (why : EndCause) (rest : List Deed) → HeldIn set run (last set w Stop why rest)
    at_last why [] = tt
    at_last why (d ∷ rest) = tt

    ended : (why : EndCause) → HeldIn set run (ending set w Stop why)
    ended why = acted (action.Ends why) (λ deed rest. last set w Stop why rest) (λ d rest. at_last why rest)

    abbrev raise : EndCause → Thread
    raise = raised_behind set (At m q l s x ∷ b) w

    raised_so : (why : EndCause) → HeldIn set run (raise why)
    raised_so why = asked_raised set run of h next typed.heap (fresh next (omega arith)) m q l s x b c args before each held w same_heap same_next why (ends (counted w))
      where
        ends : (v : World) → HeldIn set run (ending set v Stop why)
        ends v = by v.deeds
          where
            last_so : (rest : List Deed) → HeldIn set run (last set v Stop why rest)
            last_so [] = tt
            last_so (d ∷ rest) = tt

            by : (ds : List Deed) → HeldIn set run (elim ds [ [] ↦ Stop (Wants (action.Ends why) v) | deed ∷ rest ↦ last set v Stop why rest ])
            by [] = tt
            by (d ∷ rest) = last_so rest

    gone_heap : (root : ℕ) → without w.heap (tree_names set.program w.heap root) ≡ without h (tree_names set.program h root)
    gone_heap root = ap (λ (k : Objects). without k (tree_names set.program k root)) same_heap

    put_so : (box : BoxName) (root : ℕ) → native_of set.program c ≡ Some native.Put → args ≡ Box box ∷ Ref root ∷ [] → (shape : List Token) → shape_of set.program h root ≡ Some shape → (act : Act) (rest : List Deed) → HeldIn set run (put_by set w Stop go box shape root act rest)
    put_so box root known own shape e (Put a k z) rest =
        goes_away native.Put known refl root shape (class_id (n set.program run.keeps run.form + 2)) (message_kind set.program run.keeps run.form) (put_given kept (frame m q l s ∷ lone_frames b) full box root known own).0 (λ k frames fits. (put_given k frames fits box root known own).1) e _ (gone_heap root)
    put_so box root known own shape e (End why) rest = at_last cause.Full rest
    put_so box root known own shape e act rest = tt

    puts_so : (box : BoxName) (root : ℕ) → native_of set.program c ≡ Some native.Put → args ≡ Box box ∷ Ref root ∷ [] → (o : Option (List Token)) → shape_of set.program h root ≡ o → HeldIn set run (puts set w Stop go box root o)
    puts_so box root known own None e = ended cause.Large
    puts_so box root known own (Some shape) e = acted (action.Puts box root shape) (λ deed rest. put_by set w Stop go box shape root deed.act rest) (λ d rest. put_so box root known own shape e d.act rest)

    message_so : (box : BoxName) (v : Value) → native_of set.program c ≡ Some native.Put → args ≡ Box box ∷ v ∷ [] → HeldIn set run (puts_value set w Stop go raise box v)
    message_so box Null known own = raised_so cause.Null
    message_so box (Ref root) known own = puts_so box root known own (shape_of set.program w.heap root) (ap (λ (k : Objects). shape_of set.program k root) (sym same_heap))
    message_so box v known own = tt

    put_wait_so : (box : BoxName) (root : ℕ) → native_of set.program c ≡ Some native.PutWait → args ≡ Box box ∷ Ref root ∷ [] → (shape : List Token) → shape_of set.program h root ≡ Some shape → (act : Act) (rest : List Deed) → HeldIn set run (put_wait_by set w Stop go box shape root act rest)
    put_wait_so box root known own shape e (Put a k z) rest =
        goes_away native.PutWait known refl root shape (class_id (n set.program run.keeps run.form + 2)) (message_kind set.program run.keeps run.form) (wait_given kept (frame m q l s ∷ lone_frames b) full box root known own).0 (λ k frames fits. (wait_given k frames fits box root known own).1) e _ (gone_heap root)
    put_wait_so box root known own shape e act rest = tt

    put_waits_so : (box : BoxName) (root : ℕ) → native_of set.program c ≡ Some native.PutWait → args ≡ Box box ∷ Ref root ∷ [] → (o : Option (List Token)) → shape_of set.program h root ≡ o → HeldIn set run (put_waits set w Stop go box root o)
    put_waits_so box root known own None e = ended cause.Large
    put_waits_so box root known own (Some shape) e = acted (action.PutWaits box root shape) (λ deed rest. put_wait_by set w Stop go box shape root deed.act rest) (λ d rest. put_wait_so box root known own shape e d.act rest)

    wait_so : (box : BoxName) (v : Value) → native_of set.program c ≡ Some native.PutWait → args ≡ Box box ∷ v ∷ [] → HeldIn set run (waits_value set w Stop go raise box v)
    wait_so box Null known own = raised_so cause.Null
    wait_so box (Ref root) known own = put_waits_so box root known own (shape_of set.program w.heap root) (ap (λ (k : Objects). shape_of set.program k root) (sym same_heap))
    wait_so box v known own = tt

    bound_so : native_of set.program c ≡ Some native.Bound → (box : BoxName) (i : ℤ) → HeldIn set run (bounds set w Stop go raise box i)
    bound_so known box (pos (suc i)) = acted (action.Bounds box (suc i)) _ (λ d rest. with_none native.Bound known refl _ same_heap)
    bound_so known box (pos zero) = raised_so cause.Size
    bound_so known box (negsuc i) = raised_so cause.Size

    start_so : (root : ℕ) → native_of set.program c ≡ Some native.Start → args ≡ Ref root ∷ [] → (shape : List Token) → shape_of set.program h root ≡ Some shape → (act : Act) (rest : List Deed) → HeldIn set run (start_by set w Stop go shape root act rest)
    start_so root known own shape e (Start k z) rest =
        goes_away native.Start known refl root shape (class_id (n set.program run.keeps run.form + 4)) (task_kind set.program run.keeps run.form) (start_given kept (frame m q l s ∷ lone_frames b) full root known own).0 (λ k frames fits. (start_given k frames fits root known own).1) e _ (gone_heap root)
    start_so root known own shape e (End why) rest = at_last cause.Tasks rest
    start_so root known own shape e act rest = tt

    starts_so : (root : ℕ) → native_of set.program c ≡ Some native.Start → args ≡ Ref root ∷ [] → (o : Option (List Token)) → shape_of set.program h root ≡ o → HeldIn set run (starts set w Stop go root o)
    starts_so root known own None e = ended cause.Large
    starts_so root known own (Some shape) e = acted (action.Starts root shape) (λ deed rest. start_by set w Stop go shape root deed.act rest) (λ d rest. start_so root known own shape e d.act rest)

    -- what is built is named from the next name on
    received : (own : Native) → native_of set.program c ≡ Some own → gives (n set.program run.keeps run.form) own ≡ Some message → (shape : List Token) (act : Act) (rest : List Deed) (o : Option (List Object)) → built set.program OfMessage w.next shape ≡ o → HeldIn set run (receives set w Stop go act rest o)
    received own known some shape act rest None e = tt
    received own known some shape act rest (Some objects) e =
        comes own known some objects shape (ap (λ (k : ℕ). built set.program OfMessage k shape) (sym same_next) ∙ e) _ w.next same_next (ap (λ (k : Objects). with_objects k w.next objects) same_heap ∙ ap (λ (k : ℕ). with_objects h k objects) same_next)

    take_so : (own : Native) → native_of set.program c ≡ Some own → gives (n set.program run.keeps run.form) own ≡ Some message → (box : BoxName) (shape : List Token) (act : Act) (rest : List Deed) → HeldIn set run (take_by set w Stop go box shape act rest)
    take_so own known some box shape (Take a k) rest = received own known some shape (Take box k) rest (built set.program OfMessage w.next shape) refl
    take_so own known some box shape act rest = tt

    probe_so : native_of set.program c ≡ Some native.Getnb → (box : BoxName) (shape : List Token) (act : Act) (rest : List Deed) → HeldIn set run (probe_by set w Stop go box shape act rest)
    probe_so known box shape (Empty a) rest = with_null native.Getnb known refl _ same_heap
    probe_so known box shape act rest = take_so native.Getnb known refl box shape act rest

    prints_so : native_of set.program c ≡ Some native.Print → (o : Option Token) → HeldIn set run (prints set w Stop go o)
    prints_so known None = tt
    prints_so known (Some t) = acted (action.Prints t) _ (λ d rest. with_none native.Print known refl _ same_heap)

    arg_so : native_of set.program c ≡ Some native.Arg → (o : Option ℤ) → HeldIn set run (gives_arg set w Stop go raise o)
    arg_so known None = raised_so cause.Index
    arg_so known (Some i) = with_int native.Arg known refl i _ same_heap

    does_so : (k : Native) (vs : List Value) → native_of set.program c ≡ Some k → args ≡ vs → HeldIn set run (native_does set w Stop go raise k vs)
    does_so native.Execute (Ref root ∷ []) known own = with_none native.Execute known refl _ same_heap
    does_so native.Start (Ref root ∷ []) known own = starts_so root known own (shape_of set.program w.heap root) (ap (λ (k : Objects). shape_of set.program k root) (sym same_heap))
    does_so native.Put (Box box ∷ v ∷ []) known own = message_so box v known own
    does_so native.PutWait (Box box ∷ v ∷ []) known own = wait_so box v known own
    does_so native.Bound (Box box ∷ Int i ∷ []) known own = bound_so known box i
    does_so native.Get (Box box ∷ []) known own = acted (action.Gets box) _ (λ d rest. take_so native.Get known refl box d.taken d.act rest)
    does_so native.Getnb (Box box ∷ []) known own = acted (action.Probes box) _ (λ d rest. probe_so known box d.taken d.act rest)
    does_so native.Print (v ∷ []) known own = prints_so known (printed v)
    does_so native.Yield [] known own = with_none native.Yield known refl _ same_heap
    does_so native.ArgCount [] known own = with_int native.ArgCount known refl _ _ same_heap
    does_so native.Arg (Int i ∷ []) known own = arg_so known (arg_at set.limits.args i)
    does_so k vs known own = tt

    pub asked_held : (o : Option Native) → native_of set.program c ≡ o → HeldIn set run (asks set w Stop go raise o args)
    asked_held None known = tt
    asked_held (Some k) known = does_so k args known refl
