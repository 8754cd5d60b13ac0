-- A thread that stands goes on standing: its moves, and what others decide.
use Rattle.std.proofs.Common.{◌≡◌, inl, inr, ℕ, ◌+◌, ◌≤◌, ℤ, Bool, true, false, true≢false, cond, List, [], ◌∷◌, Option, Some, None, refl, sym, ap, subst, ◌∙◌, arith}
use Rattle.std.specs.Prelude.{◌&&◌, is_some, zero, suc, pos, negsuc, nat_le, nat_lt}
use Rattle.std.specs.FinMap.{get, insert}
use Rattle.std.proofs.lemmas.Bool.{and_parts}
use Rattle.kilim_program.specs.declared.class.Method.{Method}
use Rattle.kilim_program.specs.declared.instr.Instr.{Instr}
use Rattle.kilim_program.specs.declared.names.BoxName.{BoxName}
use Rattle.kilim_program.specs.declared.names.ClassId.{ClassId}
use Rattle.kilim_program.specs.declared.names.MethodId.{MethodId}
use Rattle.kilim_program.specs.declared.ty.Kind.{Kind}
use Rattle.kilim_program.specs.declared.ty.Kind.TheVariants as kind
use Rattle.kilim_program.specs.declared.ty.Qualifier.TheVariants.{Free, Safe}
use Rattle.kilim_program.specs.declared.ty.Ty.{Ty}
use Rattle.kilim_program.specs.declared.value.Value.{Value}
use Rattle.kilim_program.specs.declared.value.Value.TheVariants.{Int, Null, Ref, Box}
use Rattle.kilim_program.specs.declared.verified.VType.{VType}
use Rattle.kilim_program.specs.BuiltIn.{class_id, class_type, int_type}
use Rattle.kilim_program.specs.Lengths.{fetched}
use Rattle.kilim_program.specs.Kinds.{class_kind, is_tree_kind, kind_of}
use Rattle.kilim_program.specs.Names.{method_at}
use Rattle.kilim_program.specs.Program.{Program}
use Rattle.kilim_run_state.specs.declared.cause.EndCause.{EndCause}
use Rattle.kilim_run_state.specs.declared.cause.EndCause.TheVariants as cause
use Rattle.kilim_run_state.specs.declared.value.Object.{Object}
use Rattle.kilim_run_state.specs.declared.value.Token.{Token}
use Rattle.kilim_run_state.specs.Machine.{Objects, Activation}
use Rattle.kilim_program.specs.Members.{execute_of}
use Rattle.kilim_run_machine.specs.Moves.{Move, moves, push_value}
use Rattle.kilim_run_machine.specs.Moves as move
use Rattle.kilim_run_machine.specs.Natives.{Native, native_of}
use Rattle.kilim_run_machine.specs.Raising.{index_at, is_throwable, other_index, raised_class, thrown, unwound}
use Rattle.kilim_run_machine.specs.Natives as native
use Rattle.kilim_run_state.specs.Objects.{new_object}
use Rattle.kilim_run_state.specs.Shapes.{shape_of}
use Rattle.kilim_run_state.specs.Trees.{OfMessage, built, tree_names, with_objects, without}
use Rattle.kilim_run_journal.specs.declared.entry.Act.{Act}
use Rattle.kilim_run_journal.specs.declared.entry.Act.TheVariants.{Put, Take, Empty, Start, Print, End, Bound}
use Rattle.kilim_type_sound.proofs.Caught.{index_is, other_is}
use Rattle.kilim_type_sound.proofs.Raised.{of_has, raises_has, throws_has}
use Rattle.kilim_run_model.specs.State.{Setting, Thread, Alive, Ended, begun_on, is_fit}
use Rattle.kilim_run_model.specs.Lone.{Lone, Next, Goes, Puts, PutWaits, Bounds, Gets, Probes, Starts, Prints, Ends, Stands, arg_at, arg_next, asks_next, begins_next, box_limit, ended, finish_next, frames_next, message_next, native_next, next_by, next_move, on_heap, opens_next, over, print_next, printed, pushed, put_next, raised, put_wait_next, bound_next, start_next, thread_next, wait_next, went}
use Rattle.kilim_run_model.specs.Course.{Done, done_by, fills_deed, probes_deed, puts_deed, received, starts_deed, takes_deed, tree_came, tree_left}
use Rattle.kilim_run_model.specs.declared.deed.Deed.{Deed}
use Rattle.kilim_type_spec.specs.Step.{vtype}
use Rattle.kilim_type_spec.specs.Typed.{has_code}
use Rattle.kilim_type_laws.specs.Laws.{typing_at}
use Rattle.kilim_isolation_laws.specs.forest.Heap.{IsForest}
use Rattle.kilim_isolation_graph.specs.declared.entry.Parameter.{Parameter}
use Rattle.kilim_isolation_graph.specs.Entry.{parameters_of, quality}
use Rattle.kilim_type_sound.specs.Fits.{AreThere, Classes, Fits, FramesFit, HeapFits, Nothing, Wanted, have_types, is_of}
use Rattle.kilim_type_sound.specs.Sound.{AsksFit, MoveFits, native_types}
use Rattle.kilim_type_sound.proofs.Grounds.{facts_hold}
use Rattle.kilim_type_sound.proofs.Theorem.{moves_fit, thrown_is_there}
use Rattle.kilim_isolation_laws.specs.typed_threads.fine.Typed.{FitsAs, IsVerified, StackIsThere, TopIsThere, frames_of}
use Rattle.kilim_isolation_laws.proofs.typed_threads.fine.Natives.{gives, native_gives}
use Rattle.kilim_isolation_laws.specs.graph_rows.Holds.{IsOf, Own, Tree, Trees, object_sort, sort_by, trees, type_sort}
use Rattle.kilim_isolation_laws.specs.reached_objects.graphs.Threads.{AskFits, CaughtFit, EndFits, Gives, IsSound, IsThrown, Listed, NoneOwned, ThreadFits, TopIsCoded, TopIsVerified}
use Rattle.kilim_isolation_laws.specs.reached_objects.graphs.Threads as graphs
use Rattle.kilim_isolation_laws.proofs.graph_rows.Heaps.{put_there}
use Rattle.kilim_isolation_laws.proofs.graph_rows.Making.{new_object_fits, zero_holds}
use Rattle.kilim_isolation_laws.proofs.reached_objects.graphs.Raising.{new_objects_keep, throws_keep}
use Rattle.kilim_isolation_laws.proofs.reached_objects.graphs.Thread.{moves_keep}
use Rattle.kilim_isolation_laws.proofs.heaps.Heaps.{taken_trees_come}
use Rattle.kilim_isolation_laws.proofs.names.Given.{given_trees_leave}
use Rattle.kilim_isolation_laws.specs.Standing.{Standing, ThreadStands}
use Rattle.kilim_isolation_laws.proofs.Grounds.{is_verified, whole_at}
use Rattle.kilim_isolation_laws.proofs.Natives.{below_tree, message_kind, n, not_owned, put_is, put_parameters, start_is, start_parameters, task_kind, wait_is}

some_same : {A : Type 0} (o : Option A) (x y : A) → o ≡ Some x → o ≡ Some y → x ≡ y
some_same o x y e f = cc

module _ (set : Setting) (wanted : Wanted) (listed : Listed) (sound : IsSound set.program (typing_at set.program) listed) (is : IsVerified set (typing_at set.program) wanted) (main : is_fit set ≡ true) where
  abbrev p : Program
  p = set.program

  abbrev number : ℕ
  number = n p is.keeps is.form

  abbrev message : Ty
  message = class_type (number + 2)

  abbrev On : Classes → Lone → Type 0
  On of l = FitsAs set (typing_at p) wanted of l

  abbrev Stood : Lone → Type 0
  Stood l = Standing p (typing_at p) listed l

  abbrev StandOn : Option ℕ → Objects → List Activation → Type 0
  StandOn kept h frames = graphs.FramesFit p (typing_at p) listed kept h frames

  -- ---- of frames

  pub forest_of : (kept : Option ℕ) (h : Objects) (frames : List Activation) → StandOn kept h frames → IsForest (trees p h)
  forest_of kept h [] f = f.forest
  forest_of kept h (top ∷ below) f = f.top_fits.stands.holds.forest

  pub top_coded : (of : Classes) (frames : List Activation) → FramesFit p (typing_at p) wanted of Nothing frames → TopIsCoded p frames
  top_coded of [] f = tt
  top_coded of (top ∷ below) f = λ m at. subst (λ (m : Method). has_code m ≡ true) (some_same (method_at p top.method) f.0.method m f.0.there at) f.0.code

  top_verified : (of : Classes) (top : Activation) (below : List Activation) (h : Objects) → Fits p (typing_at p) wanted of (top ∷ below) h → TopIsVerified p (typing_at p) top h
  top_verified of top below h f m i next at found =
      let here = f.frames.0 in
      is_verified p here.method of h f.heap (typing_at p top.method top.place).stack top.stack i here.stack (whole_at p is.keeps top.method m at top.place (i, next) found)

  pub moves_stand : (of : Classes) (l : Lone) (top : Activation) (below : List Activation) (done boxes : ℕ) → On of l → Stood l → l.thread ≡ Alive (top ∷ below) done boxes → graphs.MoveFits p (typing_at p) listed l.kept (moves p top below l.heap)
  moves_stand of l top below done boxes on stood e =
      moves_keep p (typing_at p) listed l.kept top below l.heap sound
      (top_verified of top below l.heap (subst (λ (th : Thread). Fits p (typing_at p) wanted of (frames_of th) l.heap) e on.fits))
      (subst (λ (th : Thread). ThreadStands p (typing_at p) listed l.kept l.heap th) e stood)

  -- ---- what a thread does next

  -- it stands, with a tree that is taken
  abbrev Receives : Lone → Type 0
  Receives after = (objects : List Object) (shape : List Token) → built p OfMessage after.next shape ≡ Some objects → Stood (received after objects)

  abbrev NextStands : Next → Type 0
  NextStands (Goes after) = (of : Classes) → On of after → Stood after
  NextStands (Puts box root shape after) = Stood (tree_left p root after)
  NextStands (PutWaits box root shape after) = Stood (tree_left p root after)
  NextStands (Bounds box most after) = Stood after
  NextStands (Gets box after) = Receives after
  NextStands (Probes box after) = Receives after × Stood (pushed Null after)
  NextStands (Starts root shape after) = Stood (tree_left p root after)
  NextStands (Prints token after) = Stood after
  NextStands (Ends cause after) = Stood after
  NextStands Stands = Unit {0}

  -- ---- what is thrown

  -- a new object of a class that can be thrown
  object_thrown : (h : Objects) (q : ℕ) (c : ClassId) → is_throwable p c ≡ true → IsThrown p (insert h q (new_object p c)) c q
  object_thrown h q c throwable =
      let own : object_sort p (class_type c.0) ≡ Own = ap (sort_by p (class_type c.0)) (sound.keeps.thrown c throwable) in
      record { is = (new_object p c, put_there h q (new_object p c), own); own = own; throwable = throwable }

  -- the instruction of the top frame
  thrown_stands : (of : Classes) (kept : Option ℕ) (top : Activation) (below : List Activation) (h k : Objects) → Fits p (typing_at p) wanted of (top ∷ below) h → ThreadFits p (typing_at p) listed kept k top below → (c : ClassId) (q : ℕ) → IsThrown p k c q →
      CaughtFit p (typing_at p) listed kept k (thrown p c (Ref q) top below)
  thrown_stands of kept top below h k f stood c q is = by (fetched f.frames.0.method.code f.frames.0.method.code_length top.place) refl f.frames.0.stands
    where
      by : (o : Option (Instr × ℕ)) → fetched f.frames.0.method.code f.frames.0.method.code_length top.place ≡ o → is_some o ≡ true → CaughtFit p (typing_at p) listed kept k (thrown p c (Ref q) top below)
      by None e s = absurd (cc)
      by (Some found) e s = throws_keep p (typing_at p) listed kept top below k sound stood f.frames.0.method found.0 found.1 f.frames.0.there e c q is

  module _ (t : ℕ) (l : Lone) (of : Classes) (fresh : (q : ℕ) → l.next ≤ q → of q ≡ None) (done boxes : ℕ) where
    -- a name without a class names no object
    unnamed_yet : (h : Objects) (x : ℕ) → HeapFits p of h → of x ≡ None → get h x ≡ None
    unnamed_yet h x heap new = by (get h x) refl
      where
        by : (o : Option Object) → get h x ≡ o → o ≡ None
        by None at = refl
        by (Some object) at = absurd (let e = sym (heap.classes x object at) ∙ new in cc)

    -- ---- a built-in method that is handed out

    module _ (id : MethodId) (args : List Value) (frames : List Activation) (h : Objects) (asks : AsksFit p (typing_at p) wanted of id args frames h) (fits : AskFits p (typing_at p) listed l.kept id args frames h) where
      abbrev behind : Lone
      behind = went (on_heap l h) frames done boxes

      same : asks.callee ≡ fits.callee
      same = some_same (method_at p id) asks.callee fits.callee asks.there fits.is

      built_in : fits.callee.built_in ≡ true
      built_in = subst (λ (m : Method). m.built_in ≡ true) same asks.built_in

      result : (k : Native) → native_of p id ≡ Some k → fits.callee.result ≡ gives number k
      result k known = native_gives p is.keeps is.form id fits.callee k fits.is built_in known

      arguments : have_types p fits.callee of (native_types fits.callee) args ≡ true
      arguments = subst (λ (m : Method). have_types p m of (native_types m) args ≡ true) same asks.arguments

      without_result : (k : Native) → native_of p id ≡ Some k → gives number k ≡ None → StandOn l.kept h frames
      without_result k known none = fits.done (result k known ∙ none)

      with_int : (k : Native) (x : ℤ) → native_of p id ≡ Some k → gives number k ≡ Some int_type → Stood (pushed (Int x) behind)
      with_int k x known some = fits.answered int_type (Int x) (result k known ∙ some) (refl, refl) (λ tree. refl)

      message_sort : type_sort p message ≡ Tree 0 Trees
      message_sort = Rattle.kilim_isolation_laws.proofs.Natives.tree_of_task p is.keeps is.form (class_id (number + 2)) (message_kind p is.keeps is.form)

      with_null : (k : Native) → native_of p id ≡ Some k → gives number k ≡ Some message → Stood (pushed Null behind)
      with_null k known some = fits.answered message Null (result k known ∙ some) (subst (λ (s : Rattle.kilim_isolation_laws.specs.graph_rows.Holds.Sort). Rattle.kilim_isolation_laws.specs.graph_rows.Holds.Fits p h s Null) (sym message_sort) (refl, λ o e. absurd (cc))) (λ tree. refl)

      no_object : (x : ℕ) → l.next ≤ x → get h x ≡ None
      no_object x le = unnamed_yet h x asks.heap (fresh x le)

      -- what is raised for a cause, behind the call
      asked_raises : (why : EndCause) → NextStands (raised p behind why)
      asked_raises why = of_has NextStands p behind why tt (done + 1) boxes (λ c. unwound p c (Ref l.next) frames) (raised_class p other_index why) (λ c e f fs left more on.
          let known = (facts_hold p is.keeps).raised other_index other_is why c e in
          subst (λ (left : List Activation). CaughtFit p (typing_at p) listed l.kept (insert h l.next (new_object p c)) left) left
          (fits.raises c l.next (no_object l.next (omega arith)) (new_object_fits p sound.keeps.may c h l.next) (object_thrown h l.next c known.0)))

      receives : (k : Native) → native_of p id ≡ Some k → gives number k ≡ Some message → Receives behind
      receives k known some objects shape e =
          let forest = forest_of l.kept h (push_value Null frames) (with_null k known some) in
          let taken = taken_trees_come p sound.keeps h l.next OfMessage shape objects no_object forest e in
          fits.comes message (result k known ∙ some) (with_objects h l.next objects) l.next 0 Trees taken message_sort (message_kind p is.keeps is.form)

      -- a tree of that type leaves
      leaves : (k : Native) → native_of p id ≡ Some k → gives number k ≡ None → (root : ℕ) (shape : List Token) (c : ClassId) → class_kind p c ≡ kind.Tree → is_of p (of root) (class_type c.0) ≡ true → Gives p (parameters_of fits.callee) args root → shape_of p h root ≡ Some shape → Stood (tree_left p root behind)
      leaves k known none root shape c tree typed gives_it e =
          let forest = forest_of l.kept h frames (without_result k known none) in
          let w = fits.whole root gives_it in
          fits.gives (result k known ∙ none) root gives_it (without h (tree_names p h root)) (given_trees_leave p of h root shape is.keeps asks.heap forest (root_is (get h root) refl w.0) e).0
        where
          root_is : (o : Option Object) → get h root ≡ o → Rattle.kilim_isolation_laws.specs.graph_rows.Holds.is_tree_object p o ≡ true → IsOf p h root (Tree 0 Trees)
          root_is None at e = absurd (true≢false (sym e))
          root_is (Some object) at e = (object, at, below_tree p is.keeps is.form object.class c tree (subst (λ (o : Option Ty). is_of p o (class_type c.0) ≡ true) (asks.heap.classes root object at) typed))

      quality_free : (c : ClassId) → class_kind p c ≡ kind.Tree → quality p (class_type c.0) Free ≡ Some Free
      quality_free c e = ap (λ (k : Kind). cond (is_tree_kind k) (Some Free) None) e

      -- a message that is put leaves
      message_leaves : (k : Native) → native_of p id ≡ Some k → gives number k ≡ None → Rattle.kilim_isolation_laws.proofs.Natives.Puts number fits.callee → (box : BoxName) (root : ℕ) → args ≡ Box box ∷ Ref root ∷ [] → (shape : List Token) → shape_of p h root ≡ Some shape →
          Stood (tree_left p root behind)
      message_leaves k known none puts box root own shape e = leaves k known none root shape (class_id (number + 2)) (message_kind p is.keeps is.form) typed gives_it e
        where
          types : native_types fits.callee ≡ Rattle.kilim_type_spec.specs.Step.class_vtype (class_id (number + 5)) ∷ vtype message ∷ []
          types =
              ap (λ (z : Bool). Rattle.kilim_type_sound.specs.Sound.native_types (record fits.callee { is_static = z })) puts.0
              ∙ (ap (λ (c : ClassId). Rattle.kilim_type_sound.specs.Sound.native_types (record fits.callee { is_static = false; owner = c })) puts.1
              ∙ ap (λ (tys : List Ty). Rattle.kilim_type_sound.specs.Sound.native_types (record fits.callee { is_static = false; owner = class_id (number + 5); params = tys })) puts.3)

          typed : is_of p (of root) message ≡ true
          typed =
              let a : have_types p fits.callee of (Rattle.kilim_type_spec.specs.Step.class_vtype (class_id (number + 5)) ∷ vtype message ∷ []) (Box box ∷ Ref root ∷ []) ≡ true = subst (λ (vs : List Value). have_types p fits.callee of (Rattle.kilim_type_spec.specs.Step.class_vtype (class_id (number + 5)) ∷ vtype message ∷ []) vs ≡ true) own (subst (λ (ts : List VType). have_types p fits.callee of ts args ≡ true) types arguments) in
              (and_parts (is_of p (of root) message) true (and_parts _ (is_of p (of root) message && true) a).1).0

          gives_it : Gives p (parameters_of fits.callee) args root
          gives_it = subst (λ (qs : List Parameter). Gives p qs args root) (sym (put_parameters p is.keeps is.form fits.callee puts))
              (subst (λ (vs : List Value). Gives p (record { ty = class_type (number + 5); qualifier = Safe } ∷ record { ty = message; qualifier = Free } ∷ []) vs root) (sym own)
              (inr (not_owned (is_tree_kind (kind_of p (class_type (number + 5)))), inl (quality_free (class_id (number + 2)) (message_kind p is.keeps is.form), refl, tt))))

      put_stands : (box : BoxName) (root : ℕ) → native_of p id ≡ Some native.Put → args ≡ Box box ∷ Ref root ∷ [] → (o : Option (List Token)) → shape_of p h root ≡ o → NextStands (put_next behind box root o)
      put_stands box root known own None e = tt
      put_stands box root known own (Some shape) e = message_leaves native.Put known refl (put_is p is.keeps is.form id fits.callee fits.is known) box root own shape e

      put_wait_stands : (box : BoxName) (root : ℕ) → native_of p id ≡ Some native.PutWait → args ≡ Box box ∷ Ref root ∷ [] → (o : Option (List Token)) → shape_of p h root ≡ o → NextStands (put_wait_next behind box root o)
      put_wait_stands box root known own None e = tt
      put_wait_stands box root known own (Some shape) e = message_leaves native.PutWait known refl (wait_is p is.keeps is.form id fits.callee fits.is known) box root own shape e

      wait_stands : (box : BoxName) (v : Value) → native_of p id ≡ Some native.PutWait → args ≡ Box box ∷ v ∷ [] → NextStands (wait_next p behind box v)
      wait_stands box Null known own = asked_raises cause.Null
      wait_stands box (Ref root) known own = put_wait_stands box root known own (shape_of p h root) refl
      wait_stands box _ known own = tt

      bound_stands : (box : BoxName) (i : ℤ) → Stood behind → NextStands (bound_next p behind box i)
      bound_stands box (pos (suc i)) e = e
      bound_stands box (pos zero) e = asked_raises cause.Size
      bound_stands box (negsuc i) e = asked_raises cause.Size

      message_stands : (box : BoxName) (v : Value) → native_of p id ≡ Some native.Put → args ≡ Box box ∷ v ∷ [] → NextStands (message_next p behind box v)
      message_stands box Null known own = asked_raises cause.Null
      message_stands box (Ref root) known own = put_stands box root known own (shape_of p h root) refl
      message_stands box _ known own = tt

      start_stands : (root : ℕ) → native_of p id ≡ Some native.Start → args ≡ Ref root ∷ [] → (o : Option (List Token)) → shape_of p h root ≡ o → NextStands (start_next behind root o)
      start_stands root known own None e = tt
      start_stands root known own (Some shape) e = leaves native.Start known refl root shape (class_id (number + 4)) (task_kind p is.keeps is.form) typed gives_it e
        where
          starts : Rattle.kilim_isolation_laws.proofs.Natives.Begins number Free fits.callee
          starts = start_is p is.keeps is.form id fits.callee fits.is known

          types : native_types fits.callee ≡ Rattle.kilim_type_spec.specs.Step.class_vtype (class_id (number + 4)) ∷ []
          types =
              ap (λ (z : Bool). Rattle.kilim_type_sound.specs.Sound.native_types (record fits.callee { is_static = z })) starts.0
              ∙ (ap (λ (c : ClassId). Rattle.kilim_type_sound.specs.Sound.native_types (record fits.callee { is_static = false; owner = c })) starts.1
              ∙ ap (λ (tys : List Ty). Rattle.kilim_type_sound.specs.Sound.native_types (record fits.callee { is_static = false; owner = class_id (number + 4); params = tys })) starts.3)

          typed : is_of p (of root) (class_type (number + 4)) ≡ true
          typed =
              let a : have_types p fits.callee of (Rattle.kilim_type_spec.specs.Step.class_vtype (class_id (number + 4)) ∷ []) (Ref root ∷ []) ≡ true = subst (λ (vs : List Value). have_types p fits.callee of (Rattle.kilim_type_spec.specs.Step.class_vtype (class_id (number + 4)) ∷ []) vs ≡ true) own (subst (λ (ts : List VType). have_types p fits.callee of ts args ≡ true) types arguments) in
              (and_parts (is_of p (of root) (class_type (number + 4))) true a).0

          gives_it : Gives p (parameters_of fits.callee) args root
          gives_it = subst (λ (qs : List Parameter). Gives p qs args root) (sym (start_parameters p is.keeps is.form fits.callee starts))
              (subst (λ (vs : List Value). Gives p (record { ty = class_type (number + 4); qualifier = Free } ∷ []) vs root) (sym own) (inl (quality_free (class_id (number + 4)) (task_kind p is.keeps is.form), refl, tt)))

      print_stands : (o : Option Token) → Stood behind → NextStands (print_next behind o)
      print_stands None e = tt
      print_stands (Some token) e = e

      arg_stands : (o : Option ℤ) → ((x : ℤ) → Stood (pushed (Int x) behind)) → NextStands (arg_next p behind o)
      arg_stands None e = asked_raises cause.Index
      arg_stands (Some x) e = λ more on. e x

      native_stands : (k : Native) (own : List Value) → native_of p id ≡ Some k → args ≡ own → NextStands (native_next set behind k own)
      native_stands native.Execute (Ref q ∷ []) known e = λ more on. without_result native.Execute known refl
      native_stands native.Start (Ref q ∷ []) known e = start_stands q known e (shape_of p h q) refl
      native_stands native.Put (Box box ∷ v ∷ []) known e = message_stands box v known e
      native_stands native.PutWait (Box box ∷ v ∷ []) known e = wait_stands box v known e
      native_stands native.Bound (Box box ∷ Int i ∷ []) known e = bound_stands box i (without_result native.Bound known refl)
      native_stands native.Get (Box box ∷ []) known e = receives native.Get known refl
      native_stands native.Getnb (Box box ∷ []) known e = (receives native.Getnb known refl, with_null native.Getnb known refl)
      native_stands native.Print (v ∷ []) known e = print_stands (printed v) (without_result native.Print known refl)
      native_stands native.Yield [] known e = λ more on. without_result native.Yield known refl
      native_stands native.ArgCount [] known e = λ more on. with_int native.ArgCount _ known refl
      native_stands native.Arg (Int i ∷ []) known e = arg_stands (arg_at set.limits.args i) (λ x. with_int native.Arg x known refl)
      native_stands _ _ known e = tt

      asks_stand : (o : Option Native) → native_of p id ≡ o → NextStands (asks_next set behind args o)
      asks_stand None known = tt
      asks_stand (Some k) known = native_stands k args known refl

    -- ---- moves

    opens_stand : (frames : List Activation) (h : Objects) → ((box : BoxName) → StandOn l.kept h (push_value (Box box) frames)) → NextStands (opens_next t (on_heap l h) frames done boxes)
    opens_stand frames h fits = by (nat_lt boxes box_limit)
      where
        by : (z : Bool) → NextStands (cond z (Goes (went (on_heap l h) (push_value (Box (record { task = t; number = boxes })) frames) done (boxes + 1))) (over (on_heap l h) cause.Boxes))
        by true = λ more on. fits (record { task = t; number = boxes })
        by false = tt

    -- `execute` of the object that was kept
    module _ (begins : (h : Objects) (q : ℕ) (frames : List Activation) → l.kept ≡ Some q → EndFits p (Some q) h → HeapFits p of h → begun_on p (execute_of p set.main) q ≡ Some frames → TopIsCoded p frames → StandOn None h frames) where
      begins_stand : (h : Objects) (q : ℕ) → l.kept ≡ Some q → EndFits p (Some q) h → HeapFits p of h → (o : Option (List Activation)) → begun_on p (execute_of p set.main) q ≡ o → NextStands (begins_next (on_heap l h) done boxes o)
      begins_stand h q kept fits heap None e = tt
      begins_stand h q kept fits heap (Some []) e = tt
      begins_stand h q kept fits heap (Some (frame ∷ frames)) e = λ more on. begins h q (frame ∷ frames) kept fits heap e (top_coded more (frame ∷ frames) on.fits.frames)

      finish_stands : (h : Objects) → HeapFits p of h → (o : Option ℕ) → l.kept ≡ o → EndFits p o h → NextStands (finish_next set (on_heap l h) done boxes o)
      finish_stands h heap None e fits = tt
      finish_stands h heap (Some q) e fits = begins_stand h q e fits heap (begun_on p (execute_of p set.main) q) refl

      move_stands : (top : Activation) (below : List Activation) → Fits p (typing_at p) wanted of (top ∷ below) l.heap → AreThere l.heap top.stack → ThreadFits p (typing_at p) listed l.kept l.heap top below → (m : Move) → moves p top below l.heap ≡ m →
          MoveFits p (typing_at p) wanted of m → graphs.MoveFits p (typing_at p) listed l.kept m → NextStands (next_by set t l done boxes top below m)
      move_stands top below f there stood (move.Runs change frames h) same typed fits = λ more on. fits (top_coded more frames on.fits.frames)
      move_stands top below f there stood (move.Makes object frames h) same typed fits = λ more on. fits l.next (by (get h l.next) refl)
        where
          by : (o : Option Object) → get h l.next ≡ o → o ≡ None
          by None at = refl
          by (Some other) at = absurd (let e = sym (typed.2.classes l.next other at) ∙ fresh l.next (omega arith) in cc)
      move_stands top below f there stood (move.Opens frames h) same typed fits = opens_stand frames h fits
      move_stands top below f there stood (move.Asks id args frames h) same typed fits = asks_stand id args frames h typed fits (native_of p id) refl
      move_stands top below f there stood (move.Returns h) same typed fits = finish_stands h typed l.kept refl fits
      move_stands top below f there stood (move.Raises why) same typed fits = raises_has NextStands p l why tt done boxes top below (λ c e g gs left more on.
          let known = (facts_hold p is.keeps).raised (index_at p top) (index_is p top) why c e in
          let free = unnamed_yet l.heap l.next f.heap (fresh l.next (omega arith)) in
          subst (λ (left : List Activation). CaughtFit p (typing_at p) listed l.kept (insert l.heap l.next (new_object p c)) left) left
          (thrown_stands of l.kept top below l.heap (insert l.heap l.next (new_object p c)) f
          (new_objects_keep p (typing_at p) listed l.kept top below l.heap l.next (new_object p c) free (zero_holds p c) (new_object_fits p sound.keeps.may c l.heap l.next) stood) c l.next (object_thrown l.heap l.next c known.0)))
      move_stands top below f there stood (move.Throws object class why) same typed fits = throws_has NextStands p l why tt (done + 1) boxes (thrown p class (Ref object) top below) (λ g gs left more on.
          let is_there = thrown_is_there p (typing_at p) wanted of is.keeps is.verified top below l.heap f there object class why same in
          let own : object_sort p (class_type class.0) ≡ Own = ap (sort_by p (class_type class.0)) (sound.keeps.thrown class is_there.1) in
          let class_is = some_same (of object) is_there.2.0.class (class_type class.0) (f.heap.classes object is_there.2.0 is_there.2.1) is_there.0 in
          subst (λ (left : List Activation). CaughtFit p (typing_at p) listed l.kept l.heap left) left
          (thrown_stands of l.kept top below l.heap l.heap f stood class object (record { is = (is_there.2.0, is_there.2.1, ap (object_sort p) class_is ∙ own); own = own; throwable = is_there.1 })))
      move_stands top below f there stood (move.Ends c) same typed fits = tt
      move_stands top below f there stood move.Stuck same typed fits = tt

      frames_stand : (frames : List Activation) → Fits p (typing_at p) wanted of frames l.heap → TopIsThere l.heap frames → StandOn l.kept l.heap frames → NextStands (frames_next set t l frames done boxes)
      frames_stand [] f there fits = tt
      frames_stand (top ∷ below) f there fits =
          move_stands top below f there fits (moves p top below l.heap) refl (moves_fit p (typing_at p) wanted of (facts_hold p is.keeps) is.verified top below l.heap f there)
          (moves_keep p (typing_at p) listed l.kept top below l.heap sound (top_verified of top below l.heap f) fits)

  abbrev BeginsKept : Classes → Lone → Type 0
  BeginsKept of l = (h : Objects) (q : ℕ) (frames : List Activation) → l.kept ≡ Some q → EndFits p (Some q) h → HeapFits p of h → begun_on p (execute_of p set.main) q ≡ Some frames → TopIsCoded p frames → StandOn None h frames

  next_stands : (t : ℕ) (l : Lone) (of : Classes) → BeginsKept of l → On of l → StackIsThere l → Stood l → NextStands (next_move set t l)
  unfolding next_move
  next_stands t l of begins on there stood = by l.thread on.fits there stood
    where
      alive : (z : Bool) (frames : List Activation) (done boxes : ℕ) → Fits p (typing_at p) wanted of frames l.heap → TopIsThere l.heap frames → StandOn l.kept l.heap frames → NextStands (cond z (over l cause.Spent) (frames_next set t l frames done boxes))
      alive true frames done boxes f there fits = tt
      alive false frames done boxes f there fits = frames_stand t l of on.fresh done boxes begins frames f there fits

      by : (th : Thread) → Fits p (typing_at p) wanted of (frames_of th) l.heap → TopIsThere l.heap (frames_of th) → ThreadStands p (typing_at p) listed l.kept l.heap th → NextStands (thread_next set t l th)
      by (Ended c) f there fits = tt
      by (Alive frames done boxes) f there fits = alive (nat_le set.limits.steps done) frames done boxes f there fits

  -- ---- what others decide

  abbrev Did : Option Done → Act → Lone → Type 0
  Did o act after = o ≡ Some (record { act = act; after = after })

  did_stands : (a b : Act) (l m : Lone) → Did (Some (record { act = a; after = l })) b m → Stood l → Stood m
  did_stands a b l m e f = subst Stood (ap (λ (d : Done). d.after) (some_same (Some (record { act = a; after = l })) (record { act = a; after = l }) (record { act = b; after = m }) refl e)) f

  puts_stand : (box : BoxName) (root : ℕ) (shape : List Token) (l : Lone) (own act : Act) (after : Lone) → Stood (tree_left p root l) → Did (puts_deed p box root shape l own) act after → Stood after
  puts_stand box root shape l (Put b q s) act after f e = did_stands (Put box q shape) act (tree_left p root l) after e f
  puts_stand box root shape l _ act after f e = absurd (cc)

  -- a put that a full mailbox ends
  fills_stand : (box : BoxName) (root : ℕ) (shape : List Token) (l : Lone) (own act : Act) (after : Lone) → Stood (tree_left p root l) → Did (fills_deed p box root shape l own) act after → Stood after
  fills_stand box root shape l (Put b q s) act after f e = puts_stand box root shape l (Put b q s) act after f e
  fills_stand box root shape l (End why) act after f e = did_stands (End cause.Full) act (ended l cause.Full) after e tt
  fills_stand box root shape l _ act after f e = absurd (cc)

  starts_stand : (root : ℕ) (shape : List Token) (l : Lone) (own act : Act) (after : Lone) → Stood (tree_left p root l) → Did (starts_deed p root shape l own) act after → Stood after
  starts_stand root shape l (Start q s) act after f e = did_stands (Start q shape) act (tree_left p root l) after e f
  starts_stand root shape l (End why) act after f e = did_stands (End cause.Tasks) act (ended l cause.Tasks) after e tt
  starts_stand root shape l _ act after f e = absurd (cc)

  came_stands : (box : BoxName) (q : ℕ) (l : Lone) (shape : List Token) (o : Option (List Object)) → built p OfMessage l.next shape ≡ o → (act : Act) (after : Lone) → Receives l → Did (tree_came box q l o) act after → Stood after
  came_stands box q l shape None at act after r e = absurd (cc)
  came_stands box q l shape (Some objects) at act after r e = did_stands (Take box q) act (received l objects) after e (r objects shape at)

  takes_stand : (box : BoxName) (l : Lone) (d : Deed) (own act : Act) (after : Lone) → Receives l → Did (takes_deed p box l d own) act after → Stood after
  takes_stand box l d (Take b q) act after r e = came_stands box q l d.taken (built p OfMessage l.next d.taken) refl act after r e
  takes_stand box l d _ act after r e = absurd (cc)

  probes_stand : (box : BoxName) (l : Lone) (d : Deed) (own act : Act) (after : Lone) → Receives l × Stood (pushed Null l) → Did (probes_deed p box l d own) act after → Stood after
  probes_stand box l d (Empty b) act after r e = did_stands (Empty box) act (pushed Null l) after e r.1
  probes_stand box l d (Take b q) act after r e = takes_stand box l d (Take b q) act after r.0 e
  probes_stand box l d _ act after r e = absurd (cc)

  deed_stands : (next : Next) (d : Deed) (act : Act) (after : Lone) → NextStands next → Did (done_by set next d) act after → Stood after
  deed_stands (Goes l) d act after f e = absurd (cc)
  deed_stands (Puts box root shape l) d act after f e = fills_stand box root shape l d.act act after f e
  deed_stands (PutWaits box root shape l) d act after f e = puts_stand box root shape l d.act act after f e
  deed_stands (Bounds box most l) d act after f e = did_stands (Bound box most) act l after e f
  deed_stands (Gets box l) d act after f e = takes_stand box l d d.act act after f e
  deed_stands (Probes box l) d act after f e = probes_stand box l d d.act act after f e
  deed_stands (Starts root shape l) d act after f e = starts_stand root shape l d.act act after f e
  deed_stands (Prints token l) d act after f e = did_stands (Print (token ∷ [])) act l after e f
  deed_stands (Ends c l) d act after f e = did_stands (End c) act l after e f
  deed_stands Stands d act after f e = absurd (cc)

  pub move_keeps : (t : ℕ) (l after : Lone) (of more : Classes) → BeginsKept of l → On of l → StackIsThere l → Stood l → next_move set t l ≡ Goes after → On more after → Stood after
  move_keeps t l after of more begins on there stood e further = subst (λ (x : Next). NextStands x) e (next_stands t l of begins on there stood) more further

  pub deed_keeps : (t : ℕ) (l after : Lone) (of : Classes) (d : Deed) (act : Act) → BeginsKept of l → On of l → StackIsThere l → Stood l → done_by set (next_move set t l) d ≡ Some (record { act = act; after = after }) → Stood after
  deed_keeps t l after of d act begins on there stood e = deed_stands (next_move set t l) d act after (next_stands t l of begins on there stood) e
