-- A step of the thread keeps what is held.
use Rattle.std.proofs.Common.{◌≡◌, ◌≢◌, cond, ℕ, suc, ◌+◌, ◌≤◌, Bool, true, false, List, [], ◌∷◌, length, Option, Some, None, refl, sym, ap, subst, ◌∙◌, arith, lt-ltb, ltb-true}
use Rattle.std.specs.Prelude.{◌&&◌, nat_le, nat_lt}
use Rattle.std.specs.FinMap.{get, insert}
use Rattle.std.proofs.lemmas.Bool.{and_parts}
use Rattle.kilim_program.specs.declared.class.Method.{Method}
use Rattle.kilim_program.specs.declared.instr.Instr.{Instr}
use Rattle.kilim_program.specs.declared.names.MethodId.{MethodId}
use Rattle.kilim_program.specs.declared.value.Value.{Value}
use Rattle.kilim_program.specs.declared.value.Value.TheVariants.{Box, Ref}
use Rattle.kilim_program.specs.BuiltIn.{class_type}
use Rattle.kilim_program.specs.Names.{◌>>=◌, class_at, is_task, method_at}
use Rattle.kilim_type_sound.proofs.Maps.{put_other}
use Rattle.kilim_type_sound.specs.Fits.{Classes, FramesFit as TypesFit, HeapFits, Nothing}
use Rattle.kilim_type_sound.specs.Sound as typed
use Rattle.kilim_isolation_laws.specs.graph_rows.Holds.{is_tree_sort, object_sort}
use Rattle.kilim_run_state.specs.declared.cause.EndCause.{EndCause}
use Rattle.kilim_run_state.specs.declared.cause.EndCause.TheVariants as cause
use Rattle.kilim_run_state.specs.declared.value.Object.{Object}
use Rattle.kilim_run_machine.specs.Does.{does}
use Rattle.kilim_run_machine.specs.Effect.{Asks, Calls, Effect, Ends, Goes, Makes, Opens, Raises, Throws, Returns, Stuck}
use Rattle.kilim_run_state.specs.Machine.{Activation, Objects}
use Rattle.kilim_program.specs.Members.{constructor_of, execute_of, is_concrete, is_own_constructor}
use Rattle.kilim_run_machine.specs.Moves.{entered, frame_limit, move_by}
use Rattle.kilim_run_machine.specs.Natives.{native_of}
use Rattle.kilim_isolation_laws.specs.Laws.{IsRunOfAccepted, listed_at}
use Rattle.kilim_isolation_laws.proofs.Beginning.{kind_of_task}
use Rattle.kilim_isolation_laws.proofs.Moving.{top_coded}
use Rattle.kilim_isolation_laws.specs.reached_objects.graphs.Threads.{EndFits, FramesFit, TopIsCoded}
use Rattle.kilim_isolation_laws.specs.reached_objects.graphs.Threads as graphs
use Rattle.kilim_run_model.specs.Lone.{box_limit}
use Rattle.kilim_run_model.specs.State.{Setting}
use Rattle.kilim_type_laws.specs.Laws.{typing_at}
use Rattle.kilim_fiber_spec.specs.lone.Law.{lone_at, lone_frames}
use Rattle.kilim_fiber_laws.proofs.receivers.Chain.{IsWell, WellAs, tree_there, wants_all}
use Rattle.kilim_fiber_laws.proofs.receivers.Guards.{call_guards, task_guards}
use Rattle.kilim_fiber_laws.proofs.receivers.Heaps.{Grows, KeepsHeap, keeps_heap}
use Rattle.kilim_fiber_laws.proofs.receivers.Held.{Guard, Held, HeldIn, IsPrivate, Keeps, graph_move, held_map, rules_hold, typed_move, verified}
use Rattle.kilim_fiber_laws.proofs.receivers.Natives.{asked_held}
use Rattle.kilim_fiber_spec.specs.Acts.{Wants, World, counted, ending, last, with_heap}
use Rattle.kilim_fiber_spec.specs.Acts as action
use Rattle.kilim_fiber_laws.proofs.receivers.Landing.{object_held, raised_held}
use Rattle.kilim_fiber_spec.specs.Fibers.{frame}
use Rattle.kilim_fiber_spec.specs.Thread.{At, Frame, Run, Stop, Thread, begins, begins_in, effect_does, fetch, finishes, found_does, own_of, push, self_of, step}
use Rattle.kilim_run_model.specs.declared.deed.Deed.{Deed}

frames_long : (b : List Frame) → length (lone_frames b) ≡ length b
frames_long [] = refl
frames_long (At m p l s x ∷ b) = ap suc (frames_long b)

module _ (set : Setting) (run : IsRunOfAccepted set) where
  ended : (w : World) (why : EndCause) → HeldIn set run (ending set w Stop why)
  ended w why = by w.deeds
    where
      by : (ds : List Deed) → HeldIn set run (elim ds [ [] ↦ Stop (Wants (action.Ends why) w) | deed ∷ rest ↦ last set w Stop why rest ])
      by [] = tt
      by (d ∷ []) = tt
      by (d ∷ e ∷ rest) = tt

  coded : (of : Classes) (top : Activation) (frames pre : List Activation) → TypesFit set.program (typing_at set.program) wants_all of Nothing (top ∷ frames) → TopIsCoded set.program (top ∷ pre)
  coded of top frames pre fits = top_coded set wants_all (listed_at set.program) (rules_hold set run) (verified set run) run.main of (top ∷ frames) fits

  -- an object that is no tree stays so where no object is lost, and no name loses its class
  private_grows : (of : Classes) (h k : Objects) → HeapFits set.program of h → HeapFits set.program of k → Grows h k → (o : ℕ) → IsPrivate set run h o → IsPrivate set run k o
  private_grows of h k fits later grows o z =
      let r = grows o z.0 z.1 in
      (r.0, r.1, ap (λ (c : _). is_tree_sort (object_sort set.program c)) (some_is r.0.class z.0.class (sym (later.classes o r.0 r.1) ∙ fits.classes o z.0 z.1)) ∙ z.2)
    where
      some_is : {A : Type 0} (x y : A) → Some x ≡ Some y → x ≡ y
      some_is x y e = cc

  module _ (of : Classes) (m : MethodId) (p : ℕ) (l s : List Value) (x : Value) (b : List Frame) (w : World) (is : IsWell set run of (lone_at m p l s b w)) (i : Instr) (to : ℕ) (f : fetch set.program m p ≡ Some (i, to)) (held : Held set run w.heap (λ pre. frame m p l s ∷ pre) m x b) where
    -- for each effect: what verification gives, what the rules give, and the heap
    abbrev Typed : Effect → Type 0
    Typed e = typed.MoveFits set.program (typing_at set.program) wants_all of (move_by set.program e (frame m p l s) (lone_frames b))

    abbrev Graph : Effect → Type 0
    Graph e = (kept : Option ℕ) (pre : List Activation) → FramesFit set.program (typing_at set.program) (listed_at set.program) kept w.heap (frame m p l s ∷ pre) → graphs.MoveFits set.program (typing_at set.program) (listed_at set.program) kept (move_by set.program e (frame m p l s) pre)

    -- what a call, and the beginning of `execute`, keep
    abbrev Begun : Effect → Type 0
    Begun (Calls c args q l2 s2 h) = TopIsCoded set.program (entered set.program c args ∷ []) → Guard set run h (entered set.program c args ∷ []) c (self_of set.program c args)
    Begun e = Unit {0}

    goes_held : (q : ℕ) (l2 s2 : List Value) (h : Objects) → Typed (Goes q l2 s2 h) → Graph (Goes q l2 s2 h) → Grows w.heap h → Held set run h (λ pre. frame m q l2 s2 ∷ pre) m x b
    goes_held q l2 s2 h t g grows =
        held_map set run b w.heap h (λ pre. frame m p l s ∷ pre) (λ pre. frame m q l2 s2 ∷ pre) (λ pre le o k. g (Some o) pre k (coded of (frame m q l2 s2) (lone_frames b) pre t.0)) (private_grows of w.heap h is.fits.fits.heap t.1 grows) m x held

    makes_held : (object : Object) (q : ℕ) (l2 s2 : List Value) (h : Objects) → Typed (Makes object q l2 s2 h) → Graph (Makes object q l2 s2 h) → h ≡ w.heap → Held set run (insert h w.next object) (λ pre. frame m q l2 (Ref w.next ∷ s2) ∷ pre) m x b
    makes_held object q l2 s2 h t g same =
        held_map set run b w.heap (insert h w.next object) (λ pre. frame m p l s ∷ pre) (λ pre. frame m q l2 (Ref w.next ∷ s2) ∷ pre) (λ pre le o k. g (Some o) pre k w.next none)
        (λ o z. (z.0, put_other h w.next object o (other o z) ∙ (ap (λ (y : Objects). get y o) same ∙ z.1), z.2)) m x held
      where
        none : get h w.next ≡ None
        none = by (get h w.next) refl
          where
            by : (o : Option Object) → get h w.next ≡ o → o ≡ None
            by None at = refl
            by (Some old) at = absurd (let e = sym (t.2.classes w.next old at) ∙ is.fits.fresh w.next (omega arith) in cc)

        other : (o : ℕ) → IsPrivate set run w.heap o → o ≢ w.next
        other o z e = absurd (let c = sym (is.fits.fits.heap.classes o z.0 z.1) ∙ (ap of e ∙ is.fits.fresh w.next (omega arith)) in cc)

    opens_held : (q : ℕ) (l2 s2 : List Value) (h : Objects) → Graph (Opens q l2 s2 h) → h ≡ w.heap → HeldIn set run (effect_does set (Opens q l2 s2 h) (frame m p l s) x b w)
    opens_held q l2 s2 h g same = by (nat_lt w.boxes box_limit)
      where
        by : (z : Bool) → HeldIn set run (cond z (Run m q l2 (Box (record { task = w.task; number = w.boxes }) ∷ s2) x b (record (counted (with_heap w h)) { boxes = w.boxes + 1 })) (ending set (with_heap w h) Stop cause.Boxes))
        by true = subst (λ (k : Objects). Held set run k (λ pre. frame m q l2 (Box (record { task = w.task; number = w.boxes }) ∷ s2) ∷ pre) m x b) (sym same)
            (held_map set run b w.heap w.heap (λ pre. frame m p l s ∷ pre) (λ pre. frame m q l2 (Box (record { task = w.task; number = w.boxes }) ∷ s2) ∷ pre)
            (λ pre le o k. subst (λ (y : Objects). Keeps set run y (frame m q l2 (Box (record { task = w.task; number = w.boxes }) ∷ s2) ∷ pre) o) same (g (Some o) pre k (record { task = w.task; number = w.boxes }))) (λ o z. z) m x held)
        by false = ended (with_heap w h) cause.Boxes

    calls_held : (c : MethodId) (args : List Value) (q : ℕ) (l2 s2 : List Value) (h : Objects) → Typed (Calls c args q l2 s2 h) → Graph (Calls c args q l2 s2 h) → h ≡ w.heap → Begun (Calls c args q l2 s2 h) → HeldIn set run (effect_does set (Calls c args q l2 s2 h) (frame m p l s) x b w)
    calls_held c args q l2 s2 h t g same guard = by (nat_lt (length (At m q l2 s2 x ∷ b)) frame_limit) refl
      where
        new : Activation
        new = entered set.program c args

        few : (pre : List Activation) → length pre ≤ length b → nat_lt (length (At m q l2 s2 x ∷ b)) frame_limit ≡ true → nat_lt (length (frame m q l2 s2 ∷ pre)) frame_limit ≡ true
        few pre le z = let a = ltb-true (suc (length b)) frame_limit z in lt-ltb (suc (length pre)) frame_limit (omega (arith, le, a))

        full : nat_lt (length (At m q l2 s2 x ∷ b)) frame_limit ≡ true → nat_lt (length (frame m q l2 s2 ∷ lone_frames b)) frame_limit ≡ true
        full z = few (lone_frames b) (let e = frames_long b in omega (arith, e)) z

        is_coded : (pre : List Activation) → nat_lt (length (At m q l2 s2 x ∷ b)) frame_limit ≡ true → TopIsCoded set.program (entered set.program c args ∷ pre)
        is_coded pre z =
            coded of (entered set.program c args) (frame m q l2 s2 ∷ lone_frames b) pre
            (subst (λ (y : Bool). typed.MoveFits set.program (typing_at set.program) wants_all of (cond y (Rattle.kilim_run_machine.specs.Moves.Runs (Rattle.kilim_run_machine.specs.Moves.Enters (Rattle.kilim_run_machine.specs.Moves.receiver_of set.program c args)) (entered set.program c args ∷ frame m q l2 s2 ∷ lone_frames b) h) (Rattle.kilim_run_machine.specs.Moves.Ends cause.Depth))) (full z) t).0

        each : nat_lt (length (At m q l2 s2 x ∷ b)) frame_limit ≡ true → (pre : List Activation) → length pre ≤ length b → (o : ℕ) → Keeps set run w.heap (frame m p l s ∷ pre) o → Keeps set run h (entered set.program c args ∷ frame m q l2 s2 ∷ pre) o
        each z pre le o k =
            (subst (λ (y : Bool). graphs.MoveFits set.program (typing_at set.program) (listed_at set.program) (Some o) (cond y (Rattle.kilim_run_machine.specs.Moves.Runs (Rattle.kilim_run_machine.specs.Moves.Enters (Rattle.kilim_run_machine.specs.Moves.receiver_of set.program c args)) (entered set.program c args ∷ frame m q l2 s2 ∷ pre) h) (Rattle.kilim_run_machine.specs.Moves.Ends cause.Depth))) (few pre le z) (g (Some o) pre k))
            (is_coded (frame m q l2 s2 ∷ pre) z)

        by : (z : Bool) → nat_lt (length (At m q l2 s2 x ∷ b)) frame_limit ≡ z → HeldIn set run (cond z (Run c 0 (entered set.program c args).locals [] (self_of set.program c args) (At m q l2 s2 x ∷ b) (counted (with_heap w h))) (ending set (with_heap w h) Stop cause.Depth))
        by true z = (
          guard (is_coded [] z),
          held_map set run b w.heap h (λ pre. frame m p l s ∷ pre) (λ pre. entered set.program c args ∷ frame m q l2 s2 ∷ pre) (each z) (λ o v. (v.0, ap (λ (y : Objects). get y o) same ∙ v.1, v.2)) m x held,
        )
        by false z = ended (with_heap w h) cause.Depth

    asks_held : (c : MethodId) (args : List Value) (q : ℕ) (l2 s2 : List Value) (h : Objects) → Typed (Asks c args q l2 s2 h) → Graph (Asks c args q l2 s2 h) → h ≡ w.heap → HeldIn set run (effect_does set (Asks c args q l2 s2 h) (frame m p l s) x b w)
    asks_held c args q l2 s2 h t g same =
        asked_held set run of w.next is.fits.fresh m q l2 s2 x b c args h t w.kept (g w.kept (lone_frames b) is.stands) (λ pre. frame m p l s ∷ pre)
        (λ pre le o k. g (Some o) pre (subst (λ (y : Objects). Keeps set run y (frame m p l s ∷ pre) o) same k)) (subst (λ (y : Objects). Held set run y (λ pre. frame m p l s ∷ pre) m x b) (sym same) held)
        (with_heap w h) refl refl (native_of set.program c) refl

  -- ---- a return

  -- it is typed, by whatever classes of names
  abbrev Later : Thread → Type 0
  Later t = (more : Classes) × WellAs set run more t

  entered_coded : (more : Classes) (c : MethodId) (n : ℕ) (w : World) → IsWell set run more (lone_at c 0 (entered set.program c (Ref n ∷ [])).locals [] [] w) → TopIsCoded set.program (entered set.program c (Ref n ∷ []) ∷ [])
  entered_coded more c n w is = coded more (frame c 0 (entered set.program c (Ref n ∷ [])).locals []) [] [] is.fits.fits.frames

  -- the object that is kept begins its `execute`
  begins_held : (of : Classes) (h : Objects) (w : World) → w.heap ≡ h → HeapFits set.program of h → ((n : ℕ) → w.kept ≡ Some n → of n ≡ Some (class_type set.main.0)) → (o : Option ℕ) → w.kept ≡ o → EndFits set.program o h → Later (finishes set w o) → HeldIn set run (finishes set w o)
  begins_held of h w same types main None e ends later = ended w cause.Done
  begins_held of h w same types main (Some n) e ends later = by (execute_of set.program set.main) refl later
    where
      after : World
      after = record (counted w) { kept = None }

      task : is_task set.program set.main ≡ true
      task = (and_parts (is_task set.program set.main) (is_own_constructor (constructor_of set.program set.main >>= method_at set.program)) (and_parts (is_concrete (class_at set.program set.main)) (is_task set.program set.main && is_own_constructor (constructor_of set.program set.main >>= method_at set.program)) run.main).1).0

      at : (c : MethodId) (method : Method) → execute_of set.program set.main ≡ Some c → (z : Bool) → Later (cond z (ending set w Stop cause.Done) (Run c 0 (entered set.program c (Ref n ∷ [])).locals [] (Ref n) [] after)) →
          HeldIn set run (cond z (ending set w Stop cause.Done) (Run c 0 (entered set.program c (Ref n ∷ [])).locals [] (Ref n) [] after))
      at c method is true later = ended w cause.Done
      at c method is false later =
          subst (λ (k : Objects). Guard set run k (entered set.program c (Ref n ∷ []) ∷ []) c (Ref n)) (sym same)
          (task_guards set run h n set.main task (kind_of_task set wants_all (listed_at set.program) (rules_hold set run) (verified set run) run.main set.main task) ends.heap ends.forest (tree_there set run h of n types (main n e) (get h n) refl (ends.there n refl)) c is (entered_coded later.0 c n after later.1))

      found : (c : MethodId) → execute_of set.program set.main ≡ Some c → (x : Option Method) → Later (begins_in set c n w after x) → HeldIn set run (begins_in set c n w after x)
      found c is None later = tt
      found c is (Some method) later = at c method is method.built_in later

      by : (x : Option MethodId) → execute_of set.program set.main ≡ x → Later (begins set n w after x) → HeldIn set run (begins set n w after x)
      by None is later = tt
      by (Some c) is later = found c is (method_at set.program c) later

  returns_held : (of : Classes) (m : MethodId) (p : ℕ) (l s : List Value) (x : Value) (b : List Frame) (w : World) → IsWell set run of (lone_at m p l s b w) → Held set run w.heap (λ pre. frame m p l s ∷ pre) m x b → (v : Option Value) (h : Objects) →
      typed.MoveFits set.program (typing_at set.program) wants_all of (move_by set.program (Returns v h) (frame m p l s) (lone_frames b)) →
      ((kept : Option ℕ) (pre : List Activation) → FramesFit set.program (typing_at set.program) (listed_at set.program) kept w.heap (frame m p l s ∷ pre) → graphs.MoveFits set.program (typing_at set.program) (listed_at set.program) kept (move_by set.program (Returns v h) (frame m p l s) pre)) →
      h ≡ w.heap → Later (effect_does set (Returns v h) (frame m p l s) x b w) → HeldIn set run (effect_does set (Returns v h) (frame m p l s) x b w)
  returns_held of m p l s x [] w is held v h t g same later = begins_held of h (with_heap w h) refl t is.fits.kept w.kept refl (g w.kept [] is.stands) later
  returns_held of m p l s x (At m2 p2 l2 s2 x2 ∷ b) w is held v h t g same later = by v t g
    where
      keeps_private : (o : ℕ) → IsPrivate set run w.heap o → IsPrivate set run h o
      keeps_private o z = (z.0, ap (λ (y : Objects). get y o) same ∙ z.1, z.2)

      by : (v : Option Value) → typed.MoveFits set.program (typing_at set.program) wants_all of (move_by set.program (Returns v h) (frame m p l s) (frame m2 p2 l2 s2 ∷ lone_frames b)) →
          ((kept : Option ℕ) (pre : List Activation) → FramesFit set.program (typing_at set.program) (listed_at set.program) kept w.heap (frame m p l s ∷ pre) → graphs.MoveFits set.program (typing_at set.program) (listed_at set.program) kept (move_by set.program (Returns v h) (frame m p l s) pre)) →
          Held set run h (λ pre. frame m2 p2 l2 (push v s2) ∷ pre) m2 x2 b
      by None t g =
          held_map set run b w.heap h (λ pre. frame m p l s ∷ frame m2 p2 l2 s2 ∷ pre) (λ pre. frame m2 p2 l2 s2 ∷ pre) (λ pre le o k. g (Some o) (frame m2 p2 l2 s2 ∷ pre) k (coded of (frame m2 p2 l2 s2) (lone_frames b) pre t.0)) keeps_private m2 x2 held.1
      by (Some a) t g =
          held_map set run b w.heap h (λ pre. frame m p l s ∷ frame m2 p2 l2 s2 ∷ pre) (λ pre. frame m2 p2 l2 (a ∷ s2) ∷ pre) (λ pre le o k. g (Some o) (frame m2 p2 l2 s2 ∷ pre) k (coded of (frame m2 p2 l2 (a ∷ s2)) (lone_frames b) pre t.0)) keeps_private m2 x2 held.1

  -- ---- each step

  effect_held : (of : Classes) (m : MethodId) (p : ℕ) (l s : List Value) (x : Value) (b : List Frame) (w : World) (is : IsWell set run of (lone_at m p l s b w)) (i : Instr) (to : ℕ) (f : fetch set.program m p ≡ Some (i, to)) (held : Held set run w.heap (λ pre. frame m p l s ∷ pre) m x b) (e : Effect) →
      Typed of m p l s x b w is i to f held e → Graph of m p l s x b w is i to f held e → KeepsHeap w.heap e → Begun of m p l s x b w is i to f held e → does set.program (own_of set.program m) i to l s w.heap ≡ e → Later (effect_does set e (frame m p l s) x b w) → HeldIn set run (effect_does set e (frame m p l s) x b w)
  effect_held of m p l s x b w is i to f held (Goes q l2 s2 h) t g k d same later = goes_held of m p l s x b w is i to f held q l2 s2 h t g k
  effect_held of m p l s x b w is i to f held (Makes object q l2 s2 h) t g k d same later = makes_held of m p l s x b w is i to f held object q l2 s2 h t g k
  effect_held of m p l s x b w is i to f held (Opens q l2 s2 h) t g k d same later = opens_held of m p l s x b w is i to f held q l2 s2 h g k
  effect_held of m p l s x b w is i to f held (Calls c args q l2 s2 h) t g k d same later = calls_held of m p l s x b w is i to f held c args q l2 s2 h t g k d
  effect_held of m p l s x b w is i to f held (Asks c args q l2 s2 h) t g k d same later = asks_held of m p l s x b w is i to f held c args q l2 s2 h t g k
  effect_held of m p l s x b w is i to f held (Returns v h) t g k d same later = returns_held of m p l s x b w is held v h t g k later
  effect_held of m p l s x b w is i to f held (Raises why) t g k d same later = raised_held set run of m p l s x b w is i to f held why (ended (counted w) why)
  effect_held of m p l s x b w is i to f held (Throws n c why) t g k d same later = object_held set run of m p l s x b w is i to f held n c why same (ended (counted w) why)
  effect_held of m p l s x b w is i to f held (Ends why) t g k d same later = ended w why
  effect_held of m p l s x b w is i to f held Stuck t g k d same later = tt

  begun : (of : Classes) (m : MethodId) (p : ℕ) (l s : List Value) (x : Value) (b : List Frame) (w : World) (is : IsWell set run of (lone_at m p l s b w)) (i : Instr) (to : ℕ) (f : fetch set.program m p ≡ Some (i, to)) (held : Held set run w.heap (λ pre. frame m p l s ∷ pre) m x b) (e : Effect) →
      does set.program (own_of set.program m) i to l s w.heap ≡ e → Begun of m p l s x b w is i to f held e
  begun of m p l s x b w is i to f held (Calls c args q l2 s2 h) same = λ coded. call_guards set run of m p l s b w is i to f c args q l2 s2 h same coded
  begun of m p l s x b w is i to f held e same = tt

  pub step_held : (of : Classes) (t : Thread) → WellAs set run of t → HeldIn set run t → Later (step set t) → HeldIn set run (step set t)
  step_held of (Stop o) is held later = tt
  step_held of (Run m p l s x b w) is held later = by (nat_le set.limits.steps w.done) later
    where
      found : (o : Option (Instr × ℕ)) → fetch set.program m p ≡ o → Later (found_does set o (frame m p l s) x b w) → HeldIn set run (found_does set o (frame m p l s) x b w)
      found None f later = tt
      found (Some at) f later =
          effect_held of m p l s x b w is at.0 at.1 f held (does set.program (own_of set.program m) at.0 at.1 l s w.heap) (typed_move set run of m p l s b w is at.0 at.1 f) (graph_move set run of m p l s b w is at.0 at.1 f)
          (keeps_heap set.program (own_of set.program m) l at.1 s w.heap at.0) (begun of m p l s x b w is at.0 at.1 f held (does set.program (own_of set.program m) at.0 at.1 l s w.heap) refl) refl later

      by : (z : Bool) → Later (cond z (ending set w Stop cause.Spent) (found_does set (fetch set.program m p) (frame m p l s) x b w)) → HeldIn set run (cond z (ending set w Stop cause.Spent) (found_does set (fetch set.program m p) (frame m p l s) x b w))
      by true later = ended w cause.Spent
      by false later = found (fetch set.program m p) refl later
