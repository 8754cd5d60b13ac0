-- What a thread that fits does next, on any heap that has what its stack names.
use Rattle.std.proofs.Common.{◌≡◌, ℕ, ◌+◌, ◌≤◌, ℤ, Bool, true, false, cond, List, [], ◌∷◌, Option, Some, None, refl, ap, subst, ◌∙◌, arith}
use Rattle.std.specs.Prelude.{suc, zero, pos, negsuc, nat_le, nat_lt}
use Rattle.std.proofs.Common.{◌++◌, map}
use Rattle.kilim_program.specs.declared.verified.VType.{VType}
use Rattle.kilim_program.specs.declared.verified.VType.TheVariants.{Object}
use Rattle.kilim_type_spec.specs.Step.{class_vtype}
use Rattle.kilim_type_sound.specs.Fits.{have_types}
use Rattle.kilim_type_sound.specs.Sound.{native_types}
use Rattle.std.proofs.lemmas.Bool.{and_parts}
use Rattle.kilim_program.specs.declared.class.Method.{Method}
use Rattle.kilim_program.specs.declared.names.BoxName.{BoxName}
use Rattle.kilim_program.specs.declared.names.ClassId.{ClassId}
use Rattle.kilim_program.specs.declared.names.MethodId.{MethodId}
use Rattle.kilim_program.specs.declared.ty.Ty.{Ty}
use Rattle.kilim_program.specs.declared.value.Value.{Value}
use Rattle.kilim_program.specs.declared.value.Value.TheVariants.{Int, Null, Ref, Box}
use Rattle.kilim_program.specs.BuiltIn.{class_type, int_type}
use Rattle.kilim_program.specs.Names.{class_at, is_task}
use Rattle.kilim_program.specs.Program.{Program}
use Rattle.kilim_run_state.specs.declared.cause.EndCause.{EndCause}
use Rattle.kilim_run_state.specs.declared.cause.EndCause.TheVariants as cause
use Rattle.kilim_run_state.specs.declared.value.Token.{Token}
use Rattle.kilim_run_state.specs.Machine.{Objects, Activation}
use Rattle.kilim_program.specs.Members.{execute_of, is_concrete}
use Rattle.kilim_run_machine.specs.Moves.{Move, moves, push_value}
use Rattle.kilim_run_machine.specs.Moves as move
use Rattle.kilim_run_machine.specs.Natives.{Native, native_of}
use Rattle.kilim_run_machine.specs.Raising.{index_at, other_index, raised_class, thrown, unwound}
use Rattle.kilim_run_machine.specs.Natives as native
use Rattle.kilim_run_state.specs.Objects.{new_object}
use Rattle.kilim_run_state.specs.Shapes.{shape_of}
use Rattle.std.specs.FinMap.{insert}
use Rattle.kilim_run_model.specs.State.{Setting, Thread, Alive, Ended, begun_on, is_fit}
use Rattle.kilim_run_model.specs.Lone.{Lone, Next, Goes, Puts, PutWaits, Bounds, Gets, Probes, Starts, Prints, Ends, Stands, arg_at, arg_next, asks_next, begins_next, box_limit, ended, finish_next, frames_next, made_at, message_next, native_next, next_by, next_move, on_heap, opens_next, over, print_next, printed, pushed, put_next, raised, put_wait_next, bound_next, start_next, thread_next, wait_next, went}
use Rattle.kilim_type_sound.proofs.Caught.{all_raises_fit, index_is, other_is, throws_fit}
use Rattle.kilim_type_sound.proofs.Raised.{of_has, raises_has, throws_has}
use Rattle.kilim_type_spec.specs.Step.{vtype}
use Rattle.kilim_type_sound.specs.Fits.{Classes, Fits, HeapFits, Typing, Wanted, has_type, is_of}
use Rattle.kilim_type_sound.specs.Law.{AnswersFit, Extends, with_class}
use Rattle.kilim_type_sound.specs.Sound.{AsksFit, MoveFits}
use Rattle.kilim_type_sound.proofs.Grounds.{facts_hold}
use Rattle.kilim_type_sound.proofs.Grown.{all_answers_fit}
use Rattle.kilim_type_sound.proofs.Theorem.{moves_fit}
use Rattle.kilim_isolation_laws.specs.typed_threads.fine.Typed.{FitsAs, IsVerified, StackIsThere, TopIsThere, frames_of}
use Rattle.kilim_isolation_laws.proofs.typed_threads.fine.Natives.{first, gives, native_gives}
use Rattle.kilim_isolation_laws.specs.typed_threads.Typed.{Further}
use Rattle.kilim_isolation_laws.proofs.states.Takers.{PutIs, native_takes}
use Rattle.kilim_isolation_laws.proofs.typed_threads.Came.{one_extends, one_fresh}
use Rattle.kilim_isolation_laws.proofs.typed_threads.Executing.{execute_begins}

some_same : {A : Type 0} (x y : A) → Some x ≡ Some y → x ≡ y
some_same x y e = cc

module _ (set : Setting) (typing : Typing) (live : Wanted) (of : Classes) (is : IsVerified set typing live) (main : is_fit set ≡ true) where
  abbrev pub p : Program
  p = set.program

  abbrev pub n : ℕ
  n = first p is.keeps is.form

  abbrev pub On : Classes → Lone → Type 0
  On more l = FitsAs set typing live more l

  answers : AnswersFit p typing live
  answers = all_answers_fit p typing live (facts_hold p is.keeps)

  -- ---- what a thread does next

  -- a message, or null
  abbrev pub IsMessageValue : Classes → Value → Type 0
  IsMessageValue more v = (m : Method) → has_type p m more (vtype (class_type (n + 2))) v ≡ true

  -- it fits, with any message on its stack
  pub record Waits (after : Lone) : Type 0 where
    pub comes : (more : Classes) (v : Value) (h : Objects) (next : ℕ) → Extends of more → HeapFits p more h → ((q : ℕ) → next ≤ q → more q ≡ None) → IsMessageValue more v → On more (pushed v (record after { heap = h; next = next }))
    pub heap : HeapFits p of after.heap
    pub fresh : (q : ℕ) → after.next ≤ q → of q ≡ None

  abbrev pub NextFits : Next → Type 0
  NextFits (Goes after) = Further set typing live of after
  NextFits (Puts box root shape after) = On of after × (is_of p (of root) (class_type (n + 2)) ≡ true)
  NextFits (PutWaits box root shape after) = On of after × (is_of p (of root) (class_type (n + 2)) ≡ true)
  NextFits (Bounds box most after) = On of after
  NextFits (Gets box after) = Waits after
  NextFits (Probes box after) = Waits after
  NextFits (Starts root shape after) = On of after × (is_of p (of root) (class_type (n + 4)) ≡ true)
  NextFits (Prints token after) = On of after
  NextFits (Ends cause after) = On of after
  NextFits Stands = Unit {0}

  over_fits : (l : Lone) (c : EndCause) → HeapFits p of l.heap → ((q : ℕ) → l.next ≤ q → of q ≡ None) → On of (ended l c)
  over_fits l c heap fresh = record { fits = record { frames = tt; heap = heap }; fresh = fresh; kept = λ q e. absurd (cc) }

  same_further : (l : Lone) → On of l → Further set typing live of l
  same_further l e = record { more = of; grows = λ q c f. f; is = e }

  module _ (t : ℕ) (l : Lone) (fresh : (q : ℕ) → l.next ≤ q → of q ≡ None) (kept : (q : ℕ) → l.kept ≡ Some q → of q ≡ Some (class_type set.main.0)) (done boxes : ℕ) where
    on_frames : (frames : List Activation) (h : Objects) (more-boxes : ℕ) → Fits p typing live of frames h → On of (went (on_heap l h) frames done more-boxes)
    on_frames frames h more-boxes f = record { fits = f; fresh = fresh; kept = kept }

    -- with the object that is made for what is raised
    further_made : (c : ClassId) (h : Objects) (f : Activation) (fs : List Activation) (count : ℕ) → Fits p typing live (with_class of l.next (class_type c.0)) (f ∷ fs) (insert h l.next (new_object p c)) → Further set typing live of (made_at (on_heap l h) (new_object p c) (f ∷ fs) count boxes)
    further_made c h f fs count fits = record {
      more = with_class of l.next (class_type c.0);
      grows = one_extends of l.next (class_type c.0) (fresh l.next (omega arith));
      is = record { fits = fits; fresh = one_fresh of l.next (class_type c.0) fresh; kept = λ q e. one_extends of l.next (class_type c.0) (fresh l.next (omega arith)) q (class_type set.main.0) (kept q e) };
    }

    -- ---- a built-in method that is handed out

    module _ (id : MethodId) (args : List Value) (frames : List Activation) (h : Objects) (asks : AsksFit p typing live of id args frames h) where
      abbrev behind : Lone
      behind = went (on_heap l h) frames done boxes

      -- what is raised for a cause, behind the call
      asked_raises : (why : EndCause) → NextFits (raised p behind why)
      asked_raises why = of_has NextFits p behind why (over_fits behind why asks.heap fresh) (done + 1) boxes (λ c. unwound p c (Ref l.next) frames) (raised_class p other_index why) (λ c e f fs left.
          further_made c h f fs (done + 1) ((all_raises_fit p typing live is.keeps is.verified).asked of id args frames h asks other_index other_is why c e l.next (fresh l.next (omega arith)) f fs left))

      module _ (k : Native) (known : native_of p id ≡ Some k) where
        result : asks.callee.result ≡ gives n k
        result = native_gives p is.keeps is.form id asks.callee k asks.there asks.built_in known

        without_result : gives n k ≡ None → On of behind
        without_result none = on_frames frames h boxes (answers.done of id args frames h asks.callee asks.there (result ∙ none) asks)

        with_int : (x : ℤ) → gives n k ≡ Some int_type → On of (pushed (Int x) behind)
        with_int x some = record { fits = answers.answered of of id args frames h asks.callee int_type (Int x) asks.there (result ∙ some) (λ q c e. e) refl asks h asks.heap; fresh = fresh; kept = kept }

        with_message : gives n k ≡ Some (class_type (n + 2)) → Waits behind
        with_message some = record {
          comes = λ more v later next grows heap new typed. record {
            fits = answers.answered of more id args frames h asks.callee (class_type (n + 2)) v asks.there (result ∙ some) grows (typed asks.callee) asks later heap;
            fresh = new;
            kept = λ q e. grows q (class_type set.main.0) (kept q e);
          };
          heap = asks.heap;
          fresh = fresh;
        }

        put_fits : (box : BoxName) (root : ℕ) (o : Option (List Token)) → On of behind → is_of p (of root) (class_type (n + 2)) ≡ true → NextFits (put_next behind box root o)
        put_fits box root None e typed = over_fits behind cause.Large asks.heap fresh
        put_fits box root (Some shape) e typed = (e, typed)

        message_next_fits : (box : BoxName) (v : Value) → On of behind → ((root : ℕ) → v ≡ Ref root → is_of p (of root) (class_type (n + 2)) ≡ true) → NextFits (message_next p behind box v)
        message_next_fits box Null e typed = asked_raises cause.Null
        message_next_fits box (Ref root) e typed = put_fits box root (shape_of p h root) e (typed root refl)
        message_next_fits box _ e typed = tt

        put_wait_fits : (box : BoxName) (root : ℕ) (o : Option (List Token)) → On of behind → is_of p (of root) (class_type (n + 2)) ≡ true → NextFits (put_wait_next behind box root o)
        put_wait_fits box root None e typed = over_fits behind cause.Large asks.heap fresh
        put_wait_fits box root (Some shape) e typed = (e, typed)

        wait_next_fits : (box : BoxName) (v : Value) → On of behind → ((root : ℕ) → v ≡ Ref root → is_of p (of root) (class_type (n + 2)) ≡ true) → NextFits (wait_next p behind box v)
        wait_next_fits box Null e typed = asked_raises cause.Null
        wait_next_fits box (Ref root) e typed = put_wait_fits box root (shape_of p h root) e (typed root refl)
        wait_next_fits box _ e typed = tt

        bound_next_fits : (box : BoxName) (i : ℤ) → On of behind → NextFits (bound_next p behind box i)
        bound_next_fits box (pos (suc i)) e = e
        bound_next_fits box (pos zero) e = asked_raises cause.Size
        bound_next_fits box (negsuc i) e = asked_raises cause.Size

        start_fits : (root : ℕ) (o : Option (List Token)) → On of behind → is_of p (of root) (class_type (n + 4)) ≡ true → NextFits (start_next behind root o)
        start_fits root None e typed = over_fits behind cause.Large asks.heap fresh
        start_fits root (Some shape) e typed = (e, typed)

        print_fits : (o : Option Token) → On of behind → NextFits (print_next behind o)
        print_fits None e = tt
        print_fits (Some token) e = e

        arg_fits : (o : Option ℤ) → ((x : ℤ) → On of (pushed (Int x) behind)) → NextFits (arg_next p behind o)
        arg_fits None e = asked_raises cause.Index
        arg_fits (Some x) e = same_further (pushed (Int x) behind) (e x)

      message_typed : PutIs n asks.callee → (box : BoxName) (v : Value) → args ≡ Box box ∷ v ∷ [] → (root : ℕ) → v ≡ Ref root → is_of p (of root) (class_type (n + 2)) ≡ true
      message_typed put box v own root same =
          let types : native_types asks.callee ≡ Object (class_type (n + 5)) ∷ Object (class_type (n + 2)) ∷ [] =
          ap (λ (z : Bool). cond z [] (class_vtype asks.callee.owner ∷ []) ++ map vtype asks.callee.params) put.instance ∙ (ap (λ (c : ClassId). class_vtype c ∷ map vtype asks.callee.params) put.owner ∙ ap (λ (tys : List Ty). Object (class_type (n + 5)) ∷ map vtype tys) put.params) in
          let typed : have_types p asks.callee of (Object (class_type (n + 5)) ∷ Object (class_type (n + 2)) ∷ []) (Box box ∷ Ref root ∷ []) ≡ true =
          subst (λ (ts : List VType). have_types p asks.callee of ts (Box box ∷ Ref root ∷ []) ≡ true) types (subst (λ (v : Value). have_types p asks.callee of (native_types asks.callee) (Box box ∷ v ∷ []) ≡ true) same (subst (λ (vs : List Value). have_types p asks.callee of (native_types asks.callee) vs ≡ true) own asks.arguments)) in
          let a = and_parts (has_type p asks.callee of (Object (class_type (n + 5))) (Box box)) _ typed in
          (and_parts (is_of p (of root) (class_type (n + 2))) true a.1).0

      task_typed : native_of p id ≡ Some native.Start → (root : ℕ) → args ≡ Ref root ∷ [] → is_of p (of root) (class_type (n + 4)) ≡ true
      task_typed known root own =
          let start = native_takes p is.keeps is.form id asks.callee native.Start asks.there asks.built_in known in
          let types : native_types asks.callee ≡ Object (class_type (n + 4)) ∷ [] =
          ap (λ (z : Bool). cond z [] (class_vtype asks.callee.owner ∷ []) ++ map vtype asks.callee.params) start.instance ∙ (ap (λ (c : ClassId). class_vtype c ∷ map vtype asks.callee.params) start.owner ∙ ap (λ (tys : List Ty). Object (class_type (n + 4)) ∷ map vtype tys) start.params) in
          let typed : have_types p asks.callee of (Object (class_type (n + 4)) ∷ []) (Ref root ∷ []) ≡ true =
          subst (λ (ts : List VType). have_types p asks.callee of ts (Ref root ∷ []) ≡ true) types (subst (λ (vs : List Value). have_types p asks.callee of (native_types asks.callee) vs ≡ true) own asks.arguments) in
          (and_parts (is_of p (of root) (class_type (n + 4))) true typed).0

      native_fits : (k : Native) (own : List Value) → args ≡ own → native_of p id ≡ Some k → NextFits (native_next set behind k own)
      native_fits native.Execute (Ref q ∷ []) own known = same_further behind (without_result native.Execute known refl)
      native_fits native.Start (Ref q ∷ []) own known = start_fits native.Start known q (shape_of p h q) (without_result native.Start known refl) (task_typed known q own)
      native_fits native.Put (Box box ∷ v ∷ []) own known = message_next_fits native.Put known box v (without_result native.Put known refl) (message_typed (native_takes p is.keeps is.form id asks.callee native.Put asks.there asks.built_in known) box v own)
      native_fits native.PutWait (Box box ∷ v ∷ []) own known = wait_next_fits native.PutWait known box v (without_result native.PutWait known refl) (message_typed (native_takes p is.keeps is.form id asks.callee native.PutWait asks.there asks.built_in known) box v own)
      native_fits native.Bound (Box box ∷ Int i ∷ []) own known = bound_next_fits native.Bound known box i (without_result native.Bound known refl)
      native_fits native.Get (Box box ∷ []) own known = with_message native.Get known refl
      native_fits native.Getnb (Box box ∷ []) own known = with_message native.Getnb known refl
      native_fits native.Print (v ∷ []) own known = print_fits native.Print known (printed v) (without_result native.Print known refl)
      native_fits native.Yield [] own known = same_further behind (without_result native.Yield known refl)
      native_fits native.ArgCount [] own known = same_further _ (with_int native.ArgCount known _ refl)
      native_fits native.Arg (Int i ∷ []) own known = arg_fits native.Arg known (arg_at set.limits.args i) (λ x. with_int native.Arg known x refl)
      native_fits _ _ own known = tt

      asks_fit : (o : Option Native) → native_of p id ≡ o → NextFits (asks_next set behind args o)
      asks_fit None known = tt
      asks_fit (Some k) known = native_fits k args refl known

    -- ---- moves

    opens_fit : (frames : List Activation) (h : Objects) → MoveFits p typing live of (move.Opens frames h) → NextFits (opens_next t (on_heap l h) frames done boxes)
    opens_fit frames h m = by (nat_lt boxes box_limit)
      where
        by : (z : Bool) → NextFits (cond z (Goes (went (on_heap l h) (push_value (Box (record { task = t; number = boxes })) frames) done (boxes + 1))) (over (on_heap l h) cause.Boxes))
        by true = same_further _ (on_frames (push_value (Box (record { task = t; number = boxes })) frames) h (boxes + 1) (answers.opened of frames h (record { task = t; number = boxes }) m))
        by false = over_fits (on_heap l h) cause.Boxes m.1 fresh

    begins_fit : (h : Objects) → HeapFits p of h → (o : Option (List Activation)) → ((frames : List Activation) → o ≡ Some frames → Fits p typing live of frames h) → NextFits (begins_next (on_heap l h) done boxes o)
    begins_fit h heap None begun = tt
    begins_fit h heap (Some []) begun = over_fits (on_heap l h) cause.Done heap fresh
    begins_fit h heap (Some (frame ∷ frames)) begun = same_further _ (record { fits = begun (frame ∷ frames) refl; fresh = fresh; kept = λ q e. absurd (cc) })

    finish_fits : (h : Objects) → HeapFits p of h → (o : Option ℕ) → l.kept ≡ o → NextFits (finish_next set (on_heap l h) done boxes o)
    finish_fits h heap None e = over_fits (on_heap l h) cause.Done heap fresh
    finish_fits h heap (Some q) e =
        let a = and_parts (is_concrete (class_at p set.main)) _ main in
        let b = and_parts (is_task p set.main) _ a.1 in
        begins_fit h heap (begun_on p (execute_of p set.main) q) (λ frames begun. execute_begins p is.keeps is.form typing live is.verified of h heap set.main q frames a.0 b.0 (kept q e) begun)

    move_next : (top : Activation) (below : List Activation) → Fits p typing live of (top ∷ below) l.heap → (m : Move) → MoveFits p typing live of m → NextFits (next_by set t l done boxes top below m)
    move_next top below fits (move.Runs change frames h) m = same_further _ (on_frames frames h boxes (record { frames = m.0; heap = m.1 }))
    move_next top below fits (move.Makes object frames h) m = record {
      more = with_class of l.next object.class;
      grows = one_extends of l.next object.class (fresh l.next (omega arith));
      is = record {
        fits = answers.added of object frames h l.next (fresh l.next (omega arith)) m;
        fresh = one_fresh of l.next object.class fresh;
        kept = λ q e. one_extends of l.next object.class (fresh l.next (omega arith)) q (class_type set.main.0) (kept q e);
      };
    }
    move_next top below fits (move.Opens frames h) m = opens_fit frames h m
    move_next top below fits (move.Asks id args frames h) m = asks_fit id args frames h m (native_of p id) refl
    move_next top below fits (move.Returns h) m = finish_fits h m l.kept refl
    move_next top below fits (move.Raises why) m = raises_has NextFits p l why (over_fits l why fits.heap fresh) done boxes top below (λ c e f fs left.
        further_made c l.heap f fs (done + 1) ((all_raises_fit p typing live is.keeps is.verified).raised of top below l.heap fits (index_at p top) (index_is p top) why c e l.next (fresh l.next (omega arith)) f fs left))
    move_next top below fits (move.Throws q class why) m = throws_has NextFits p l why (over_fits l why fits.heap fresh) (done + 1) boxes (thrown p class (Ref q) top below) (λ f fs left.
        same_further _ (record { fits = subst (λ (frames : List Activation). Fits p typing live of frames l.heap) left (throws_fit p typing live of is.keeps is.verified top below l.heap fits class q m.0 m.1); fresh = fresh; kept = kept }))
    move_next top below fits (move.Ends c) m = over_fits l c fits.heap fresh
    move_next top below fits move.Stuck m = absurd m

    frames_next_fits : (frames : List Activation) → Fits p typing live of frames l.heap → TopIsThere l.heap frames → NextFits (frames_next set t l frames done boxes)
    frames_next_fits [] f there = over_fits l cause.Done f.heap fresh
    frames_next_fits (top ∷ below) f there = move_next top below f (moves p top below l.heap) (moves_fit p typing live of (facts_hold p is.keeps) is.verified top below l.heap f there)

  pub next_fits : (t : ℕ) (l : Lone) → On of l → StackIsThere l → NextFits (next_move set t l)
  unfolding next_move
  next_fits t l on there = by l.thread on.fits there
    where
      alive : (z : Bool) (frames : List Activation) (done boxes : ℕ) → Fits p typing live of frames l.heap → TopIsThere l.heap frames → NextFits (cond z (over l cause.Spent) (frames_next set t l frames done boxes))
      alive true frames done boxes f there = over_fits l cause.Spent f.heap on.fresh
      alive false frames done boxes f there = frames_next_fits t l on.fresh on.kept done boxes frames f there

      by : (th : Thread) → Fits p typing live of (frames_of th) l.heap → TopIsThere l.heap (frames_of th) → NextFits (thread_next set t l th)
      by (Ended c) f there = tt
      by (Alive frames done boxes) f there = alive (nat_le set.limits.steps done) frames done boxes f there
