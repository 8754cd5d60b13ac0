-- A thread that fits goes on fitting: its moves, and what others decide.
use Rattle.std.proofs.Common.{◌≡◌, ℕ, zero, suc, ◌+◌, ◌≤◌, ℤ, Bool, true, false, cond, eqb, List, [], ◌∷◌, length, Option, Some, None, refl, sym, ap, subst, ◌∙◌, arith}
use Rattle.std.specs.Prelude.{◌||◌, pos, negsuc, nat_le, nat_lt, codes}
use Rattle.std.specs.List.{list_any}
use Rattle.std.specs.Str.{bytes_eq}
use Rattle.std.proofs.lemmas.Bool.{and_parts, and_from, eqb-true, or_left}
use Rattle.kilim_program.specs.declared.class.Class.{Class}
use Rattle.kilim_program.specs.declared.class.Form.TheVariants.{Plain}
use Rattle.kilim_program.specs.declared.class.Method.{Method}
use Rattle.kilim_program.specs.declared.names.BoxName.{BoxName}
use Rattle.kilim_program.specs.declared.names.ClassId.{ClassId}
use Rattle.kilim_program.specs.declared.names.MethodId.{MethodId}
use Rattle.kilim_program.specs.declared.ty.Base.{Base}
use Rattle.kilim_program.specs.declared.ty.Base.TheVariants as base
use Rattle.kilim_program.specs.declared.ty.Ty.{Ty}
use Rattle.kilim_program.specs.declared.value.Value.{Value}
use Rattle.kilim_program.specs.declared.value.Value.TheVariants.{Int, Null, Ref, Box}
use Rattle.kilim_program.specs.BuiltIn.{class_id, class_type, int_type}
use Rattle.kilim_program.specs.Fits.{fits_type, is_named}
use Rattle.kilim_program.specs.Keeps.{Keeps}
use Rattle.kilim_program.specs.Kinds.{is_marked, is_message}
use Rattle.kilim_program.specs.Names.{class_at, is_task, line_of}
use Rattle.kilim_program.specs.Program.{Program}
use Rattle.kilim_run_state.specs.declared.cause.EndCause.{EndCause}
use Rattle.kilim_run_state.specs.declared.cause.EndCause.TheVariants as cause
use Rattle.kilim_run_state.specs.declared.value.Object.{Object}
use Rattle.kilim_run_state.specs.declared.value.Token.{Token}
use Rattle.kilim_run_state.specs.Machine.{Objects, Activation}
use Rattle.kilim_program.specs.Members.{execute_of, is_concrete}
use Rattle.kilim_run_machine.specs.Moves.{Move, moves, push_value}
use Rattle.kilim_run_machine.specs.Moves as move
use Rattle.kilim_run_machine.specs.Natives.{Native, native_of}
use Rattle.kilim_run_machine.specs.Raising.{index_at, other_index, raised_class, thrown, unwound}
use Rattle.kilim_run_machine.specs.Natives as native
use Rattle.kilim_run_state.specs.Objects.{new_object}
use Rattle.kilim_run_state.specs.Shapes.{shape_of}
use Rattle.std.specs.FinMap.{insert}
use Rattle.kilim_run_state.specs.Trees.{OfMessage, built, is_root, tree_names, with_objects, without}
use Rattle.kilim_run_journal.specs.declared.entry.Act.{Act}
use Rattle.kilim_run_journal.specs.declared.entry.Act.TheVariants.{Put, Take, Empty, Start, Print, End, Bound}
use Rattle.kilim_run_model.specs.State.{Setting, Thread, Alive, Ended, begun_on, is_fit}
use Rattle.kilim_run_model.specs.Lone.{Lone, Next, Goes, Puts, PutWaits, Bounds, Gets, Probes, Starts, Prints, Ends, Stands, arg_at, arg_next, asks_next, begins_next, box_limit, ended, finish_next, frames_next, made_at, message_next, native_next, next_by, next_move, on_heap, opens_next, over, print_next, printed, pushed, put_next, raised, put_wait_next, bound_next, start_next, thread_next, wait_next, went}
use Rattle.kilim_type_sound.proofs.Caught.{all_raises_fit, index_is, other_is, throws_fit}
use Rattle.kilim_type_sound.proofs.Raised.{of_has, raises_has, throws_has}
use Rattle.kilim_run_model.specs.Course.{Done, done_by, fills_deed, probes_deed, puts_deed, received, starts_deed, takes_deed, tree_came, tree_left}
use Rattle.kilim_run_model.specs.declared.deed.Deed.{Deed}
use Rattle.kilim_type_spec.specs.Step.{vtype}
use Rattle.kilim_type_sound.specs.Fits.{Classes, Fits, HeapFits, Typing, Wanted, has_type, is_of}
use Rattle.kilim_type_sound.specs.Law.{AnswersFit, Extends, with_class}
use Rattle.kilim_type_sound.specs.Sound.{AsksFit, MoveFits}
use Rattle.kilim_type_sound.proofs.BuiltInMembers.{NamedAt, named_at}
use Rattle.kilim_type_sound.proofs.Grounds.{facts_hold}
use Rattle.kilim_type_sound.proofs.Grown.{all_answers_fit}
use Rattle.kilim_type_sound.proofs.Theorem.{moves_fit}
use Rattle.kilim_isolation_laws.specs.typed_threads.fine.Typed.{FitsAs, IsVerified, StackIsThere, TopIsThere, frames_of}
use Rattle.kilim_isolation_laws.proofs.typed_threads.fine.Natives.{first, gives, native_gives}
use Rattle.kilim_isolation_laws.specs.typed_threads.Typed.{Further}
use Rattle.kilim_isolation_laws.specs.typed_threads.Law.{DeedsStayTyped, MovesStayTyped}
use Rattle.kilim_isolation_laws.proofs.typed_threads.Booting.{line_begins}
use Rattle.kilim_isolation_laws.proofs.typed_threads.Came.{came_fit, classes_extend, classes_fresh, classes_placed, left_old, one_extends, one_fresh, with_classes}
use Rattle.kilim_isolation_laws.proofs.typed_threads.Executing.{execute_begins}
use Rattle.kilim_isolation_laws.proofs.typed_threads.Read.{Placed, built_is}

some_same : {A : Type 0} (x y : A) → Some x ≡ Some y → x ≡ y
some_same x y e = cc

some_class : (o : Option Class) (test : Option Class → Bool) → test None ≡ false → test o ≡ true → (class : Class) × (o ≡ Some class)
some_class None test none e = absurd (cc)
some_class (Some class) test none e = (class, refl)

message_at : (a b : ℕ) → NamedAt Plain a b 2 (codes "kilim/Message")
message_at a b = record { class = _; at = refl; is = refl }

-- ---- a message's class

module _ (p : Program) (keeps : Keeps p) (form : p.form ≡ Plain) where
  abbrev message_type : Ty
  message_type = class_type (first p keeps form + 2)

  message_name : is_named p (codes "kilim/Message") (class_id (first p keeps form + 2)) ≡ true
  message_name = ap (λ (x : List ℕ). bytes_eq x (codes "kilim/Message")) (named_at p keeps Plain form 2 (codes "kilim/Message") (message_at (first p keeps form) (length keeps.built_in.own_methods)))

  or_right : (a b : Bool) → b ≡ true → (a || b) ≡ true
  or_right true b e = refl
  or_right false b e = e

  marked : (o : Option Class) → (elim o [ None ↦ false | Some class ↦ class.message ]) ≡ is_marked o
  marked None = refl
  marked (Some class) = refl

  message_fits : (d : ℕ) (b : Base) → is_root p OfMessage (record { dims = d; base = b }) ≡ true → fits_type p (record { dims = d; base = b }) message_type ≡ true
  unfolding fits_type
  message_fits zero (base.Class c) e =
      let is : is_message p c ≡ true = sym (marked (class_at p c)) ∙ e in
      let class = some_class (class_at p c) is_marked refl is in
      let line = line_begins p keeps form c class.0 class.1 in
      let any : list_any (is_message p) (line_of p c) ≡ true = ap (λ (ds : List ClassId). list_any (is_message p) ds) line.1 ∙ or_left (is_message p c) (list_any (is_message p) line.0) is in
      or_right (list_any (λ d. eqb d.0 (first p keeps form + 2)) (line_of p c)) _ (or_right (is_named p (codes "java/lang/Object") (class_id (first p keeps form + 2))) _ (and_from _ _ message_name any))
  message_fits (suc d) b e = absurd (let z = eqb-true (suc d) 0 (and_parts (eqb (suc d) 0) _ e).0 in omega (arith, z))
  message_fits zero base.Bool e = absurd (cc)
  message_fits zero base.Byte e = absurd (cc)
  message_fits zero base.Char e = absurd (cc)
  message_fits zero base.Short e = absurd (cc)
  message_fits zero base.Int e = absurd (cc)
  message_fits zero base.Long e = absurd (cc)

module _ (set : Setting) (typing : Typing) (live : Wanted) (of : Classes) (is : IsVerified set typing live) (main : is_fit set ≡ true) where
  abbrev p : Program
  p = set.program

  abbrev n : ℕ
  n = first p is.keeps is.form

  abbrev On : Classes → Lone → Type 0
  On more l = FitsAs set typing live more l

  answers : AnswersFit p typing live
  answers = all_answers_fit p typing live (facts_hold p is.keeps)

  -- ---- what a thread does next

  -- a message, or null
  abbrev IsMessageValue : Classes → Value → Type 0
  IsMessageValue more v = (m : Method) → has_type p m more (vtype (class_type (n + 2))) v ≡ true

  -- it fits, with any message on its stack
  record Waits (after : Lone) : Type 0 where
    comes : (more : Classes) (v : Value) (h : Objects) (next : ℕ) → Extends of more → HeapFits p more h → ((q : ℕ) → next ≤ q → more q ≡ None) → IsMessageValue more v → On more (pushed v (record after { heap = h; next = next }))
    heap : HeapFits p of after.heap
    fresh : (q : ℕ) → after.next ≤ q → of q ≡ None

  abbrev NextFits : Next → Type 0
  NextFits (Goes after) = Further set typing live of after
  NextFits (Puts box root shape after) = On of after
  NextFits (PutWaits box root shape after) = On of after
  NextFits (Bounds box most after) = On of after
  NextFits (Gets box after) = Waits after
  NextFits (Probes box after) = Waits after
  NextFits (Starts root shape after) = On of after
  NextFits (Prints token after) = On of after
  NextFits (Ends cause after) = On of after
  NextFits Stands = Unit {0}

  over_fits : (l : Lone) (c : EndCause) → HeapFits p of l.heap → ((q : ℕ) → l.next ≤ q → of q ≡ None) → On of (ended l c)
  over_fits l c heap fresh = record { fits = record { frames = tt; heap = heap }; fresh = fresh; kept = λ q e. absurd (cc) }

  same_further : (l : Lone) → On of l → Further set typing live of l
  same_further l e = record { more = of; grows = λ q c f. f; is = e }

  module _ (t : ℕ) (l : Lone) (fresh : (q : ℕ) → l.next ≤ q → of q ≡ None) (kept : (q : ℕ) → l.kept ≡ Some q → of q ≡ Some (class_type set.main.0)) (done boxes : ℕ) where
    on_frames : (frames : List Activation) (h : Objects) (more-boxes : ℕ) → Fits p typing live of frames h → On of (went (on_heap l h) frames done more-boxes)
    on_frames frames h more-boxes f = record { fits = f; fresh = fresh; kept = kept }

    -- with the object that is made for what is raised
    further_made : (c : ClassId) (h : Objects) (f : Activation) (fs : List Activation) (count : ℕ) → Fits p typing live (with_class of l.next (class_type c.0)) (f ∷ fs) (insert h l.next (new_object p c)) → Further set typing live of (made_at (on_heap l h) (new_object p c) (f ∷ fs) count boxes)
    further_made c h f fs count fits = record {
      more = with_class of l.next (class_type c.0);
      grows = one_extends of l.next (class_type c.0) (fresh l.next (omega arith));
      is = record { fits = fits; fresh = one_fresh of l.next (class_type c.0) fresh; kept = λ q e. one_extends of l.next (class_type c.0) (fresh l.next (omega arith)) q (class_type set.main.0) (kept q e) };
    }

    -- ---- a built-in method that is handed out

    module _ (id : MethodId) (args : List Value) (frames : List Activation) (h : Objects) (asks : AsksFit p typing live of id args frames h) where
      abbrev behind : Lone
      behind = went (on_heap l h) frames done boxes

      -- what is raised for a cause, behind the call
      asked_raises : (why : EndCause) → NextFits (raised p behind why)
      asked_raises why = of_has NextFits p behind why (over_fits behind why asks.heap fresh) (done + 1) boxes (λ c. unwound p c (Ref l.next) frames) (raised_class p other_index why) (λ c e f fs left.
          further_made c h f fs (done + 1) ((all_raises_fit p typing live is.keeps is.verified).asked of id args frames h asks other_index other_is why c e l.next (fresh l.next (omega arith)) f fs left))

      module _ (k : Native) (known : native_of p id ≡ Some k) where
        result : asks.callee.result ≡ gives n k
        result = native_gives p is.keeps is.form id asks.callee k asks.there asks.built_in known

        without_result : gives n k ≡ None → On of behind
        without_result none = on_frames frames h boxes (answers.done of id args frames h asks.callee asks.there (result ∙ none) asks)

        with_int : (x : ℤ) → gives n k ≡ Some int_type → On of (pushed (Int x) behind)
        with_int x some = record { fits = answers.answered of of id args frames h asks.callee int_type (Int x) asks.there (result ∙ some) (λ q c e. e) refl asks h asks.heap; fresh = fresh; kept = kept }

        with_message : gives n k ≡ Some (class_type (n + 2)) → Waits behind
        with_message some = record {
          comes = λ more v later next grows heap new typed. record {
            fits = answers.answered of more id args frames h asks.callee (class_type (n + 2)) v asks.there (result ∙ some) grows (typed asks.callee) asks later heap;
            fresh = new;
            kept = λ q e. grows q (class_type set.main.0) (kept q e);
          };
          heap = asks.heap;
          fresh = fresh;
        }

        put_fits : (box : BoxName) (root : ℕ) (o : Option (List Token)) → On of behind → NextFits (put_next behind box root o)
        put_fits box root None e = over_fits behind cause.Large asks.heap fresh
        put_fits box root (Some shape) e = e

        message_next_fits : (box : BoxName) (v : Value) → On of behind → NextFits (message_next p behind box v)
        message_next_fits box Null e = asked_raises cause.Null
        message_next_fits box (Ref root) e = put_fits box root (shape_of p h root) e
        message_next_fits box _ e = tt

        put_wait_fits : (box : BoxName) (root : ℕ) (o : Option (List Token)) → On of behind → NextFits (put_wait_next behind box root o)
        put_wait_fits box root None e = over_fits behind cause.Large asks.heap fresh
        put_wait_fits box root (Some shape) e = e

        wait_next_fits : (box : BoxName) (v : Value) → On of behind → NextFits (wait_next p behind box v)
        wait_next_fits box Null e = asked_raises cause.Null
        wait_next_fits box (Ref root) e = put_wait_fits box root (shape_of p h root) e
        wait_next_fits box _ e = tt

        bound_next_fits : (box : BoxName) (i : ℤ) → On of behind → NextFits (bound_next p behind box i)
        bound_next_fits box (pos (suc i)) e = e
        bound_next_fits box (pos zero) e = asked_raises cause.Size
        bound_next_fits box (negsuc i) e = asked_raises cause.Size

        start_fits : (root : ℕ) (o : Option (List Token)) → On of behind → NextFits (start_next behind root o)
        start_fits root None e = over_fits behind cause.Large asks.heap fresh
        start_fits root (Some shape) e = e

        print_fits : (o : Option Token) → On of behind → NextFits (print_next behind o)
        print_fits None e = tt
        print_fits (Some token) e = e

        arg_fits : (o : Option ℤ) → ((x : ℤ) → On of (pushed (Int x) behind)) → NextFits (arg_next p behind o)
        arg_fits None e = asked_raises cause.Index
        arg_fits (Some x) e = same_further (pushed (Int x) behind) (e x)

      native_fits : (k : Native) (own : List Value) → native_of p id ≡ Some k → NextFits (native_next set behind k own)
      native_fits native.Execute (Ref q ∷ []) known = same_further behind (without_result native.Execute known refl)
      native_fits native.Start (Ref q ∷ []) known = start_fits native.Start known q (shape_of p h q) (without_result native.Start known refl)
      native_fits native.Put (Box box ∷ v ∷ []) known = message_next_fits native.Put known box v (without_result native.Put known refl)
      native_fits native.PutWait (Box box ∷ v ∷ []) known = wait_next_fits native.PutWait known box v (without_result native.PutWait known refl)
      native_fits native.Bound (Box box ∷ Int i ∷ []) known = bound_next_fits native.Bound known box i (without_result native.Bound known refl)
      native_fits native.Get (Box box ∷ []) known = with_message native.Get known refl
      native_fits native.Getnb (Box box ∷ []) known = with_message native.Getnb known refl
      native_fits native.Print (v ∷ []) known = print_fits native.Print known (printed v) (without_result native.Print known refl)
      native_fits native.Yield [] known = same_further behind (without_result native.Yield known refl)
      native_fits native.ArgCount [] known = same_further _ (with_int native.ArgCount known _ refl)
      native_fits native.Arg (Int i ∷ []) known = arg_fits native.Arg known (arg_at set.limits.args i) (λ x. with_int native.Arg known x refl)
      native_fits _ _ known = tt

      asks_fit : (o : Option Native) → native_of p id ≡ o → NextFits (asks_next set behind args o)
      asks_fit None known = tt
      asks_fit (Some k) known = native_fits k args known

    -- ---- moves

    opens_fit : (frames : List Activation) (h : Objects) → MoveFits p typing live of (move.Opens frames h) → NextFits (opens_next t (on_heap l h) frames done boxes)
    opens_fit frames h m = by (nat_lt boxes box_limit)
      where
        by : (z : Bool) → NextFits (cond z (Goes (went (on_heap l h) (push_value (Box (record { task = t; number = boxes })) frames) done (boxes + 1))) (over (on_heap l h) cause.Boxes))
        by true = same_further _ (on_frames (push_value (Box (record { task = t; number = boxes })) frames) h (boxes + 1) (answers.opened of frames h (record { task = t; number = boxes }) m))
        by false = over_fits (on_heap l h) cause.Boxes m.1 fresh

    begins_fit : (h : Objects) → HeapFits p of h → (o : Option (List Activation)) → ((frames : List Activation) → o ≡ Some frames → Fits p typing live of frames h) → NextFits (begins_next (on_heap l h) done boxes o)
    begins_fit h heap None begun = tt
    begins_fit h heap (Some []) begun = over_fits (on_heap l h) cause.Done heap fresh
    begins_fit h heap (Some (frame ∷ frames)) begun = same_further _ (record { fits = begun (frame ∷ frames) refl; fresh = fresh; kept = λ q e. absurd (cc) })

    finish_fits : (h : Objects) → HeapFits p of h → (o : Option ℕ) → l.kept ≡ o → NextFits (finish_next set (on_heap l h) done boxes o)
    finish_fits h heap None e = over_fits (on_heap l h) cause.Done heap fresh
    finish_fits h heap (Some q) e =
        let a = and_parts (is_concrete (class_at p set.main)) _ main in
        let b = and_parts (is_task p set.main) _ a.1 in
        begins_fit h heap (begun_on p (execute_of p set.main) q) (λ frames begun. execute_begins p is.keeps is.form typing live is.verified of h heap set.main q frames a.0 b.0 (kept q e) begun)

    move_next : (top : Activation) (below : List Activation) → Fits p typing live of (top ∷ below) l.heap → (m : Move) → MoveFits p typing live of m → NextFits (next_by set t l done boxes top below m)
    move_next top below fits (move.Runs change frames h) m = same_further _ (on_frames frames h boxes (record { frames = m.0; heap = m.1 }))
    move_next top below fits (move.Makes object frames h) m = record {
      more = with_class of l.next object.class;
      grows = one_extends of l.next object.class (fresh l.next (omega arith));
      is = record {
        fits = answers.added of object frames h l.next (fresh l.next (omega arith)) m;
        fresh = one_fresh of l.next object.class fresh;
        kept = λ q e. one_extends of l.next object.class (fresh l.next (omega arith)) q (class_type set.main.0) (kept q e);
      };
    }
    move_next top below fits (move.Opens frames h) m = opens_fit frames h m
    move_next top below fits (move.Asks id args frames h) m = asks_fit id args frames h m (native_of p id) refl
    move_next top below fits (move.Returns h) m = finish_fits h m l.kept refl
    move_next top below fits (move.Raises why) m = raises_has NextFits p l why (over_fits l why fits.heap fresh) done boxes top below (λ c e f fs left.
        further_made c l.heap f fs (done + 1) ((all_raises_fit p typing live is.keeps is.verified).raised of top below l.heap fits (index_at p top) (index_is p top) why c e l.next (fresh l.next (omega arith)) f fs left))
    move_next top below fits (move.Throws thing class why) m = throws_has NextFits p l why (over_fits l why fits.heap fresh) (done + 1) boxes (thrown p class (Ref thing) top below) (λ f fs left.
        same_further _ (record { fits = subst (λ (frames : List Activation). Fits p typing live of frames l.heap) left (throws_fit p typing live of is.keeps is.verified top below l.heap fits class thing m.0 m.1); fresh = fresh; kept = kept }))
    move_next top below fits (move.Ends c) m = over_fits l c fits.heap fresh
    move_next top below fits move.Stuck m = absurd m

    frames_next_fits : (frames : List Activation) → Fits p typing live of frames l.heap → TopIsThere l.heap frames → NextFits (frames_next set t l frames done boxes)
    frames_next_fits [] f there = over_fits l cause.Done f.heap fresh
    frames_next_fits (top ∷ below) f there = move_next top below f (moves p top below l.heap) (moves_fit p typing live of (facts_hold p is.keeps) is.verified top below l.heap f there)

  next_fits : (t : ℕ) (l : Lone) → On of l → StackIsThere l → NextFits (next_move set t l)
  unfolding next_move
  next_fits t l on there = by l.thread on.fits there
    where
      alive : (z : Bool) (frames : List Activation) (done boxes : ℕ) → Fits p typing live of frames l.heap → TopIsThere l.heap frames → NextFits (cond z (over l cause.Spent) (frames_next set t l frames done boxes))
      alive true frames done boxes f there = over_fits l cause.Spent f.heap on.fresh
      alive false frames done boxes f there = frames_next_fits t l on.fresh on.kept done boxes frames f there

      by : (th : Thread) → Fits p typing live of (frames_of th) l.heap → TopIsThere l.heap (frames_of th) → NextFits (thread_next set t l th)
      by (Ended c) f there = tt
      by (Alive frames done boxes) f there = alive (nat_le set.limits.steps done) frames done boxes f there

  -- ---- what others decide

  tree_left_fits : (root : ℕ) (l : Lone) → On of l → On of (tree_left p root l)
  tree_left_fits root l on = record { fits = answers.gone of (frames_of l.thread) l.heap (without l.heap (tree_names p l.heap root)) (left_old l.heap (tree_names p l.heap root)) on.fits; fresh = on.fresh; kept = on.kept }

  abbrev Did : Option Done → Act → Lone → Type 0
  Did o act after = o ≡ Some (record { act = act; after = after })

  after_is : (a b : Act) (l m : Lone) → Did (Some (record { act = a; after = l })) b m → l ≡ m
  after_is a b l m e = ap (λ (d : Done). d.after) (some_same (record { act = a; after = l }) (record { act = b; after = m }) e)

  did_fits : (a b : Act) (l m : Lone) → Did (Some (record { act = a; after = l })) b m → Further set typing live of l → Further set typing live of m
  did_fits a b l m e f = subst (λ (x : Lone). Further set typing live of x) (after_is a b l m e) f

  puts_fit : (box : BoxName) (root : ℕ) (shape : List Token) (l : Lone) (own act : Act) (after : Lone) → On of l → Did (puts_deed p box root shape l own) act after → Further set typing live of after
  puts_fit box root shape l (Put b q s) act after on e = did_fits (Put box q shape) act (tree_left p root l) after e (same_further (tree_left p root l) (tree_left_fits root l on))
  puts_fit box root shape l _ act after on e = absurd (cc)

  -- a put that a full mailbox ends
  fills_fit : (box : BoxName) (root : ℕ) (shape : List Token) (l : Lone) (own act : Act) (after : Lone) → On of l → Did (fills_deed p box root shape l own) act after → Further set typing live of after
  fills_fit box root shape l (Put b q s) act after on e = puts_fit box root shape l (Put b q s) act after on e
  fills_fit box root shape l (End why) act after on e = did_fits (End cause.Full) act (ended l cause.Full) after e (same_further (ended l cause.Full) (over_fits l cause.Full on.fits.heap on.fresh))
  fills_fit box root shape l _ act after on e = absurd (cc)

  starts_fit : (root : ℕ) (shape : List Token) (l : Lone) (own act : Act) (after : Lone) → On of l → Did (starts_deed p root shape l own) act after → Further set typing live of after
  starts_fit root shape l (Start q s) act after on e = did_fits (Start q shape) act (tree_left p root l) after e (same_further (tree_left p root l) (tree_left_fits root l on))
  starts_fit root shape l (End why) act after on e = did_fits (End cause.Tasks) act (ended l cause.Tasks) after e (same_further (ended l cause.Tasks) (over_fits l cause.Tasks on.fits.heap on.fresh))
  starts_fit root shape l _ act after on e = absurd (cc)

  received_fits : (l : Lone) (objects : List Object) (shape : List Token) → Waits l → built p OfMessage l.next shape ≡ Some objects → Further set typing live of (received l objects)
  received_fits l objects shape waits e =
      let b = built_is p OfMessage l.next shape objects e in
      let more = with_classes of l.next objects in
      let placed = classes_placed of l.next objects in
      let here : Placed more l.next (b.first ∷ b.rest) = subst (λ (os : List Object). Placed more l.next os) b.is placed in
      let root : more l.next ≡ Some b.ty = here.0 ∙ ap (λ (c : Ty). Some c) b.class in
      let typed : is_of p (more l.next) (class_type (n + 2)) ≡ true = ap (λ (c : Option Ty). is_of p c (class_type (n + 2))) root ∙ message_fits p is.keeps is.form b.ty.dims b.ty.base b.kind in
      record {
        more = more;
        grows = classes_extend of l.next objects waits.fresh;
        is = waits.comes more (Ref l.next) (with_objects l.heap l.next objects) (l.next + length objects) (classes_extend of l.next objects waits.fresh) (came_fit p of l.heap l.next objects waits.heap waits.fresh (b.fits more placed))
            (classes_fresh of l.next objects waits.fresh) (λ m. typed);
      }

  came_fits : (box : BoxName) (q : ℕ) (l : Lone) (shape : List Token) (o : Option (List Object)) → built p OfMessage l.next shape ≡ o → (act : Act) (after : Lone) → Waits l → Did (tree_came box q l o) act after → Further set typing live of after
  came_fits box q l shape None is act after waits e = absurd (cc)
  came_fits box q l shape (Some objects) is act after waits e = did_fits (Take box q) act (received l objects) after e (received_fits l objects shape waits is)

  takes_fit : (box : BoxName) (l : Lone) (d : Deed) (own act : Act) (after : Lone) → Waits l → Did (takes_deed p box l d own) act after → Further set typing live of after
  takes_fit box l d (Take b q) act after waits e = came_fits box q l d.taken (built p OfMessage l.next d.taken) refl act after waits e
  takes_fit box l d _ act after waits e = absurd (cc)

  probes_fit : (box : BoxName) (l : Lone) (d : Deed) (own act : Act) (after : Lone) → Waits l → Did (probes_deed p box l d own) act after → Further set typing live of after
  probes_fit box l d (Empty b) act after waits e = did_fits (Empty box) act (pushed Null l) after e (same_further (pushed Null l) (waits.comes of Null l.heap l.next (λ q c f. f) waits.heap waits.fresh (λ m. refl)))
  probes_fit box l d (Take b q) act after waits e = takes_fit box l d (Take b q) act after waits e
  probes_fit box l d _ act after waits e = absurd (cc)

  deed_fits : (next : Next) (d : Deed) (act : Act) (after : Lone) → NextFits next → Did (done_by set next d) act after → Further set typing live of after
  deed_fits (Goes l) d act after f e = absurd (cc)
  deed_fits (Puts box root shape l) d act after f e = fills_fit box root shape l d.act act after f e
  deed_fits (PutWaits box root shape l) d act after f e = puts_fit box root shape l d.act act after f e
  deed_fits (Bounds box most l) d act after f e = did_fits (Bound box most) act l after e (same_further l f)
  deed_fits (Gets box l) d act after f e = takes_fit box l d d.act act after f e
  deed_fits (Probes box l) d act after f e = probes_fit box l d d.act act after f e
  deed_fits (Starts root shape l) d act after f e = starts_fit root shape l d.act act after f e
  deed_fits (Prints token l) d act after f e = did_fits (Print (token ∷ [])) act l after e (same_further l f)
  deed_fits (Ends c l) d act after f e = did_fits (End c) act l after e (same_further l f)
  deed_fits Stands d act after f e = absurd (cc)

pub moves_stay_typed : MovesStayTyped
moves_stay_typed set typing live of is main t l after on there e = subst (λ (x : Next). NextFits set typing live of is main x) e (next_fits set typing live of is main t l on there)

pub deeds_stay_typed : DeedsStayTyped
deeds_stay_typed set typing live of is main t l after d act on there e = deed_fits set typing live of is main (next_move set t l) d act after (next_fits set typing live of is main t l on there) e
