-- Where the thread is right before it puts or starts a tree, the tree is whole.
use Rattle.std.proofs.Common.{◌≡◌, cond, ℤ, ℕ, zero, suc, ◌+◌, Bool, true, false, List, [], ◌∷◌, length, Option, Some, None, refl, sym, subst, pos, negsuc}
use Rattle.std.specs.Prelude.{nat_le, nat_lt}
use Rattle.std.proofs.lemmas.Bool.{false≢true}
use Rattle.kilim_program.specs.declared.class.Method.{Method}
use Rattle.kilim_program.specs.declared.instr.Instr.{Instr}
use Rattle.kilim_program.specs.declared.names.BoxName.{BoxName}
use Rattle.kilim_program.specs.declared.names.MethodId.{MethodId}
use Rattle.kilim_program.specs.declared.value.Value.{Value}
use Rattle.kilim_program.specs.declared.value.Value.TheVariants.{Box, Int, Null, Ref}
use Rattle.kilim_program.specs.Names.{method_at}
use Rattle.kilim_run_journal.specs.declared.entry.Act.{Act}
use Rattle.kilim_run_journal.specs.declared.entry.Act.TheVariants.{Empty, End, Put, Start, Take}
use Rattle.kilim_isolation_laws.proofs.kept.Serving.{accepted_is_kept}
use Rattle.kilim_run_state.specs.declared.cause.EndCause.{EndCause}
use Rattle.kilim_run_state.specs.declared.cause.EndCause.TheVariants as cause
use Rattle.kilim_run_state.specs.declared.value.Object.{Object}
use Rattle.kilim_run_state.specs.declared.value.Token.{Token}
use Rattle.kilim_run_machine.specs.Does.{does}
use Rattle.kilim_run_machine.specs.Effect.{Asks, Calls, Effect, Ends, Goes, Makes, Opens, Raises, Throws, Returns, Stuck}
use Rattle.kilim_run_state.specs.Machine.{Activation, Objects}
use Rattle.kilim_run_state.specs.Objects.{new_object}
use Rattle.kilim_run_machine.specs.Raising.{index_at, other_index, raised_class}
use Rattle.kilim_fiber_spec.proofs.lone.Left.{raises_has, thrown_has}
use Rattle.kilim_program.specs.Members.{execute_of}
use Rattle.kilim_run_machine.specs.Moves.{entered, frame_limit, move_by, moves}
use Rattle.kilim_run_machine.specs.Natives.{Native, native_of}
use Rattle.kilim_run_machine.specs.Natives as native
use Rattle.kilim_run_state.specs.Shapes.{shape_of}
use Rattle.kilim_run_state.specs.Trees.{OfMessage, OfTask, Root, built}
use Rattle.kilim_isolation_laws.specs.Laws.{IsRunOfAccepted}
use Rattle.kilim_run_model.specs.declared.deed.Deed.{Deed}
use Rattle.kilim_run_model.specs.Kept.{GivesTree, IsGivenTree, Kept, given}
use Rattle.kilim_run_model.specs.Lone.{arg_at, box_limit, printed}
use Rattle.kilim_run_model.specs.State.{Setting}
use Rattle.kilim_fiber_laws.proofs.woven_served.accepted.Along.{all_of_course}
use Rattle.kilim_fiber_laws.proofs.courses.GoesOn.{goes_on}
use Rattle.kilim_fiber_laws.specs.courses.Law.{IsOfCourse}
use Rattle.kilim_fiber_laws.specs.woven_served.gives.Law.{HandsOut, WovenGives}
use Rattle.kilim_fiber_spec.specs.lone.Law.{lone_at, lone_frames}
use Rattle.kilim_fiber_laws.proofs.woven_served.ready.Whole.{course, tasks_serve}
use Rattle.kilim_fiber_laws.proofs.receivers.Heaps.{KeepsHeap, keeps_heap}
use Rattle.kilim_fiber_laws.proofs.receivers.Held.{effect_is}
use Rattle.kilim_fiber_laws.specs.receivers.Law.{IsBegun}
use Rattle.kilim_fiber_spec.specs.Acts.{Action, Over, Wants, World, acting, asks, counted, ending, gives_arg, last, native_does, prints, probe_by, put_by, puts, puts_value, receives, start_by, starts, take_by, with_heap, put_wait_by, put_waits, waits_value, bounds, with_new}
use Rattle.kilim_fiber_spec.specs.Acts as action
use Rattle.kilim_fiber_spec.specs.Fibers.{frame}
use Rattle.kilim_fiber_spec.specs.Links.{Both, Fw, u_stack, unwoven}
use Rattle.kilim_fiber_spec.specs.Thread.{At, Frame, Run, Stop, Thread, begins, begins_in, effect_does, fetch, finishes, found_does, own_of, push, returns, self_of, step, steps, left_at, left_behind, raised_behind, stands_at}

module _ (set : Setting) where
  abbrev pub Hands : Thread → Type 0
  Hands (Run m p l s x b w) = Unit {0}
  Hands (Stop o) = HandsOut set o

  pub ended : (w : World) (why : EndCause) → Hands (ending set w Stop why)
  ended w why = by w.deeds
    where
      by : (ds : List Deed) → Hands (elim ds [ [] ↦ Stop (action.Wants (action.Ends why) w) | deed ∷ rest ↦ last set w Stop why rest ])
      by [] = tt
      by (d ∷ []) = tt
      by (d ∷ e ∷ rest) = tt

  acted : (w : World) (wish : Action) → HandsOut set (Wants wish w) → (k : Deed → List Deed → Thread) → ((d : Deed) (rest : List Deed) → Hands (k d rest)) → Hands (acting set w Stop wish k)
  acted w wish hands k h = by w.deeds
    where
      by : (ds : List Deed) → Hands (elim ds [ [] ↦ Stop (Wants wish w) | deed ∷ rest ↦ k deed rest ])
      by [] = hands
      by (d ∷ rest) = h d rest

  -- ---- what is raised goes on at a handler, or ends the task

  stands : (f : Frame) (fs : List Frame) (w : World) → Hands (stands_at set f fs w)
  stands (At m p l s x) fs w = tt

  raised_hands : (b : List Frame) (w : World) (why : EndCause) → Hands (raised_behind set b w why)
  raised_hands b w why =
      raises_has set Hands (counted w) why (ended (counted w) why) set.program (λ c. left_behind set.program c (Ref w.next) b) (raised_class set.program other_index why) (λ c f fs e. stands f fs (with_new (counted w) (new_object set.program c)))

  -- ---- what a built-in method does

  module _ (w : World) (m : MethodId) (q : ℕ) (l s : List Value) (x : Value) (b : List Frame) where
    raised_so : (why : EndCause) → Hands (raised_behind set (At m q l s x ∷ b) w why)
    raised_so why = raised_hands (At m q l s x ∷ b) w why

    put_so : (box : BoxName) (shape : List Token) (n : ℕ) (act : Act) (rest : List Deed) → Hands (put_by set w Stop (λ after v. Run m q l (push v s) x b after) box shape n act rest)
    put_so box shape n (Put c k z) rest = tt
    put_so box shape n (End c) [] = tt
    put_so box shape n (End c) (d ∷ rest) = tt
    put_so box shape n act rest = tt

    put_wait_so : (box : BoxName) (shape : List Token) (n : ℕ) (act : Act) (rest : List Deed) → Hands (put_wait_by set w Stop (λ after v. Run m q l (push v s) x b after) box shape n act rest)
    put_wait_so box shape n (Put c k z) rest = tt
    put_wait_so box shape n act rest = tt

    start_so : (shape : List Token) (n : ℕ) (act : Act) (rest : List Deed) → Hands (start_by set w Stop (λ after v. Run m q l (push v s) x b after) shape n act rest)
    start_so shape n (Start t z) rest = tt
    start_so shape n (End c) [] = tt
    start_so shape n (End c) (d ∷ rest) = tt
    start_so shape n act rest = tt

    receives_so : (act : Act) (rest : List Deed) (o : Option (List Object)) → Hands (receives set w Stop (λ after v. Run m q l (push v s) x b after) act rest o)
    receives_so act rest None = tt
    receives_so act rest (Some objects) = tt

    take_so : (box : BoxName) (taken : List Token) (act : Act) (rest : List Deed) → Hands (take_by set w Stop (λ after v. Run m q l (push v s) x b after) box taken act rest)
    take_so box taken (Take c k) rest = receives_so (Take box k) rest (built set.program OfMessage w.next taken)
    take_so box taken act rest = tt

    probe_so : (box : BoxName) (taken : List Token) (act : Act) (rest : List Deed) → Hands (probe_by set w Stop (λ after v. Run m q l (push v s) x b after) box taken act rest)
    probe_so box taken (Empty c) rest = tt
    probe_so box taken act rest = take_so box taken act rest

    puts_so : (box : BoxName) (n : ℕ) → IsGivenTree set.program OfMessage w.heap n → (o : Option (List Token)) → shape_of set.program w.heap n ≡ o → Hands (puts set w Stop (λ after v. Run m q l (push v s) x b after) box n o)
    puts_so box n tree None e = ended w cause.Large
    puts_so box n tree (Some shape) e = by w.deeds
      where
        by : (ds : List Deed) → Hands (elim ds [ [] ↦ Stop (action.Wants (action.Puts box n shape) w) | deed ∷ rest ↦ put_by set w Stop (λ after v. Run m q l (push v s) x b after) box shape n deed.act rest ])
        by [] = record { shaped = e; given = tree }
        by (d ∷ rest) = put_so box shape n d.act rest

    put_waits_so : (box : BoxName) (n : ℕ) → IsGivenTree set.program OfMessage w.heap n → (o : Option (List Token)) → shape_of set.program w.heap n ≡ o → Hands (put_waits set w Stop (λ after v. Run m q l (push v s) x b after) box n o)
    put_waits_so box n tree None e = ended w cause.Large
    put_waits_so box n tree (Some shape) e = by w.deeds
      where
        by : (ds : List Deed) → Hands (elim ds [ [] ↦ Stop (action.Wants (action.PutWaits box n shape) w) | deed ∷ rest ↦ put_wait_by set w Stop (λ after v. Run m q l (push v s) x b after) box shape n deed.act rest ])
        by [] = record { shaped = e; given = tree }
        by (d ∷ rest) = put_wait_so box shape n d.act rest

    wait_so : (box : BoxName) (v : Value) → ((kind : Root) (n : ℕ) → given (Some native.PutWait) (Box box ∷ v ∷ []) ≡ Some (kind, n) → IsGivenTree set.program kind w.heap n) → Hands (waits_value set w Stop (λ after v. Run m q l (push v s) x b after) (raised_behind set (At m q l s x ∷ b) w) box v)
    wait_so box Null g = raised_so cause.Null
    wait_so box (Ref n) g = put_waits_so box n (g OfMessage n refl) (shape_of set.program w.heap n) refl
    wait_so box v g = tt

    bound_so : (box : BoxName) (i : ℤ) → Hands (bounds set w Stop (λ after v. Run m q l (push v s) x b after) (raised_behind set (At m q l s x ∷ b) w) box i)
    bound_so box (pos (suc n)) = acted w (action.Bounds box (suc n)) tt _ (λ d rest. tt)
    bound_so box (pos zero) = raised_so cause.Size
    bound_so box (negsuc n) = raised_so cause.Size

    starts_so : (n : ℕ) → IsGivenTree set.program OfTask w.heap n → (o : Option (List Token)) → shape_of set.program w.heap n ≡ o → Hands (starts set w Stop (λ after v. Run m q l (push v s) x b after) n o)
    starts_so n tree None e = ended w cause.Large
    starts_so n tree (Some shape) e = by w.deeds
      where
        by : (ds : List Deed) → Hands (elim ds [ [] ↦ Stop (action.Wants (action.Starts n shape) w) | deed ∷ rest ↦ start_by set w Stop (λ after v. Run m q l (push v s) x b after) shape n deed.act rest ])
        by [] = record { shaped = e; given = tree }
        by (d ∷ rest) = start_so shape n d.act rest

    message_so : (box : BoxName) (v : Value) → ((kind : Root) (n : ℕ) → given (Some native.Put) (Box box ∷ v ∷ []) ≡ Some (kind, n) → IsGivenTree set.program kind w.heap n) → Hands (puts_value set w Stop (λ after v. Run m q l (push v s) x b after) (raised_behind set (At m q l s x ∷ b) w) box v)
    message_so box Null g = raised_so cause.Null
    message_so box (Ref n) g = puts_so box n (g OfMessage n refl) (shape_of set.program w.heap n) refl
    message_so box v g = tt

    gets_so : (box : BoxName) (ds : List Deed) → Hands (elim ds [ [] ↦ Stop (action.Wants (action.Gets box) w) | deed ∷ rest ↦ take_by set w Stop (λ after v. Run m q l (push v s) x b after) box deed.taken deed.act rest ])
    gets_so box [] = tt
    gets_so box (d ∷ rest) = take_so box d.taken d.act rest

    probes_so : (box : BoxName) (ds : List Deed) → Hands (elim ds [ [] ↦ Stop (action.Wants (action.Probes box) w) | deed ∷ rest ↦ probe_by set w Stop (λ after v. Run m q l (push v s) x b after) box deed.taken deed.act rest ])
    probes_so box [] = tt
    probes_so box (d ∷ rest) = probe_so box d.taken d.act rest

    prints_so : (o : Option Token) → Hands (prints set w Stop (λ after v. Run m q l (push v s) x b after) o)
    prints_so None = tt
    prints_so (Some t) = acted w (action.Prints t) tt _ (λ d rest. tt)

    arg_so : (o : Option ℤ) → Hands (gives_arg set w Stop (λ after v. Run m q l (push v s) x b after) (raised_behind set (At m q l s x ∷ b) w) o)
    arg_so None = raised_so cause.Index
    arg_so (Some n) = tt

    does_so : (k : Native) (args : List Value) → ((kind : Root) (n : ℕ) → given (Some k) args ≡ Some (kind, n) → IsGivenTree set.program kind w.heap n) → Hands (native_does set w Stop (λ after v. Run m q l (push v s) x b after) (raised_behind set (At m q l s x ∷ b) w) k args)
    does_so native.Execute (Ref n ∷ []) g = tt
    does_so native.Start (Ref n ∷ []) g = starts_so n (g OfTask n refl) (shape_of set.program w.heap n) refl
    does_so native.Put (Box box ∷ message ∷ []) g = message_so box message g
    does_so native.PutWait (Box box ∷ message ∷ []) g = wait_so box message g
    does_so native.Bound (Box box ∷ Int i ∷ []) g = bound_so box i
    does_so native.Get (Box box ∷ []) g = gets_so box w.deeds
    does_so native.Getnb (Box box ∷ []) g = probes_so box w.deeds
    does_so native.Print (v ∷ []) g = prints_so (printed v)
    does_so native.Yield [] g = tt
    does_so native.ArgCount [] g = tt
    does_so native.Arg (Int i ∷ []) g = arg_so (arg_at set.limits.args i)
    does_so n args g = tt

    asks_so : (o : Option Native) (args : List Value) → ((kind : Root) (n : ℕ) → given o args ≡ Some (kind, n) → IsGivenTree set.program kind w.heap n) → Hands (asks set w Stop (λ after v. Run m q l (push v s) x b after) (raised_behind set (At m q l s x ∷ b) w) o args)
    asks_so None args g = tt
    asks_so (Some n) args g = does_so n args g

  -- ---- each effect

  finished : (w : World) (o : Option ℕ) → Hands (finishes set w o)
  finished w None = ended w cause.Done
  finished w (Some n) = by (execute_of set.program set.main)
    where
      after : World
      after = record (counted w) { kept = None }

      at : (c : MethodId) (z : Bool) → Hands (cond z (ending set w Stop cause.Done) (Run c 0 (entered set.program c (Ref n ∷ [])).locals [] (Ref n) [] after))
      at c true = ended w cause.Done
      at c false = tt

      found : (c : MethodId) (y : Option Method) → Hands (begins_in set c n w after y)
      found c None = tt
      found c (Some method) = at c method.built_in

      by : (y : Option MethodId) → Hands (begins set n w after y)
      by None = tt
      by (Some c) = found c (method_at set.program c)

  returned : (v : Option Value) (b : List Frame) (w : World) → Hands (returns set v b w)
  returned v [] w = finished w w.kept
  returned v (At m p l s x ∷ b) w = tt

  -- what an effect that asks gives away
  abbrev Gives : World → Effect → Type 0
  Gives w (Asks c args q l s h) = ((kind : Root) (n : ℕ) → given (native_of set.program c) args ≡ Some (kind, n) → IsGivenTree set.program kind h n)
  Gives w e = Unit {0}

  effect_hands : (e : Effect) (top : Activation) (x : Value) (b : List Frame) (w : World) → Gives w e → Hands (effect_does set e top x b w)
  effect_hands (Goes q l s h) top x b w g = tt
  effect_hands (Makes o q l s h) top x b w g = tt
  effect_hands (Opens q l s h) top x b w g = by (nat_lt w.boxes box_limit)
    where
      by : (z : Bool) → Hands (cond z (Run top.method q l (Box (record { task = w.task; number = w.boxes }) ∷ s) x b (record (counted (with_heap w h)) { boxes = w.boxes + 1 })) (ending set (with_heap w h) Stop cause.Boxes))
      by true = tt
      by false = ended (with_heap w h) cause.Boxes
  effect_hands (Calls c args q l s h) top x b w g = by (nat_lt (length (At top.method q l s x ∷ b)) frame_limit)
    where
      by : (z : Bool) → Hands (cond z (Run c 0 (entered set.program c args).locals [] (self_of set.program c args) (At top.method q l s x ∷ b) (counted (with_heap w h))) (ending set (with_heap w h) Stop cause.Depth))
      by true = tt
      by false = ended (with_heap w h) cause.Depth
  effect_hands (Asks c args q l s h) top x b w g = asks_so (with_heap w h) top.method q l s x b (native_of set.program c) args g
  effect_hands (Returns v h) top x b w g = returned v b (with_heap w h)
  effect_hands (Raises why) top x b w g =
      raises_has set Hands (counted w) why (ended (counted w) why) set.program (λ c. left_at set.program c (Ref w.next) top x b) (raised_class set.program (index_at set.program top) why) (λ c f fs e. stands f fs (with_new (counted w) (new_object set.program c)))
  effect_hands (Throws n c why) top x b w g = thrown_has set Hands (counted w) why (ended (counted w) why) (counted w) (left_at set.program c (Ref n) top x b) (λ f fs e. stands f fs (counted w))
  effect_hands (Ends why) top x b w g = ended w why
  effect_hands Stuck top x b w g = tt

module _ (set : Setting) (run : IsRunOfAccepted set) where
  kept : Kept (record { top = λ id at k. false; below = λ id at k. false }) set
  kept = accepted_is_kept set run (record { top = λ id at k. false; below = λ id at k. false }) (λ id m at k e live. absurd (false≢true live), λ id m at k e live. absurd (false≢true live))

  module _ (m : MethodId) (p : ℕ) (l s : List Value) (x : Value) (b : List Frame) (w : World) (of_course : IsOfCourse set (Run m p l s x b w)) (i : Instr) (to : ℕ) (f : fetch set.program m p ≡ Some (i, to)) where
    moved : GivesTree set.program w.heap (move_by set.program (does set.program (own_of set.program m) i to l s w.heap) (frame m p l s) (lone_frames b))
    unfolding moves
    moved =
        subst (λ (e : Effect). GivesTree set.program w.heap (move_by set.program e (frame m p l s) (lone_frames b))) (effect_is set run (frame m p l s) w.heap i to (method_at set.program m) f)
        ((kept w.task of_course.0 of_course.1 (lone_at m p l s b w) of_course.2 of_course.3).gives (frame m p l s) (lone_frames b) w.done w.boxes refl)

    gives_of : (e : Effect) → GivesTree set.program w.heap (move_by set.program e (frame m p l s) (lone_frames b)) → KeepsHeap w.heap e → Gives set w e
    gives_of (Asks c args q l2 s2 h) g same = λ kind n e. subst (λ (k : Objects). IsGivenTree set.program kind k n) (sym same) (g kind n e)
    gives_of (Goes q l2 s2 h) g same = tt
    gives_of (Makes o q l2 s2 h) g same = tt
    gives_of (Opens q l2 s2 h) g same = tt
    gives_of (Calls c args q l2 s2 h) g same = tt
    gives_of (Returns v h) g same = tt
    gives_of (Raises why) g same = tt
    gives_of (Throws object class why) g same = tt
    gives_of (Ends why) g same = tt
    gives_of Stuck g same = tt

  step_hands : (t : Thread) → IsOfCourse set t → Hands set t → Hands set (step set t)
  step_hands (Stop o) of_course hands = hands
  step_hands (Run m p l s x b w) of_course hands = by (nat_le set.limits.steps w.done)
    where
      found : (o : Option (Instr × ℕ)) → fetch set.program m p ≡ o → Hands set (found_does set o (frame m p l s) x b w)
      found None f = tt
      found (Some at) f =
          effect_hands set (does set.program (own_of set.program m) at.0 at.1 l s w.heap) (frame m p l s) x b w
          (gives_of m p l s x b w of_course at.0 at.1 f (does set.program (own_of set.program m) at.0 at.1 l s w.heap) (moved m p l s x b w of_course at.0 at.1 f) (keeps_heap set.program (own_of set.program m) l at.1 s w.heap at.0))

      by : (z : Bool) → Hands set (cond z (ending set w Stop cause.Spent) (found_does set (fetch set.program m p) (frame m p l s) x b w))
      by true = ended set w cause.Spent
      by false = found (fetch set.program m p) refl

  all_hand : (n : ℕ) (t : Thread) → IsOfCourse set t → Hands set t → Hands set (steps set n t)
  all_hand zero t of_course hands = hands
  all_hand (suc n) t of_course hands = all_hand n (step set t) (goes_on set t of_course) (step_hands t of_course hands)

pub threads_hand : (set : Setting) → IsRunOfAccepted set → (first : Thread) → IsBegun set first → (n : ℕ) (o : Over) → steps set n first ≡ Stop o → HandsOut set o
threads_hand set run (Run m p l s x b w) begun n o e = subst (λ (z : Thread). Hands set z) e (all_hand set run n (Run m p l s x b w) (course set run (Run m p l s x b w) begun) tt)
threads_hand set run (Stop q) begun n o e = absurd begun

pub woven_gives : WovenGives
woven_gives set run short lives is =
    let served = tasks_serve set run short lives is in (
      served.0,
      served.1,
      λ first k t fine from j o e.
          let ends = ((served.1.serves first k).ends t fine from o).1 (j, e) in
          handed t ends.0 o (subst (λ (z : Thread). IsOfCourse set z) from.1 (all_of_course set from.0 first (course set run first k))) ends.1,
      λ first begun n o e. threads_hand set run first begun n o e,
    )
  where
    handed : (t : Both) (n : ℕ) (o : Over) → IsOfCourse set (unwoven t) → steps set n (unwoven t) ≡ Stop o → HandsOut set o
    handed (Fw m p s l wl x ov links old was w ps) n o of_course e = subst (λ (z : Thread). Hands set z) e (all_hand set run n (Run m p l s x (u_stack ov links) w) of_course tt)
