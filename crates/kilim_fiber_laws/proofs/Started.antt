-- A thread takes nothing, and puts nothing with a wait, before it has done an instruction: its first frame has no operands.
use Rattle.std.proofs.Common.{◌≡◌, ◌⊎◌, inl, inr, ◌<◌, ℕ, zero, suc, ◌+◌, ℤ, pos, negsuc, Bool, true, false, cond, List, [], ◌∷◌, length, Option, Some, None, refl, sym, ap, subst, ◌∙◌, arith}
use Rattle.std.specs.Prelude.{nat_lt, nat_le, reverse}
use Rattle.std.proofs.lemmas.Option.{none-some, same_Some}
use Rattle.kilim_program.specs.declared.class.Method.{Method}
use Rattle.kilim_program.specs.declared.instr.Instr.{Instr}
use Rattle.kilim_program.specs.declared.instr.Instr.TheVariants as instr
use Rattle.kilim_program.specs.declared.names.BoxName.{BoxName}
use Rattle.kilim_program.specs.declared.names.MethodId.{MethodId}
use Rattle.kilim_program.specs.declared.value.Value.{Value}
use Rattle.kilim_program.specs.declared.value.Value.TheVariants.{Int, Null, Ref, Box}
use Rattle.kilim_program.specs.Lengths.{fetched}
use Rattle.kilim_program.specs.Members.{constructor_of, execute_of}
use Rattle.kilim_program.specs.Names.{method_at}
use Rattle.kilim_program.specs.Program.{Program}
use Rattle.kilim_run_state.specs.declared.cause.EndCause.{EndCause}
use Rattle.kilim_run_state.specs.declared.cause.EndCause.TheVariants as cause
use Rattle.kilim_run_state.specs.declared.value.Object.{Object}
use Rattle.kilim_run_state.specs.declared.value.Token.{Token}
use Rattle.kilim_run_state.specs.Machine.{Activation, Objects}
use Rattle.kilim_run_state.specs.Shapes.{shape_of}
use Rattle.kilim_run_state.specs.Trees.{OfMessage, OfTask, built, with_objects}
use Rattle.kilim_run_journal.specs.declared.entry.Act.{Act}
use Rattle.kilim_run_journal.specs.declared.entry.Act.TheVariants.{Bound, Empty, End, Print, Put, Start, Take}
use Rattle.kilim_run_machine.specs.Does.{calls_method, calls_on, calls_text, does, special, takes_element}
use Rattle.kilim_run_machine.specs.Effect.{Asks, Calls, Effect, Goes as EGoes, Stuck, as_class, as_receiver, on_value, on_values, with_some}
use Rattle.kilim_run_machine.specs.Effect as effect
use Rattle.kilim_run_machine.specs.Moves.{Move, effect_found, effect_in, effect_of, move_by, moves, push_value}
use Rattle.kilim_run_machine.specs.Moves as move
use Rattle.kilim_run_machine.specs.Natives.{Native, is_built_in_constructor, is_handed_out, is_text_method, native_of}
use Rattle.kilim_run_machine.specs.Natives as native
use Rattle.kilim_run_machine.specs.Raising.{thrown}
use Rattle.kilim_run_model.proofs.Raised.{raised_has, raises_has, throws_has}
use Rattle.kilim_run_model.specs.Course.{Course, Done, Follows, IsLone, Moves, Quiet, Stays, did, done_by, fills_deed, lone_begun, lone_in, next_action, next_or, next_within, probes_deed, puts_deed, received, starts_deed, takes_deed, tree_came, tree_left}
use Rattle.kilim_run_model.specs.declared.deed.Beginning.{Beginning}
use Rattle.kilim_run_model.specs.declared.deed.Beginning.TheVariants.{Begun, Boot}
use Rattle.kilim_run_model.specs.declared.deed.Deed.{Deed}
use Rattle.kilim_run_model.specs.Lone.{Lone, Next, Goes, Puts, PutWaits, Bounds, Gets, Probes, Starts, Prints, Ends, Stands, arg_at, arg_next, asks_next, begins_next, bound_next, box_limit, finish_next, frames_next, message_next, native_next, next_by, next_move, on_heap, opens_next, over, print_next, printed, pushed_on, put_next, put_wait_next, raised, start_next, thread_next, wait_next, went}
use Rattle.kilim_run_model.specs.one_heap.Booked.{IsOf}
use Rattle.kilim_run_model.specs.State.{Setting, Thread, Alive, Ended, begun_in, begun_on, execute_frames}
use Rattle.kilim_fiber_spec.proofs.alike.Lands.{hushed}
use Rattle.kilim_fiber_spec.specs.Acts.{Action, World}
use Rattle.kilim_fiber_spec.specs.Acts as action
use Rattle.kilim_fiber_spec.specs.lone.Law.{wanted}
use Rattle.kilim_fiber_laws.proofs.courses.answers.Asked.{Seen, Other, Special, Static, Virtual, quiet, seen}
use Rattle.kilim_fiber_laws.proofs.woven_served.ready.Asking.{not_called, not_stuck, not_taken}
use Rattle.kilim_fiber_laws.specs.receivers.states.Law.{StandsBefore, acts_of, done_of, wanted_in, world_at}

-- ---- behind a move or an action an instruction is counted

abbrev Later : Thread → Type 0
Later (Alive frames done boxes) = 0 < done
Later (Ended why) = Unit {0}

abbrev After : Next → Type 0
After (Goes after) = Later after.thread
After (Puts box root shape after) = Later after.thread
After (PutWaits box root shape after) = Later after.thread
After (Bounds box most after) = Later after.thread
After (Gets box after) = Later after.thread
After (Probes box after) = Later after.thread
After (Starts root shape after) = Later after.thread
After (Prints token after) = Later after.thread
After (Ends why after) = Later after.thread
After Stands = Unit {0}

later_as : (frames : List Activation) (done boxes : ℕ) (th : Thread) → Later th → th ≡ Alive frames done boxes → 0 < done
later_as frames done boxes th h e = subst Later e h

pushed_later : (v : Value) (th : Thread) → Later th → Later (pushed_on v th)
pushed_later v (Alive frames done boxes) h = h
pushed_later v (Ended why) h = h

module _ (set : Setting) where
  module _ (after : Lone) (h : Later after.thread) where
    raised_after : (why : EndCause) → After (raised set.program after why)
    raised_after why = raised_has After after why tt set.program (λ object f fs frames done boxes e. later_as frames done boxes after.thread h e)

    put_after : (box : BoxName) (n : ℕ) (o : Option (List Token)) → After (put_next after box n o)
    put_after box n None = tt
    put_after box n (Some shape) = h

    message_after : (box : BoxName) (v : Value) → After (message_next set.program after box v)
    message_after box Null = raised_after cause.Null
    message_after box (Ref n) = put_after box n (shape_of set.program after.heap n)
    message_after box v = tt

    put_wait_after : (box : BoxName) (n : ℕ) (o : Option (List Token)) → After (put_wait_next after box n o)
    put_wait_after box n None = tt
    put_wait_after box n (Some shape) = h

    wait_after : (box : BoxName) (v : Value) → After (wait_next set.program after box v)
    wait_after box Null = raised_after cause.Null
    wait_after box (Ref n) = put_wait_after box n (shape_of set.program after.heap n)
    wait_after box v = tt

    bound_after : (box : BoxName) (i : ℤ) → After (bound_next set.program after box i)
    bound_after box (pos (suc n)) = h
    bound_after box (pos zero) = raised_after cause.Size
    bound_after box (negsuc n) = raised_after cause.Size

    start_after : (n : ℕ) (o : Option (List Token)) → After (start_next after n o)
    start_after n None = tt
    start_after n (Some shape) = h

    print_after : (o : Option Token) → After (print_next after o)
    print_after None = tt
    print_after (Some token) = h

    arg_after : (o : Option ℤ) → After (arg_next set.program after o)
    arg_after None = raised_after cause.Index
    arg_after (Some n) = pushed_later (Int n) after.thread h

    native_after : (n : Native) (args : List Value) → After (native_next set after n args)
    native_after native.Execute (Ref n ∷ []) = h
    native_after native.Yield [] = h
    native_after native.ArgCount [] = pushed_later _ after.thread h
    native_after native.Start (Ref n ∷ []) = start_after n (shape_of set.program after.heap n)
    native_after native.Put (Box box ∷ v ∷ []) = message_after box v
    native_after native.PutWait (Box box ∷ v ∷ []) = wait_after box v
    native_after native.Bound (Box box ∷ Int i ∷ []) = bound_after box i
    native_after native.Get (Box box ∷ []) = h
    native_after native.Getnb (Box box ∷ []) = h
    native_after native.Print (v ∷ []) = print_after (printed v)
    native_after native.Arg (Int i ∷ []) = arg_after (arg_at set.limits.args i)
    native_after _ _ = tt

    asks_after : (n : Option Native) (args : List Value) → After (asks_next set after args n)
    asks_after None args = tt
    asks_after (Some n) args = native_after n args

  begins_after : (l : Lone) (done boxes : ℕ) (o : Option (List Activation)) → After (begins_next l done boxes o)
  begins_after l done boxes None = tt
  begins_after l done boxes (Some []) = tt
  begins_after l done boxes (Some (top ∷ below)) = omega arith

  finish_after : (l : Lone) (done boxes : ℕ) (o : Option ℕ) → After (finish_next set l done boxes o)
  finish_after l done boxes None = tt
  finish_after l done boxes (Some n) = begins_after l done boxes (begun_on set.program (execute_of set.program set.main) n)

  module _ (t : ℕ) where
    opens_after : (l : Lone) (frames : List Activation) (done boxes : ℕ) → After (opens_next t l frames done boxes)
    opens_after l frames done boxes =
        elim (nat_lt boxes box_limit) as (λ (z : Bool). After (cond z (Goes (went l (push_value (Box (record { task = t; number = boxes })) frames) done (boxes + 1))) (over l cause.Boxes))) [ true ↦ omega arith | false ↦ tt ]

    by_after : (l : Lone) (done boxes : ℕ) (top : Activation) (below : List Activation) (m : Move) → After (next_by set t l done boxes top below m)
    by_after l done boxes top below (move.Runs change frames heap) = omega arith
    by_after l done boxes top below (move.Makes object frames heap) = omega arith
    by_after l done boxes top below (move.Opens frames heap) = opens_after (on_heap l heap) frames done boxes
    by_after l done boxes top below (move.Asks m args frames heap) = asks_after (went (on_heap l heap) frames done boxes) (omega arith) (native_of set.program m) args
    by_after l done boxes top below (move.Returns heap) = finish_after (on_heap l heap) done boxes l.kept
    by_after l done boxes top below (move.Raises why) = raises_has After l why tt set.program done boxes top below (λ object f fs. omega arith)
    by_after l done boxes top below (move.Throws n class why) = throws_has After l why tt (done + 1) boxes (thrown set.program class (Ref n) top below) (λ f fs. omega arith)
    by_after l done boxes top below (move.Ends why) = tt
    by_after l done boxes top below move.Stuck = tt

    frames_after : (l : Lone) (frames : List Activation) (done boxes : ℕ) → After (frames_next set t l frames done boxes)
    frames_after l [] done boxes = tt
    frames_after l (top ∷ below) done boxes = by_after l done boxes top below (moves set.program top below l.heap)

    thread_after : (l : Lone) (th : Thread) → After (thread_next set t l th)
    thread_after l (Ended why) = tt
    thread_after l (Alive frames done boxes) =
        elim (nat_le set.limits.steps done) as (λ (z : Bool). After (cond z (over l cause.Spent) (frames_next set t l frames done boxes))) [ true ↦ tt | false ↦ frames_after l frames done boxes ]

    next_after : (l : Lone) → After (next_move set t l)
    unfolding next_move
    next_after l = thread_after l l.thread

    or_after : (go : Lone → Next) → ((m : Lone) → After (go m)) → (x : Next) → After x → After (next_or x go)
    or_after go on (Goes m) h = on m
    or_after go on (Puts box root shape m) h = h
    or_after go on (PutWaits box root shape m) h = h
    or_after go on (Bounds box most m) h = h
    or_after go on (Gets box m) h = h
    or_after go on (Probes box m) h = h
    or_after go on (Starts root shape m) h = h
    or_after go on (Prints token m) h = h
    or_after go on (Ends why m) h = h
    or_after go on Stands h = h

    within_after : (n : ℕ) (l : Lone) → After (next_within set t n l)
    within_after zero l = tt
    within_after (suc n) l = or_after (next_within set t n) (within_after n) (next_move set t l) (next_after l)

    action_after : (l : Lone) → After (next_action set t l)
    unfolding next_action
    action_after l = within_after (suc set.limits.steps) l

  -- ---- behind a deed

  same_later : (x y : Done) → Some x ≡ Some y → Later x.after.thread → Later y.after.thread
  same_later x y e h = subst (λ (z : Done). Later z.after.thread) (same_Some x y e) h

  takes_later : (box : BoxName) (l : Lone) (d : Deed) (y : Done) → Later l.thread → (act : Act) → takes_deed set.program box l d act ≡ Some y → Later y.after.thread
  takes_later box l d y h (Take b k) e = by (built set.program OfMessage l.next d.taken) e
    where
      by : (o : Option (List Object)) → tree_came box k l o ≡ Some y → Later y.after.thread
      by None e = absurd (none-some y e)
      by (Some objects) e = same_later _ y e (pushed_later (Ref l.next) l.thread h)
  takes_later box l d y h act e = absurd (none-some y e)

  fills_later : (box : BoxName) (root : ℕ) (shape : List Token) (l : Lone) (y : Done) → Later l.thread → (act : Act) → fills_deed set.program box root shape l act ≡ Some y → Later y.after.thread
  fills_later box root shape l y h (Put b k s) e = same_later _ y e h
  fills_later box root shape l y h (End why) e = same_later _ y e tt
  fills_later box root shape l y h act e = absurd (none-some y e)

  puts_later : (box : BoxName) (root : ℕ) (shape : List Token) (l : Lone) (y : Done) → Later l.thread → (act : Act) → puts_deed set.program box root shape l act ≡ Some y → Later y.after.thread
  puts_later box root shape l y h (Put b k s) e = same_later _ y e h
  puts_later box root shape l y h act e = absurd (none-some y e)

  starts_later : (root : ℕ) (shape : List Token) (l : Lone) (y : Done) → Later l.thread → (act : Act) → starts_deed set.program root shape l act ≡ Some y → Later y.after.thread
  starts_later root shape l y h (Start k s) e = same_later _ y e h
  starts_later root shape l y h (End why) e = same_later _ y e tt
  starts_later root shape l y h act e = absurd (none-some y e)

  probes_later : (box : BoxName) (l : Lone) (d : Deed) (y : Done) → Later l.thread → (act : Act) → probes_deed set.program box l d act ≡ Some y → Later y.after.thread
  probes_later box l d y h (Empty b) e = same_later _ y e (pushed_later Null l.thread h)
  probes_later box l d y h (Take b k) e = takes_later box l d y h (Take b k) e
  probes_later box l d y h act e = absurd (none-some y e)

  done_later : (n : Next) (d : Deed) (y : Done) → After n → done_by set n d ≡ Some y → Later y.after.thread
  done_later (Goes l) d y h e = absurd (none-some y e)
  done_later (Puts box root shape l) d y h e = fills_later box root shape l y h d.act e
  done_later (PutWaits box root shape l) d y h e = puts_later box root shape l y h d.act e
  done_later (Bounds box most l) d y h e = same_later _ y e h
  done_later (Gets box l) d y h e = takes_later box l d y h d.act e
  done_later (Probes box l) d y h e = probes_later box l d y h d.act e
  done_later (Starts root shape l) d y h e = starts_later root shape l y h d.act e
  done_later (Prints token l) d y h e = same_later _ y e h
  done_later (Ends why l) d y h e = same_later _ y e h
  done_later Stands d y h e = absurd (none-some y e)

  module _ (t : ℕ) where
    follows_later : (a last : Lone) (ds : List Deed) → Follows set t a ds last → (last ≡ a) ⊎ Later last.thread
    follows_later a last [] f = inl (sym f)
    follows_later a last (d ∷ ds) f = by (follows_later f.0 last ds f.2)
      where
        here : Later f.0.thread
        here = done_later (next_action set t a) d (record { act = d.act; after = f.0 }) (action_after t a) f.1

        by : (last ≡ f.0) ⊎ Later last.thread → (last ≡ a) ⊎ Later last.thread
        by (inl e) = inr (subst (λ (l : Lone). Later l.thread) (sym e) here)
        by (inr h) = inr h

    quiet_later : (a b : Lone) → Quiet set t a b → (b ≡ a) ⊎ Later b.thread
    quiet_later a b (Stays e) = inl (sym e)
    quiet_later a b (Moves m q e) = inr (subst After e (next_after t m))

    -- it stands as it began, or has counted an instruction
    first_or_later : (c : Course) (here : Lone) → IsOf set t c here → (lone_begun set c.beginning ≡ Some here) ⊎ Later here.thread
    first_or_later c here of = by (quiet_later of.last here of.quiet) (follows_later of.is.first of.last c.deeds of.is.follows)
      where
        by : (here ≡ of.last) ⊎ Later here.thread → (of.last ≡ of.is.first) ⊎ Later of.last.thread → (lone_begun set c.beginning ≡ Some here) ⊎ Later here.thread
        by (inr h) o = inr h
        by (inl e) (inr h) = inr (subst (λ (l : Lone). Later l.thread) (sym e) h)
        by (inl e) (inl d) = inl (of.is.begins ∙ ap (λ (l : Lone). Some l) (sym (e ∙ d)))

-- ---- without operands nothing is asked with arguments

module _ (p : Program) (own : Method) (to : ℕ) (l : List Value) (h : Objects) (c : MethodId) (args : List Value) (q : ℕ) (l2 s2 : List Value) (h2 : Objects) where
  abbrev IsAsked : Effect → Type 0
  IsAsked e = e ≡ Asks c args q l2 s2 h2

  stuck : IsAsked Stuck → args ≡ []
  stuck e = absurd (not_stuck c args q l2 s2 h2 e)

  -- nothing is on the stack
  values_none : (n : ℕ) (go : List Value → List Value → Effect) → (IsAsked (go [] []) → args ≡ []) → IsAsked (on_values n [] go) → args ≡ []
  values_none zero go on e = on e
  values_none (suc n) go on e = stuck e

  virtual_none : (id : MethodId) → IsAsked (does p own (instr.Invokevirtual id) to l [] h) → args ≡ []
  unfolding does
  virtual_none id e = by (method_at p id) e
    where
      by : (o : Option Method) →
          IsAsked (with_some o (λ method. on_values (length method.params) [] (λ vs below. on_value below (λ receiver rest. cond (is_text_method p method) (calls_text method (reverse vs) to l rest h receiver) (as_class p receiver h (calls_on p method id (reverse vs) to l rest h receiver)))))) → args ≡ []
      by None e = stuck e
      by (Some method) e = values_none (length method.params) (λ vs below. on_value below (λ receiver rest. cond (is_text_method p method) (calls_text method (reverse vs) to l rest h receiver) (as_class p receiver h (calls_on p method id (reverse vs) to l rest h receiver)))) stuck e

  abbrev calls : MethodId → Method → List Value → List Value → Effect
  calls id method vs below = on_value below (λ v rest. as_receiver v (λ receiver. calls_method (method_at p (special p own method id)) (special p own method id) (receiver ∷ reverse vs) to l rest h))

  special_none : (id : MethodId) → IsAsked (does p own (instr.Invokespecial id) to l [] h) → args ≡ []
  unfolding does
  special_none id e = by (method_at p id) e
    where
      by : (o : Option Method) → IsAsked (with_some o (λ method. cond (is_built_in_constructor method) (on_value [] (λ v rest. as_receiver v (λ receiver. EGoes to l rest h))) (on_values (length method.params) [] (calls id method)))) → args ≡ []
      by None e = stuck e
      by (Some method) e = at (is_built_in_constructor method) e
        where
          at : (z : Bool) → IsAsked (cond z (on_value [] (λ v rest. as_receiver v (λ receiver. EGoes to l rest h))) (on_values (length method.params) [] (calls id method))) → args ≡ []
          at true e = stuck e
          at false e = values_none (length method.params) (calls id method) stuck e

  args_of : (id : MethodId) (vs : List Value) (rest : List Value) → IsAsked (Asks id vs to l rest h) → vs ≡ args
  args_of id vs rest e = cc

  static_none : (id : MethodId) → IsAsked (does p own (instr.Invokestatic id) to l [] h) → args ≡ []
  unfolding does
  static_none id e = by (method_at p id) e
    where
      by : (o : Option Method) →
          IsAsked (with_some o (λ method. cond (is_handed_out p method) (on_values (length method.params) [] (λ vs rest. Asks id (reverse vs) to l rest h)) (cond method.built_in (takes_element to l [] h) (on_values (length method.params) [] (λ vs rest. Calls id (reverse vs) to l rest h))))) → args ≡ []
      by None e = stuck e
      by (Some method) e = at (is_handed_out p method) method.built_in e
        where
          at : (y z : Bool) → IsAsked (cond y (on_values (length method.params) [] (λ vs rest. Asks id (reverse vs) to l rest h)) (cond z (takes_element to l [] h) (on_values (length method.params) [] (λ vs rest. Calls id (reverse vs) to l rest h)))) → args ≡ []
          at true z e = values_none (length method.params) (λ vs rest. Asks id (reverse vs) to l rest h) (λ d. sym (args_of id [] [] d)) e
          at false true e = absurd (not_taken c args q l2 s2 h2 to l [] h e)
          at false false e = values_none (length method.params) (λ vs rest. Calls id (reverse vs) to l rest h) (λ d. absurd (not_called c args q l2 s2 h2 id [] to l [] h d)) e

  pub none_asked : (i : Instr) → IsAsked (does p own i to l [] h) → args ≡ []
  none_asked i e = by (seen i)
    where
      by : Seen i → args ≡ []
      by (Virtual id d) = virtual_none id (sym (ap (λ (j : Instr). does p own j to l [] h) d) ∙ e)
      by (Special id d) = special_none id (sym (ap (λ (j : Instr). does p own j to l [] h) d) ∙ e)
      by (Static id d) = static_none id (sym (ap (λ (j : Instr). does p own j to l [] h) d) ∙ e)
      by (Other other) = stuck (sym (ap hushed e) ∙ (quiet p own to l [] h i other ∙ e))

-- ---- a thread that stands as it began

abbrev Bare : List Activation → Type 0
Bare [] = Unit {0}
Bare (top ∷ below) = top.stack ≡ []

-- it waits for nothing
abbrev NoWait : Next → Type 0
NoWait (Gets box after) = ⊥
NoWait (PutWaits box root shape after) = ⊥
NoWait x = Unit {0}

record BeganBare (th : Thread) : Type 0 where
  frames : List Activation
  is : th ≡ Alive frames 0 0
  bare : Bare frames

begun_bare : (p : Program) (m : Option MethodId) (n : ℕ) (frames : List Activation) → begun_on p m n ≡ Some frames → Bare frames
begun_bare p None n frames e = absurd (none-some frames e)
begun_bare p (Some m) n frames e = by (method_at p m) e
  where
    by : (o : Option Method) → begun_in p m n o ≡ Some frames → Bare frames
    by None e = absurd (none-some frames e)
    by (Some method) e = at method.built_in e
      where
        at : (z : Bool) → Some (cond z [] (Rattle.kilim_run_machine.specs.Moves.entered p m (Ref n ∷ []) ∷ [])) ≡ Some frames → Bare frames
        at true e = subst Bare (same_Some _ _ e) tt
        at false e = subst Bare (same_Some _ _ e) refl

in_bare : (heap : Objects) (next : ℕ) (kept : Option ℕ) (o : Option (List Activation)) → ((frames : List Activation) → o ≡ Some frames → Bare frames) → (l : Lone) → lone_in heap next kept o ≡ Some l → BeganBare l.thread
in_bare heap next kept None bare l e = absurd (none-some l e)
in_bare heap next kept (Some frames) bare l e = subst (λ (m : Lone). BeganBare m.thread) (same_Some _ _ e) (record { frames = frames; is = refl; bare = bare frames refl })

began_bare : (set : Setting) (b : Beginning) (l : Lone) → lone_begun set b ≡ Some l → BeganBare l.thread
began_bare set Boot l e = in_bare _ 1 (Some 0) (begun_on set.program (constructor_of set.program set.main) 0) (begun_bare set.program (constructor_of set.program set.main) 0) l e
began_bare set (Begun shape) l e = by (built set.program OfTask 0 shape) e
  where
    by : (o : Option (List Object)) → Rattle.kilim_run_model.specs.Course.lone_built set.program o ≡ Some l → BeganBare l.thread
    by None e = absurd (none-some l e)
    by (Some objects) e = in_bare _ (length objects) None (execute_frames set.program (with_objects Rattle.std.specs.FinMap.empty 0 objects) 0) (begun_bare set.program _ 0) l e

module _ (set : Setting) (t : ℕ) where
  nothing_asked : (after : Lone) (n : Option Native) → NoWait (asks_next set after [] n)
  nothing_asked after None = tt
  nothing_asked after (Some n) = by n
    where
      by : (n : Native) → NoWait (native_next set after n [])
      by native.Yield = tt
      by native.ArgCount = tt
      by _ = tt

  begins_no : (l : Lone) (done boxes : ℕ) (o : Option (List Activation)) → NoWait (begins_next l done boxes o)
  begins_no l done boxes None = tt
  begins_no l done boxes (Some []) = tt
  begins_no l done boxes (Some (top ∷ below)) = tt

  finish_no : (l : Lone) (done boxes : ℕ) (o : Option ℕ) → NoWait (finish_next set l done boxes o)
  finish_no l done boxes None = tt
  finish_no l done boxes (Some n) = begins_no l done boxes (begun_on set.program (execute_of set.program set.main) n)

  either_no : (z : Bool) (x y : Next) → NoWait x → NoWait y → NoWait (cond z x y)
  either_no true x y p q = p
  either_no false x y p q = q

  module _ (l : Lone) (top : Activation) (below : List Activation) (none : top.stack ≡ []) where
    abbrev NoWaitBy : Move → Type 0
    NoWaitBy m = NoWait (next_by set t l 0 0 top below m)

    either_by : (z : Bool) (m n : Move) → NoWaitBy m → NoWaitBy n → NoWaitBy (cond z m n)
    either_by true m n p q = p
    either_by false m n p q = q

    asked_none : (m : MethodId) (args : List Value) (q : ℕ) (l2 s2 : List Value) (h2 : Objects) → effect_of set.program top l.heap ≡ Asks m args q l2 s2 h2 → args ≡ []
    asked_none m args q l2 s2 h2 e = by (method_at set.program top.method) e
      where
        found : (own : Method) (o : Option (Instr × ℕ)) → effect_found set.program own top l.heap o ≡ Asks m args q l2 s2 h2 → args ≡ []
        found own None e = absurd (not_stuck m args q l2 s2 h2 e)
        found own (Some at) e = none_asked set.program own at.1 top.locals l.heap m args q l2 s2 h2 at.0 (sym (ap (λ (s : List Value). does set.program own at.0 at.1 top.locals s l.heap) none) ∙ e)

        by : (o : Option Method) → effect_in set.program top l.heap o ≡ Asks m args q l2 s2 h2 → args ≡ []
        by None e = absurd (not_stuck m args q l2 s2 h2 e)
        by (Some own) e = found own (fetched own.code own.code_length top.place) e

    effect_no : (e : Effect) → effect_of set.program top l.heap ≡ e → NoWaitBy (move_by set.program e top below)
    effect_no (effect.Goes q l2 s2 h2) is = tt
    effect_no (effect.Makes object q l2 s2 h2) is = tt
    effect_no (effect.Opens q l2 s2 h2) is = either_no (nat_lt 0 box_limit) (Goes (went (on_heap l h2) (push_value (Box record { task = t; number = 0 }) (Rattle.kilim_run_machine.specs.Moves.goes_on top q l2 s2 ∷ below)) 0 (0 + 1))) (over (on_heap l h2) cause.Boxes) tt tt
    effect_no (effect.Calls m args q l2 s2 h2) is = either_by (nat_lt (length (Rattle.kilim_run_machine.specs.Moves.goes_on top q l2 s2 ∷ below)) Rattle.kilim_run_machine.specs.Moves.frame_limit) _ (move.Ends cause.Depth) tt tt
    effect_no (effect.Asks m args q l2 s2 h2) is =
        subst (λ (vs : List Value). NoWait (asks_next set (went (on_heap l h2) (Rattle.kilim_run_machine.specs.Moves.goes_on top q l2 s2 ∷ below) 0 0) vs (native_of set.program m))) (sym (asked_none m args q l2 s2 h2 is)) (nothing_asked _ (native_of set.program m))
    effect_no (effect.Returns v h2) is = by below
      where
        by : (fs : List Activation) → NoWait (next_by set t l 0 0 top below (Rattle.kilim_run_machine.specs.Moves.returned v fs h2))
        by [] = finish_no (on_heap l h2) 0 0 l.kept
        by (f ∷ fs) = tt
    effect_no (effect.Raises why) is = raises_has NoWait l why tt set.program 0 0 top below (λ object f fs. tt)
    effect_no (effect.Throws n class why) is = throws_has NoWait l why tt (0 + 1) 0 (thrown set.program class (Ref n) top below) (λ f fs. tt)
    effect_no (effect.Ends why) is = tt
    effect_no effect.Stuck is = tt

    pub moves_no : NoWaitBy (moves set.program top below l.heap)
    unfolding moves
    moves_no = effect_no (effect_of set.program top l.heap) refl

  frames_no : (l : Lone) (frames : List Activation) → Bare frames → NoWait (frames_next set t l frames 0 0)
  frames_no l [] bare = tt
  frames_no l (top ∷ below) bare = moves_no l top below bare

  thread_no : (l : Lone) (th : Thread) → BeganBare th → NoWait (thread_next set t l th)
  thread_no l th b = subst (λ (z : Thread). NoWait (thread_next set t l z)) (sym b.is) (either_no (nat_le set.limits.steps 0) (over l cause.Spent) (frames_next set t l b.frames 0 0) tt (frames_no l b.frames b.bare))

  first_no : (l : Lone) → BeganBare l.thread → NoWait (next_move set t l)
  unfolding next_move
  first_no l b = thread_no l l.thread b

  ended_stands : (l : Lone) (why : EndCause) → l.thread ≡ Ended why → next_move set t l ≡ Stands
  unfolding next_move
  ended_stands l why e = ap (thread_next set t l) e

-- ---- what waits has done an instruction

abbrev pub is_wait : Action → Bool
is_wait (action.Gets box) = true
is_wait (action.PutWaits box root shape) = true
is_wait a = false

no_wait : (x : Next) (a : Action) (o : Option Lone) → NoWait x → wanted x ≡ Some (a, o) → is_wait a ≡ true → ⊥
no_wait x a o none e is = by x none (ap (λ (z : Option (Action × Option Lone)). elim z [ None ↦ false | Some y ↦ is_wait y.0 ]) e ∙ is)
  where
    by : (x : Next) → NoWait x → elim (wanted x) [ None ↦ false | Some y ↦ is_wait y.0 ] ≡ true → ⊥
    by (Gets box after) none e = none
    by (PutWaits box root shape after) none e = none
    by (Goes after) none e = cc
    by (Puts box root shape after) none e = cc
    by (Bounds box most after) none e = cc
    by (Probes box after) none e = cc
    by (Starts root shape after) none e = cc
    by (Prints token after) none e = cc
    by (Ends why after) none e = cc
    by Stands none e = cc

wait_same : (a : Action) (w : World) → is_wait a ≡ true → wanted_in a w ≡ w
wait_same (action.Gets box) w is = refl
wait_same (action.PutWaits box root shape) w is = refl
wait_same (action.Puts box root shape) w is = cc
wait_same (action.Bounds box most) w is = cc
wait_same (action.Probes box) w is = cc
wait_same (action.Starts root shape) w is = cc
wait_same (action.Prints token) w is = cc
wait_same (action.Ends why) w is = cc

pub has_started : (set : Setting) (t : ℕ) (c : Course) (a : Action) (w : World) → StandsBefore set t c a w → is_wait a ≡ true → 0 < w.done
has_started set t c a w before is = subst (λ (n : ℕ). 0 < n) (sym (ap (λ (z : World). z.done) (before.world ∙ wait_same a (world_at t before.here [] (acts_of c.deeds [])) is))) (by (first_or_later set t c before.here before.of))
  where
    alive : (th : Thread) → before.here.thread ≡ th → Later th → 0 < done_of th
    alive (Alive frames done boxes) e h = h
    alive (Ended why) e h = absurd (none-some (a, before.after) (sym (ap wanted (ended_stands set t before.here why e)) ∙ before.wants))

    by : (lone_begun set c.beginning ≡ Some before.here) ⊎ Later before.here.thread → 0 < done_of before.here.thread
    by (inl e) = absurd (no_wait (next_move set t before.here) a before.after (first_no set t before.here (began_bare set c.beginning before.here e)) before.wants is)
    by (inr h) = alive before.here.thread refl h
