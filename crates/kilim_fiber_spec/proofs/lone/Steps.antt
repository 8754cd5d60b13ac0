-- Row for row, a step of the thread is the next of the thread on its own heap.
use Rattle.std.proofs.Common.{◌≡◌, ℕ, suc, ◌+◌, Bool, true, false, ℤ, List, [], ◌∷◌, length, Option, Some, None, refl, sym, ap, subst, ◌∙◌}
use Rattle.std.specs.Prelude.{zero, pos, negsuc, nat_le, nat_lt, if◌then◌else◌}
use Rattle.kilim_run_state.specs.declared.cause.EndCause.{EndCause}
use Rattle.kilim_run_state.specs.declared.cause.EndCause.TheVariants as cause
use Rattle.kilim_program.specs.declared.class.Method.{Method}
use Rattle.kilim_program.specs.declared.instr.Instr.{Instr}
use Rattle.kilim_program.specs.declared.names.BoxName.{BoxName}
use Rattle.kilim_program.specs.declared.names.ClassId.{ClassId}
use Rattle.kilim_program.specs.declared.names.MethodId.{MethodId}
use Rattle.kilim_run_state.specs.declared.value.Object.{Object}
use Rattle.kilim_run_state.specs.declared.value.Token.{Token}
use Rattle.kilim_program.specs.declared.value.Value.{Value}
use Rattle.kilim_program.specs.declared.value.Value.TheVariants.{Int, Long, Null, Ref, Text, Box, Fiber}
use Rattle.kilim_program.specs.Lengths.{fetched}
use Rattle.kilim_program.specs.Names.{method_at}
use Rattle.kilim_run_journal.specs.declared.entry.Act.{Act}
use Rattle.kilim_run_journal.specs.declared.entry.Act.TheVariants.{Put, Take, Empty, Start, Print, End, Wait, Bound}
use Rattle.kilim_run_state.specs.Machine.{Activation, Objects}
use Rattle.kilim_program.specs.Members.{execute_of}
use Rattle.kilim_run_machine.specs.Natives.{Native, native_of}
use Rattle.kilim_run_machine.specs.Natives as native
use Rattle.kilim_run_machine.specs.Effect.{Effect}
use Rattle.kilim_run_machine.specs.Effect as effect
use Rattle.kilim_run_machine.specs.Does.{does}
use Rattle.kilim_run_machine.specs.Moves.{Move, effect_found, effect_in, effect_of, entered, frame_limit, goes_on, move_by, moves, receiver_of}
use Rattle.kilim_run_machine.specs.Moves as move
use Rattle.kilim_run_state.specs.Objects.{new_object}
use Rattle.kilim_run_state.specs.Shapes.{shape_of}
use Rattle.kilim_run_state.specs.Trees.{OfMessage, built}
use Rattle.kilim_run_model.specs.State.{Setting, Alive, begun_in, begun_on}
use Rattle.kilim_run_model.specs.State as state
use Rattle.kilim_run_model.specs.Lone.{Lone, Next, arg_at, arg_next, asks_next, begins_next, box_limit, ended, finish_next, frames_next, message_next, native_next, next_by, next_move, on_heap, opens_next, print_next, printed, put_next, put_wait_next, bound_next, raised, start_next, thread_next, throws_by, raises_by, raises_of, wait_next, went}
use Rattle.kilim_run_model.specs.Lone as next
use Rattle.kilim_run_model.specs.Course.{fills_deed, probes_deed, puts_deed, starts_deed, takes_deed, tree_came}
use Rattle.kilim_run_machine.specs.Raising.{index_at, other_index, raised_class, thrown, unwound}
use Rattle.kilim_run_model.specs.declared.deed.Deed.{Deed}
use Rattle.kilim_fiber_spec.specs.Acts.{World, Over, Wants, Finished, Astray, Lost, counted, with_heap, ending, spending, last, put_by, puts, puts_value, put_wait_by, put_waits, waits_value, bounds, start_by, starts, receives, take_by, takes, probe_by, probes, prints, gives_arg, native_does, asks, makes, opens_box, thrown_to, raises, with_new}
use Rattle.kilim_fiber_spec.specs.Acts as action
use Rattle.kilim_fiber_spec.specs.Thread.{Frame, At, Thread, Run, Stop, push, step, fetch, own_of, own_in, code_in, found_does, effect_does, finishes, begins, begins_in, self_of, left_behind, left_at, stands_at, raised_behind}
use Rattle.kilim_fiber_spec.specs.Fibers.{frame}
use Rattle.kilim_fiber_spec.proofs.lone.Left.{at_same, behind_same}
use Rattle.kilim_fiber_spec.specs.lone.Law.{lone_frames, lone_at, IsLast, IsDone, IsActed, IsNext}

same_length : (b : List Frame) → length (lone_frames b) ≡ length b
same_length [] = refl
same_length (At m p l s x ∷ b) = ap suc (same_length b)

module _ (set : Setting) where
  abbrev N : World → Next → Thread → Type 0
  N w n t = IsNext set w.deeds w.acts w.task w.aside n t

  -- an end, in whatever heap
  ends_in : (ds : List Deed) (as1 : List Act) (k : ℕ) (w : World) (l : Lone) (c : EndCause) → w.deeds ≡ ds → IsActed set ds as1 k w.aside (next.Ends c l) (ending set w Stop c)
  ends_in ds as1 k w l c e = subst (λ (z : List Deed). IsActed set ds as1 k w.aside (next.Ends c l) (elim z [ [] ↦ Stop (Wants (action.Ends c) w) | d ∷ rest ↦ last set w Stop c rest ])) (sym e) (by ds)
    where
      by : (ds : List Deed) → IsActed set ds as1 k w.aside (next.Ends c l) (elim ds [ [] ↦ Stop (Wants (action.Ends c) w) | d ∷ rest ↦ last set w Stop c rest ])
      by [] = (w, refl, tt)
      by (d ∷ []) = (w, refl)
      by (d ∷ e ∷ rest) = refl

  ends : (w : World) (l : Lone) (c : EndCause) → N w (next.Ends c (ended l c)) (ending set w Stop c)
  ends w l c = ends_in w.deeds w.acts w.task w (ended l c) c refl

  -- ---- exceptions

  module _ (w : World) (th : state.Thread) (why : EndCause) where
    -- the thread alone, whatever its frames
    abbrev stood : Lone
    stood = record { heap = w.heap; next = w.next; thread = th; kept = w.kept }

    throws_so : (left : List Frame) → N w (throws_by stood why (w.done + 1) w.boxes (lone_frames left)) (thrown_to set Stop (stands_at set) (counted w) why (counted w) left)
    throws_so [] = ends (counted w) stood why
    throws_so (At m p l s x ∷ b) = (refl, refl, refl, refl, refl)

    made_so : (object : Object) (left : List Frame) → N w (raises_by stood object why (w.done + 1) w.boxes (lone_frames left)) (thrown_to set Stop (stands_at set) (counted w) why (with_new (counted w) object) left)
    made_so object [] = ends (counted w) stood why
    made_so object (At m p l s x ∷ b) = (refl, refl, refl, refl, refl)

    raises_so : (alone : ClassId → List Activation) (left : ClassId → List Frame) → ((c : ClassId) → alone c ≡ lone_frames (left c)) → (o : Option ClassId)
        → N w (raises_of set.program stood why (w.done + 1) w.boxes alone o) (raises set Stop (stands_at set) (counted w) why set.program left o)
    raises_so alone left same None = ends (counted w) stood why
    raises_so alone left same (Some c) =
        subst (λ (fs : List Activation). N w (raises_by stood (new_object set.program c) why (w.done + 1) w.boxes fs) (thrown_to set Stop (stands_at set) (counted w) why (with_new (counted w) (new_object set.program c)) (left c))) (sym (same c))
        (made_so (new_object set.program c) (left c))

  -- ---- built-in methods: the world `w` is that before the call, and the thread goes on in this frame

  module _ (w : World) (m : MethodId) (p : ℕ) (l s : List Value) (x : Value) (b : List Frame) where
    abbrev go : World → Option Value → Thread
    go a v = Run m p l (push v s) x b a

    abbrev raise : EndCause → Thread
    raise = raised_behind set (At m p l s x ∷ b) w

    -- the thread behind the call
    abbrev after : Lone
    after = lone_at m p l s b (counted w)

    raises_here : (why : EndCause) → N w (raised set.program after why) (raise why)
    raises_here why =
        raises_so w (Alive (frame m p l s ∷ lone_frames b) (w.done + 1) w.boxes) why (λ c. unwound set.program c (Ref w.next) (frame m p l s ∷ lone_frames b)) (λ c. left_behind set.program c (Ref w.next) (At m p l s x ∷ b))
        (λ c. behind_same set.program c (Ref w.next) (At m p l s x ∷ b)) (raised_class set.program other_index why)

    puts_next : (box : BoxName) (n : ℕ) (o : Option (List Token)) → N w (put_next after box n o) (puts set w Stop go box n o)
    puts_next box n None = ends w after cause.Large
    puts_next box n (Some shape) = by w.deeds
      where
        lasts : (rest : List Deed) → IsLast cause.Full rest (last set w Stop cause.Full rest)
        lasts [] = (w, refl)
        lasts (d ∷ rest) = refl

        told : (d : Deed) (rest : List Deed) (act : Act) → IsDone rest w.acts w.task w.aside (fills_deed set.program box n shape after act) (put_by set w Stop go box shape n act rest)
        told d rest (Put c k z) = (refl, refl, refl, refl, refl)
        told d rest (Take c k) = refl
        told d rest (Empty c) = refl
        told d rest (Start k z) = refl
        told d rest (Print z) = refl
        told d rest (End c) = lasts rest
        told d rest (Wait c) = refl
        told d rest (Bound c k) = refl

        by : (ds : List Deed) → IsActed set ds w.acts w.task w.aside (next.Puts box n shape after) (elim ds [ [] ↦ Stop (Wants (action.Puts box n shape) w) | d ∷ rest ↦ put_by set w Stop go box shape n d.act rest ])
        by [] = (w, refl, (refl, refl))
        by (d ∷ rest) = told d rest d.act

    messages : (box : BoxName) (v : Value) → N w (message_next set.program after box v) (puts_value set w Stop go raise box v)
    messages box Null = raises_here cause.Null
    messages box (Ref n) = puts_next box n (shape_of set.program w.heap n)
    messages box (Int z) = refl
    messages box (Long z) = refl
    messages box (Text z) = refl
    messages box (Box z) = refl
    messages box Fiber = refl

    put_waits_next : (box : BoxName) (n : ℕ) (o : Option (List Token)) → N w (put_wait_next after box n o) (put_waits set w Stop go box n o)
    put_waits_next box n None = ends w after cause.Large
    put_waits_next box n (Some shape) = by w.deeds
      where
        told : (d : Deed) (rest : List Deed) (act : Act) → IsDone rest w.acts w.task w.aside (puts_deed set.program box n shape after act) (put_wait_by set w Stop go box shape n act rest)
        told d rest (Put c k z) = (refl, refl, refl, refl, refl)
        told d rest (Take c k) = refl
        told d rest (Empty c) = refl
        told d rest (Start k z) = refl
        told d rest (Print z) = refl
        told d rest (End c) = refl
        told d rest (Wait c) = refl
        told d rest (Bound c k) = refl

        by : (ds : List Deed) → IsActed set ds w.acts w.task w.aside (next.PutWaits box n shape after) (elim ds [ [] ↦ Stop (Wants (action.PutWaits box n shape) w) | d ∷ rest ↦ put_wait_by set w Stop go box shape n d.act rest ])
        by [] = (w, refl, (refl, refl))
        by (d ∷ rest) = told d rest d.act

    waits_next : (box : BoxName) (v : Value) → N w (wait_next set.program after box v) (waits_value set w Stop go raise box v)
    waits_next box Null = raises_here cause.Null
    waits_next box (Ref n) = put_waits_next box n (shape_of set.program w.heap n)
    waits_next box (Int z) = refl
    waits_next box (Long z) = refl
    waits_next box (Text z) = refl
    waits_next box (Box z) = refl
    waits_next box Fiber = refl

    bounds_next : (box : BoxName) (i : ℤ) → N w (bound_next set.program after box i) (bounds set w Stop go raise box i)
    bounds_next box (pos (suc n)) = by w.deeds
      where
        by : (ds : List Deed) → IsActed set ds w.acts w.task w.aside (next.Bounds box (suc n) after)
            (elim ds [ [] ↦ Stop (Wants (action.Bounds box (suc n)) w) | d ∷ rest ↦ Run m p l s x b (record (counted w) { deeds = rest; acts = Bound box (suc n) ∷ w.acts }) ])
        by [] = (w, refl, (refl, refl))
        by (d ∷ rest) = (refl, refl, refl, refl, refl)
    bounds_next box (pos zero) = raises_here cause.Size
    bounds_next box (negsuc n) = raises_here cause.Size

    starts_next : (n : ℕ) (o : Option (List Token)) → N w (start_next after n o) (starts set w Stop go n o)
    starts_next n None = ends w after cause.Large
    starts_next n (Some shape) = by w.deeds
      where
        lasts : (rest : List Deed) → IsLast cause.Tasks rest (last set w Stop cause.Tasks rest)
        lasts [] = (w, refl)
        lasts (d ∷ rest) = refl

        told : (d : Deed) (rest : List Deed) (act : Act) → IsDone rest w.acts w.task w.aside (starts_deed set.program n shape after act) (start_by set w Stop go shape n act rest)
        told d rest (Put c k z) = refl
        told d rest (Take c k) = refl
        told d rest (Empty c) = refl
        told d rest (Start k z) = (refl, refl, refl, refl, refl)
        told d rest (Print z) = refl
        told d rest (End c) = lasts rest
        told d rest (Wait c) = refl
        told d rest (Bound c k) = refl

        by : (ds : List Deed) → IsActed set ds w.acts w.task w.aside (next.Starts n shape after) (elim ds [ [] ↦ Stop (Wants (action.Starts n shape) w) | d ∷ rest ↦ start_by set w Stop go shape n d.act rest ])
        by [] = (w, refl, (refl, refl))
        by (d ∷ rest) = told d rest d.act

    came : (box : BoxName) (k : ℕ) (rest : List Deed) (o : Option (List Object)) → IsDone rest w.acts w.task w.aside (tree_came box k after o) (receives set w Stop go (Take box k) rest o)
    came box k rest None = refl
    came box k rest (Some objects) = (refl, refl, refl, refl, refl)

    taken : (box : BoxName) (d : Deed) (rest : List Deed) (act : Act) → IsDone rest w.acts w.task w.aside (takes_deed set.program box after d act) (take_by set w Stop go box d.taken act rest)
    taken box d rest (Put c k z) = refl
    taken box d rest (Take c k) = came box k rest (built set.program OfMessage w.next d.taken)
    taken box d rest (Empty c) = refl
    taken box d rest (Start k z) = refl
    taken box d rest (Print z) = refl
    taken box d rest (End c) = refl
    taken box d rest (Wait c) = refl
    taken box d rest (Bound c k) = refl

    takes_next : (box : BoxName) → N w (next.Gets box after) (takes set w Stop go box)
    takes_next box = by w.deeds
      where
        by : (ds : List Deed) → IsActed set ds w.acts w.task w.aside (next.Gets box after) (elim ds [ [] ↦ Stop (Wants (action.Gets box) w) | d ∷ rest ↦ take_by set w Stop go box d.taken d.act rest ])
        by [] = (w, refl, (refl, refl))
        by (d ∷ rest) = taken box d rest d.act

    probed : (box : BoxName) (d : Deed) (rest : List Deed) (act : Act) → IsDone rest w.acts w.task w.aside (probes_deed set.program box after d act) (probe_by set w Stop go box d.taken act rest)
    probed box d rest (Put c k z) = refl
    probed box d rest (Take c k) = taken box d rest (Take c k)
    probed box d rest (Empty c) = (refl, refl, refl, refl, refl)
    probed box d rest (Start k z) = refl
    probed box d rest (Print z) = refl
    probed box d rest (End c) = refl
    probed box d rest (Wait c) = refl
    probed box d rest (Bound c k) = refl

    probes_next : (box : BoxName) → N w (next.Probes box after) (probes set w Stop go box)
    probes_next box = by w.deeds
      where
        by : (ds : List Deed) → IsActed set ds w.acts w.task w.aside (next.Probes box after) (elim ds [ [] ↦ Stop (Wants (action.Probes box) w) | d ∷ rest ↦ probe_by set w Stop go box d.taken d.act rest ])
        by [] = (w, refl, (refl, refl))
        by (d ∷ rest) = probed box d rest d.act

    prints_next : (o : Option Token) → N w (print_next after o) (prints set w Stop go o)
    prints_next None = refl
    prints_next (Some token) = by w.deeds
      where
        by : (ds : List Deed) → IsActed set ds w.acts w.task w.aside (next.Prints token after)
            (elim ds [ [] ↦ Stop (Wants (action.Prints token) w) | d ∷ rest ↦ Run m p l s x b (record (counted w) { deeds = rest; acts = Print (token ∷ []) ∷ w.acts }) ])
        by [] = (w, refl, (refl, refl))
        by (d ∷ rest) = (refl, refl, refl, refl, refl)

    args_next : (o : Option ℤ) → N w (arg_next set.program after o) (gives_arg set w Stop go raise o)
    args_next None = raises_here cause.Index
    args_next (Some n) = (refl, refl, refl, refl, refl)

    natives_next : (n : Native) (args : List Value) → N w (native_next set after n args) (native_does set w Stop go raise n args)
    natives_next native.Execute (Ref n ∷ []) = (refl, refl, refl, refl, refl)
    natives_next native.Start (Ref n ∷ []) = starts_next n (shape_of set.program w.heap n)
    natives_next native.Put (Box box ∷ message ∷ []) = messages box message
    natives_next native.PutWait (Box box ∷ message ∷ []) = waits_next box message
    natives_next native.Bound (Box box ∷ Int i ∷ []) = bounds_next box i
    natives_next native.Get (Box box ∷ []) = takes_next box
    natives_next native.Getnb (Box box ∷ []) = probes_next box
    natives_next native.Print (v ∷ []) = prints_next (printed v)
    natives_next native.Yield [] = (refl, refl, refl, refl, refl)
    natives_next native.ArgCount [] = (refl, refl, refl, refl, refl)
    natives_next native.Arg (Int i ∷ []) = args_next (arg_at set.limits.args i)
    natives_next n args = refl

    asked : (o : Option Native) (args : List Value) → N w (asks_next set after args o) (asks set w Stop go raise o args)
    asked None args = refl
    asked (Some n) args = natives_next n args

  -- ---- the last frame

  begins_same : (w : World) (l : Lone) (n : ℕ) (o : Option MethodId) → l ≡ on_heap l w.heap → l.next ≡ w.next → l.kept ≡ Some n
      → N w (begins_next l w.done w.boxes (begun_on set.program o n)) (begins set n w (record (counted w) { kept = None }) o)
  begins_same w l n None hl hn hk = refl
  begins_same w l n (Some k) hl hn hk = by (method_at set.program k)
    where
      h : w.heap ≡ l.heap
      h = sym (ap (λ (z : Lone). z.heap) hl)

      kinds : (t : Bool) → N w (begins_next l w.done w.boxes (Some (if t then [] else entered set.program k (Ref n ∷ []) ∷ [])))
          (if t then ending set w Stop cause.Done else Run k 0 (entered set.program k (Ref n ∷ [])).locals [] (Ref n) [] (record (counted w) { kept = None }))
      kinds true = ends w l cause.Done
      kinds false = (
        ap (λ (z : Objects). record { heap = z; next = w.next; thread = Alive (entered set.program k (Ref n ∷ []) ∷ []) (w.done + 1) w.boxes; kept = None }) h
            ∙ ap (λ (z : ℕ). record { heap = l.heap; next = z; thread = Alive (entered set.program k (Ref n ∷ []) ∷ []) (w.done + 1) w.boxes; kept = None }) (sym hn),
        refl,
        refl,
        refl,
        refl,
      )

      by : (o : Option Method) → N w (begins_next l w.done w.boxes (begun_in set.program k n o)) (begins_in set k n w (record (counted w) { kept = None }) o)
      by None = refl
      by (Some method) = kinds method.built_in

  finishes_same : (w : World) (m : MethodId) (p : ℕ) (l s : List Value) (b : List Frame) (kept : Option ℕ) → w.kept ≡ kept
      → N w (finish_next set (lone_at m p l s b w) w.done w.boxes kept) (finishes set w kept)
  finishes_same w m p l s b None hk = ends w (lone_at m p l s b w) cause.Done
  finishes_same w m p l s b (Some n) hk = begins_same w (lone_at m p l s b w) n (execute_of set.program set.main) refl refl hk

  -- ---- all effects

  effects : (e : Effect) (m : MethodId) (p : ℕ) (l s : List Value) (x : Value) (b : List Frame) (w : World)
      → N w (next_by set w.task (lone_at m p l s b w) w.done w.boxes (frame m p l s) (lone_frames b) (move_by set.program e (frame m p l s) (lone_frames b))) (effect_does set e (frame m p l s) x b w)
  effects (effect.Goes q l2 s2 heap) m p l s x b w = (refl, refl, refl, refl, refl)
  effects (effect.Makes object q l2 s2 heap) m p l s x b w = (refl, refl, refl, refl, refl)
  effects (effect.Opens q l2 s2 heap) m p l s x b w = by (nat_lt w.boxes box_limit)
    where
      by : (t : Bool) → N w (if t then next.Goes (went (on_heap (lone_at m p l s b w) heap) (frame m q l2 (Box (record { task = w.task; number = w.boxes }) ∷ s2) ∷ lone_frames b) w.done (w.boxes + 1)) else next.Ends cause.Boxes (ended (on_heap (lone_at m p l s b w) heap) cause.Boxes))
          (if t then Run m q l2 (Box (record { task = w.task; number = w.boxes }) ∷ s2) x b (record (counted (with_heap w heap)) { boxes = w.boxes + 1 }) else ending set (with_heap w heap) Stop cause.Boxes)
      by true = (refl, refl, refl, refl, refl)
      by false = ends (with_heap w heap) (on_heap (lone_at m p l s b w) heap) cause.Boxes
  effects (effect.Calls c args q l2 s2 heap) m p l s x b w =
      subst (λ (n : ℕ). N w (next_by set w.task (lone_at m p l s b w) w.done w.boxes (frame m p l s) (lone_frames b) (if nat_lt (suc (length (lone_frames b))) frame_limit then move.Runs (move.Enters (receiver_of set.program c args)) (entered set.program c args ∷ frame m q l2 s2 ∷ lone_frames b) heap else move.Ends cause.Depth))
      (if nat_lt (suc n) frame_limit then Run c 0 (entered set.program c args).locals [] (self_of set.program c args) (At m q l2 s2 x ∷ b) (counted (with_heap w heap)) else ending set (with_heap w heap) Stop cause.Depth)) (same_length b)
      (by (nat_lt (suc (length (lone_frames b))) frame_limit))
    where
      by : (t : Bool) → N w (next_by set w.task (lone_at m p l s b w) w.done w.boxes (frame m p l s) (lone_frames b) (if t then move.Runs (move.Enters (receiver_of set.program c args)) (entered set.program c args ∷ frame m q l2 s2 ∷ lone_frames b) heap else move.Ends cause.Depth))
          (if t then Run c 0 (entered set.program c args).locals [] (self_of set.program c args) (At m q l2 s2 x ∷ b) (counted (with_heap w heap)) else ending set (with_heap w heap) Stop cause.Depth)
      by true = (refl, refl, refl, refl, refl)
      by false = ends_in w.deeds w.acts w.task (with_heap w heap) (ended (lone_at m p l s b w) cause.Depth) cause.Depth refl
  effects (effect.Asks c args q l2 s2 heap) m p l s x b w = asked (with_heap w heap) m q l2 s2 x b (native_of set.program c) args
  effects (effect.Returns v heap) m p l s x [] w = finishes_same (with_heap w heap) m p l s [] w.kept refl
  effects (effect.Returns None heap) m p l s x (At m2 p2 l2 s2 x2 ∷ b) w = (refl, refl, refl, refl, refl)
  effects (effect.Returns (Some v) heap) m p l s x (At m2 p2 l2 s2 x2 ∷ b) w = (refl, refl, refl, refl, refl)
  effects (effect.Raises c) m p l s x b w =
      raises_so w (Alive (frame m p l s ∷ lone_frames b) w.done w.boxes) c (λ k. thrown set.program k (Ref w.next) (frame m p l s) (lone_frames b)) (λ k. left_at set.program k (Ref w.next) (frame m p l s) x b)
      (λ k. at_same set.program k (Ref w.next) (frame m p l s) x b) (raised_class set.program (index_at set.program (frame m p l s)) c)
  effects (effect.Throws n k c) m p l s x b w =
      subst (λ (fs : List Activation). N w (throws_by (lone_at m p l s b w) c (w.done + 1) w.boxes fs) (thrown_to set Stop (stands_at set) (counted w) c (counted w) (left_at set.program k (Ref n) (frame m p l s) x b)))
      (sym (at_same set.program k (Ref n) (frame m p l s) x b)) (throws_so w (Alive (frame m p l s ∷ lone_frames b) w.done w.boxes) c (left_at set.program k (Ref n) (frame m p l s) x b))
  effects (effect.Ends c) m p l s x b w = ends w (lone_at m p l s b w) c
  effects effect.Stuck m p l s x b w = refl

  pub steps : (m : MethodId) (p : ℕ) (l s : List Value) (x : Value) (b : List Frame) (w : World) → N w (next_move set w.task (lone_at m p l s b w)) (step set (Run m p l s x b w))
  unfolding next_move moves
  steps m p l s x b w = spent (nat_le set.limits.steps w.done)
    where
      found : (own : Method) (o : Option (Instr × ℕ)) → N w (next_by set w.task (lone_at m p l s b w) w.done w.boxes (frame m p l s) (lone_frames b) (move_by set.program (effect_found set.program own (frame m p l s) w.heap o) (frame m p l s) (lone_frames b)))
          (elim o [ None ↦ Stop Lost | Some i ↦ effect_does set (does set.program own i.0 i.1 l s w.heap) (frame m p l s) x b w ])
      found own None = refl
      found own (Some i) = effects (does set.program own i.0 i.1 l s w.heap) m p l s x b w

      method : (o : Option Method) → N w (next_by set w.task (lone_at m p l s b w) w.done w.boxes (frame m p l s) (lone_frames b) (move_by set.program (effect_in set.program (frame m p l s) w.heap o) (frame m p l s) (lone_frames b)))
          (elim (code_in o p) [ None ↦ Stop Lost | Some i ↦ effect_does set (does set.program (own_in o) i.0 i.1 l s w.heap) (frame m p l s) x b w ])
      method None = refl
      method (Some own) = found own (fetched own.code own.code_length p)

      same : (o : Option (Instr × ℕ)) → elim o [ None ↦ Stop Lost | Some i ↦ effect_does set (does set.program (own_of set.program m) i.0 i.1 l s w.heap) (frame m p l s) x b w ] ≡ found_does set o (frame m p l s) x b w
      same None = refl
      same (Some i) = refl

      spent : (t : Bool) → N w (if t then next.Ends cause.Spent (ended (lone_at m p l s b w) cause.Spent) else next_by set w.task (lone_at m p l s b w) w.done w.boxes (frame m p l s) (lone_frames b) (moves set.program (frame m p l s) (lone_frames b) w.heap))
          (if t then ending set w Stop cause.Spent else found_does set (fetch set.program m p) (frame m p l s) x b w)
      spent true = ends w (lone_at m p l s b w) cause.Spent
      spent false = subst (λ (t : Thread). N w (next_by set w.task (lone_at m p l s b w) w.done w.boxes (frame m p l s) (lone_frames b) (move_by set.program (effect_of set.program (frame m p l s) w.heap) (frame m p l s) (lone_frames b))) t) (same (fetch set.program m p)) (method (method_at set.program m))
