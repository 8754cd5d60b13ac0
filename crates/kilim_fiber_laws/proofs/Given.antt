-- What a fiber puts or starts next is an object that is whole.
use Rattle.std.proofs.Common.{◌≡◌, ℕ, ℤ, pos, negsuc, zero, Bool, true, false, cond, not, List, [], ◌∷◌, Option, Some, None, refl, subst, ◌+◌, suc}
use Rattle.std.specs.Prelude.{nat_le, nat_lt, ◌&&◌}
use Rattle.kilim_program.specs.declared.instr.Instr.{Instr}
use Rattle.kilim_program.specs.declared.names.BoxName.{BoxName}
use Rattle.kilim_program.specs.declared.names.MethodId.{MethodId}
use Rattle.kilim_program.specs.declared.value.Value.{Value}
use Rattle.kilim_program.specs.declared.value.Value.TheVariants.{Int, Null, Ref, Box, Fiber}
use Rattle.kilim_program.specs.Program.{Program}
use Rattle.kilim_fiber_spec.proofs.fiber_kin.Belows.{AllWell}
use Rattle.kilim_run_state.specs.declared.cause.EndCause.{EndCause}
use Rattle.kilim_run_state.specs.declared.cause.EndCause.TheVariants as cause
use Rattle.kilim_run_state.specs.Objects.{new_object}
use Rattle.kilim_run_machine.specs.Raising.{index_at, other_index, raised_class, thrown, unwound}
use Rattle.kilim_program.specs.declared.names.ClassId.{ClassId}
use Rattle.kilim_run_state.specs.declared.value.Token.{Token}
use Rattle.kilim_run_state.specs.Machine.{Objects, Activation}
use Rattle.kilim_program.specs.Members.{execute_of}
use Rattle.kilim_run_machine.specs.Moves.{Move, entered, moves, push_result, push_value}
use Rattle.kilim_run_machine.specs.Moves as move
use Rattle.kilim_run_machine.specs.Natives.{Native, FiberMember, Pc, Down, Up, Save, Place, Restore, Receiver, native_of}
use Rattle.kilim_run_machine.specs.Natives as native
use Rattle.kilim_run_state.specs.Shapes.{shape_of}
use Rattle.kilim_run_state.specs.Trees.{Root, OfMessage, OfTask}
use Rattle.kilim_run_model.specs.Kept.{given}
use Rattle.kilim_run_model.specs.Lone.{arg_at, box_limit, printed}
use Rattle.kilim_run_model.specs.State.{Setting}
use Rattle.kilim_fiber_laws.proofs.Reached.{GivesObjects, moves_give}
use Rattle.kilim_fiber_laws.specs.woven_kin.history.History.{state_in}
use Rattle.kilim_fiber_laws.specs.woven_kin.Nexts.{counted, raised, raises, thrown_to, with_new, Next, Goes, Puts, Starts, Rests, Ends, Stands, arg_next, asks_next, begins_next, begun_with, found_next, finish_next, get_next, message_next, native_next, next_by, next_in, next_of, opens_next, print_next, put_next, resumes_next, spent_or, start_next, stood, ticked, yield_next, PutWaits, put_wait_next, wait_next, bound_next, PutsAgain, first_wait, putw_next, taken_at, wait_again, waiting_at}
use Rattle.kilim_fiber_laws.specs.woven_kin.Standing.{Standing}
use Rattle.kilim_fiber_spec.specs.Acts.{World, Apart}
use Rattle.kilim_fiber_spec.specs.Fibers.{Fib, Fiber_at, Saved, executes_on, first_receiver, is_pausing, is_rewinding, member_does, wfetch}
use Rattle.kilim_fiber_spec.specs.Rooms.{IsFineState, IsWholeAt}

pub all_well : (p : Program) (root : Root) (h : Objects) (n : ℕ) → IsWholeAt p root h n → AllWell p h n
all_well p root h n g = λ y b. let o = g.below y b in record { object = o.object; there = o.there; formed = o.formed; shown = o.shown }

module _ (set : Setting) (W : Program) (marks : List (List Bool)) (t : ℕ) where
  abbrev pub Whole : Next → Type 0
  Whole (Puts box n shape a) = IsWholeAt set.program OfMessage a.heap n
  Whole (PutWaits box n shape paused a) = IsWholeAt set.program OfMessage paused.heap n × IsWholeAt set.program OfMessage a.heap n
  Whole (Starts n shape a) = IsWholeAt set.program OfTask a.heap n
  Whole x = Unit {0}

  thrown_whole : (l : Standing) (why : EndCause) (left : List Activation) → Whole (thrown_to l why left)
  thrown_whole l why [] = tt
  thrown_whole l why (f ∷ fs) = tt

  raises_whole : (l : Standing) (why : EndCause) (left : ClassId → List Activation) (o : Option ClassId) → Whole (raises W l why left o)
  raises_whole l why left None = tt
  raises_whole l why left (Some c) = thrown_whole (with_new l (new_object W c)) why (left c)

  spent_whole : (counts : Bool) (done : ℕ) (x : Next) → (counts && nat_le set.limits.steps done ≡ false → Whole x) → Whole (spent_or set counts done x)
  spent_whole counts done x e = by (counts && nat_le set.limits.steps done) refl
    where
      by : (z : Bool) → counts && nat_le set.limits.steps done ≡ z → Whole (cond z (Ends cause.Spent) x)
      by true s = tt
      by false s = e s

  module _ (z : Standing) where
    put_whole : (box : BoxName) (n : ℕ) → IsWholeAt set.program OfMessage z.heap n → (o : Option (List Token)) → Whole (put_next z box n o)
    put_whole box n g None = tt
    put_whole box n g (Some shape) = g

    raised_whole : (why : EndCause) → Whole (raised W z why)
    raised_whole why = raises_whole (counted z) why (λ c. unwound W c (Ref z.next) z.frames) (raised_class W other_index why)

    message_whole : (box : BoxName) (v : Value) → ((root : Root) (n : ℕ) → given (Some native.Put) (Box box ∷ v ∷ []) ≡ Some (root, n) → IsWholeAt set.program root z.heap n) → Whole (message_next set.program W z box v)
    message_whole box (Ref n) g = put_whole box n (g OfMessage n refl) (shape_of set.program z.heap n)
    message_whole box Null g = raised_whole cause.Null
    message_whole box _ g = tt

    put_wait_whole : (box : BoxName) (n : ℕ) → IsWholeAt set.program OfMessage z.heap n → (o : Option (List Token)) → Whole (put_wait_next set.program z box n o)
    put_wait_whole box n g None = tt
    put_wait_whole box n g (Some shape) = (g, g)

    wait_whole : (box : BoxName) (v : Value) → ((root : Root) (n : ℕ) → given (Some native.PutWait) (Box box ∷ v ∷ Fiber ∷ []) ≡ Some (root, n) → IsWholeAt set.program root z.heap n) → Whole (wait_next set.program W z box v)
    wait_whole box (Ref n) g = put_wait_whole box n (g OfMessage n refl) (shape_of set.program z.heap n)
    wait_whole box Null g = raised_whole cause.Null
    wait_whole box _ g = tt

    first_whole : (v u : Value) → ((root : Root) (n : ℕ) → given (Some native.PutWait) (v ∷ u ∷ Fiber ∷ []) ≡ Some (root, n) → IsWholeAt set.program root z.heap n) → Whole (first_wait set.program W z v u)
    first_whole (Box box) u g = wait_whole box u g
    first_whole _ u g = tt

    again_whole : (v : Value) (kept : List Apart) → Whole (wait_again set z v kept)
    again_whole (Box box) (k ∷ ks) = spent_whole true z.done (PutsAgain box k.root k.shape (taken_at (record z { heap = k.heap; aside = ks })) (waiting_at box z) (taken_at (record z { aside = ks }))) (λ left. tt)
    again_whole _ _ = tt

    putw_whole : (b : Bool) (v u : Value) → ((root : Root) (n : ℕ) → given (Some native.PutWait) (v ∷ u ∷ Fiber ∷ []) ≡ Some (root, n) → IsWholeAt set.program root z.heap n) → Whole (putw_next set W b z v u)
    putw_whole true v u g = again_whole v z.aside
    putw_whole false v u g = spent_whole true z.done (first_wait set.program W z v u) (λ left. first_whole v u g)

    bound_whole : (box : BoxName) (i : ℤ) → Whole (bound_next W z box i)
    bound_whole box (pos (suc n)) = tt
    bound_whole box (pos zero) = raised_whole cause.Size
    bound_whole box (negsuc n) = raised_whole cause.Size

    start_whole : (n : ℕ) → IsWholeAt set.program OfTask z.heap n → (o : Option (List Token)) → Whole (start_next z n o)
    start_whole n g None = tt
    start_whole n g (Some shape) = g

    print_whole : (o : Option Token) → Whole (print_next z o)
    print_whole None = tt
    print_whole (Some token) = tt

    arg_whole : (o : Option ℤ) → Whole (arg_next W z o)
    arg_whole None = raised_whole cause.Index
    arg_whole (Some n) = tt

    get_whole : (v : Value) → Whole (get_next z v)
    get_whole (Box box) = tt
    get_whole _ = tt

    yield_whole : (again : Bool) → Whole (yield_next again z)
    yield_whole true = tt
    yield_whole false = tt

    member_whole : (member : FiberMember) (args : List Value) (f : Fib) → Whole (member_does Stands (λ g v. Goes (record z { fiber = g; frames = push_result v z.frames })) member args f)
    member_whole Pc (Fiber ∷ []) (Fiber_at lo (Saved q x vs) de re pa) = tt
    member_whole Down (Fiber ∷ []) (Fiber_at lo r [] re pa) = tt
    member_whole Down (Fiber ∷ []) (Fiber_at lo r (d ∷ de) re pa) = tt
    member_whole Up (Fiber ∷ []) (Fiber_at [] r de re pa) = tt
    member_whole Up (Fiber ∷ []) (Fiber_at (k ∷ lo) r de re pa) = tt
    member_whole Save (v ∷ Fiber ∷ []) (Fiber_at lo (Saved q x vs) de re pa) = tt
    member_whole Place (Int (pos n) ∷ y ∷ Fiber ∷ []) (Fiber_at lo (Saved q x vs) de re pa) = tt
    member_whole Restore (Fiber ∷ []) (Fiber_at lo (Saved q x []) de re pa) = tt
    member_whole Restore (Fiber ∷ []) (Fiber_at lo (Saved q x (v ∷ vs)) de re pa) = tt
    member_whole Receiver (Fiber ∷ []) (Fiber_at lo r [] re pa) = tt
    member_whole Receiver (Fiber ∷ []) (Fiber_at lo r (Saved q x vs ∷ de) re pa) = tt
    member_whole _ _ _ = tt

    native_whole : (n : Native) (args : List Value) → ((root : Root) (i : ℕ) → given (Some n) args ≡ Some (root, i) → IsWholeAt set.program root z.heap i) → Whole (native_next set W z n args)
    native_whole native.Execute (Ref n ∷ Fiber ∷ []) g = tt
    native_whole native.Getnb (Box box ∷ []) g = tt
    native_whole native.ArgCount [] g = tt
    native_whole native.Start (Ref n ∷ []) g = start_whole n (g OfTask n refl) (shape_of set.program z.heap n)
    native_whole native.Put (Box box ∷ v ∷ []) g = message_whole box v g
    native_whole native.PutWait (v ∷ u ∷ Fiber ∷ []) g = putw_whole (is_rewinding z.fiber) v u g
    native_whole native.Bound (Box box ∷ Int i ∷ []) g = bound_whole box i
    native_whole native.Get (v ∷ Fiber ∷ []) g = spent_whole true z.done (get_next z v) (λ left. get_whole v)
    native_whole native.Print (v ∷ []) g = print_whole (printed v)
    native_whole native.Yield (Fiber ∷ []) g = yield_whole (is_rewinding z.fiber)
    native_whole native.Arg (Int i ∷ []) g = arg_whole (arg_at set.limits.args i)
    native_whole (native.OfFiber member) args g = member_whole member args z.fiber
    native_whole _ _ g = tt

    asks_whole : (n : Option Native) (args : List Value) → ((root : Root) (i : ℕ) → given n args ≡ Some (root, i) → IsWholeAt set.program root z.heap i) → Whole (asks_next set W z args n)
    asks_whole None args g = tt
    asks_whole (Some n) args g = native_whole n args g

    begins_whole : (o : Option (List Activation)) → Whole (begins_next z o)
    begins_whole None = tt
    begins_whole (Some []) = tt
    begins_whole (Some (top ∷ below)) = tt

    finish_whole : (o : Option ℕ) → Whole (finish_next set W z o)
    finish_whole None = elim (is_pausing z.fiber) as (λ (b : Bool). Whole (cond b (Rests (record z { frames = [] })) (Ends cause.Done))) [ true ↦ tt | false ↦ tt ]
    finish_whole (Some n) = begins_whole (begun_with W (execute_of W set.main) (Ref n ∷ Fiber ∷ []))

    opens_whole : (counts : Bool) → Whole (opens_next t counts z)
    opens_whole counts =
        elim (nat_lt z.boxes box_limit) as (λ (b : Bool). Whole (cond b (Goes (ticked counts (record z { frames = push_value (Box (record { task = t; number = z.boxes })) z.frames; boxes = z.boxes + 1 }))) (Ends cause.Boxes))) [ true ↦ tt | false ↦ tt ]

  by_whole : (x : Standing) (counts : Bool) (top : Activation) (below : List Activation) (m : Move) → GivesObjects set.program W m → Whole (next_by set W t counts x top below m)
  by_whole x counts top below (move.Runs change frames heap) g = tt
  by_whole x counts top below (move.Makes o frames heap) g = tt
  by_whole x counts top below (move.Opens frames heap) g = opens_whole (stood x frames heap) counts
  by_whole x counts top below (move.Asks id args frames heap) g = asks_whole (stood x frames heap) (native_of W id) args g
  by_whole x counts top below (move.Returns heap) g = finish_whole (record x { heap = heap }) x.kept
  by_whole x counts top below (move.Raises why) g = raises_whole (ticked counts x) why (λ c. thrown W c (Ref x.next) top below) (raised_class W (index_at W top) why)
  by_whole x counts top below (move.Throws object class why) g = thrown_whole (ticked counts x) why (thrown W class (Ref object) top below)
  by_whole x counts top below (move.Ends why) g = tt
  by_whole x counts top below move.Stuck g = tt

  module _ (x : Standing) where
    found_whole : (top : Activation) (below : List Activation) (o : Option (Instr × ℕ × Bool)) → GivesObjects set.program W (moves W top below x.heap) → Whole (found_next set W t x top below o)
    found_whole top below None g = tt
    found_whole top below (Some found) g =
        let counts : Bool = found.2 && not (is_rewinding x.fiber) in
        spent_whole counts x.done (next_by set W t counts x top below (moves W top below x.heap)) (λ left. by_whole x counts top below (moves W top below x.heap) g)

    resumes_whole : (o : Option MethodId) → Whole (resumes_next W x o)
    resumes_whole None = tt
    resumes_whole (Some m) = tt

    frames_whole : (w : World) → w.heap ≡ x.heap → (ps : List ℕ) (fs : List Activation) → IsFineState set.program W (state_in fs x.fiber w ps) → Whole (next_in set W marks t x fs)
    frames_whole w heap ps [] fine = resumes_whole (executes_on W x.heap (first_receiver x.fiber))
    frames_whole w heap ps (top ∷ below) fine =
        found_whole top below (wfetch set W marks top.method top.place)
        (subst (λ (h : Objects). GivesObjects set.program W (moves W top below h)) heap (moves_give set.program W top below w.heap fine.gives))

  pub next_whole : (x : Standing) (w : World) → w.heap ≡ x.heap → (ps : List ℕ) → IsFineState set.program W (state_in x.frames x.fiber w ps) → Whole (next_of set W marks t x)
  unfolding next_of
  next_whole x w heap ps fine = frames_whole x w heap ps x.frames fine
