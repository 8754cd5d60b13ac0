-- Where a woven fiber comes to rest it has no frame, and what stands apart stays there until it is put.
use Rattle.std.proofs.Common.{◌≡◌, ap, ◌∙◌, ℕ, ℤ, pos, negsuc, zero, Bool, true, false, cond, not, List, [], ◌∷◌, Option, Some, None, Result, Ok, Err, refl, subst, ◌+◌, suc}
use Rattle.kilim_fiber_spec.specs.Acts.{Apart}
use Rattle.std.specs.Prelude.{IfOk, nat_le, nat_lt, ◌&&◌}
use Rattle.kilim_program.specs.declared.instr.Instr.{Instr}
use Rattle.kilim_program.specs.declared.names.BoxName.{BoxName}
use Rattle.kilim_program.specs.declared.names.ClassId.{ClassId}
use Rattle.kilim_program.specs.declared.names.MethodId.{MethodId}
use Rattle.kilim_program.specs.declared.value.Value.{Value}
use Rattle.kilim_program.specs.declared.value.Value.TheVariants.{Int, Null, Ref, Box, Fiber}
use Rattle.kilim_program.specs.Program.{Program}
use Rattle.kilim_run_state.specs.declared.frames.frames.Frames.{Frames}
use Rattle.kilim_run_state.specs.declared.cause.EndCause.{EndCause}
use Rattle.kilim_run_state.specs.declared.cause.EndCause.TheVariants as cause
use Rattle.kilim_run_state.specs.declared.value.Token.{Token}
use Rattle.kilim_run_state.specs.Machine.{Activation, Objects}
use Rattle.kilim_program.specs.Members.{execute_of}
use Rattle.kilim_run_machine.specs.Moves.{Move, moves, push_result, push_value}
use Rattle.kilim_run_machine.specs.Moves as move
use Rattle.kilim_run_machine.specs.Natives.{Native, FiberMember, Pc, Down, Up, Save, Place, Restore, Receiver, native_of}
use Rattle.kilim_run_machine.specs.Natives as native
use Rattle.kilim_run_machine.specs.Raising.{index_at, other_index, raised_class, thrown, unwound}
use Rattle.kilim_run_state.specs.Objects.{new_object}
use Rattle.kilim_run_state.specs.Shapes.{shape_of}
use Rattle.kilim_run_model.specs.Lone.{arg_at, box_limit, printed}
use Rattle.kilim_run_model.specs.State.{Setting}
use Rattle.kilim_units.specs.declared.memory.NoMemory.{NoMemory}
use Rattle.kilim_fiber_body.specs.Body.{calls_in}
use Rattle.kilim_fiber_body.specs.Comes.{Comes}
use Rattle.kilim_fiber_body.specs.Reach.{AtFirst, Further, GoesTo, Reaches, named}
use Rattle.kilim_fiber_body.specs.declared.body.Body.{Body}
use Rattle.kilim_fiber_body.specs.declared.body.Came.{Came}
use Rattle.kilim_fiber_body.specs.declared.body.Came.TheVariants as came
use Rattle.kilim_fiber_laws.specs.woven_kin.Nexts.{Next, Goes, Puts, PutWaits, Bounds, Gets, Probes, Starts, Prints, Rests, Ends, Stands, arg_next, counted, asks_next, begins_next, begun_with, found_next, finish_next, get_next, message_next, native_next, next_by, next_in, next_of, opens_next, print_next, put_next, raised, raises, resumes_next, thrown_to, with_new, spent_or, start_next, stood, ticked, yield_next, put_wait_next, wait_next, bound_next, PutsAgain, first_wait, putw_next, taken_at, wait_again, waiting_at}
use Rattle.kilim_fiber_laws.specs.woven_kin.Standing.{Standing}
use Rattle.kilim_fiber_spec.specs.Fibers.{Fib, Fiber_at, Saved, executes_on, first_receiver, is_pausing, is_rewinding, member_does, wfetch}
use Rattle.kilim_fiber.specs.Records.{NoFrameIsLeft}

-- ---- the table

-- of these trees the first has this shape, and this heap
pub record IsFirstOf (as1 : List Apart) (shape : List Token) (heap : Objects) : Type 0 where
  pub kept : Apart
  pub others : List Apart
  pub are : as1 ≡ kept ∷ others
  pub shape-is : shape ≡ kept.shape
  pub heap-is : heap ≡ kept.heap

-- with these trees apart
abbrev pub HasNone : List Apart → Next → Type 0
HasNone as1 (Goes g) = g.aside ≡ as1
HasNone as1 (Rests g) = (g.aside ≡ as1) × (g.frames ≡ [])
HasNone as1 (Puts box root shape g) = g.aside ≡ as1
HasNone as1 (PutWaits box root shape paused g) = g.aside ≡ as1
HasNone as1 (PutsAgain box root shape full paused g) = IsFirstOf as1 shape full.heap
HasNone as1 (Bounds box most g) = g.aside ≡ as1
HasNone as1 (Gets box paused g) = g.aside ≡ as1
HasNone as1 (Probes box g) = g.aside ≡ as1
HasNone as1 (Starts root shape g) = g.aside ≡ as1
HasNone as1 (Prints token g) = g.aside ≡ as1
HasNone as1 (Ends why) = Unit {0}
HasNone as1 Stands = Unit {0}

module _ (set : Setting) (W : Program) (t : ℕ) where
  spent_none : (as1 : List Apart) (counts : Bool) (done : ℕ) (x : Next) → HasNone as1 x → HasNone as1 (spent_or set counts done x)
  spent_none as1 counts done x e = by (counts && nat_le set.limits.steps done)
    where
      by : (z : Bool) → HasNone as1 (cond z (Ends cause.Spent) x)
      by true = tt
      by false = e

  ticked_none : (counts : Bool) (z : Standing) → HasNone z.aside (Goes (ticked counts z))
  ticked_none true z = refl
  ticked_none false z = refl

  thrown_none : (z : Standing) (why : EndCause) (left : List Activation) → HasNone z.aside (thrown_to z why left)
  thrown_none z why [] = tt
  thrown_none z why (f ∷ fs) = refl

  raises_none : (z : Standing) (why : EndCause) (left : ClassId → List Activation) (o : Option ClassId) → HasNone z.aside (raises W z why left o)
  raises_none z why left None = tt
  raises_none z why left (Some c) = thrown_none (with_new z (new_object W c)) why (left c)

  module _ (z : Standing) where
    raised_none : (why : EndCause) → HasNone z.aside (raised W z why)
    raised_none why = raises_none (counted z) why (λ c. unwound W c (Ref z.next) z.frames) (raised_class W other_index why)

    put_none : (box : BoxName) (n : ℕ) (o : Option (List Token)) → HasNone z.aside (put_next z box n o)
    put_none box n None = tt
    put_none box n (Some shape) = refl

    message_none : (box : BoxName) (v : Value) → HasNone z.aside (message_next set.program W z box v)
    message_none box (Ref n) = put_none box n (shape_of set.program z.heap n)
    message_none box Null = raised_none cause.Null
    message_none box _ = tt

    put_wait_none : (box : BoxName) (n : ℕ) (o : Option (List Token)) → HasNone z.aside (put_wait_next set.program z box n o)
    put_wait_none box n None = tt
    put_wait_none box n (Some shape) = refl

    wait_none : (box : BoxName) (v : Value) → HasNone z.aside (wait_next set.program W z box v)
    wait_none box (Ref n) = put_wait_none box n (shape_of set.program z.heap n)
    wait_none box Null = raised_none cause.Null
    wait_none box _ = tt

    first_none : (v u : Value) → HasNone z.aside (first_wait set.program W z v u)
    first_none (Box box) u = wait_none box u
    first_none _ u = tt

    again_none : (v : Value) (kept : List Apart) → z.aside ≡ kept → HasNone z.aside (wait_again set z v kept)
    again_none (Box box) (k ∷ ks) e = spent_none z.aside true z.done (PutsAgain box k.root k.shape (taken_at (record z { heap = k.heap; aside = ks })) (waiting_at box z) (taken_at (record z { aside = ks }))) (record { kept = k; others = ks; are = e; shape-is = refl; heap-is = refl })
    again_none _ _ e = tt

    putw_none : (again : Bool) (v u : Value) → HasNone z.aside (putw_next set W again z v u)
    putw_none true v u = again_none v z.aside refl
    putw_none false v u = spent_none z.aside true z.done (first_wait set.program W z v u) (first_none v u)

    bound_none : (box : BoxName) (i : ℤ) → HasNone z.aside (bound_next W z box i)
    bound_none box (pos (suc n)) = refl
    bound_none box (pos zero) = raised_none cause.Size
    bound_none box (negsuc n) = raised_none cause.Size

    start_none : (n : ℕ) (o : Option (List Token)) → HasNone z.aside (start_next z n o)
    start_none n None = tt
    start_none n (Some shape) = refl

    print_none : (o : Option Token) → HasNone z.aside (print_next z o)
    print_none None = tt
    print_none (Some token) = refl

    arg_none : (o : Option ℤ) → HasNone z.aside (arg_next W z o)
    arg_none None = raised_none cause.Index
    arg_none (Some n) = refl

    get_none : (v : Value) → HasNone z.aside (get_next z v)
    get_none (Box box) = refl
    get_none _ = tt

    yield_none : (again : Bool) → HasNone z.aside (yield_next again z)
    yield_none true = refl
    yield_none false = refl

    member_none : (member : FiberMember) (args : List Value) (f : Fib) → HasNone z.aside (member_does Stands (λ g v. Goes (record z { fiber = g; frames = push_result v z.frames })) member args f)
    member_none Pc (Fiber ∷ []) (Fiber_at lo (Saved q x vs) de re pa) = refl
    member_none Down (Fiber ∷ []) (Fiber_at lo r [] re pa) = refl
    member_none Down (Fiber ∷ []) (Fiber_at lo r (d ∷ de) re pa) = refl
    member_none Up (Fiber ∷ []) (Fiber_at [] r de re pa) = tt
    member_none Up (Fiber ∷ []) (Fiber_at (k ∷ lo) r de re pa) = refl
    member_none Save (v ∷ Fiber ∷ []) (Fiber_at lo (Saved q x vs) de re pa) = refl
    member_none Place (Int (pos n) ∷ y ∷ Fiber ∷ []) (Fiber_at lo (Saved q x vs) de re pa) = refl
    member_none Restore (Fiber ∷ []) (Fiber_at lo (Saved q x []) de re pa) = tt
    member_none Restore (Fiber ∷ []) (Fiber_at lo (Saved q x (v ∷ vs)) de re pa) = refl
    member_none Receiver (Fiber ∷ []) (Fiber_at lo r [] re pa) = tt
    member_none Receiver (Fiber ∷ []) (Fiber_at lo r (Saved q x vs ∷ de) re pa) = refl
    member_none _ _ _ = tt

    native_none : (n : Native) (args : List Value) → HasNone z.aside (native_next set W z n args)
    native_none native.Execute (Ref n ∷ Fiber ∷ []) = refl
    native_none native.Getnb (Box box ∷ []) = refl
    native_none native.ArgCount [] = refl
    native_none native.Start (Ref n ∷ []) = start_none n (shape_of set.program z.heap n)
    native_none native.Put (Box box ∷ v ∷ []) = message_none box v
    native_none native.PutWait (v ∷ u ∷ Fiber ∷ []) = putw_none (is_rewinding z.fiber) v u
    native_none native.Bound (Box box ∷ Int i ∷ []) = bound_none box i
    native_none native.Get (v ∷ Fiber ∷ []) = spent_none z.aside true z.done (get_next z v) (get_none v)
    native_none native.Print (v ∷ []) = print_none (printed v)
    native_none native.Yield (Fiber ∷ []) = yield_none (is_rewinding z.fiber)
    native_none native.Arg (Int i ∷ []) = arg_none (arg_at set.limits.args i)
    native_none (native.OfFiber member) args = member_none member args z.fiber
    native_none _ _ = tt

    asks_none : (n : Option Native) (args : List Value) → HasNone z.aside (asks_next set W z args n)
    asks_none None args = tt
    asks_none (Some n) args = native_none n args

    begins_none : (o : Option (List Activation)) → HasNone z.aside (begins_next z o)
    begins_none None = tt
    begins_none (Some []) = tt
    begins_none (Some (top ∷ below)) = refl

    -- only here it rests
    finish_none : (o : Option ℕ) → HasNone z.aside (finish_next set W z o)
    finish_none None = elim (is_pausing z.fiber) as (λ (b : Bool). HasNone z.aside (cond b (Rests (record z { frames = [] })) (Ends cause.Done))) [ true ↦ (refl, refl) | false ↦ tt ]
    finish_none (Some n) = begins_none (begun_with W (execute_of W set.main) (Ref n ∷ Fiber ∷ []))

    opens_none : (counts : Bool) → HasNone z.aside (opens_next t counts z)
    opens_none counts =
        elim (nat_lt z.boxes box_limit) as (λ (b : Bool). HasNone z.aside (cond b (Goes (ticked counts (record z { frames = push_value (Box (record { task = t; number = z.boxes })) z.frames; boxes = z.boxes + 1 }))) (Ends cause.Boxes))) [ true ↦ ticked_none counts (record z { frames = push_value (Box (record { task = t; number = z.boxes })) z.frames; boxes = z.boxes + 1 }) | false ↦ tt ]

  raises_here : (x : Standing) (counts : Bool) (why : EndCause) (left : ClassId → List Activation) (o : Option ClassId) → HasNone x.aside (raises W (ticked counts x) why left o)
  raises_here x true why left o = raises_none (counted x) why left o
  raises_here x false why left o = raises_none x why left o

  thrown_here : (x : Standing) (counts : Bool) (why : EndCause) (left : List Activation) → HasNone x.aside (thrown_to (ticked counts x) why left)
  thrown_here x true why left = thrown_none (counted x) why left
  thrown_here x false why left = thrown_none x why left

  by_none : (x : Standing) (counts : Bool) (top : Activation) (below : List Activation) (m : Move) → HasNone x.aside (next_by set W t counts x top below m)
  by_none x counts top below (move.Runs change frames heap) = ticked_none counts (stood x frames heap)
  by_none x counts top below (move.Makes o frames heap) = ticked_none counts _
  by_none x counts top below (move.Opens frames heap) = opens_none (stood x frames heap) counts
  by_none x counts top below (move.Asks id args frames heap) = asks_none (stood x frames heap) (native_of W id) args
  by_none x counts top below (move.Returns heap) = finish_none (record x { heap = heap }) x.kept
  by_none x counts top below (move.Raises why) = raises_here x counts why (λ c. thrown W c (Ref x.next) top below) (raised_class W (index_at W top) why)
  by_none x counts top below (move.Throws object class why) = thrown_here x counts why (thrown W class (Ref object) top below)
  by_none x counts top below (move.Ends why) = tt
  by_none x counts top below move.Stuck = tt

  module _ (x : Standing) where
    found_none : (top : Activation) (below : List Activation) (o : Option (Instr × ℕ × Bool)) → HasNone x.aside (found_next set W t x top below o)
    found_none top below None = tt
    found_none top below (Some found) =
        let counts : Bool = found.2 && not (is_rewinding x.fiber) in
        spent_none x.aside counts x.done (next_by set W t counts x top below (moves W top below x.heap)) (by_none x counts top below (moves W top below x.heap))

    resumes_none : (o : Option MethodId) → HasNone x.aside (resumes_next W x o)
    resumes_none None = tt
    resumes_none (Some m) = refl

    frames_none : (marks : List (List Bool)) (fs : List Activation) → HasNone x.aside (next_in set W marks t x fs)
    frames_none marks [] = resumes_none (executes_on W x.heap (first_receiver x.fiber))
    frames_none marks (top ∷ below) = found_none top below (wfetch set W marks top.method top.place)

  pub next_has_none : (marks : List (List Bool)) (x : Standing) → HasNone x.aside (next_of set W marks t x)
  unfolding next_of
  next_has_none marks x = frames_none x marks x.frames

-- ---- the body

no_frame : (o : Option Frames) → calls_in o ≡ [] → o ≡ None
no_frame None e = refl
no_frame (Some frames) e = absurd (cc)

module _ (set : Setting) (W : Program) (marks : List (List Bool)) (t : ℕ) (first : Standing) (new : Body) where
  comes_none : (x : ℕ) (n : Next) (as1 : List Apart) → HasNone as1 n → (a : Came) → Comes x n new a → NoFrameIsLeft a new
  comes_none x n as1 none came.Rests e = no_frame new.frames (subst (HasNone as1) e none).1
  comes_none x n as1 none _ e = tt

  none_by : (a : Came) → Reaches set W marks t first new a → NoFrameIsLeft a new
  none_by a r = comes_none r.after (next_of set W marks t (named r.free r.mid)) r.mid.aside (next_has_none set W t marks (named r.free r.mid)) a r.comes

  pub none_is_left : (r : Result Came NoMemory) → IfOk r (λ a. Reaches set W marks t first new a) → IfOk r (λ a. NoFrameIsLeft a new)
  none_is_left (Ok a) reaches = none_by a reaches
  none_is_left (Err e) reaches = tt

-- ---- what stands apart: on the way nothing is put there and nothing taken

pub goes_apart : (set : Setting) (W : Program) (marks : List (List Bool)) (t : ℕ) (first m : Standing) → GoesTo set W marks t first m → m.aside ≡ first.aside
goes_apart set W marks t first m (AtFirst e) = ap (λ (x : Standing). x.aside) e
goes_apart set W marks t first m (Further l x y goes free next) = subst (HasNone l.aside) next (next_has_none set W t marks (named x l)) ∙ goes_apart set W marks t first l goes
