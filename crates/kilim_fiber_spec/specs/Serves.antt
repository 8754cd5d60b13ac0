-- A woven fiber does what the unwoven thread does: what it rests on, and what it says.
use Rattle.std.specs.Prelude.{◌≡◌, ◌≢◌, ◌⊎◌, ◌↔◌, ℕ, suc, ◌≤◌, ◌<◌, nat_le, Bool, true, false, List, [], ◌∷◌, Some, None, length}
use Rattle.kilim_run_state.specs.declared.cause.EndCause.{EndCause}
use Rattle.kilim_program.specs.declared.class.Method.{Method}
use Rattle.kilim_program.specs.declared.instr.Instr.{Instr}
use Rattle.kilim_program.specs.declared.names.BoxName.{BoxName}
use Rattle.kilim_program.specs.declared.names.ClassId.{ClassId}
use Rattle.kilim_program.specs.declared.names.MethodId.{MethodId}
use Rattle.kilim_program.specs.declared.value.Value.{Value}
use Rattle.kilim_program.specs.declared.value.Value.TheVariants as value
use Rattle.kilim_program.specs.Program.{Program}
use Rattle.kilim_run_state.specs.Machine.{Objects}
use Rattle.kilim_run_state.specs.Shapes.{shape_of}
use Rattle.kilim_run_state.specs.Trees.{tree_names, without}
use Rattle.kilim_run_state.specs.declared.value.Token.{Token}
use Rattle.kilim_program.specs.Names.{is_empty, line_of, method_at}
use Rattle.kilim_program.specs.Members.{execute_of}
use Rattle.kilim_run_machine.specs.Natives.{Native, native_of}
use Rattle.kilim_run_machine.specs.Natives as native
use Rattle.kilim_run_machine.specs.Effect.{Effect, Calls, Asks, Raises, Throws, Ends, Stuck}
use Rattle.kilim_run_machine.specs.Does.{does}
use Rattle.kilim_program.specs.Lengths.{ends_path}
use Rattle.kilim_run_machine.specs.Moves.{slots_in}
use Rattle.kilim_type_sound.specs.Fits.{AreThere, IsThere}
use Rattle.kilim_run_interp.specs.Step.{stack_limit}
use Rattle.kilim_run_model.specs.State.{Setting}
use Rattle.kilim_weave_spec.specs.Woven.{moved_instr, pausable_callee}
use Rattle.kilim_run_machine.specs.Raising.{raised_class}
use Rattle.kilim_run_state.specs.Objects.{new_object}
use Rattle.kilim_type_sound.specs.Facts.{IsIndexName}
use Rattle.kilim_fiber_spec.specs.Acts.{World, Over, Lost, together, Apart}
use Rattle.kilim_fiber_spec.specs.Thread.{fetch, own_of, self_of, Frame, Thread, Run, Stop, step, steps}
use Rattle.kilim_fiber_spec.specs.Fibers.{Fib, member_of, Woven_state, WRun, Resting, WStop, wsteps}
use Rattle.kilim_fiber_spec.specs.Form.{is_pausable}
use Rattle.kilim_fiber_spec.specs.Rows.{elsewhere, handed, goes_to, OldHeap, IsClean}
use Rattle.kilim_fiber_spec.specs.Links.{Link, Lk, u_frames, rev_onto, Leaf, Forms, Alike, Held, Good, Goods, AllStand, Takes, AreReady, Both, unwoven, woven, Fine, at_rest}
use Rattle.kilim_fiber_spec.specs.Runs.{ComesToRest, Soon}
use Rattle.kilim_fiber_spec.specs.Rooms.{GivesWhole, HasRoom, IsFineState, bare_frames}

-- those natives that pause, or whose methods are pausable
abbrev pub is_leaf : Native → Bool
is_leaf native.Get = true
is_leaf native.Yield = true
is_leaf native.PutWait = true
is_leaf n = false

abbrev pub is_pausing_native : Native → Bool
is_pausing_native native.Get = true
is_pausing_native native.Yield = true
is_pausing_native native.PutWait = true
is_pausing_native native.Execute = true
is_pausing_native n = false

-- the receiver in a leaf's record
abbrev pub leaf_receiver : Native → List Value → Value
leaf_receiver native.Get (box ∷ args) = box
leaf_receiver native.PutWait (box ∷ args) = box
leaf_receiver n args = value.Null

-- the heap while the leaf pauses: a tree that waits to be put isn't in it
abbrev pub resting_heap : Program → Native → List Value → Objects → Objects
resting_heap p native.PutWait (box ∷ value.Ref n ∷ []) heap = without heap (tree_names p heap n)
resting_heap p leaf args heap = heap

-- A leaf may pause; a put that waits may only where its tree has a shape, before the task is spent.
abbrev pub MayPause : Setting → Native → List Value → World → Type 0
MayPause set native.PutWait args w = (box : BoxName) × (n : ℕ) × (shape : List Token) × (args ≡ value.Box box ∷ value.Ref n ∷ []) × (shape_of set.program w.heap n ≡ Some shape) × (nat_le set.limits.steps w.done ≡ false)
MayPause set leaf args w = Unit {0}

-- what a call can do
pub data Shape (to : ℕ) (l : List Value) (heap : Objects) (e : Effect) : Type 0 where
  IsCall : (c : MethodId) (args s : List Value) → e ≡ Calls c args to l s heap → Shape to l heap e
  IsNative : (c : MethodId) (args s : List Value) → e ≡ Asks c args to l s heap → Shape to l heap e
  IsRaise : (cause : EndCause) → e ≡ Raises cause → Shape to l heap e
  IsEnd : (cause : EndCause) → e ≡ Ends cause → Shape to l heap e
  IsStuck : e ≡ Stuck → Shape to l heap e

-- ---- exceptions

-- the method of that number has no exception table
abbrev pub IsBare : Program → MethodId → Type 0
IsBare p id = (m : Method) → method_at p id ≡ Some m → is_empty m.handlers ≡ true

-- What is raised or thrown is caught alike. A method that can't pause is in W as it is in P, with its table; no other method has one. A class
-- is below the same classes in both programs; and what is raised is of one class, whose objects are made alike.
pub record CatchesAlike (P W : Program) : Type 0 where
  pub plain : (id : MethodId) (a : Method) → method_at P id ≡ Some a → a.pausable ≡ false → method_at W id ≡ Some a
  pub paused : (id : MethodId) → is_pausable P id ≡ true → IsBare P id × IsBare W id
  pub added : (id : MethodId) → method_at P id ≡ None → IsBare W id
  pub lines : (c : ClassId) → c.0 < length P.classes → line_of W c ≡ line_of P c
  pub raised : (index : List ℕ) → IsIndexName index → (why : EndCause) → raised_class W index why ≡ raised_class P index why
  pub made : (index : List ℕ) (why : EndCause) (c : ClassId) → raised_class P index why ≡ Some c → (c.0 < length P.classes) × (new_object W c ≡ new_object P c)

-- the states to which a thread comes
abbrev pub From : Setting → Thread → Thread → Type 0
From set first t = (n : ℕ) × (steps set n first ≡ t)

-- the receiver of a pausable method is in the heap
abbrev pub SelvesAreThere : Setting → (Thread → Type 0) → Type 0
SelvesAreThere set Typed = (m : MethodId) (p : ℕ) (l s : List Value) (x : Value) (b : List Frame) (w : World) → Typed (Run m p l s x b w) → is_pausable set.program m ≡ true → IsThere w.heap x

module _ (set : Setting) (W : Program) (marks : List (List Bool)) (form : Forms set W marks) where
  -- ---- what both programs do alike

  -- an old instruction, on both sides
  pub record Twins (m : MethodId) (l wl : List Value) (x : Value) (e d : Effect) : Type 0 where
    pub locals : List Value
    pub same : d ≡ elsewhere (form m).at locals e
    pub alike : (q : ℕ) (l2 : List Value) → goes_to e ≡ Some (q, l2) → Alike set W marks form m q l2 locals
    pub held : (q : ℕ) (l2 : List Value) → goes_to e ≡ Some (q, l2) → Held set W marks form (form m).has_calls m l2 locals x
    -- it calls no pausable method
    pub calls : (c : MethodId) (args : List Value) (q : ℕ) (l2 s2 : List Value) (heap : Objects) → e ≡ Calls c args q l2 s2 heap → is_pausable set.program c ≡ false
    pub natives : (c : MethodId) (args : List Value) (q : ℕ) (l2 s2 : List Value) (heap : Objects) → e ≡ Asks c args q l2 s2 heap → (member_of W c ≡ None) × ((n : Native) → native_of set.program c ≡ Some n → is_pausing_native n ≡ false)

  pub record Rows : Type 0 where
    pub twins : (m : MethodId) (p to nx : ℕ) (i : Instr) (l wl s : List Value) (x : Value) (heap : Objects) → fetch set.program m p ≡ Some (i, to) → pausable_callee set.program i ≡ None → (ends_path i ≡ false → nx ≡ (form m).at to)
        → OldHeap set.program heap → IsClean set.program i s heap → Alike set W marks form m p l wl → Held set W marks form (form m).has_calls m l wl x → does set.program (own_of set.program m) i to l s heap ≢ Stuck
        → Twins m l wl x (does set.program (own_of set.program m) i to l s heap) (does W (own_of W m) (moved_instr (form m).at i) nx wl s heap)
    pub hands : (m : MethodId) (p : ℕ) (i : Instr) (callee : Method) (to nx : ℕ) (l wl s : List Value) (heap : Objects) → fetch set.program m p ≡ Some (i, to) → pausable_callee set.program i ≡ Some callee → OldHeap set.program heap → IsClean set.program i s heap → does W (own_of W m) i nx wl (value.Fiber ∷ s) heap ≡ handed nx wl (does set.program (own_of set.program m) i to l s heap)
    pub shapes : (m : MethodId) (p : ℕ) (i : Instr) (callee : Method) (to : ℕ) (l s : List Value) (heap : Objects) → fetch set.program m p ≡ Some (i, to) → pausable_callee set.program i ≡ Some callee → IsClean set.program i s heap → Shape to l heap (does set.program (own_of set.program m) i to l s heap)
    pub natives : (m : MethodId) (p : ℕ) (i : Instr) (callee : Method) (to : ℕ) (l s s2 args : List Value) (heap : Objects) (c : MethodId) → fetch set.program m p ≡ Some (i, to) → pausable_callee set.program i ≡ Some callee → IsClean set.program i s heap → does set.program (own_of set.program m) i to l s heap ≡ Asks c args to l s2 heap
        → (member_of W c ≡ None) × ((n : Native) → native_of set.program c ≡ Some n → is_pausing_native n ≡ true)
    pub same_natives : (c : MethodId) → member_of W c ≡ None → native_of W c ≡ native_of set.program c
    -- a pausable call calls a pausable method
    pub pauses : (m : MethodId) (p : ℕ) (i : Instr) (callee : Method) (to : ℕ) (l s s2 args : List Value) (heap : Objects) (c : MethodId) → fetch set.program m p ≡ Some (i, to) → pausable_callee set.program i ≡ Some callee → IsClean set.program i s heap → does set.program (own_of set.program m) i to l s heap ≡ Calls c args to l s2 heap
        → is_pausable set.program c ≡ true
    -- a method that isn't pausable begins alike
    pub same_slots : (c : MethodId) → is_pausable set.program c ≡ false → slots_in (method_at W c) ≡ slots_in (method_at set.program c)
    pub catches : CatchesAlike set.program W
    -- `execute` of the main class
    pub begins : execute_of W set.main ≡ execute_of set.program set.main
    pub begins_alike : (c : MethodId) (a : Method) → execute_of set.program set.main ≡ Some c → method_at set.program c ≡ Some a → (b : Method) × (method_at W c ≡ Some b) × (b.built_in ≡ a.built_in) × (a.pausable ≡ true)

  -- ---- what is known of the thread

  -- A property that its moves keep: verified code with intact frames and heap, in an accepted program.
  pub record Known (Typed : Thread → Type 0) : Type 0 where
    pub keeps : (t : Thread) → Typed t → Typed (step set t)
    -- its place is that of an instruction
    pub there : (m : MethodId) (p : ℕ) (l s : List Value) (x : Value) (b : List Frame) (w : World) → Typed (Run m p l s x b w) → (i : Instr) × (to : ℕ) × (fetch set.program m p ≡ Some (i, to))
    pub unstuck : (t : Thread) → Typed t → step set t ≢ Stop Lost
    pub old_heap : (m : MethodId) (p : ℕ) (l s : List Value) (x : Value) (b : List Frame) (w : World) → Typed (Run m p l s x b w) → OldHeap set.program w.heap
    -- no value is the fiber, and a call on an object has a receiver of the class that is named
    pub clean : (m : MethodId) (p to : ℕ) (i : Instr) (l s : List Value) (x : Value) (b : List Frame) (w : World) → Typed (Run m p l s x b w) → fetch set.program m p ≡ Some (i, to) → IsClean set.program i s w.heap
    -- a call has arguments of the parameters' types
    pub takes : (m : MethodId) (p to q : ℕ) (i : Instr) (l s l2 s2 args : List Value) (x : Value) (b : List Frame) (w : World) (heap : Objects) (c : MethodId) → Typed (Run m p l s x b w) → fetch set.program m p ≡ Some (i, to)
        → does set.program (own_of set.program m) i to l s w.heap ≡ Calls c args q l2 s2 heap → Takes set W marks form c args (self_of set.program c args)
    pub begins : (c : MethodId) (n : ℕ) → execute_of set.program set.main ≡ Some c → Takes set W marks form c (value.Ref n ∷ []) (value.Ref n)
    -- Where it stands at a leaf that may pause, what all frames hold has its type, in the heap as it is while the leaf pauses, and each call
    -- again is the same call.
    pub ready : (m : MethodId) (p to : ℕ) (i : Instr) (callee : Method) (l s s2 args wl : List Value) (x : Value) (old : ℕ) (was : Value) (links : List Link) (w : World) (c : MethodId) (leaf : Native)
        → Typed (Run m p l s x (u_frames links) w) → fetch set.program m p ≡ Some (i, to) → pausable_callee set.program i ≡ Some callee
        → does set.program (own_of set.program m) i to l s w.heap ≡ Asks c args to l s2 w.heap → native_of set.program c ≡ Some leaf → is_leaf leaf ≡ true → AllStand set W marks form links → MayPause set leaf args w
        → (w.kept ≡ None) × AreReady set W marks form (resting_heap set.program leaf args w.heap) (Leaf leaf) (leaf_receiver leaf args) (Lk m p to i callee s2 l wl x old was ∷ links)
    -- what stands on its stack is in its heap, and so is the receiver of a pausable method
    pub stack_there : (m : MethodId) (p : ℕ) (l s : List Value) (x : Value) (b : List Frame) (w : World) → Typed (Run m p l s x b w) → AreThere w.heap s
    pub self_there : SelvesAreThere set Typed
    -- its stacks are never too high
    pub low : (m : MethodId) (p : ℕ) (l s : List Value) (x : Value) (b : List Frame) (w : World) → Typed (Run m p l s x b w) → length s ≤ stack_limit set.program m
    pub room : (m : MethodId) (p to : ℕ) (i : Instr) (l s : List Value) (x : Value) (b : List Frame) (w : World) → Typed (Run m p l s x b w) → fetch set.program m p ≡ Some (i, to)
        → HasRoom set.program (does set.program (own_of set.program m) i to l s w.heap) m (bare_frames b)
    -- what it gives away is a whole tree
    pub gives : (m : MethodId) (p to : ℕ) (i : Instr) (l s : List Value) (x : Value) (b : List Frame) (w : World) → Typed (Run m p l s x b w) → fetch set.program m p ≡ Some (i, to)
        → GivesWhole set.program set.program w.heap (does set.program (own_of set.program m) i to l s w.heap)
    -- what it throws is of a class of the program
    pub throws : (m : MethodId) (p to : ℕ) (i : Instr) (l s : List Value) (x : Value) (b : List Frame) (w : World) (n : ℕ) (c : ClassId) (why : EndCause) → Typed (Run m p l s x b w) → fetch set.program m p ≡ Some (i, to)
        → does set.program (own_of set.program m) i to l s w.heap ≡ Throws n c why → c.0 < length set.program.classes
    -- at most so many frames
    pub few_frames : (m : MethodId) (p : ℕ) (l s : List Value) (x : Value) (b : List Frame) (w : World) → Typed (Run m p l s x b w) → suc (length b) ≤ 512

  -- ---- at rest

  -- the thread of which these are the frames, at the `get` or the `putw`, or behind the `yield`
  abbrev pub IsThread : Native → Value → Link → List Link → Thread → World → Type 0
  IsThread native.Get box (Lk m from to i callee s l wl x old was) links t w =
      (c : MethodId) × (s0 : List Value) × (does set.program (own_of set.program m) i to l s0 w.heap ≡ Asks c (box ∷ []) to l s w.heap) × (native_of set.program c ≡ Some native.Get) × (t ≡ Run m from l s0 x (u_frames links) w)
  IsThread native.PutWait box (Lk m from to i callee s l wl x old was) links t w =
      (kept : Apart) × (others : List Apart) × (w.aside ≡ kept ∷ others) × (c : MethodId) × (s0 : List Value) × (does set.program (own_of set.program m) i to l s0 kept.heap ≡ Asks c (box ∷ value.Ref kept.root ∷ []) to l s kept.heap)
      × (native_of set.program c ≡ Some native.PutWait) × (t ≡ Run m from l s0 x (u_frames links) (together kept.heap others w))
  IsThread n box (Lk m from to i callee s l wl x old was) links t w = t ≡ Run m to l s x (u_frames links) w

  abbrev pub StandsFor : Thread → Woven_state → Type 0
  StandsFor t (Resting f w ps) =
      (leaf : Native) × (box : Value) × (k : Link) × (links : List Link) × (k0 : Link) × (ks : List Link) × (rev_onto (k ∷ links) [] ≡ k0 ∷ ks) × (Resting f w ps ≡ at_rest set W marks form box k0 ks w ps)
      × IsThread leaf box k links t w × Good set W marks form k × Goods set W marks form links × AreReady set W marks form w.heap (Leaf leaf) box (k ∷ links)
  StandsFor t (WRun m p l s b f w ps) = Unit {0}
  StandsFor t (WStop over) = Unit {0}

  -- a `get` and a `putw` rest before they count, a `yield` behind
  abbrev pub Now : Thread → Woven_state → Type 0
  Now t z = StandsFor t z ⊎ StandsFor (step set t) z

  abbrev pub StandsWithin : ℕ → Thread → Woven_state → Type 0
  StandsWithin n t z = (j : ℕ) × (j ≤ n) × StandsFor (steps set j t) z

  -- ---- the theorem

  pub record Serves (most : ℕ) (Typed : Thread → Type 0) : Type 0 where
    -- both end alike: with the same next action, the same instructions done, and the same heap
    pub ends : (t : Both) → Fine set W marks form t → Typed (unwoven t) → (o : Over) → ((n : ℕ) × (steps set n (unwoven t) ≡ Stop o)) ↔ ((j : ℕ) × (wsteps set W marks j (woven set W marks form t) ≡ WStop o))
    -- at each rest the fiber stands for the thread
    pub rests : (t : Both) → Fine set W marks form t → Typed (unwoven t) → (j : ℕ) (f : Fib) (w : World) (ps : List ℕ) → wsteps set W marks j (woven set W marks form t) ≡ Resting f w ps → (n : ℕ) × StandsFor (steps set n (unwoven t)) (Resting f w ps)
    pub soon : (t : Both) → Fine set W marks form t → Typed (unwoven t) → (j : ℕ) → Soon set W marks most (wsteps set W marks j (woven set W marks form t))
    -- where it pauses it comes to rest, in the same world
    pub pausing : (t : Both) → Fine set W marks form t → Typed (unwoven t) → (j : ℕ) → ComesToRest set W marks most (wsteps set W marks j (woven set W marks form t))
    -- at every moment the frames and the heap are as the interpreter asks of them for its next step
    pub fine : (t : Both) → Fine set W marks form t → Typed (unwoven t) → (j : ℕ) → IsFineState set.program W (wsteps set W marks j (woven set W marks form t))
