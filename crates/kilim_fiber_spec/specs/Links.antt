-- The relation: both states are computed from one list of links.
use Rattle.std.specs.Prelude.{◌≡◌, ℕ, ◌≤◌, Bool, true, false, ℤ, pos, List, [], ◌∷◌, ◌++◌, Option, Some, None, length, slice_get}
use Rattle.kilim_program.specs.declared.class.Method.{Method}
use Rattle.kilim_program.specs.declared.instr.Instr.{Instr}
use Rattle.kilim_program.specs.declared.instr.Instr.TheVariants.{Checkcast}
use Rattle.kilim_program.specs.declared.names.MethodId.{MethodId}
use Rattle.kilim_program.specs.declared.ty.Ty.{Ty}
use Rattle.kilim_program.specs.declared.value.Value.{Value}
use Rattle.kilim_program.specs.declared.value.Value.TheVariants as value
use Rattle.kilim_program.specs.declared.verified.VType.{VType}
use Rattle.kilim_program.specs.declared.verified.VType.TheVariants.{Int, Long, Null, Object}
use Rattle.kilim_program.specs.Program.{Program}
use Rattle.kilim_run_state.specs.Machine.{Objects, Activation}
use Rattle.kilim_run_machine.specs.Natives.{Native, native_of}
use Rattle.kilim_run_machine.specs.Natives as native
use Rattle.kilim_run_machine.specs.Effect.{Effect, Goes, Calls, Asks, as_reference, is_wide}
use Rattle.kilim_run_machine.specs.Does.{does}
use Rattle.kilim_run_state.specs.Machine.{slots_of}
use Rattle.kilim_run_machine.specs.Moves.{entered}
use Rattle.kilim_type_sound.specs.Fits.{IsThere}
use Rattle.kilim_run_interp.specs.Step.{stack_limit}
use Rattle.kilim_program.specs.Same.{argument_slots}
use Rattle.kilim_run_model.specs.State.{Setting}
use Rattle.kilim_type_spec.specs.Step.{is_long, vtype}
use Rattle.kilim_weave_spec.specs.Woven.{Plan, fiber_slot, self_slot, pausable_callee, below, saved, receiver}
use Rattle.kilim_fiber_spec.specs.Acts.{World}
use Rattle.kilim_fiber_spec.specs.Thread.{fetch, Frame, At, Thread, Run, self_of, push, own_of}
use Rattle.kilim_fiber_spec.specs.Fibers.{Rec, Saved, Fiber_at, Woven_state, WRun, Resting, frame, wfetch, executes_on}
use Rattle.kilim_fiber_spec.specs.Rows.{OldHeap, IsClean}
use Rattle.kilim_fiber_spec.specs.Form.{Form, plan, shown, Among_slots, is_pausable}

-- ---- what is saved and given back

-- the values that saves leave, that which was saved last first
abbrev pub kept_one : VType → Value → List Value → List Value
kept_one Int v vs = v ∷ vs
kept_one Long v vs = v ∷ vs
kept_one (Object ty) v vs = v ∷ vs
kept_one t v vs = vs

abbrev pub kept_stack : List VType → List Value → List Value → List Value
kept_stack [] s vs = vs
kept_stack (t ∷ ts) [] vs = vs
kept_stack (t ∷ ts) (v ∷ s) vs = kept_stack ts s (kept_one t v vs)

abbrev pub value_or : Option Value → Value
value_or None = value.Null
value_or (Some v) = v

abbrev pub kept_slots : List (ℕ × VType) → List Value → List Value → List Value
kept_slots [] l vs = vs
kept_slots (e ∷ es) l vs = kept_slots es l (kept_one e.1 (value_or (slice_get l e.0)) vs)

-- the value of a dummy, and the stack with a receiver and dummy arguments
abbrev pub dummy_value : VType → Value
dummy_value Int = value.Int (pos 0)
dummy_value Long = value.Long (pos 0)
dummy_value t = value.Null

abbrev pub with_dummies : List Ty → List Value → List Value
with_dummies [] s = s
with_dummies (ty ∷ tys) s = with_dummies tys (dummy_value (vtype ty) ∷ s)

abbrev pub with_receiver : Bool → Value → List Value → List Value
with_receiver true y s = s
with_receiver false y s = y ∷ s

abbrev pub again : Method → Value → List Value → List Value
again callee y s = with_dummies callee.params (with_receiver callee.is_static y s)

-- ---- values of a type, now

abbrev pub IsReference : Value → Type 0
IsReference v = (go : Value → Effect) → as_reference v go ≡ go v

abbrev pub Casts : Program → Objects → Ty → Value → Type 0
Casts p heap ty v = (own : Method) (nx : ℕ) (l s : List Value) → does p own (Checkcast ty) nx l (v ∷ s) heap ≡ Goes nx l (v ∷ s) heap

abbrev pub Fits : Program → Objects → VType → Value → Type 0
Fits p heap Int v = (x : ℤ) × (v ≡ value.Int x)
Fits p heap Long v = (x : ℤ) × (v ≡ value.Long x)
Fits p heap Null v = v ≡ value.Null
Fits p heap (Object ty) v = IsReference v × Casts p heap ty v
Fits p heap t v = ⊥

-- of a receiver: null or an object
abbrev pub RefFits : Program → Objects → VType → Value → Type 0
RefFits p heap Null v = v ≡ value.Null
RefFits p heap (Object ty) v = IsReference v × Casts p heap ty v
RefFits p heap t v = ⊥

abbrev pub AllFit : Program → Objects → List VType → List Value → Type 0
AllFit p heap [] [] = Unit {0}
AllFit p heap (t ∷ ts) (v ∷ s) = Fits p heap t v × AllFit p heap ts s
AllFit p heap _ _ = ⊥

abbrev pub SlotsFit : Program → Objects → List (ℕ × VType) → List Value → Type 0
SlotsFit p heap [] l = Unit {0}
SlotsFit p heap (e ∷ es) l = ((v : Value) × (slice_get l e.0 ≡ Some v) × Fits p heap e.1 v) × SlotsFit p heap es l

-- a result that a group drops
abbrev pub Drops : Option Ty → Option Value → Type 0
Drops None None = Unit {0}
Drops (Some ty) (Some v) = is_wide v ≡ is_long (vtype ty)
Drops _ _ = ⊥

-- ---- links

-- A frame that stands at a pausable call: the method, the place of the call and that behind it, the call and the method that
-- it names, the stack below its operands, the locals of both sides, the frame's receiver, and what its record held
-- before (its values are gone).
pub data Link : Type 0 where
  Lk : (m : MethodId) (from to : ℕ) (i : Instr) (callee : Method) (s l wl : List Value) (self : Value) (old : ℕ) (was : Value) → Link

-- a frame that stands at another call
pub data PLink : Type 0 where
  Pk : (m : MethodId) (to : ℕ) (s l wl : List Value) (self : Value) → PLink

abbrev pub method_of : Link → MethodId
method_of (Lk m from to i callee s l wl x old was) = m

abbrev pub self_of_link : Link → Value
self_of_link (Lk m from to i callee s l wl x old was) = x

abbrev pub u_frame : Link → Frame
u_frame (Lk m from to i callee s l wl x old was) = At m to l s x

abbrev pub u_frames : List Link → List Frame
u_frames [] = []
u_frames (k ∷ ks) = u_frame k ∷ u_frames ks

abbrev pub u_stack : List PLink → List Link → List Frame
u_stack [] ks = u_frames ks
u_stack (Pk m to s l wl x ∷ ov) ks = At m to l s x ∷ u_stack ov ks

abbrev pub left_over : Link → Rec
left_over (Lk m from to i callee s l wl x old was) = Saved old was []

abbrev pub left_overs : List Link → List Rec
left_overs [] = []
left_overs (k ∷ ks) = left_over k ∷ left_overs ks

-- what the next call is of: a frame, or a leaf
pub data Target : Type 0 where
  Inner : (method : MethodId) → Target
  Leaf : (leaf : Native) → Target

abbrev pub rev_onto : List Link → List Link → List Link
rev_onto [] ks = ks
rev_onto (x ∷ xs) ks = rev_onto xs (x ∷ ks)

-- the unwoven side of a link
abbrev pub bare : Link → Link
bare (Lk m from to i callee s l wl x old was) = Lk m from to i callee s l [] x 0 value.Null

abbrev pub bares : List Link → List Link
bares [] = []
bares (k ∷ ks) = bare k ∷ bares ks

-- running forward
pub data Both : Type 0 where
  Fw : (m : MethodId) (p : ℕ) (s l wl : List Value) (self : Value) (ov : List PLink) (links : List Link) (old : ℕ) (was : Value) (w : World) (pauses : List ℕ) → Both

abbrev pub unwoven : Both → Thread
unwoven (Fw m p s l wl x ov links old was w ps) = Run m p l s x (u_stack ov links) w

module _ (set : Setting) (W : Program) (marks : List (List Bool)) where
  abbrev pub code : MethodId → ℕ → Option (Instr × ℕ × Bool)
  code = wfetch set W marks

  abbrev pub Forms : Type 0
  Forms = (m : MethodId) → Form set.program W code m

  module _ (form : Forms) where
    abbrev pub plan_of : MethodId → Plan
    plan_of m = plan set.program W code (form m)

    abbrev pub shows : MethodId → ℕ → ℕ → Bool
    shows m = shown set.program W code (form m)

    abbrev pub w_frame : Link → Activation
    w_frame (Lk m from to i callee s l wl x old was) = frame m ((form m).up_at from) wl s

    abbrev pub w_frames : List Link → List Activation
    w_frames [] = []
    w_frames (k ∷ ks) = w_frame k ∷ w_frames ks

    abbrev pub w_stack : List PLink → List Link → List Activation
    w_stack [] ks = w_frames ks
    w_stack (Pk m to s l wl x ∷ ov) ks = frame m ((form m).at to) wl s ∷ w_stack ov ks

    abbrev pub record_of : Link → Rec
    record_of (Lk m from to i callee s l wl x old was) =
        Saved ((form m).number from) x (kept_slots (saved (plan_of m) from to) wl (kept_stack (below (plan_of m) callee from) s []))

    -- the records of frames that are unwound, the bottom first, and then the leaf's: the first one, and those behind it
    abbrev pub first_record : Value → List Link → Rec
    first_record box [] = Saved 0 box []
    first_record box (k ∷ ks) = record_of k

    abbrev pub next_records : Value → List Link → List Rec
    next_records box [] = []
    next_records box (k ∷ ks) = first_record box ks ∷ next_records box ks

    -- ---- what is known of both sides

    -- a slot that is live has one value on both sides
    abbrev pub Alike : MethodId → ℕ → List Value → List Value → Type 0
    Alike m p l wl = (k : ℕ) → shows m p k ≡ true → slice_get l k ≡ slice_get wl k

    -- at a pausable call: a slot that is saved has one value on both sides
    abbrev pub SavedAlike : MethodId → ℕ → ℕ → List Value → List Value → Type 0
    SavedAlike m from to l wl = (k : ℕ) → Among_slots (saved (plan_of m) from to) k → slice_get l k ≡ slice_get wl k

    -- the added locals hold the fiber and the receiver, and are no old ones
    pub record Holds (m : MethodId) (l wl : List Value) (self : Value) : Type 0 where
      pub fiber : slice_get wl (fiber_slot (form m).method) ≡ Some value.Fiber
      pub self_there : (form m).method.is_static ≡ false → slice_get wl (self_slot (form m).method) ≡ Some self
      pub self_none : (form m).method.is_static ≡ true → self ≡ value.Null
      pub is_reference : IsReference self
      pub within : length l ≤ fiber_slot (form m).method

    -- a method that can't pause has the same locals on both sides
    abbrev pub Held : Bool → MethodId → List Value → List Value → Value → Type 0
    Held true m l wl x = Holds m l wl x
    Held false m l wl x = (length l ≤ length wl) × (is_pausable set.program m ≡ false → wl ≡ l)

    abbrev pub Stands : Link → Type 0
    Stands (Lk m from to i callee s l wl x old was) = (fetch set.program m from ≡ Some (i, to)) × (pausable_callee set.program i ≡ Some callee)

    abbrev pub AllStand : List Link → Type 0
    AllStand [] = Unit {0}
    AllStand (k ∷ ks) = Stands k × AllStand ks

    abbrev pub Good : Link → Type 0
    Good (Lk m from to i callee s l wl x old was) =
        (fetch set.program m from ≡ Some (i, to)) × (pausable_callee set.program i ≡ Some callee) × SavedAlike m from to l wl × Holds m l wl x × (length s ≤ stack_limit set.program m)

    abbrev pub Goods : List Link → Type 0
    Goods [] = Unit {0}
    Goods (k ∷ ks) = Good k × Goods ks

    -- above a frame that stands at another call there is no pausable method
    abbrev pub Stacked : MethodId → List PLink → List Link → Type 0
    Stacked c [] ks = Goods ks
    Stacked c (Pk m to s l wl x ∷ ov) ks =
        (is_pausable set.program c ≡ false) × Alike m to l wl × Held (form m).has_calls m l wl x × Stacked m ov ks

    -- ---- what is known of the frames at a pause, in the heap as it is then

    -- the method of a frame takes these arguments
    pub record Takes (c : MethodId) (args : List Value) (y : Value) : Type 0 where
      pub slots : length (slots_of args) ≡ argument_slots (form c).method
      pub self : self_of set.program c args ≡ y
      pub self_first : (form c).method.is_static ≡ false → slice_get (slots_of args) 0 ≡ Some y
      pub self_none : (form c).method.is_static ≡ true → y ≡ value.Null
      pub is_reference : IsReference y

    -- a call with the receiver y and dummies is a call of the target
    abbrev pub LeafTakes : Native → List Value → Value → Option Ty → Type 0
    LeafTakes native.Get args y result = (args ≡ y ∷ []) × Drops result (Some value.Null)
    -- its tree stands apart
    LeafTakes native.PutWait args y result = (args ≡ y ∷ value.Null ∷ []) × Drops result None
    LeafTakes native.Yield args y result = (args ≡ []) × (y ≡ value.Null) × Drops result None
    LeafTakes n args y result = ⊥

    abbrev pub Redoes : Objects → MethodId → Instr → ℕ → Method → Value → Target → Type 0
    Redoes heap m i to callee y (Inner c) =
        (args : List Value) × ((l s : List Value) → does set.program (own_of set.program m) i to l (again callee y s) heap ≡ Calls c args to l s heap) × Takes c args y × ((form c).method.result ≡ callee.result)
    Redoes heap m i to callee y (Leaf n) =
        (c : MethodId) × (args : List Value) × ((l s : List Value) → does set.program (own_of set.program m) i to l (again callee y s) heap ≡ Asks c args to l s heap) × (native_of set.program c ≡ Some n) × LeafTakes n args y callee.result

    abbrev pub ReceiverFits : Bool → Objects → VType → Value → Type 0
    ReceiverFits true heap t y = Unit {0}
    ReceiverFits false heap t y = RefFits W heap t y

    abbrev pub Fit : Objects → Target → Value → Link → Type 0
    Fit heap target y (Lk m from to i callee s l wl x old was) =
        AllFit W heap (below (plan_of m) callee from) s × SlotsFit W heap (saved (plan_of m) from to) l
        × ReceiverFits callee.is_static heap (receiver (plan_of m) callee from) y × Redoes heap m i to callee y target × OldHeap set.program heap × IsClean set.program i (again callee y s) heap
        × (length (again callee y s) ≤ stack_limit set.program m) × IsThere heap x

    -- all frames, the top first; y is the receiver of the call at which the first one stands
    abbrev pub AreReady : Objects → Target → Value → List Link → Type 0
    AreReady heap (Inner c) y [] = (executes_on W heap y ≡ Some c) × Takes c (y ∷ []) y
    AreReady heap (Leaf n) y [] = ⊥
    AreReady heap target y (k ∷ ks) = Fit heap target y k × AreReady heap (Inner (method_of k)) (self_of_link k) ks

    -- the same chain from the bottom, for frames that are unwound
    abbrev pub target_of : Native → List Link → Target
    target_of leaf [] = Leaf leaf
    target_of leaf (k ∷ ks) = Inner (method_of k)

    abbrev pub receiver_at : Value → List Link → Value
    receiver_at box [] = box
    receiver_at box (k ∷ ks) = self_of_link k

    abbrev pub Chained : Objects → Native → Value → List Link → Type 0
    Chained heap leaf box [] = Unit {0}
    Chained heap leaf box (k ∷ ks) = (Good k × Fit heap (target_of leaf ks) (receiver_at box ks) k) × Chained heap leaf box ks

    -- ---- states

    abbrev pub woven : Both → Woven_state
    woven (Fw m p s l wl x ov links old was w ps) = WRun m ((form m).at p) wl s (w_stack ov links) (Fiber_at (left_overs links) (Saved old was []) [] false false) w ps

    pub record Fine_at (m : MethodId) (p : ℕ) (l wl : List Value) (x : Value) (ov : List PLink) (links : List Link) : Type 0 where
      pub alike : Alike m p l wl
      pub held : Held (form m).has_calls m l wl x
      pub stacked : Stacked m ov links

    abbrev pub Fine : Both → Type 0
    Fine (Fw m p s l wl x ov links old was w ps) = Fine_at m p l wl x ov links

    -- the frames above k are unwound, `ks` from the bottom; what the last one returned stands on the stack of k
    abbrev pub unwinding : Value → Option Value → Link → List Link → List Link → World → List ℕ → Woven_state
    unwinding box v (Lk m from to i callee s l wl x old was) links ks w ps =
        WRun m ((form m).up_at from) wl (push v s) (w_frames links) (Fiber_at (Saved old was [] ∷ left_overs links) (first_record box ks) (next_records box ks) false true) w ps

    -- at rest
    abbrev pub at_rest : Value → Link → List Link → World → List ℕ → Woven_state
    at_rest box k ks w ps = Resting (Fiber_at [] (record_of k) (first_record box ks ∷ next_records box ks) false true) w ps

    -- rewinding: a new frame of k's method; `links` stand again, `ks` is still to come
    abbrev pub entering : Value → List Value → Link → List Link → List Link → World → List ℕ → Woven_state
    entering box args k ks links w ps =
        WRun (method_of k) 0 (entered W (method_of k) (args ++ value.Fiber ∷ [])).locals [] (w_frames links) (Fiber_at (left_overs links) (record_of k) (first_record box ks ∷ next_records box ks) true false) w ps

    -- all frames stand again, and the leaf is about to be called
    abbrev pub at_leaf : Value → Link → List Link → World → List ℕ → Woven_state
    at_leaf box (Lk m from to i callee s l wl x old was) links w ps =
        WRun m ((form m).call_at from) wl (value.Fiber ∷ again callee box s) (w_frames links) (Fiber_at (Saved old was [] ∷ left_overs links) (Saved 0 box []) [] true false) w ps
