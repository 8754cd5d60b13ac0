-- A thread's move, seen from one mailbox.
use Rattle.std.proofs.Common.{◌≡◌, ◌⊎◌, inl, inr, ℕ, zero, suc, Bool, true, false, cond, eqb, List, [], ◌∷◌, ◌++◌, length, Option, Some, None, refl, sym, ap, subst, ◌∙◌, arith}
use Rattle.std.specs.Prelude.{◌||◌, ◌-◌, not, slice_get, is_some, nat_lt, replicate, option_to_list}
use Rattle.std.proofs.lemmas.Bool.{and_parts, eq-eqb, eqb-true, ne_eqb}
use Rattle.kilim_run_state.specs.declared.cause.EndCause.TheVariants as cause
use Rattle.kilim_program.specs.declared.class.Method.{Method}
use Rattle.kilim_program.specs.declared.instr.Instr.{Instr}
use Rattle.kilim_program.specs.declared.instr.Instr.TheVariants as instr
use Rattle.kilim_program.specs.declared.names.BoxName.{BoxName}
use Rattle.kilim_program.specs.declared.names.ClassId.{ClassId}
use Rattle.kilim_program.specs.declared.names.FieldId.{FieldId}
use Rattle.kilim_program.specs.declared.names.MethodId.{MethodId}
use Rattle.kilim_program.specs.declared.ty.Ty.{Ty}
use Rattle.kilim_program.specs.declared.value.Value.{Value}
use Rattle.kilim_program.specs.declared.value.Value.TheVariants as value
use Rattle.kilim_program.specs.declared.verified.VType.{VType}
use Rattle.kilim_program.specs.declared.verified.VType.TheVariants.{Top, Int, Long, Null, UninitThis, Uninit, Object}
use Rattle.kilim_program.specs.Lengths.{fetched, first_place}
use Rattle.kilim_program.specs.Names.{method_at}
use Rattle.kilim_program.specs.Program.{Program}
use Rattle.kilim_program.specs.Same.{is_constructor}
use Rattle.kilim_run_state.specs.declared.value.Object.{Object as HeapObject}
use Rattle.kilim_run_state.specs.Machine.{Activation, Objects, slots_of, stands_behind}
use Rattle.kilim_run_state.specs.Objects.{new_object}
use Rattle.kilim_run_machine.specs.Does.{does, is_mailbox}
use Rattle.kilim_run_machine.specs.Effect.{Effect, Goes, Makes, Opens, Calls, Asks, Returns, Raises, Throws, Ends, Stuck}
use Rattle.kilim_run_machine.specs.Moves.{Move, effect_found, effect_in, entered, frame_limit, goes_on, move_by, moves, push_result, push_value, receiver_of, returned, slots_in}
use Rattle.kilim_run_machine.specs.Moves as move
use Rattle.kilim_run_machine.specs.Raising.{call_in}
use Rattle.kilim_type_spec.specs.Step.{Types, class_vtype, is_same, is_top, is_unset, made_at, made_by, peek, result_types, vtype}
use Rattle.kilim_type_spec.specs.Typed.{Among, TypedBy, WellTypedBy, declared, edges, entry, has_code, param_slots, slots_of_type}
use Rattle.kilim_type_sound.specs.Facts.{Facts}
use Rattle.kilim_type_sound.specs.Fits.{AReference, AValue, AreThere, Awaited, BelowFit, Classes, Fits, FrameFits, Nothing, StackFits, Typing, Verified, Wanted, has_type, have_types, result_awaited, result_of}
use Rattle.kilim_type_sound.specs.Sound.{CallFits, EffectFits, NativeFits}
use Rattle.kilim_type_sound.proofs.Narrowed.{narrows}
use Rattle.kilim_type_sound.proofs.Steps.{vtype_set}
use Rattle.kilim_type_sound.proofs.Slots.{no_slot}
use Rattle.kilim_type_sound.proofs.Table.{table_fits}
use Rattle.kilim_type_sound.proofs.Walk.{Stands, first, here_flows, reached, stands_at}
use Rattle.kilim_new_bounds.proofs.Slots.{FieldsSo, HeapSo, LocalsSo, Mode, Away, Raw, Known, ObjectSo, SlotSo, StackSo, ValuesSo, good, good_slot, is_box, known_heap, slot_flows, slot_so, so, value_so}
use Rattle.kilim_new_bounds.proofs.Effects.{ArraySo, Builds, EffectSo, IsRaw, NewSo, NotBuilt, Renews, ResultSo, WaitsSo, first_is}
use Rattle.kilim_new_bounds.proofs.Pairs.{paired}
use Rattle.kilim_new_bounds.proofs.Rows.{other_slot, other_value}
use Rattle.kilim_new_bounds.proofs.Table.{table_so}
use Rattle.kilim_new_bounds.proofs.Frames.{AllIs, AwaitsSo, BelowIs, Flow, Follows, FrameIs, FramesIs, InRange, MakesIs, Stage, Clear, Held, Open, StandsIs, UnwindsIs, below_alike, below_known, good_at, heap_mode, held_clear, locals_flow, mode_at, same_follows, settled, stack_flow}

-- ---- values that are good for one mode are so for another

module _ (b : BoxName) (m k : Mode) (same : (box : Bool) → good m box ≡ good k box) where
  pub value_to : (v : Value) → value_so b m v ≡ true → value_so b k v ≡ true
  value_to v e = sym (same (is_box b v)) ∙ e

  values_to : (vs : List Value) → ValuesSo b m vs → ValuesSo b k vs
  values_to [] a = tt
  values_to (v ∷ vs) a = (value_to v a.0, values_to vs a.1)

  fields_to : (es : List (FieldId × Value)) → FieldsSo b m es → FieldsSo b k es
  fields_to [] a = tt
  fields_to (e ∷ es) a = (value_to e.1 a.0, fields_to es a.1)

  object_to : (o : HeapObject) → ObjectSo b m o → ObjectSo b k o
  object_to o a = (fields_to o.fields a.0, values_to o.elements a.1)

  heap_to : (h : Objects) → HeapSo b m h → HeapSo b k h
  heap_to h a n o e = object_to o (a n o e)

-- ---- the place of a `new`

made_there : (es : List (ℕ × Instr)) (end at : ℕ) (i : Instr) (next : ℕ) → fetched es end at ≡ Some (i, next) → made_at es at ≡ made_by i
made_there [] end at i next e = absurd (cc)
made_there (x ∷ es) end at i next e = by (eqb x.0 at) e (made_there es end at i next)
  where
    by : (z : Bool) → cond z (Some (x.1, first_place es end)) (fetched es end at) ≡ Some (i, next) → (fetched es end at ≡ Some (i, next) → made_at es at ≡ made_by i) → cond z (made_by x.1) (made_at es at) ≡ made_by i
    by true e again = let pair : (x.1, first_place es end) ≡ (i, next) = cc in ap (λ (y : Instr × ℕ). made_by y.0) pair
    by false e again = again e

abbrev IsOpening : Effect → Bool
IsOpening (Opens place ls vs h) = true
IsOpening e = false

opens_mailbox : (p : Program) (own : Method) (i : Instr) (next : ℕ) (ls vs : List Value) (h : Objects) → IsOpening (does p own i next ls vs h) ≡ true → (c : ClassId) → made_by i ≡ Some c → is_mailbox p c ≡ true
unfolding does
opens_mailbox p own (instr.New d) next ls vs h e c is = by (is_mailbox p d) refl e
  where
    by : (z : Bool) → is_mailbox p d ≡ z → IsOpening (cond z (Opens next ls vs h) (Makes (new_object p d) next ls vs h)) ≡ true → is_mailbox p c ≡ true
    by true z e = ap (is_mailbox p) (sym (let s : d ≡ c = cc in s)) ∙ z
    by false z e = absurd (cc)
opens_mailbox p own i next ls vs h e c is = absurd (cc)

-- ---- lengths

types_length : (p : Program) (own : Method) (of : Classes) (ts : List VType) (vs : List Value) → have_types p own of ts vs ≡ true → length ts ≡ length vs
types_length p own of [] [] e = refl
types_length p own of [] (v ∷ vs) e = absurd (cc)
types_length p own of (t ∷ ts) [] e = absurd (cc)
types_length p own of (t ∷ ts) (v ∷ vs) e = ap suc (types_length p own of ts vs (and_parts (has_type p own of t v) (have_types p own of ts vs) e).1)

so_length : (b : BoxName) (m : Mode) (ts : List VType) (vs : List Value) → StackSo b m ts vs → length ts ≡ length vs
so_length b m [] [] e = refl
so_length b m [] (v ∷ vs) e = absurd e
so_length b m (t ∷ ts) [] e = absurd e
so_length b m (t ∷ ts) (v ∷ vs) e = ap suc (so_length b m ts vs e.1)

awaits_by : (p : Program) (own : Method) (of : Classes) (b : BoxName) (m : Mode) (r : Option Ty) (w : Awaited) (ts : List VType) (vs : List Value) → StackSo b m ts vs → StackFits p own of w (result_types r ++ ts) vs → AwaitsSo b m w (result_types r ++ ts) vs
awaits_by p own of b m None Nothing ts vs s f = s
awaits_by p own of b m None (AValue t) [] vs s f = absurd f
awaits_by p own of b m None (AReference c) [] vs s f = absurd f
awaits_by p own of b m None (AValue t) (u ∷ ts) vs s f = absurd (let x = types_length p own of ts vs f.2 in let y = so_length b m (u ∷ ts) vs s in omega (arith, x, y))
awaits_by p own of b m None (AReference c) (u ∷ ts) vs s f = absurd (let x = types_length p own of ts vs f.1 in let y = so_length b m (u ∷ ts) vs s in omega (arith, x, y))
awaits_by p own of b m (Some ty) Nothing ts vs s f = absurd (let x = types_length p own of (vtype ty ∷ ts) vs f in let y = so_length b m ts vs s in omega (arith, x, y))
awaits_by p own of b m (Some ty) (AValue t) ts vs s f = s
awaits_by p own of b m (Some ty) (AReference c) ts vs s f = s

-- ---- what a move leaves

module _ (p : Program) (typing : Typing) (b : BoxName) (st : Stage) where
  pub record Became (fs : List Activation) (h : Objects) : Type 0 where
    pub stage : Stage
    pub follows : Follows p typing b st stage
    pub all : AllIs p typing b stage fs h

  -- a new mailbox that is the one
  pub record BecameRaw (fs : List Activation) (h : Objects) : Type 0 where
    pub stage : Stage
    pub all : AllIs p typing b stage fs h

  pub record AsksIs (id : MethodId) (args : List Value) (fs : List Activation) (h : Objects) : Type 0 where
    pub callee : Method
    pub there : method_at p id ≡ Some callee
    pub heap : HeapSo b (heap_mode st) h
    pub range : InRange st (length fs)
    pub unwinds : UnwindsIs p typing b st fs
    pub answers : ((is_constructor callee ≡ true → first_is b args ≡ false) × ValuesSo b (heap_mode st) args × FramesIs p typing b st (result_awaited callee.result) fs)
        ⊎ ((is_constructor callee ≡ true) × (first_is b args ≡ true) × ((st ≡ Clear → ⊥) × (st ≡ Open → ⊥)) × FramesIs p typing b Open (result_awaited callee.result) fs)

  abbrev pub MoveIs : Move → Type 0
  MoveIs (move.Runs change fs h) = Became fs h
  MoveIs (move.Makes object fs h) = ObjectSo b (heap_mode st) object × ((n : ℕ) → Became (push_value (value.Ref n) fs) h)
  MoveIs (move.Opens fs h) = ((x : BoxName) → is_box b (value.Box x) ≡ false → Became (push_value (value.Box x) fs) h) × (st ≡ Clear → (x : BoxName) → is_box b (value.Box x) ≡ true → BecameRaw (push_value (value.Box x) fs) h) × HeapSo b (heap_mode st) h
  MoveIs (move.Asks id args fs h) = AsksIs id args fs h
  MoveIs (move.Returns h) = HeapSo b (heap_mode st) h
  MoveIs (move.Raises why) = Unit {0}
  MoveIs (move.Throws object class why) = Unit {0}
  MoveIs (move.Ends why) = Unit {0}
  MoveIs move.Stuck = Unit {0}

-- ---- a frame with which a method begins

slots_so : (b : BoxName) (m : Mode) (vs rest : List Value) → ValuesSo b m vs → ValuesSo b m rest → ValuesSo b m (slots_of vs ++ rest)
slots_so b m [] rest a r = r
slots_so b m (value.Int x ∷ vs) rest a r = (a.0, slots_so b m vs rest a.1 r)
slots_so b m (value.Long x ∷ vs) rest a r = (a.0, (other_value b m value.Null refl, slots_so b m vs rest a.1 r))
slots_so b m (value.Null ∷ vs) rest a r = (a.0, slots_so b m vs rest a.1 r)
slots_so b m (value.Ref n ∷ vs) rest a r = (a.0, slots_so b m vs rest a.1 r)
slots_so b m (value.Text u ∷ vs) rest a r = (a.0, slots_so b m vs rest a.1 r)
slots_so b m (value.Box x ∷ vs) rest a r = (a.0, slots_so b m vs rest a.1 r)
slots_so b m (value.Fiber ∷ vs) rest a r = (a.0, slots_so b m vs rest a.1 r)

nulls_so : (b : BoxName) (m : Mode) (n : ℕ) → ValuesSo b m (replicate n value.Null)
nulls_so b m zero = tt
nulls_so b m (suc n) = (other_value b m value.Null refl, nulls_so b m n)

first_slot : (b : BoxName) (vs rest : List Value) → first_is b vs ≡ false → first_is b rest ≡ false → first_is b (slots_of vs ++ rest) ≡ false
first_slot b [] rest e r = r
first_slot b (value.Int x ∷ vs) rest e r = e
first_slot b (value.Long x ∷ vs) rest e r = e
first_slot b (value.Null ∷ vs) rest e r = e
first_slot b (value.Ref n ∷ vs) rest e r = e
first_slot b (value.Text u ∷ vs) rest e r = e
first_slot b (value.Box x ∷ vs) rest e r = e
first_slot b (value.Fiber ∷ vs) rest e r = e

nulls_first : (b : BoxName) (n : ℕ) → first_is b (replicate n value.Null) ≡ false
nulls_first b zero = refl
nulls_first b (suc n) = refl

-- no parameter's type is of what isn't initialized
slots_set : (t : VType) (rest : List VType) → is_unset t ≡ false → ((k : ℕ) → is_unset (peek rest k) ≡ false) → (k : ℕ) → is_unset (peek (slots_of_type t rest) k) ≡ false
slots_set Long rest n others zero = refl
slots_set Long rest n others (suc zero) = refl
slots_set Long rest n others (suc (suc k)) = others k
slots_set Top rest n others zero = refl
slots_set Int rest n others zero = refl
slots_set Null rest n others zero = refl
slots_set UninitThis rest n others zero = n
slots_set (Uninit q) rest n others zero = n
slots_set (Object ty) rest n others zero = refl
slots_set Top rest n others (suc k) = others k
slots_set Int rest n others (suc k) = others k
slots_set Null rest n others (suc k) = others k
slots_set UninitThis rest n others (suc k) = others k
slots_set (Uninit q) rest n others (suc k) = others k
slots_set (Object ty) rest n others (suc k) = others k

params_set : (tys : List Ty) (k : ℕ) → is_unset (peek (param_slots tys) k) ≡ false
params_set [] k = ap is_unset (no_slot k)
params_set (ty ∷ tys) k = slots_set (vtype ty) (param_slots tys) (vtype_set ty) (params_set tys) k

module _ (b : BoxName) (m : Mode) (unraw : (t : VType) → so m false t ≡ true) where
  value_slots : (ts : List VType) (ls : List Value) → ((k : ℕ) → is_unset (peek ts k) ≡ false) → ValuesSo b m ls → LocalsSo b m ts ls
  value_slots ts ls set values k = by (slice_get ls k) refl
    where
      get_value : (ls : List Value) (k : ℕ) (v : Value) → ValuesSo b m ls → slice_get ls k ≡ Some v → value_so b m v ≡ true
      get_value [] k v a e = absurd (cc)
      get_value (x ∷ xs) zero v a e = subst (λ (z : Value). value_so b m z ≡ true) (let s : x ≡ v = cc in s) a.0
      get_value (x ∷ xs) (suc k) v a e = get_value xs k v a.1 e

      by : (o : Option Value) → slice_get ls k ≡ o → SlotSo b m (peek ts k) o
      by None e = tt
      by (Some v) e = good_slot b m (peek ts k) v (set k) (get_value ls k v values e)

  with_this : (t : VType) (ts : List VType) (ls : List Value) → (is_unset t ≡ true → first_is b ls ≡ false) → ((k : ℕ) → is_unset (peek ts k) ≡ false) → ValuesSo b m ls → LocalsSo b m (t ∷ ts) ls
  with_this t ts [] n set values k = tt
  with_this t ts (v ∷ ls) n set values zero = by (is_unset t) refl
    where
      right : (y z : Bool) → z ≡ true → (y || z) ≡ true
      right true z e = refl
      right false z e = e

      by : (z : Bool) → is_unset t ≡ z → slot_so b m t v ≡ true
      by false u = good_slot b m t v u values.0
      by true u = right (is_top t) (so m (is_box b v) t) (ap (λ (z : Bool). so m z t) (n u) ∙ unraw t)
  with_this t ts (v ∷ ls) n set values (suc k) = value_slots ts ls set values.1 k

  entry_so : (callee : Method) (ls : List Value) → (is_constructor callee ≡ true → first_is b ls ≡ false) → ValuesSo b m ls → LocalsSo b m (entry callee).locals ls
  entry_so callee ls first values = by callee.is_static (is_constructor callee) refl
    where
      by : (x y : Bool) → is_constructor callee ≡ y → LocalsSo b m ((cond x [] (cond y UninitThis (class_vtype callee.owner) ∷ [])) ++ param_slots callee.params) ls
      by true y con = value_slots (param_slots callee.params) ls (params_set callee.params) values
      by false true con = with_this UninitThis (param_slots callee.params) ls (λ u. first con) (params_set callee.params) values
      by false false con = with_this (class_vtype callee.owner) (param_slots callee.params) ls (λ u. absurd (cc)) (params_set callee.params) values

module _ (p : Program) (typing : Typing) (live : Wanted) (verified : Verified p typing live) (b : BoxName) (k : Mode) (unraw : (t : VType) → so k false t ≡ true) (none : (q : ℕ) → k ≡ Raw q → ⊥) where
  entry_flow : (callee : Method) (ty : ℕ → Types) (e : ℕ × Instr) (es code : List (ℕ × Instr)) → WellTypedBy p callee ty → code ≡ e ∷ es → e.0 ≡ 0 → TypedBy p callee ty (Some (entry callee)) code → Flow p typing b (entry callee) (ty 0)
  entry_flow callee ty e es code well c z h =
      let t : TypedBy p callee ty (Some (entry callee)) (e ∷ es) = subst (λ (x : List (ℕ × Instr)). TypedBy p callee ty (Some (entry callee)) x) c h in
      subst (λ (q : ℕ). Flow p typing b (entry callee) (ty q)) z (here_flows p callee ty well.frames e.0 (entry callee) (ty e.0) (declared callee e.0) refl t.0)

  pub entered_so : (id : MethodId) (callee : Method) (args : List Value) → method_at p id ≡ Some callee → has_code callee ≡ true → (is_constructor callee ≡ true → first_is b args ≡ false) → ValuesSo b k args → FrameIs p typing b k Nothing (entered p id args)
  entered_so id callee args at code first_not values =
      let well = verified.typed id callee at code in
      let start = verified.starts id callee at code in
      let n = slots_in (method_at p id) - length (slots_of args) in
      let ls = entry_so b k unraw callee (slots_of args ++ replicate n value.Null) (λ con. first_slot b args (replicate n value.Null) (first_not con) (nulls_first b n)) (slots_so b k args (replicate n value.Null) values (nulls_so b k n)) in
      let flow = entry_flow callee (typing id) start.0 start.1 callee.code well start.2 start.3 well.walk in
      record {
        locals = locals_flow p typing b k (entry callee) (typing id 0) (slots_of args ++ replicate n value.Null) flow ls;
        stack = stack_flow p typing b k Nothing (entry callee) (typing id 0) [] flow tt;
        makes = λ q e. absurd (none q e);
      }

-- ---- moves

module _ (p : Program) (typing : Typing) (live : Wanted) (of : Classes) (facts : Facts p) (verified : Verified p typing live) (built : (id : MethodId) (callee : Method) → method_at p id ≡ Some callee → is_mailbox p callee.owner ≡ true → callee.built_in ≡ true) (b : BoxName) (st : Stage)
    (top : Activation) (below : List Activation) (h : Objects) (fits : Fits p typing live of (top ∷ below) h) (there : AreThere h top.stack) (is : AllIs p typing b st (top ∷ below) h) where
  abbrev depth : ℕ
  depth = length below

  abbrev m : Mode
  m = mode_at st depth

  abbrev frame : FrameFits p typing live of Nothing top
  frame = fits.frames.0

  abbrev own : Method
  own = frame.method

  heap_so : HeapSo b m h
  heap_so = heap_to b (heap_mode st) m (λ box. sym (good_at st depth box)) h is.heap

  heap_back : (after : Objects) → HeapSo b m after → HeapSo b (heap_mode st) after
  heap_back after a = heap_to b m (heap_mode st) (good_at st depth) after a

  -- the callee's stage is that of no frame yet
  above_mode : (k : Stage) (n : ℕ) → InRange k n → ((t : VType) → so (mode_at k n) false t ≡ true) × ((q : ℕ) → mode_at k n ≡ Raw q → ⊥)
  above_mode Clear n r = ((λ t. refl), (λ q e. absurd (let z : Away ≡ Raw q = e in cc)))
  above_mode (Held e at) n r =
      let away : mode_at (Held e at) n ≡ Away = ap (λ (z : Bool). cond z (Raw at) Away) (ne_eqb e n (λ s. omega (arith, r, s))) in
      ((λ t. ap (λ (x : Mode). so x false t) away), (λ q s. absurd (let z : Away ≡ Raw q = sym away ∙ s in cc)))
  above_mode Open n r = ((λ t. refl), (λ q e. absurd (let z : Known ≡ Raw q = e in cc)))

  raw_stage : (k : Stage) (d : ℕ) → IsRaw (mode_at k d) → (q : ℕ) × (k ≡ Held d q)
  raw_stage Clear d r = absurd r
  raw_stage Open d r = absurd r
  raw_stage (Held e q) d r = by (eqb e d) refl r
    where
      by : (z : Bool) → eqb e d ≡ z → IsRaw (cond z (Raw q) Away) → (j : ℕ) × (Held e q ≡ Held d j)
      by true z r = (q, ap (λ (n : ℕ). Held n q) (eqb-true e d z))
      by false z r = absurd r

  below_here : BelowIs p typing b st (result_of (method_at p top.method)) below
  below_here = is.frames.1

  -- the frames below, where the mailbox gets known
  below_open : IsRaw m → BelowIs p typing b Open (result_of (method_at p top.method)) below
  below_open raw =
      let s = raw_stage st depth raw in
      below_known p typing b (result_of (method_at p top.method)) below
      (below_alike p typing b (Held depth s.0) Clear depth (held_clear p typing b depth s.0 depth (omega arith)) (result_of (method_at p top.method)) below (omega arith)
      (subst (λ (k : Stage). BelowIs p typing b k (result_of (method_at p top.method)) below) s.1 below_here))

  neither : IsRaw m → (st ≡ Clear → ⊥) × (st ≡ Open → ⊥)
  neither raw = let s = raw_stage st depth raw in ((λ e. absurd (let z : Clear ≡ Held depth s.0 = sym e ∙ s.1 in cc)), (λ e. absurd (let z : Open ≡ Held depth s.0 = sym e ∙ s.1 in cc)))

  module _ (i : Instr) (next : ℕ) (here : fetched own.code own.code_length top.place ≡ Some (i, next)) (s : Stands p own (typing top.method) top.place i next) where
    made : made_at own.code top.place ≡ made_by i
    made = made_there own.code own.code_length top.place i next here

    effect_fits : EffectFits p own of (live top.method) next top.locals h (edges i next) s.after (does p own i next top.locals top.stack h)
    effect_fits = table_fits p facts narrows own of h fits.heap (live top.method) top.place next (typing top.method top.place) s.after top.locals top.stack i
        (record { wants = verified.wants top.method own frame.there top.place (i, next) here; locals = frame.locals; stack = frame.stack; there = there }) made
        (verified.proper top.method own frame.there top.place (i, next) here) s.step

    effect_so : EffectSo p b m top.place s.after (does p own i next top.locals top.stack h)
    effect_so = table_so p facts built b m own (λ q e c. is.frames.0.makes q e own frame.there c) top.place (typing top.method top.place) s.after top.locals top.stack h
        (record { locals = is.frames.0.locals; stack = is.frames.0.stack }) (paired p own of b m (typing top.method top.place).stack top.stack frame.stack is.frames.0.stack) heap_so next i s.step

    flow_to : (place : ℕ) → Among (edges i next) place → Flow p typing b s.after (typing top.method place)
    flow_to place among = (reached p own (typing top.method) (verified.typed top.method own frame.there frame.code) top.place i next place s among).flows

    frame_goes : (k : Mode) (w : Awaited) (place : ℕ) (ls vs : List Value) → Among (edges i next) place → LocalsSo b k s.after.locals ls → AwaitsSo b k w s.after.stack vs → MakesIs p typing b k top → FrameIs p typing b k w (goes_on top place ls vs)
    frame_goes k w place ls vs among locals stack makes = record {
      locals = locals_flow p typing b k s.after (typing top.method place) ls (flow_to place among) locals;
      stack = stack_flow p typing b k w s.after (typing top.method place) vs (flow_to place among) stack;
      makes = makes;
    }

    no_raw : (k : Mode) → ((q : ℕ) → k ≡ Raw q → ⊥) → MakesIs p typing b k top
    no_raw k none q e = absurd (none q e)

    known_makes : MakesIs p typing b Known top
    known_makes = no_raw Known (λ q e. absurd (let z : Known ≡ Raw q = e in cc))

    away_makes : MakesIs p typing b Away top
    away_makes = no_raw Away (λ q e. absurd (let z : Away ≡ Raw q = e in cc))

    -- in the same stage
    stays : (place : ℕ) (ls vs : List Value) (after : Objects) → Among (edges i next) place → LocalsSo b m s.after.locals ls → StackSo b m s.after.stack vs → HeapSo b m after → Became p typing b st (goes_on top place ls vs ∷ below) after
    stays place ls vs after among locals stack heap = record {
      stage = st;
      follows = same_follows p typing b st;
      all = record { frames = (frame_goes m Nothing place ls vs among locals stack is.frames.0.makes, below_here); heap = heap_back after heap; range = is.range };
    }

    -- ---- a new reference

    same_self : (q : ℕ) → is_same (Uninit q) (Uninit q) ≡ true
    same_self q = eq-eqb q q refl

    -- another value than the mailbox comes on top
    renewed : (place : ℕ) (ls vs : List Value) (after : Objects) (v : Value) → Among (edges i next) place → NewSo b m top.place s.after ls vs → HeapSo b m after → is_box b v ≡ false → Became p typing b st (push_value v (goes_on top place ls vs ∷ below)) after
    renewed place ls vs after v among new heap other = by st refl
      where
        at : ℕ
        at = top.place

        comes : (k : Mode) → Renews at m k → slot_so b k (Uninit at) v ≡ true → MakesIs p typing b k top → FrameIs p typing b k Nothing (goes_on top place ls (v ∷ vs))
        comes k renews slot makes =
            let r = new.rest k renews in
            frame_goes k Nothing place ls (v ∷ vs) among r.0 (subst (λ (ts : List VType). StackSo b k ts (v ∷ vs)) (sym new.is) (slot, r.1)) makes

        in_mode : (k : Mode) → (x : Bool) → is_box b v ≡ false → so k false (Uninit at) ≡ true → slot_so b k (Uninit at) v ≡ true
        in_mode k x n e = ap (λ (z : Bool). so k z (Uninit at)) n ∙ e

        whole : (k : Stage) → Follows p typing b st k → FrameIs p typing b (mode_at k depth) Nothing (goes_on top place ls (v ∷ vs)) → BelowIs p typing b k (result_of (method_at p top.method)) below → HeapSo b (heap_mode k) after → InRange k (suc depth) → Became p typing b st (push_value v (goes_on top place ls vs ∷ below)) after
        whole k follows f bs hs r = record { stage = k; follows = follows; all = record { frames = (f, bs); heap = hs; range = r } }

        same : (k : Stage) → st ≡ k → so (mode_at k depth) false (Uninit at) ≡ true → Became p typing b st (push_value v (goes_on top place ls vs ∷ below)) after
        same k e x = whole st (same_follows p typing b st) (comes m (λ t n box d. d) (in_mode m true other (ap (λ (z : Stage). so (mode_at z depth) false (Uninit at)) e ∙ x)) is.frames.0.makes) below_here (heap_back after heap) is.range

        by : (k : Stage) → st ≡ k → Became p typing b st (push_value v (goes_on top place ls vs ∷ below)) after
        by Clear e = same Clear e refl
        by Open e = same Open e refl
        by (Held d q) e = by_depth (eqb d depth) (eqb q at) refl refl
          where
            by_depth : (y z : Bool) → eqb d depth ≡ y → eqb q at ≡ z → Became p typing b st (push_value v (goes_on top place ls vs ∷ below)) after
            by_depth false z y_is z_is = same (Held d q) e (ap (λ (x : Bool). so (cond x (Raw q) Away) false (Uninit at)) y_is)
            by_depth true false y_is z_is = same (Held d q) e (ap (λ (x : Bool). so (cond x (Raw q) Away) false (Uninit at)) y_is ∙ ap not z_is)
            by_depth true true y_is z_is =
                let raw : m ≡ Raw at = ap (λ (k : Stage). mode_at k depth) e ∙ (ap (λ (x : Bool). cond x (Raw q) Away) y_is ∙ ap Raw (eqb-true q at z_is)) in
                whole Clear ((λ c. refl), (λ c. absurd (let z : Held d q ≡ Open = sym e ∙ c in cc)))
                (comes Away (λ t n box. subst (λ (k : Mode). so k box t ≡ true → so Away box t ≡ true) (sym raw) (lost t n box)) (in_mode Away true other refl) away_makes)
                (below_alike p typing b (Held depth q) Clear depth (held_clear p typing b depth q depth (omega arith)) (result_of (method_at p top.method)) below (omega arith)
                (subst (λ (k : Stage). BelowIs p typing b k (result_of (method_at p top.method)) below) (e ∙ ap (λ (n : ℕ). Held n q) (eqb-true d depth y_is)) below_here))
                (subst (λ (k : Stage). HeapSo b (heap_mode k) after) e (heap_back after heap)) tt
              where
                lost : (t : VType) → is_same (Uninit at) t ≡ false → (box : Bool) → so (Raw at) box t ≡ true → so Away box t ≡ true
                lost t n true d = absurd (cc)
                lost t n false d = refl

    -- the mailbox itself comes
    first_raw : (place : ℕ) (ls vs : List Value) (after : Objects) (v : Value) → Among (edges i next) place → NewSo b m top.place s.after ls vs → HeapSo b m after → is_box b v ≡ true → st ≡ Clear → ((c : ClassId) → made_by i ≡ Some c → is_mailbox p c ≡ true) →
        BecameRaw p typing b st (push_value v (goes_on top place ls vs ∷ below)) after
    first_raw place ls vs after v among new heap itself clear mailbox =
        let at = top.place in
        let raw : mode_at (Held depth at) depth ≡ Raw at = ap (λ (x : Bool). cond x (Raw at) Away) (eq-eqb depth depth refl) in
        let away : m ≡ Away = ap (λ (k : Stage). mode_at k depth) clear in
        let r = new.rest (Raw at) (λ t n box. subst (λ (k : Mode). so k box t ≡ true → so (Raw at) box t ≡ true) (sym away) (begun t n box)) in
        let slot : slot_so b (Raw at) (Uninit at) v ≡ true = ap (λ (z : Bool). so (Raw at) z (Uninit at)) itself ∙ same_self at in
        let f = frame_goes (Raw at) Nothing place ls (v ∷ vs) among r.0 (subst (λ (ts : List VType). StackSo b (Raw at) ts (v ∷ vs)) (sym new.is) (slot, r.1)) makes in
        record {
          stage = Held depth at;
          all = record {
            frames = (
              subst (λ (k : Mode). FrameIs p typing b k Nothing (goes_on top place ls (v ∷ vs))) (sym raw) f,
              below_alike p typing b Clear (Held depth at) depth (λ d less. sym (held_clear p typing b depth at depth (omega arith) d less)) (result_of (method_at p top.method)) below (omega arith)
                  (subst (λ (k : Stage). BelowIs p typing b k (result_of (method_at p top.method)) below) clear below_here),
            );
            heap = subst (λ (k : Stage). HeapSo b (heap_mode k) after) clear (heap_back after heap);
            range = omega arith;
          };
        }
      where
        begun : (t : VType) → is_same (Uninit top.place) t ≡ false → (box : Bool) → so Away box t ≡ true → so (Raw top.place) box t ≡ true
        begun t n true d = absurd (cc)
        begun t n false d = ap not n

        some_same : {A : Type 0} (o : Option A) (x y : A) → o ≡ Some x → o ≡ Some y → x ≡ y
        some_same o x y e f = cc

        makes : MakesIs p typing b (Raw top.place) top
        makes q e other at_it c is_made =
            let o : own ≡ other = some_same (method_at p top.method) own other frame.there at_it in
            let n : top.place ≡ q = cc in
            mailbox c (sym made ∙ (ap (λ (x : Method). made_at x.code top.place) o ∙ (ap (λ (j : ℕ). made_at other.code j) n ∙ is_made)))

    of_array : (place : ℕ) (ls vs : List Value) (after : Objects) (n : ℕ) → Among (edges i next) place → ArraySo b m s.after ls vs → HeapSo b m after → Became p typing b st (push_value (value.Ref n) (goes_on top place ls vs ∷ below)) after
    of_array place ls vs after n among a heap = stays place ls (value.Ref n ∷ vs) after among a.locals (subst (λ (ts : List VType). StackSo b m ts (value.Ref n ∷ vs)) (sym a.is) (other_slot b m a.type (value.Ref n) a.set refl, a.stack)) heap

    -- ---- calls

    waits_on : (k : Mode) (w : Awaited) (place : ℕ) (ls vs : List Value) → Among (edges i next) place → WaitsSo b k s.after ls vs → StackFits p own of w s.after.stack vs → MakesIs p typing b k top → FrameIs p typing b k w (goes_on top place ls vs)
    waits_on k w place ls vs among waits fit makes =
        frame_goes k w place ls vs among waits.locals (subst (λ (ts : List VType). AwaitsSo b k w ts vs) (sym waits.is) (awaits_by p own of b k waits.result w waits.types vs waits.stack (subst (λ (ts : List VType). StackFits p own of w ts vs) waits.is fit))) makes

    -- behind its call, by the types before
    call_stands : (place : ℕ) (ls vs : List Value) → place ≡ next → ls ≡ top.locals → StandsIs p typing b m (goes_on top place ls vs)
    call_stands place ls vs is_next same e call =
        let behind : call_in (method_at p top.method) place ≡ Some (top.place, i) = ap (λ (o : Option Method). call_in o place) frame.there ∙ (ap (stands_behind own.code own.code_length) is_next ∙ verified.behind top.method own frame.there top.place next i here) in
        let at : (top.place, i) ≡ e = some_same (call_in (method_at p top.method) place) (top.place, i) e behind call in
        subst (λ (x : ℕ × Instr). LocalsSo b m (typing top.method x.0).locals ls) at (subst (λ (xs : List Value). LocalsSo b m (typing top.method top.place).locals xs) (sym same) is.frames.0.locals)
      where
        some_same : {A : Type 0} (o : Option A) (x y : A) → o ≡ Some x → o ≡ Some y → x ≡ y
        some_same o x y e f = cc

    entered_is : (id : MethodId) (callee : Method) (args : List Value) → method_at p id ≡ Some callee → has_code callee ≡ true → (is_constructor callee ≡ true → first_is b args ≡ false) → ValuesSo b m args → FrameIs p typing b (mode_at st (suc depth)) Nothing (entered p id args)
    entered_is id callee args at code first_not values =
        let k = mode_at st (suc depth) in
        let above = above_mode st (suc depth) is.range in
        entered_so p typing live verified b k above.0 above.1 id callee args at code first_not (values_to b m k (λ box. good_at st depth box ∙ sym (good_at st (suc depth) box)) args values)

    calls : (z : Bool) (id : MethodId) (args : List Value) (place : ℕ) (ls vs : List Value) (after : Objects) → CallFits p own of (live top.method) next top.locals h (edges i next) s.after id args place ls vs after → NotBuilt p b id args → ValuesSo b m args → WaitsSo b m s.after ls vs → HeapSo b m after →
        MoveIs p typing b st (cond z (move.Runs (move.Enters (receiver_of p id args)) (entered p id args ∷ goes_on top place ls vs ∷ below) after) (move.Ends cause.Depth))
    calls false id args place ls vs after c none values waits heap = tt
    calls true id args place ls vs after c none values waits heap = record {
      stage = st;
      follows = same_follows p typing b st;
      all = record {
        frames = (
          entered_is id c.callee args c.there c.code (none c.callee c.there) values,
          subst (λ (o : Option Method). BelowIs p typing b st (result_of o) (goes_on top place ls vs ∷ below)) (sym c.there)
              (waits_on m (result_awaited c.callee.result) place ls vs c.goes.among waits c.goes.stack is.frames.0.makes, call_stands place ls vs c.behind c.same, below_here),
        );
        heap = heap_back after heap;
        range = higher st is.range;
      };
    }
      where
        higher : (k : Stage) → InRange k (suc depth) → InRange k (suc (suc depth))
        higher Clear r = tt
        higher (Held e q) r = omega (arith, r)
        higher Open r = tt

    asks : (id : MethodId) (args : List Value) (place : ℕ) (ls vs : List Value) (after : Objects) → NativeFits p own of (live top.method) next top.locals h (edges i next) s.after id args place ls vs after →
        (NotBuilt p b id args × ValuesSo b m args × WaitsSo b m s.after ls vs) ⊎ Builds p b m s.after id args ls vs → HeapSo b m after → AsksIs p typing b st id args (goes_on top place ls vs ∷ below) after
    asks id args place ls vs after c answer heap = record {
      callee = c.callee;
      there = c.there;
      heap = heap_back after heap;
      range = is.range;
      unwinds = (is.frames.0.makes, call_stands place ls vs c.behind c.same, below_here);
      answers = by answer;
    }
      where
        by : (NotBuilt p b id args × ValuesSo b m args × WaitsSo b m s.after ls vs) ⊎ Builds p b m s.after id args ls vs →
            ((is_constructor c.callee ≡ true → first_is b args ≡ false) × ValuesSo b (heap_mode st) args × FramesIs p typing b st (result_awaited c.callee.result) (goes_on top place ls vs ∷ below))
            ⊎ ((is_constructor c.callee ≡ true) × (first_is b args ≡ true) × ((st ≡ Clear → ⊥) × (st ≡ Open → ⊥)) × FramesIs p typing b Open (result_awaited c.callee.result) (goes_on top place ls vs ∷ below))
        by (inl (none, values, waits)) = inl (none c.callee c.there, values_to b m (heap_mode st) (good_at st depth) args values, (waits_on m (result_awaited c.callee.result) place ls vs c.goes.among waits c.goes.stack is.frames.0.makes, below_here))
        by (inr builds) = inr (builds.constructs c.callee c.there, builds.first, neither builds.raw, (waits_on Known (result_awaited c.callee.result) place ls vs c.goes.among builds.waits c.goes.stack known_makes, below_open builds.raw))

    -- ---- returns

    back : (w : Option Ty) (v : Option Value) (after : Objects) (fs : List Activation) → have_types p own of (result_types w) (option_to_list v) ≡ true → ResultSo b m v → HeapSo b m after → BelowFit p typing live of w fs → BelowIs p typing b st w fs → MoveIs p typing b st (returned v fs after)
    back w v after [] t r heap fit bs = heap_back after heap
    back None None after (a ∷ as1) t r heap fit bs =
        let x = settled p typing b st Nothing (a ∷ as1) after (bs.0, bs.2) (heap_back after heap) in
        record { stage = x.stage; follows = x.follows; all = record { frames = x.frames; heap = x.heap; range = x.range } }
    back None (Some x) after (a ∷ as1) t r heap fit bs = absurd (cc)
    back (Some ty) None after (a ∷ as1) t r heap fit bs = absurd (cc)
    back (Some ty) (Some v) after (a ∷ as1) t r heap fit bs =
        let k = mode_at st (length as1) in
        let value : value_so b k v ≡ true = value_to b m k (λ box. good_at st depth box ∙ sym (good_at st (length as1) box)) v r in
        let f : FrameIs p typing b k Nothing (record a { stack = v ∷ a.stack }) = record { locals = bs.0.locals; stack = on_top (typing a.method a.place).stack fit.0.method fit.0.stack value bs.0.stack; makes = bs.0.makes } in
        let x = settled p typing b st Nothing (record a { stack = v ∷ a.stack } ∷ as1) after (f, bs.2) (heap_back after heap) in
        record { stage = x.stage; follows = x.follows; all = record { frames = x.frames; heap = x.heap; range = x.range } }
      where
        on_top : (ts : List VType) (other : Method) → StackFits p other of (AValue (vtype ty)) ts a.stack → value_so b (mode_at st (length as1)) v ≡ true → AwaitsSo b (mode_at st (length as1)) (AValue (vtype ty)) ts a.stack → StackSo b (mode_at st (length as1)) ts (v ∷ a.stack)
        on_top [] other fit value s = absurd s
        on_top (u ∷ ts) other fit value s = (slot_flows p b (mode_at st (length as1)) (vtype ty) u v fit.0 (good_slot b (mode_at st (length as1)) (vtype ty) v (vtype_set ty) value), s)

    -- ---- all of them

    moved : (e : Effect) → (IsOpening e ≡ true → (c : ClassId) → made_by i ≡ Some c → is_mailbox p c ≡ true) → EffectFits p own of (live top.method) next top.locals h (edges i next) s.after e → EffectSo p b m top.place s.after e → MoveIs p typing b st (move_by p e top below)
    moved (Goes place ls vs after) opening f (inl g, heap) = stays place ls vs after f.among g.locals g.stack heap
    moved (Goes place ls vs after) opening f (inr (raw, g), heap) = record {
      stage = Open;
      follows = ((λ e. absurd ((neither raw).0 e)), (λ e. refl));
      all = record { frames = (frame_goes Known Nothing place ls vs f.among g.locals g.stack known_makes, below_open raw); heap = known_heap b after; range = tt };
    }
    moved (Makes object place ls vs after) opening f (made_object, inl g, heap) = (object_to b m (heap_mode st) (good_at st depth) object made_object, λ n. renewed place ls vs after (value.Ref n) f.1.among g heap refl)
    moved (Makes object place ls vs after) opening f (made_object, inr g, heap) = (object_to b m (heap_mode st) (good_at st depth) object made_object, λ n. of_array place ls vs after n f.1.among g heap)
    moved (Opens place ls vs after) opening f (g, heap) = ((λ x other. renewed place ls vs after (value.Box x) f.among g heap other), (λ clear x itself. first_raw place ls vs after (value.Box x) f.among g heap itself clear (opening refl)), heap_back after heap)
    moved (Calls id args place ls vs after) opening f (none, values, waits, heap) = calls (nat_lt (length (goes_on top place ls vs ∷ below)) frame_limit) id args place ls vs after f none values waits heap
    moved (Asks id args place ls vs after) opening f (answer, heap) = asks id args place ls vs after f answer heap
    moved (Returns v after) opening f (r, heap) = back own.result v after below f.0 r heap callers (subst (λ (o : Option Method). BelowIs p typing b st (result_of o) below) frame.there below_here)
      where
        callers : BelowFit p typing live of own.result below
        callers = subst (λ (o : Option Method). BelowFit p typing live of (result_of o) below) frame.there fits.frames.1
    moved (Raises c) opening f g = tt
    moved (Throws object class c) opening f g = tt
    moved (Ends c) opening f g = tt
    moved Stuck opening f g = tt

  found_moved : (o : Option (Instr × ℕ)) → fetched own.code own.code_length top.place ≡ o → is_some o ≡ true → MoveIs p typing b st (move_by p (effect_found p own top h o) top below)
  found_moved None e some = absurd (cc)
  found_moved (Some found) e some =
      let s = stands_at p own (typing top.method) (verified.typed top.method own frame.there frame.code) top.place found.0 found.1 e in
      moved found.0 found.1 e s (does p own found.0 found.1 top.locals top.stack h) (opens_mailbox p own found.0 found.1 top.locals top.stack h) (effect_fits found.0 found.1 e s) (effect_so found.0 found.1 e s)

  pub all_moved : MoveIs p typing b st (moves p top below h)
  unfolding moves
  all_moved =
      subst (λ (o : Option Method). MoveIs p typing b st (move_by p (effect_in p top h o) top below)) (sym frame.there)
      (found_moved (fetched own.code own.code_length top.place) refl frame.stands)
