-- A task's move fits, where what its instruction does fits.
use Rattle.std.proofs.Common.{◌≡◌, ℕ, zero, suc, ◌+◌, ◌≤◌, Bool, true, false, cond, eqb, List, [], ◌∷◌, ◌++◌, map, length, Option, Some, None, refl, sym, ap, subst, ◌∙◌, arith}
use Rattle.std.specs.Prelude.{◌&&◌, ◌-◌, slice_get, nat_lt, replicate, option_to_list, sum_by}
use Rattle.std.proofs.lemmas.Bool.{and_parts, and_from, ne_eqb, leb-true}
use Rattle.std.proofs.lemmas.List.{length-append, length-replicate}
use Rattle.std.proofs.lemmas.List.Sums.{sum_by-cons}
use Rattle.kilim_program.specs.declared.class.Method.{Method}
use Rattle.kilim_run_state.specs.declared.cause.EndCause.{EndCause}
use Rattle.kilim_run_state.specs.declared.cause.EndCause.TheVariants as cause
use Rattle.kilim_program.specs.declared.names.ClassId.{ClassId}
use Rattle.kilim_program.specs.BuiltIn.{class_type}
use Rattle.kilim_run_machine.specs.Raising.{is_throwable}
use Rattle.kilim_program.specs.declared.instr.Instr.{Instr}
use Rattle.kilim_program.specs.declared.names.MethodId.{MethodId}
use Rattle.kilim_program.specs.declared.ty.Base.{Base}
use Rattle.kilim_program.specs.declared.ty.Base.TheVariants as base
use Rattle.kilim_program.specs.declared.ty.Ty.{Ty}
use Rattle.kilim_program.specs.declared.value.Value.{Value}
use Rattle.kilim_program.specs.declared.value.Value.TheVariants as value
use Rattle.kilim_program.specs.declared.verified.VType.{VType}
use Rattle.kilim_program.specs.declared.verified.VType.TheVariants.{Top, Int, Long, Null, UninitThis, Uninit, Object}
use Rattle.kilim_program.specs.Program.{Program}
use Rattle.kilim_run_state.specs.Machine.{Objects, Activation, stands_behind}
use Rattle.kilim_program.specs.Lengths.{fetched, is_code_place}
use Rattle.kilim_program.specs.Names.{method_at}
use Rattle.kilim_program.specs.Same.{argument_slots, type_slots, is_wide_base, is_constructor}
use Rattle.kilim_run_machine.specs.Effect.{Effect, Goes, Makes, Opens, Calls, Asks, Returns, Raises, Throws, Ends, Stuck, is_wide}
use Rattle.kilim_run_state.specs.Machine.{slots_of}
use Rattle.kilim_run_machine.specs.Moves.{slots_in, entered, push_value, push_result, called, returned, move_by, frame_limit}
use Rattle.kilim_run_machine.specs.Moves as moves
use Rattle.kilim_type_spec.specs.Step.{Types, peek, size, words, is_unset, vtype, base_vtype, dims_vtype, class_vtype, result_types}
use Rattle.kilim_type_spec.specs.Typed.{declared, TypedBy, WellTypedBy, edges, entry, this_types, slots_of_type, param_slots}
use Rattle.kilim_type_sound.specs.Fits.{Classes, IsThere, Typing, Wanted, is_long_type, refers, has_type, have_types, Holds, LocalsFit, HeapFits, Awaited, Nothing, AValue, AReference, StackFits, FrameFits, result_awaited, result_of, BelowFit, StandsAtCall, Verified}
use Rattle.kilim_type_spec.specs.Typed.{has_code}
use Rattle.kilim_type_sound.specs.Sound.{argument_types, GoesOn, CallFits, EffectFits, MoveFits}
use Rattle.kilim_type_sound.specs.Facts.{Ordered}
use Rattle.kilim_type_sound.proofs.Basics.{assigned}
use Rattle.kilim_type_sound.proofs.Walk.{Flows, Stands, reached, here_flows, first, is_there, flows_stack, flows_locals}

-- ---- arguments as locals

abbrev slot_types : List VType → List VType
slot_types [] = []
slot_types (t ∷ ts) = slots_of_type t (slot_types ts)

narrow_slots : (v : Value) (vs : List Value) → is_wide v ≡ false → slots_of (v ∷ vs) ≡ v ∷ slots_of vs
narrow_slots (value.Int x) vs e = refl
narrow_slots (value.Long x) vs e = absurd (cc)
narrow_slots value.Null vs e = refl
narrow_slots (value.Ref n) vs e = refl
narrow_slots (value.Text units) vs e = refl
narrow_slots (value.Box box) vs e = refl
narrow_slots value.Fiber vs e = refl

pub wide_as : (p : Program) (m : Method) (of : Classes) (t : VType) (v : Value) → has_type p m of t v ≡ true → is_wide v ≡ is_long_type t
wide_as p m of Top (value.Int x) h = absurd (cc)
wide_as p m of Top (value.Long x) h = absurd (cc)
wide_as p m of Top v h = refl
wide_as p m of Int (value.Long x) h = absurd (cc)
wide_as p m of Int v h = refl
wide_as p m of Long (value.Long x) h = refl
wide_as p m of Long (value.Int x) h = absurd (cc)
wide_as p m of Long value.Null h = absurd (cc)
wide_as p m of Long (value.Ref n) h = absurd (cc)
wide_as p m of Long (value.Text units) h = absurd (cc)
wide_as p m of Long (value.Box box) h = absurd (cc)
wide_as p m of Long value.Fiber h = absurd (cc)
wide_as p m of Null (value.Long x) h = absurd (cc)
wide_as p m of Null v h = refl
wide_as p m of UninitThis (value.Long x) h = absurd (cc)
wide_as p m of UninitThis v h = refl
wide_as p m of (Uninit q) (value.Long x) h = absurd (cc)
wide_as p m of (Uninit q) v h = refl
wide_as p m of (Object ty) (value.Long x) h = absurd (cc)
wide_as p m of (Object ty) v h = refl

no_slot : (k : ℕ) → peek [] k ≡ Top
no_slot zero = refl
no_slot (suc k) = refl

module _ (p : Program) (m : Method) (of : Classes) where
  narrow_holds : (t : VType) (ts : List VType) (v : Value) (vs rest : List Value) → is_long_type t ≡ false → has_type p m of t v ≡ true →
      ((k : ℕ) → Holds p m of (peek (slot_types ts) k) (slice_get (slots_of vs ++ rest) k)) → (k : ℕ) → Holds p m of (peek (t ∷ slot_types ts) k) (slice_get (slots_of (v ∷ vs) ++ rest) k)
  narrow_holds t ts v vs rest n h others k = subst (λ (ls : List Value). Holds p m of (peek (t ∷ slot_types ts) k) (slice_get (ls ++ rest) k)) (sym (narrow_slots v vs (wide_as p m of t v h ∙ n))) (at_slot t k h others)
    where
      at_slot : (t : VType) (k : ℕ) → has_type p m of t v ≡ true → ((k : ℕ) → Holds p m of (peek (slot_types ts) k) (slice_get (slots_of vs ++ rest) k)) → Holds p m of (peek (t ∷ slot_types ts) k) (slice_get ((v ∷ slots_of vs) ++ rest) k)
      at_slot Top zero h others = tt
      at_slot Int zero h others = h
      at_slot Long zero h others = h
      at_slot Null zero h others = h
      at_slot UninitThis zero h others = h
      at_slot (Uninit q) zero h others = h
      at_slot (Object ty) zero h others = h
      at_slot t (suc k) h others = others k

  slots_hold : (ts : List VType) (vs rest : List Value) → have_types p m of ts vs ≡ true → (k : ℕ) → Holds p m of (peek (slot_types ts) k) (slice_get (slots_of vs ++ rest) k)
  slots_hold [] vs rest h k = subst (λ (t : VType). Holds p m of t (slice_get (slots_of vs ++ rest) k)) (sym (no_slot k)) tt
  slots_hold (t ∷ ts) [] rest h k = absurd (cc)
  slots_hold (t ∷ ts) (v ∷ vs) rest h k = by_type t hs.0 (slots_hold ts vs rest hs.1) k
    where
      hs : (has_type p m of t v ≡ true) × (have_types p m of ts vs ≡ true)
      hs = and_parts (has_type p m of t v) (have_types p m of ts vs) h

      by_long : (v : Value) → has_type p m of Long v ≡ true → ((k : ℕ) → Holds p m of (peek (slot_types ts) k) (slice_get (slots_of vs ++ rest) k)) → (k : ℕ) → Holds p m of (peek (Long ∷ Top ∷ slot_types ts) k) (slice_get (slots_of (v ∷ vs) ++ rest) k)
      by_long (value.Long x) h others zero = refl
      by_long (value.Long x) h others (suc zero) = tt
      by_long (value.Long x) h others (suc (suc k)) = others k
      by_long (value.Int x) h others k = absurd (cc)
      by_long value.Null h others k = absurd (cc)
      by_long (value.Ref n) h others k = absurd (cc)
      by_long (value.Text units) h others k = absurd (cc)
      by_long (value.Box box) h others k = absurd (cc)
      by_long value.Fiber h others k = absurd (cc)

      by_type : (t : VType) → has_type p m of t v ≡ true → ((k : ℕ) → Holds p m of (peek (slot_types ts) k) (slice_get (slots_of vs ++ rest) k)) → (k : ℕ) → Holds p m of (peek (slot_types (t ∷ ts)) k) (slice_get (slots_of (v ∷ vs) ++ rest) k)
      by_type Long h others k = by_long v h others k
      by_type Top h others k = narrow_holds Top ts v vs rest refl h others k
      by_type Int h others k = narrow_holds Int ts v vs rest refl h others k
      by_type Null h others k = narrow_holds Null ts v vs rest refl h others k
      by_type UninitThis h others k = narrow_holds UninitThis ts v vs rest refl h others k
      by_type (Uninit q) h others k = narrow_holds (Uninit q) ts v vs rest refl h others k
      by_type (Object ty) h others k = narrow_holds (Object ty) ts v vs rest refl h others k

  slots_length : (v : Value) (vs : List Value) → length (slots_of (v ∷ vs)) ≡ (cond (is_wide v) 2 1) + length (slots_of vs)
  slots_length (value.Int x) vs = omega arith
  slots_length (value.Long x) vs = omega arith
  slots_length value.Null vs = omega arith
  slots_length (value.Ref n) vs = omega arith
  slots_length (value.Text units) vs = omega arith
  slots_length (value.Box box) vs = omega arith
  slots_length value.Fiber vs = omega arith

  size_as : (t : VType) → size t ≡ cond (is_long_type t) 2 1
  size_as Top = refl
  size_as Int = refl
  size_as Long = refl
  size_as Null = refl
  size_as UninitThis = refl
  size_as (Uninit q) = refl
  size_as (Object ty) = refl

  slots_words : (ts : List VType) (vs : List Value) → have_types p m of ts vs ≡ true → length (slots_of vs) ≡ words ts
  slots_words [] [] h = refl
  slots_words [] (v ∷ vs) h = absurd (cc)
  slots_words (t ∷ ts) [] h = absurd (cc)
  slots_words (t ∷ ts) (v ∷ vs) h =
      let hs = and_parts (has_type p m of t v) (have_types p m of ts vs) h in
      slots_length v vs ∙ (ap (λ (n : ℕ). n + length (slots_of vs)) (ap (λ (b : Bool). cond b 2 1) (wide_as p m of t v hs.0) ∙ sym (size_as t)) ∙ ap (λ (n : ℕ). size t + n) (slots_words ts vs hs.1))

slot_params : (tys : List Ty) → param_slots tys ≡ slot_types (map vtype tys)
slot_params [] = refl
slot_params (ty ∷ tys) = ap (slots_of_type (vtype ty)) (slot_params tys)

-- `this` is one slot
slot_arguments : (m : Method) → this_types m ++ param_slots m.params ≡ slot_types (argument_types m)
slot_arguments m = by_static m.is_static
  where
    by_constructor : (b : Bool) → (cond b UninitThis (class_vtype m.owner) ∷ []) ++ param_slots m.params ≡ slot_types ((cond b UninitThis (class_vtype m.owner) ∷ []) ++ map vtype m.params)
    by_constructor true = ap (λ (ts : List VType). UninitThis ∷ ts) (slot_params m.params)
    by_constructor false = ap (λ (ts : List VType). class_vtype m.owner ∷ ts) (slot_params m.params)

    by_static : (b : Bool) → (cond b [] (cond (is_constructor m) UninitThis (class_vtype m.owner) ∷ [])) ++ param_slots m.params ≡ slot_types ((cond b [] (cond (is_constructor m) UninitThis (class_vtype m.owner) ∷ [])) ++ map vtype m.params)
    by_static true = slot_params m.params
    by_static false = by_constructor (is_constructor m)

base_size : (ty : Ty) (b : Base) → size (base_vtype ty b) ≡ cond (is_wide_base b) 2 1
base_size ty base.Long = refl
base_size ty (base.Class c) = refl
base_size ty base.Bool = refl
base_size ty base.Byte = refl
base_size ty base.Char = refl
base_size ty base.Short = refl
base_size ty base.Int = refl

type_size : (ty : Ty) (d : ℕ) → size (dims_vtype ty d) ≡ cond (eqb d 0 && is_wide_base ty.base) 2 1
type_size ty zero = base_size ty ty.base
type_size ty (suc d) = sym (ap (λ (b : Bool). cond (b && is_wide_base ty.base) 2 1) (ne_eqb (suc d) 0 (λ e. absurd (omega (arith, e)))))

params_words : (tys : List Ty) → words (map vtype tys) ≡ sum_by type_slots tys
params_words [] = refl
params_words (ty ∷ tys) = ap (λ (n : ℕ). n + words (map vtype tys)) (type_size ty ty.dims) ∙ (ap (λ (n : ℕ). type_slots ty + n) (params_words tys) ∙ sym (sum_by-cons type_slots ty tys))

arguments_words : (m : Method) → words (argument_types m) ≡ argument_slots m
arguments_words m = by_static m.is_static
  where
    by_constructor : (b : Bool) → words ((cond b UninitThis (class_vtype m.owner) ∷ []) ++ map vtype m.params) ≡ 1 + sum_by type_slots m.params
    by_constructor true = ap (λ (n : ℕ). 1 + n) (params_words m.params)
    by_constructor false = ap (λ (n : ℕ). 1 + n) (params_words m.params)

    by_static : (b : Bool) → words ((cond b [] (cond (is_constructor m) UninitThis (class_vtype m.owner) ∷ [])) ++ map vtype m.params) ≡ cond b 0 1 + sum_by type_slots m.params
    by_static true = let e = params_words m.params in omega (arith, e)
    by_static false = by_constructor (is_constructor m)

-- ---- types that mean the same in each method

pub same_refers : (p : Program) (m w : Method) (t : VType) (c : Option Ty) → is_unset t ≡ false → refers p m t c ≡ refers p w t c
same_refers p m w Top c e = refl
same_refers p m w Int c e = refl
same_refers p m w Long c e = refl
same_refers p m w Null c e = refl
same_refers p m w UninitThis c e = absurd (cc)
same_refers p m w (Uninit q) c e = absurd (cc)
same_refers p m w (Object ty) c e = refl

pub same_typed : (p : Program) (m w : Method) (of : Classes) (t : VType) (v : Value) → is_unset t ≡ false → has_type p m of t v ≡ has_type p w of t v
same_typed p m w of t (value.Int x) e = refl
same_typed p m w of t (value.Long x) e = refl
same_typed p m w of t value.Null e = refl
same_typed p m w of t (value.Ref n) e = same_refers p m w t (of n) e
same_typed p m w of t (value.Text units) e = same_refers p m w t _ e
same_typed p m w of t (value.Box box) e = same_refers p m w t _ e
same_typed p m w of t value.Fiber e = same_refers p m w t _ e

base_set : (ty : Ty) (b : Base) → is_unset (base_vtype ty b) ≡ false
base_set ty base.Long = refl
base_set ty (base.Class c) = refl
base_set ty base.Bool = refl
base_set ty base.Byte = refl
base_set ty base.Char = refl
base_set ty base.Short = refl
base_set ty base.Int = refl

dims_set : (ty : Ty) (d : ℕ) → is_unset (dims_vtype ty d) ≡ false
dims_set ty zero = base_set ty ty.base
dims_set ty (suc d) = refl

pub vtype_set : (ty : Ty) → is_unset (vtype ty) ≡ false
vtype_set ty = dims_set ty ty.dims

module _ (p : Program) (typing : Typing) (live : Wanted) (order : Ordered p) (of : Classes) where
  -- ---- what is awaited comes

  pub value_comes_by : (a : Activation) (t : VType) (w : Method) (v : Value) → is_unset t ≡ false → has_type p w of t v ≡ true → FrameFits p typing live of (AValue t) a → FrameFits p typing live of Nothing (record a { stack = v ∷ a.stack })
  value_comes_by a t w v n h f = record { method = f.method; there = f.there; code = f.code; stands = f.stands; locals = f.locals; stack = on_top (typing a.method a.place).stack f.stack }
    where
      on_top : (ts : List VType) → StackFits p f.method of (AValue t) ts a.stack → have_types p f.method of ts (v ∷ a.stack) ≡ true
      on_top [] s = absurd s
      on_top (u ∷ ts) s = and_from (has_type p f.method of u v) (have_types p f.method of ts a.stack) (assigned p order f.method of t u v s.0 s.1 (sym (same_typed p w f.method of t v n) ∙ h)) s.2

  pub reference_comes_by : (a : Activation) (c : Option Ty) (v : Value) → ((m : Method) (t : VType) → refers p m t c ≡ true → has_type p m of t v ≡ true) → FrameFits p typing live of (AReference c) a → FrameFits p typing live of Nothing (record a { stack = v ∷ a.stack })
  reference_comes_by a c v h f = record { method = f.method; there = f.there; code = f.code; stands = f.stands; locals = f.locals; stack = on_top (typing a.method a.place).stack f.stack }
    where
      on_top : (ts : List VType) → StackFits p f.method of (AReference c) ts a.stack → have_types p f.method of ts (v ∷ a.stack) ≡ true
      on_top [] s = absurd s
      on_top (u ∷ ts) s = and_from (has_type p f.method of u v) (have_types p f.method of ts a.stack) (h f.method u s.0) s.1

module _ (p : Program) (typing : Typing) (live : Wanted) (verified : Verified p typing live) (order : Ordered p) (of : Classes) where
  -- ---- calls

  entry_flows : (m : Method) (ty : ℕ → Types) (e : ℕ × Instr) (es code : List (ℕ × Instr)) → WellTypedBy p m ty → code ≡ e ∷ es → e.0 ≡ 0 → TypedBy p m ty (Some (entry m)) code → (is_code_place code 0 ≡ true) × Flows p m ty (entry m) (ty 0)
  entry_flows m ty e es code well c z h =
      let t : TypedBy p m ty (Some (entry m)) (e ∷ es) = subst (λ (x : List (ℕ × Instr)). TypedBy p m ty (Some (entry m)) x) c h in (
        subst (λ (x : List (ℕ × Instr)). is_code_place x 0 ≡ true) (sym c) (subst (λ (q : ℕ). is_code_place (e ∷ es) q ≡ true) z (first e es)),
        subst (λ (q : ℕ). Flows p m ty (entry m) (ty q)) z (here_flows p m ty well.frames e.0 (entry m) (ty e.0) (declared m e.0) refl t.0),
      )

  filled : (l n : ℕ) → l ≤ n → l + (n - l) ≡ n
  filled l n h = omega (arith, h)

  pub entered_fits : (id : MethodId) (m : Method) (args : List Value) → method_at p id ≡ Some m → has_code m ≡ true → have_types p m of (argument_types m) args ≡ true → FrameFits p typing live of Nothing (entered p id args)
  entered_fits id m args there code h =
      let well = verified.typed id m there code in
      let start = verified.starts id m there code in
      let flow = entry_flows m (typing id) start.0 start.1 m.code well start.2 start.3 well.walk in
      let within : length (slots_of args) ≤ m.max_locals = subst (λ (n : ℕ). n ≤ m.max_locals) (sym (slots_words p m of (argument_types m) args h ∙ arguments_words m)) (leb-true (argument_slots m) m.max_locals well.arguments) in
      let room : slots_in (method_at p id) ≡ m.max_locals = ap slots_in there in
      let rest : List Value = replicate (slots_in (method_at p id) - length (slots_of args)) value.Null in
      let locals : LocalsFit p m of (live id 0) (entry m).locals (slots_of args ++ rest) = record {
        room = length-append (slots_of args) rest ∙ (ap (λ (n : ℕ). length (slots_of args) + n) (length-replicate (slots_in (method_at p id) - length (slots_of args)) value.Null ∙ ap (λ (n : ℕ). n - length (slots_of args)) room) ∙ filled (length (slots_of args)) m.max_locals within);
        slots = λ k w. subst (λ (ts : List VType). Holds p m of (peek ts k) (slice_get (slots_of args ++ rest) k)) (sym (slot_arguments m)) (slots_hold p m of (argument_types m) args rest h k);
      } in
      record {
        method = m;
        there = there;
        code = code;
        stands = is_there m.code m.code_length 0 flow.0;
        locals = flows_locals p order m of (live id 0) (entry m) (typing id 0) (slots_of args ++ rest) flow.1 locals;
        stack = flows_stack p order m of Nothing (entry m) (typing id 0) [] flow.1 refl;
      }

  -- ---- effects

  module _ (top : Activation) (below : List Activation) (m : Method) (there : method_at p top.method ≡ Some m) (code : has_code m ≡ true) (i : Instr) (next : ℕ) (s : Stands p m (typing top.method) top.place i next)
      (here : fetched m.code m.code_length top.place ≡ Some (i, next)) (before : LocalsFit p m of (live top.method top.place) (typing top.method top.place).locals top.locals)
      (callers : BelowFit p typing live of m.result below) where
    goes : (w : Awaited) (place : ℕ) (ls vs : List Value) (h : Objects) → GoesOn p m of (live top.method) (edges i next) s.after w place ls vs h → FrameFits p typing live of w (moves.goes_on top place ls vs)
    goes w place ls vs h g =
        let r = reached p m (typing top.method) (verified.typed top.method m there code) top.place i next place s g.among in
        record {
          method = m;
          there = there;
          code = code;
          stands = is_there m.code m.code_length place r.place;
          locals = flows_locals p order m of (live top.method place) s.after (typing top.method place) ls r.flows g.locals;
          stack = flows_stack p order m of w s.after (typing top.method place) vs r.flows g.stack;
        }

    -- behind its call
    call_stands : (place : ℕ) (ls vs : List Value) → place ≡ next → ls ≡ top.locals → StandsAtCall p typing live of (moves.goes_on top place ls vs)
    call_stands place ls vs is same = record {
      method = m;
      there = there;
      code = code;
      call = (top.place, i);
      here = here ∙ ap (λ (q : ℕ). Some (i, q)) (sym is);
      behind = ap (stands_behind m.code m.code_length) is ∙ verified.behind top.method m there top.place next i here;
      locals = subst (λ (xs : List Value). LocalsFit p m of (live top.method top.place) (typing top.method top.place).locals xs) (sym same) before;
    }

    callers_of : BelowFit p typing live of (result_of (method_at p top.method)) below
    callers_of = subst (λ (o : Option Method). BelowFit p typing live of (result_of o) below) (sym there) callers

    calls : (now : Objects) (b : Bool) (id : MethodId) (args : List Value) (place : ℕ) (ls vs : List Value) (h : Objects) → CallFits p m of (live top.method) next top.locals now (edges i next) s.after id args place ls vs h →
        MoveFits p typing live of (cond b (moves.Runs (moves.Enters (moves.receiver_of p id args)) (entered p id args ∷ moves.goes_on top place ls vs ∷ below) h) (moves.Ends cause.Depth))
    calls now false id args place ls vs h c = tt
    calls now true id args place ls vs h c = (
      (
        entered_fits id c.callee args c.there c.code c.arguments,
        subst (λ (o : Option Method). BelowFit p typing live of (result_of o) (moves.goes_on top place ls vs ∷ below)) (sym c.there) (goes (result_awaited c.callee.result) place ls vs h c.goes, call_stands place ls vs c.behind c.same, callers_of),
      ),
      c.goes.heap,
    )

    returns : (result : Option Ty) (v : Option Value) (h : Objects) (below : List Activation) → have_types p m of (result_types result) (option_to_list v) ≡ true → HeapFits p of h → BelowFit p typing live of result below → MoveFits p typing live of (returned v below h)
    returns result v h [] t heap f = heap
    returns None None h (a ∷ as1) t heap f = ((f.0, f.2), heap)
    returns None (Some x) h (a ∷ as1) t heap f = absurd (cc)
    returns (Some ty) None h (a ∷ as1) t heap f = absurd (cc)
    returns (Some ty) (Some x) h (a ∷ as1) t heap f = ((value_comes_by p typing live order of a (vtype ty) m x (vtype_set ty) (and_parts (has_type p m of (vtype ty) x) true t).0 f.0, f.2), heap)

    pub move_fits : (now : Objects) (e : Effect) → EffectFits p m of (live top.method) next top.locals now (edges i next) s.after e → MoveFits p typing live of (move_by p e top below)
    move_fits now (Goes place ls vs h) g = ((goes Nothing place ls vs h g, callers_of), g.heap)
    move_fits now (Makes object place ls vs h) g = (g.0, (goes (AReference (Some object.class)) place ls vs h g.1, callers_of), g.1.heap)
    move_fits now (Opens place ls vs h) g = ((goes _ place ls vs h g, callers_of), g.heap)
    move_fits now (Calls id args place ls vs h) c = calls now (nat_lt (length (moves.goes_on top place ls vs ∷ below)) frame_limit) id args place ls vs h c
    move_fits now (Asks id args place ls vs h) c = record { callee = c.callee; there = c.there; built_in = c.built_in; arguments = c.arguments; frames = (goes (result_awaited c.callee.result) place ls vs h c.goes, callers_of); stands = call_stands place ls vs c.behind c.same; heap = c.goes.heap }
    move_fits now (Returns v h) g = returns m.result v h below g.0 g.1 callers
    move_fits now (Raises c) g = tt
    move_fits now (Throws object class c) g = (g.0, g.1)
    move_fits now (Ends c) g = tt
    move_fits now Stuck g = absurd g

    -- what the instruction throws is there
    pub thrown_there : (now : Objects) (e : Effect) → EffectFits p m of (live top.method) next top.locals now (edges i next) s.after e → (n : ℕ) (c : ClassId) (why : EndCause) → move_by p e top below ≡ moves.Throws n c why →
        (of n ≡ Some (class_type c.0)) × (is_throwable p c ≡ true) × IsThere now (value.Ref n)
    thrown_there now (Throws object class cause) g n c why e =
        subst (λ (k : ClassId). (of n ≡ Some (class_type k.0)) × (is_throwable p k ≡ true) × IsThere now (value.Ref n)) (ap class_or e)
        (subst (λ (q : ℕ). (of q ≡ Some (class_type class.0)) × (is_throwable p class ≡ true) × IsThere now (value.Ref q)) (ap object_or e) g)
      where
        object_or : moves.Move → ℕ
        object_or (moves.Throws object class cause) = object
        object_or move = 0

        class_or : moves.Move → ClassId
        class_or (moves.Throws object class cause) = class
        class_or move = class
    thrown_there now (Calls id args place ls vs h) g n c why e = by (nat_lt (length (moves.goes_on top place ls vs ∷ below)) frame_limit) e
      where
        by : (b : Bool) → cond b (moves.Runs (moves.Enters (moves.receiver_of p id args)) (entered p id args ∷ moves.goes_on top place ls vs ∷ below) h) (moves.Ends cause.Depth) ≡ moves.Throws n c why → (of n ≡ Some (class_type c.0)) × (is_throwable p c ≡ true) × IsThere now (value.Ref n)
        by true e = absurd (cc)
        by false e = absurd (cc)
    thrown_there now (Returns v h) g n c why e = by below e
      where
        by : (below : List Activation) → returned v below h ≡ moves.Throws n c why → (of n ≡ Some (class_type c.0)) × (is_throwable p c ≡ true) × IsThere now (value.Ref n)
        by [] e = absurd (cc)
        by (a ∷ as1) e = absurd (cc)
    thrown_there now (Goes place ls vs h) g n c why e = absurd (cc)
    thrown_there now (Makes object place ls vs h) g n c why e = absurd (cc)
    thrown_there now (Opens place ls vs h) g n c why e = absurd (cc)
    thrown_there now (Asks id args place ls vs h) g n c why e = absurd (cc)
    thrown_there now (Raises cause) g n c why e = absurd (cc)
    thrown_there now (Ends cause) g n c why e = absurd (cc)
    thrown_there now Stuck g n c why e = absurd (cc)
