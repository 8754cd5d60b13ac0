-- A thread that fits is fine.
use Rattle.std.proofs.Common.{◌≡◌, ℕ, ◌+◌, ◌<◌, ◌≤◌, Bool, true, false, cond, eqb, List, [], ◌∷◌, length, Option, Some, None, refl, sym, ap, subst, ◌∙◌, arith}
use Rattle.std.specs.Prelude.{◌||◌, is_some, nat_lt, codes}
use Rattle.std.proofs.lemmas.Bool.{and_parts}
use Rattle.kilim_program.specs.declared.class.Method.{Method}
use Rattle.kilim_program.specs.declared.instr.Instr.{Instr}
use Rattle.kilim_program.specs.declared.names.MethodId.{MethodId}
use Rattle.kilim_program.specs.declared.ty.Ty.{Ty}
use Rattle.kilim_program.specs.declared.value.Value.{Value}
use Rattle.kilim_program.specs.declared.verified.VType.{VType}
use Rattle.kilim_program.specs.Lengths.{fetched, first_place, is_code_place}
use Rattle.kilim_program.specs.Names.{method_at}
use Rattle.kilim_program.specs.Program.{Program}
use Rattle.kilim_run_state.specs.declared.cause.EndCause.TheVariants as cause
use Rattle.kilim_run_machine.specs.Effect.{Effect}
use Rattle.kilim_program.specs.Members.{named_type}
use Rattle.kilim_run_machine.specs.Effect as effect
use Rattle.kilim_run_state.specs.Machine.{Objects, Activation}
use Rattle.kilim_run_machine.specs.Moves.{effect_in, effect_found, effect_of, entered, frame_limit, goes_on, move_by, moves, receiver_of, returned}
use Rattle.kilim_run_machine.specs.Moves as move
use Rattle.kilim_run_machine.specs.Natives.{Native, native_of}
use Rattle.kilim_run_machine.specs.Natives as native
use Rattle.kilim_run_rows.specs.Outcome.{is_stuck}
use Rattle.kilim_type_spec.specs.Step.{Types, made_at, made_by, result_types, words}
use Rattle.kilim_run_interp.specs.Step.{CallerFits, FitsStack, limit_in, stack_limit}
use Rattle.kilim_run_interp.specs.Run.{IsFine}
use Rattle.kilim_run_model.specs.State.{Setting, Thread, Alive}
use Rattle.kilim_type_sound.specs.Fits.{Classes, Typing, Wanted, Awaited, AReference, AValue, BelowFit, FrameFits, Fits, AreThere, HeapFits, Nothing, StackFits, has_type, have_types, result_awaited, result_of}
use Rattle.kilim_type_sound.specs.Sound.{EffectFits, GoesOn}
use Rattle.kilim_type_sound.proofs.Grounds.{facts_hold}
use Rattle.kilim_type_sound.proofs.Narrowed.{narrows}
use Rattle.kilim_type_sound.proofs.Table.{table_fits}
use Rattle.kilim_type_sound.proofs.Walk.{Stands, stands_at}
use Rattle.kilim_fiber_spec.specs.fiber_kin.Served.{ResultFits, gives_value}
use Rattle.kilim_isolation_laws.specs.typed_threads.fine.Typed.{IsVerified, TopIsThere, frames_of}
use Rattle.kilim_isolation_laws.specs.typed_threads.fine.Law.{FittingIsFine}
use Rattle.kilim_isolation_laws.proofs.typed_threads.fine.Heights.{low_stack, some_size, step_low}
use Rattle.kilim_isolation_laws.proofs.typed_threads.fine.Natives.{first, gives, native_gives}
use Rattle.kilim_isolation_laws.proofs.typed_threads.fine.Shown.{heap_shown}

-- ---- places

made_there : (es : List (ℕ × Instr)) (end at : ℕ) (i : Instr) (next : ℕ) → fetched es end at ≡ Some (i, next) → made_at es at ≡ made_by i
made_there [] end at i next e = absurd (cc)
made_there (x ∷ es) end at i next e = by (eqb x.0 at) e (made_there es end at i next)
  where
    by : (z : Bool) → cond z (Some (x.1, first_place es end)) (fetched es end at) ≡ Some (i, next) → (fetched es end at ≡ Some (i, next) → made_at es at ≡ made_by i) → cond z (made_by x.1) (made_at es at) ≡ made_by i
    by true e again = let pair : (x.1, first_place es end) ≡ (i, next) = cc in ap (λ (y : Instr × ℕ). made_by y.0) pair
    by false e again = again e

place_of : (es : List (ℕ × Instr)) (end at : ℕ) → is_some (fetched es end at) ≡ true → is_code_place es at ≡ true
place_of [] end at e = absurd (cc)
place_of (x ∷ es) end at e = by (eqb x.0 at) e (place_of es end at)
  where
    by : (z : Bool) → is_some (cond z (Some (x.1, first_place es end)) (fetched es end at)) ≡ true → (is_some (fetched es end at) ≡ true → is_code_place es at ≡ true) → (z || is_code_place es at) ≡ true
    by true e again = refl
    by false e again = again e

-- ---- how many values there are

types_length : (p : Program) (m : Method) (of : Classes) (ts : List VType) (vs : List Value) → have_types p m of ts vs ≡ true → length vs ≤ words ts
types_length p m of [] [] e = omega arith
types_length p m of [] (v ∷ vs) e = absurd (cc)
types_length p m of (t ∷ ts) [] e = absurd (cc)
types_length p m of (t ∷ ts) (v ∷ vs) e =
    let rest = types_length p m of ts vs (and_parts (has_type p m of t v) (have_types p m of ts vs) e).1 in
    let one = some_size t in
    omega (arith, rest, one)

-- one more where a value is awaited
awaited_count : Awaited → ℕ
awaited_count Nothing = 0
awaited_count (AValue t) = 1
awaited_count (AReference c) = 1

stack_length : (p : Program) (m : Method) (of : Classes) (w : Awaited) (ts : List VType) (vs : List Value) → StackFits p m of w ts vs → awaited_count w + length vs ≤ words ts
unfolding awaited_count
stack_length p m of Nothing ts vs e = let all = types_length p m of ts vs e in omega (arith, all)
stack_length p m of (AValue t) (u ∷ ts) vs e = let rest = types_length p m of ts vs e.2 in let one = some_size u in omega (arith, rest, one)
stack_length p m of (AReference c) (u ∷ ts) vs e = let rest = types_length p m of ts vs e.1 in let one = some_size u in omega (arith, rest, one)
stack_length p m of (AValue t) [] vs e = absurd e
stack_length p m of (AReference c) [] vs e = absurd e

some_awaited : (o : Option Ty) (ty : Ty) → o ≡ Some ty → awaited_count (result_awaited o) ≡ 1
unfolding awaited_count
some_awaited None ty e = absurd (cc)
some_awaited (Some x) ty e = refl

-- ---- a native that gives a value has a result

value_given : (first : ℕ) (o : Option Native) → gives_value o ≡ true → (n : Native) × (ty : Ty) × (o ≡ Some n) × (gives first n ≡ Some ty)
value_given first (Some native.Get) e = (native.Get, _, refl, refl)
value_given first (Some native.Getnb) e = (native.Getnb, _, refl, refl)
value_given first (Some native.ArgCount) e = (native.ArgCount, _, refl, refl)
value_given first (Some native.Arg) e = (native.Arg, _, refl, refl)
value_given first None e = absurd (cc)
value_given first (Some native.Execute) e = absurd (cc)
value_given first (Some native.Start) e = absurd (cc)
value_given first (Some native.Put) e = absurd (cc)
value_given first (Some native.PutWait) e = absurd (cc)
value_given first (Some native.Bound) e = absurd (cc)
value_given first (Some native.Print) e = absurd (cc)
value_given first (Some native.Yield) e = absurd (cc)
value_given first (Some (native.OfFiber member)) e = absurd (cc)

module _ (set : Setting) (typing : Typing) (live : Wanted) (is : IsVerified set typing live) (of : Classes) where
  abbrev p : Program
  p = set.program

  -- an effect that fits, of a method whose stack isn't too high
  record Sound (m : Method) (wanted : ℕ → ℕ → Bool) (e : Effect) : Type 0 where
    next : ℕ
    before : List Value
    now : Objects
    to : List ℕ
    types : Types
    low : words types.stack ≤ m.max_stack
    fits : EffectFits p m of wanted next before now to types e

  -- ---- the typed stack of a frame that fits

  frame_low : (w : Awaited) (a : Activation) (f : FrameFits p typing live of w a) → words (typing a.method a.place).stack ≤ f.method.max_stack
  frame_low w a f = low_stack p f.method (typing a.method) (is.verified.typed a.method f.method f.there f.code) a.place (place_of f.method.code f.method.code_length a.place f.stands)

  limit_is : (id : MethodId) (m : Method) → method_at p id ≡ Some m → stack_limit p id ≡ m.max_stack
  limit_is id m there = ap limit_in there

  room_for : (w : Awaited) (a : Activation) → FrameFits p typing live of w a → awaited_count w + length a.stack ≤ stack_limit p a.method
  room_for w a f =
      let few = stack_length p f.method of w (typing a.method a.place).stack a.stack f.stack in
      let low = frame_low w a f in
      let limit = limit_is a.method f.method f.there in
      omega (arith, few, low, limit)

  callers_room : (result : Option Ty) (ty : Ty) (below : List Activation) → result ≡ Some ty → BelowFit p typing live of result below → CallerFits p below
  callers_room result ty [] e f = tt
  callers_room result ty (a ∷ as1) e f =
      let room = room_for (result_awaited result) a f.0 in
      let one = some_awaited result ty e in
      omega (arith, room, one)

  module _ (top : Activation) (below : List Activation) (h : Objects) (frame : FrameFits p typing live of Nothing top) (callers : BelowFit p typing live of frame.method.result below) (heap : HeapFits p of h) (there : AreThere h top.stack) where
    abbrev m : Method
    m = frame.method

    abbrev IsSound : Effect → Type 0
    IsSound e = Sound m (live top.method) e

    effect_sound : IsSound (effect_of p top h)
    effect_sound = subst (λ (o : Option Method). IsSound (effect_in p top h o)) (sym frame.there) (by (fetched m.code m.code_length top.place) refl frame.stands)
      where
        by : (o : Option (Instr × ℕ)) → fetched m.code m.code_length top.place ≡ o → is_some o ≡ true → IsSound (effect_found p m top h o)
        by None e s = absurd (cc)
        by (Some found) e s =
            let well = is.verified.typed top.method m frame.there frame.code in
            let at : Stands p m (typing top.method) top.place found.0 found.1 = stands_at p m (typing top.method) well top.place found.0 found.1 e in
            record {
              next = found.1;
              before = top.locals;
              now = h;
              to = _;
              types = at.after;
              low = step_low p m top.place found.0 (typing top.method top.place) at.after at.step (frame_low Nothing top frame);
              fits = table_fits p (facts_hold p is.keeps) narrows m of h heap (live top.method) top.place found.1 (typing top.method top.place) at.after top.locals top.stack found.0
                  (record { wants = is.verified.wants top.method m frame.there top.place found e; locals = frame.locals; stack = frame.stack; there = there })
                  (made_there m.code m.code_length top.place found.0 found.1 e)
                  (is.verified.proper top.method m frame.there top.place found e)
                  at.step;
            }

    unstuck : (e : Effect) → IsSound e → is_stuck e ≡ false
    unstuck (effect.Goes place ls vs k) s = refl
    unstuck (effect.Makes o place ls vs k) s = refl
    unstuck (effect.Opens place ls vs k) s = refl
    unstuck (effect.Calls id args place ls vs k) s = refl
    unstuck (effect.Asks id args place ls vs k) s = refl
    unstuck (effect.Returns v k) s = refl
    unstuck (effect.Raises c) s = refl
    unstuck (effect.Throws object class c) s = refl
    unstuck (effect.Ends c) s = refl
    unstuck effect.Stuck s = absurd s.fits

    -- where the frame goes on
    left_low : (e : Effect) (s : IsSound e) (w : Awaited) (place : ℕ) (ls vs : List Value) (k : Objects) → GoesOn p m of (live top.method) s.to s.types w place ls vs k → awaited_count w + length vs ≤ stack_limit p top.method
    left_low e s w place ls vs k g =
        let few = stack_length p m of w s.types.stack vs g.stack in
        let low = s.low in
        let limit = limit_is top.method m frame.there in
        omega (arith, few, low, limit)

    fits_stack : (e : Effect) → IsSound e → FitsStack p e top.method below
    unfolding awaited_count
    fits_stack (effect.Goes place ls vs k) s = let low = left_low (effect.Goes place ls vs k) s Nothing place ls vs k s.fits in omega (arith, low)
    fits_stack (effect.Makes o place ls vs k) s = let low = left_low (effect.Makes o place ls vs k) s (AReference (Some o.class)) place ls vs k s.fits.1 in omega (arith, low)
    fits_stack (effect.Opens place ls vs k) s = let low = left_low (effect.Opens place ls vs k) s (AReference (named_type p (codes "kilim/Mailbox"))) place ls vs k s.fits in omega (arith, low)
    fits_stack (effect.Calls id args place ls vs k) s = let low = left_low (effect.Calls id args place ls vs k) s (result_awaited s.fits.callee.result) place ls vs k s.fits.goes in omega (arith, low)
    fits_stack (effect.Asks id args place ls vs k) s = let low = left_low (effect.Asks id args place ls vs k) s (result_awaited s.fits.callee.result) place ls vs k s.fits.goes in omega (arith, low)
    fits_stack (effect.Returns None k) s = tt
    fits_stack (effect.Returns (Some v) k) s = by m.result refl s.fits.0
      where
        by : (o : Option Ty) → m.result ≡ o → have_types p m of (result_types o) (v ∷ []) ≡ true → CallerFits p below
        by None e t = absurd (cc)
        by (Some ty) e t = callers_room m.result ty below e callers
    fits_stack (effect.Raises c) s = omega arith
    fits_stack (effect.Throws object class c) s = omega arith
    fits_stack (effect.Ends c) s = omega arith
    fits_stack effect.Stuck s = absurd s.fits

    -- ---- the result of a native

    native_room : (id : MethodId) (args : List Value) (place : ℕ) (ls vs : List Value) (k : Objects) (s : IsSound (effect.Asks id args place ls vs k)) → gives_value (native_of p id) ≡ true → length vs < stack_limit p top.method
    native_room id args place ls vs k s e =
        let n = value_given (first p is.keeps is.form) (native_of p id) e in
        let result = native_gives p is.keeps is.form id s.fits.callee n.0 s.fits.there s.fits.built_in n.2 ∙ n.3 in
        let low = left_low (effect.Asks id args place ls vs k) s (result_awaited s.fits.callee.result) place ls vs k s.fits.goes in
        let one = some_awaited s.fits.callee.result n.1 result in
        omega (arith, low, one)

    called_fits : (z : Bool) (id : MethodId) (args : List Value) (frames : List Activation) (k : Objects) → ResultFits set (cond z (move.Runs (move.Enters (receiver_of p id args)) (entered p id args ∷ frames) k) (move.Ends cause.Depth))
    called_fits true id args frames k = tt
    called_fits false id args frames k = tt

    returned_fits : (v : Option Value) (k : Objects) (as1 : List Activation) → ResultFits set (returned v as1 k)
    returned_fits v k [] = tt
    returned_fits v k (a ∷ as1) = tt

    result_fits : (e : Effect) → IsSound e → ResultFits set (move_by p e top below)
    result_fits (effect.Goes place ls vs k) s = tt
    result_fits (effect.Makes o place ls vs k) s = tt
    result_fits (effect.Opens place ls vs k) s = tt
    result_fits (effect.Calls id args place ls vs k) s = called_fits (nat_lt (length (goes_on top place ls vs ∷ below)) frame_limit) id args (goes_on top place ls vs ∷ below) k
    result_fits (effect.Asks id args place ls vs k) s = λ e. native_room id args place ls vs k s e
    result_fits (effect.Returns v k) s = returned_fits v k below
    result_fits (effect.Raises c) s = tt
    result_fits (effect.Throws object class c) s = tt
    result_fits (effect.Ends c) s = tt
    result_fits effect.Stuck s = absurd s.fits

    pub fine_here : IsFine p top below h × ResultFits set (moves p top below h)
    unfolding moves
    fine_here =
        let s = effect_sound in
        (record { fine = unstuck (effect_of p top h) s; fits = fits_stack (effect_of p top h) s }, result_fits (effect_of p top h) s)

  frames_fine : (h : Objects) (top : Activation) (below : List Activation) → Fits p typing live of (top ∷ below) h → AreThere h top.stack → IsFine p top below h × ResultFits set (moves p top below h)
  frames_fine h top below fits there =
      let frame : FrameFits p typing live of Nothing top = fits.frames.0 in
      fine_here top below h frame (subst (λ (o : Option Method). BelowFit p typing live of (result_of o) below) frame.there fits.frames.1) fits.heap there

pub fitting_is_fine : FittingIsFine
fitting_is_fine set typing live of l is fits there = record {
  steps = λ top below done boxes e less. (both top below done boxes e).0;
  result = λ top below done boxes e less. (both top below done boxes e).1;
  shown = heap_shown set.program is.keeps is.form of l.heap fits.fits.heap;
}
  where
    both : (top : Activation) (below : List Activation) (done boxes : ℕ) → l.thread ≡ Alive (top ∷ below) done boxes → IsFine set.program top below l.heap × ResultFits set (moves set.program top below l.heap)
    both top below done boxes e =
        frames_fine set typing live is of l.heap top below
        (subst (λ (t : Thread). Fits set.program typing live of (frames_of t) l.heap) e fits.fits)
        (subst (λ (t : Thread). TopIsThere l.heap (frames_of t)) e there)
