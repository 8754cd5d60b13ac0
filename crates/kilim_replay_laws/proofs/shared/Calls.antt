-- A built-in method that verified code calls takes its arguments, and what it starts has a method to begin with.
use Rattle.std.proofs.Common.{◌≡◌, ℕ, zero, suc, ◌+◌, ℤ, pos, negsuc, Bool, true, false, cond, eqb, List, [], ◌∷◌, ◌++◌, map, Option, Some, None, refl, sym, ap, subst, ◌∙◌}
use Rattle.std.specs.Prelude.{is_some, length, nat_lt}
use Rattle.std.specs.FinMap.{get}
use Rattle.std.proofs.lemmas.Bool.{and_parts}
use Rattle.std.proofs.lemmas.Option.{same_Some}
use Rattle.kilim_program.specs.declared.class.Method.{Method}
use Rattle.kilim_program.specs.declared.instr.Instr.{Instr}
use Rattle.kilim_program.specs.declared.names.BoxName.{BoxName}
use Rattle.kilim_program.specs.declared.names.ClassId.{ClassId}
use Rattle.kilim_program.specs.declared.names.MethodId.{MethodId}
use Rattle.kilim_program.specs.declared.ty.Ty.{Ty}
use Rattle.kilim_program.specs.declared.value.Value.{Value}
use Rattle.kilim_program.specs.declared.value.Value.TheVariants.{Int, Null, Ref, Box}
use Rattle.kilim_program.specs.declared.verified.VType.{VType}
use Rattle.kilim_program.specs.declared.verified.VType.TheVariants.{Object}
use Rattle.kilim_program.specs.BuiltIn.{class_type}
use Rattle.kilim_program.specs.Lengths.{fetched, first_place}
use Rattle.kilim_program.specs.Names.{◌>>=◌, method_at}
use Rattle.kilim_program.specs.Program.{Program}
use Rattle.kilim_run_state.specs.declared.cause.EndCause.{EndCause}
use Rattle.kilim_run_state.specs.declared.cause.EndCause.TheVariants as cause
use Rattle.kilim_run_state.specs.declared.value.Token.{Token}
use Rattle.kilim_run_state.specs.Machine.{Objects, Activation}
use Rattle.kilim_run_state.specs.Shapes.{shape_of}
use Rattle.kilim_run_state.specs.Trees.{OfTask, is_root}
use Rattle.kilim_run_machine.specs.Does.{does}
use Rattle.kilim_run_machine.specs.Effect.{Effect}
use Rattle.kilim_run_machine.specs.Effect as effect
use Rattle.kilim_run_machine.specs.Moves.{effect_found, effect_in, effect_of, entered, frame_limit, goes_on, move_by, moves, receiver_of, returned}
use Rattle.kilim_run_machine.specs.Moves as move
use Rattle.kilim_run_machine.specs.Natives.{Native, native_method, native_of}
use Rattle.kilim_run_machine.specs.Natives as native
use Rattle.kilim_run_model.specs.State.{Setting, execute_frames, is_fit}
use Rattle.kilim_run_model.specs.Lone.{Lone, Next, Stands, arg_at, arg_next, asks_next, bound_next, message_next, native_next, print_next, printed, put_next, put_wait_next, raised, start_next, wait_next}
use Rattle.kilim_run_model.proofs.Raised.{raised_has}
use Rattle.kilim_type_spec.specs.Step.{Types, class_vtype, made_at, made_by, vtype}
use Rattle.kilim_type_spec.specs.Typed.{edges}
use Rattle.kilim_type_sound.specs.Fits.{AreThere, Classes, FrameFits, HeapFits, Nothing, Typing, Wanted, have_types, is_of}
use Rattle.kilim_type_sound.specs.Sound.{EffectFits, native_types}
use Rattle.kilim_type_sound.proofs.Grounds.{facts_hold}
use Rattle.kilim_type_sound.proofs.Narrowed.{narrows}
use Rattle.kilim_type_sound.proofs.Table.{table_fits}
use Rattle.kilim_type_sound.proofs.Walk.{Stands as StandsTyped, stands_at}
use Rattle.kilim_isolation_laws.specs.typed_threads.fine.Typed.{IsVerified}
use Rattle.kilim_isolation_laws.proofs.Natives.{start_is}
use Rattle.kilim_isolation_laws.proofs.typed_threads.fine.Natives.{first}
use Rattle.kilim_isolation_laws.proofs.states.Roots.{task_root}
use Rattle.kilim_fiber_laws.proofs.courses.Receives.{receives_typed}
use Rattle.kilim_fiber_laws.proofs.courses.answers.Asked.{Asked, AsksWell, rows}
use Rattle.kilim_fiber_laws.proofs.courses.answers.Deeds.{IsMessage, TakesSuch}
use Rattle.kilim_fiber_laws.proofs.courses.answers.Table.{answers}
use Rattle.kilim_replay_laws.specs.shared.Shared.{AskedIsFine, IsFineCall}
use Rattle.kilim_replay_laws.proofs.shared.Begun.{started}

-- ---- with arguments that it takes

-- something comes of it
abbrev pub Comes : Next → Type 0
Comes Stands = ⊥
Comes n = Unit {0}

pub comes_not : (n : Next) → Comes n → n ≡ Stands → ⊥
comes_not n c e = subst Comes e c

module _ (set : Setting) (after : Lone) where
  raised_comes : (why : EndCause) → Comes (raised set.program after why)
  raised_comes why = raised_has Comes after why tt set.program (λ object f fs frames done boxes e. tt)

  put_comes : (box : BoxName) (root : ℕ) (o : Option (List Token)) → Comes (put_next after box root o)
  put_comes box root None = tt
  put_comes box root (Some shape) = tt

  message_comes : (box : BoxName) (v : Value) → IsMessage v → Comes (message_next set.program after box v)
  message_comes box Null m = raised_comes cause.Null
  message_comes box (Ref root) m = put_comes box root (shape_of set.program after.heap root)
  message_comes box v m = absurd m

  put_wait_comes : (box : BoxName) (root : ℕ) (o : Option (List Token)) → Comes (put_wait_next after box root o)
  put_wait_comes box root None = tt
  put_wait_comes box root (Some shape) = tt

  wait_comes : (box : BoxName) (v : Value) → IsMessage v → Comes (wait_next set.program after box v)
  wait_comes box Null m = raised_comes cause.Null
  wait_comes box (Ref root) m = put_wait_comes box root (shape_of set.program after.heap root)
  wait_comes box v m = absurd m

  bound_comes : (box : BoxName) (i : ℤ) → Comes (bound_next set.program after box i)
  bound_comes box (pos (suc i)) = tt
  bound_comes box (pos zero) = raised_comes cause.Size
  bound_comes box (negsuc i) = raised_comes cause.Size

  start_comes : (root : ℕ) (o : Option (List Token)) → Comes (start_next after root o)
  start_comes root None = tt
  start_comes root (Some shape) = tt

  print_comes : (v : Value) (t : Token) → printed v ≡ Some t → Comes (print_next after (printed v))
  print_comes v t e = subst (λ (o : Option Token). Comes (print_next after o)) (sym e) tt

  arg_comes : (o : Option ℤ) → Comes (arg_next set.program after o)
  arg_comes None = raised_comes cause.Index
  arg_comes (Some x) = tt

  pub takes_comes : (k : Native) (args : List Value) → TakesSuch k args → Comes (native_next set after k args)
  takes_comes native.Execute (Ref q ∷ []) t = tt
  takes_comes native.Start (Ref q ∷ []) t = start_comes q (shape_of set.program after.heap q)
  takes_comes native.Put (Box box ∷ v ∷ []) t = message_comes box v t
  takes_comes native.PutWait (Box box ∷ v ∷ []) t = wait_comes box v t
  takes_comes native.Bound (Box box ∷ Int i ∷ []) t = bound_comes box i
  takes_comes native.Get (Box box ∷ []) t = tt
  takes_comes native.Getnb (Box box ∷ []) t = tt
  takes_comes native.Print (v ∷ []) t = print_comes v t.0 t.1
  takes_comes native.Yield [] t = tt
  takes_comes native.ArgCount [] t = tt
  takes_comes native.Arg (Int i ∷ []) t = arg_comes (arg_at set.limits.args i)
  takes_comes k args t = absurd t

-- places of `new`
made_there : (es : List (ℕ × Instr)) (end at : ℕ) (i : Instr) (next : ℕ) → fetched es end at ≡ Some (i, next) → made_at es at ≡ made_by i
made_there [] end at i next e = absurd (cc)
made_there (x ∷ es) end at i next e = by (eqb x.0 at) e (made_there es end at i next)
  where
    by : (z : Bool) → cond z (Some (x.1, first_place es end)) (fetched es end at) ≡ Some (i, next) → (fetched es end at ≡ Some (i, next) → made_at es at ≡ made_by i) → cond z (made_by x.1) (made_at es at) ≡ made_by i
    by true e again = let pair : (x.1, first_place es end) ≡ (i, next) = cc in ap (λ (y : Instr × ℕ). made_by y.0) pair
    by false e again = again e

module _ (set : Setting) (typing : Typing) (live : Wanted) (of : Classes) (is : IsVerified set typing live) (main : is_fit set ≡ true) (h : Objects) (heap : HeapFits set.program of h) where
  abbrev p : Program
  p = set.program

  -- ---- of a method with such arguments

  module _ (id : MethodId) (args : List Value) (callee : Method) (there : method_at p id ≡ Some callee) (built : callee.built_in ≡ true) (typed : have_types p callee of (native_types callee) args ≡ true) (well : AsksWell p h callee args) where
    -- what is started is a task object
    start_typed : native_of p id ≡ Some native.Start → (root : ℕ) → args ≡ Ref root ∷ [] → is_of p (of root) (class_type (first p is.keeps is.form + 4)) ≡ true
    start_typed known root own =
        let start = start_is p is.keeps is.form id callee there known in
        let types : native_types callee ≡ Object (class_type (first p is.keeps is.form + 4)) ∷ [] =
        ap (λ (z : Bool). cond z [] (class_vtype callee.owner ∷ []) ++ map vtype callee.params) start.0 ∙ (ap (λ (c : ClassId). class_vtype c ∷ map vtype callee.params) start.1 ∙ ap (λ (tys : List Ty). Object (class_type (first p is.keeps is.form + 4)) ∷ map vtype tys) start.3) in
        let fits : have_types p callee of (Object (class_type (first p is.keeps is.form + 4)) ∷ []) (Ref root ∷ []) ≡ true =
        subst (λ (ts : List VType). have_types p callee of ts (Ref root ∷ []) ≡ true) types (subst (λ (vs : List Value). have_types p callee of (native_types callee) vs ≡ true) own typed) in
        (and_parts (is_of p (of root) (class_type (first p is.keeps is.form + 4))) true fits).0

    start_begins : native_of p id ≡ Some native.Start → (root : ℕ) → args ≡ Ref root ∷ [] → execute_frames p h root ≡ None → ⊥
    start_begins known root own =
        let o = (subst (AreThere h) own well.there).0 in
        let class : is_of p (Some o.0.class) (class_type (first p is.keeps is.form + 4)) ≡ true =
        subst (λ (x : Option Ty). is_of p x (class_type (first p is.keeps is.form + 4)) ≡ true) (heap.classes root o.0 o.1) (start_typed known root own) in
        started p is.keeps is.form set.main main h root o.0 o.1 (task_root p is.keeps is.form o.0.class class)

    fine_call : IsFineCall set h id args
    fine_call =
        let r = answers p is.keeps is.form of h heap id callee there built args well typed in
        let known : native_of p id ≡ Some r.0 = ap (λ (o : Option Method). o >>= native_method p) there ∙ r.1 in
        record {
          never = λ after e. comes_not (native_next set after r.0 args) (takes_comes set after r.0 args r.2) (sym (ap (asks_next set after args) known) ∙ e);
          begins = λ root known own. start_begins known root own;
        }

  -- ---- of an instruction

  abbrev EffectIsFine : Effect → Type 0
  EffectIsFine (effect.Asks id args place ls vs k) = IsFineCall set h id args
  EffectIsFine e = Unit {0}

  effect_fine : (m : Method) (wanted : ℕ → ℕ → Bool) (next : ℕ) (before : List Value) (now : Objects) (to : List ℕ) (g : Types) (e : Effect) → EffectFits p m of wanted next before now to g e → Asked p h e → EffectIsFine e
  effect_fine m wanted next before now to g (effect.Asks id args place ls vs k) fits asked =
      let one = same_Some asked.0 fits.callee (sym asked.1 ∙ fits.there) in
      fine_call id args fits.callee fits.there fits.built_in fits.arguments (subst (λ (x : Method). AsksWell p h x args) one asked.2)
  effect_fine m wanted next before now to g _ fits asked = tt

  module _ (top : Activation) (frame : FrameFits p typing live of Nothing top) (there : AreThere h top.stack) where
    abbrev m : Method
    m = frame.method

    effect_here : EffectIsFine (effect_of p top h)
    effect_here = subst (λ (o : Option Method). EffectIsFine (effect_in p top h o)) (sym frame.there) (by (fetched m.code m.code_length top.place) refl frame.stands)
      where
        by : (o : Option (Instr × ℕ)) → fetched m.code m.code_length top.place ≡ o → is_some o ≡ true → EffectIsFine (effect_found p m top h o)
        by None e s = absurd (cc)
        by (Some found) e s =
            let well = is.verified.typed top.method m frame.there frame.code in
            let at : StandsTyped p m (typing top.method) top.place found.0 found.1 = stands_at p m (typing top.method) well top.place found.0 found.1 e in
            let fits = table_fits p (facts_hold p is.keeps) narrows m of h heap (live top.method) top.place found.1 (typing top.method top.place) at.after top.locals top.stack found.0
            (record { wants = is.verified.wants top.method m frame.there top.place found e; locals = frame.locals; stack = frame.stack; there = there })
            (made_there m.code m.code_length top.place found.0 found.1 e)
            (is.verified.proper top.method m frame.there top.place found e)
            at.step in
            let asked = rows p is.keeps is.form of h heap m found.1 top.locals top.stack there top.method frame.there frame.code top.place (typing top.method top.place) at.after found.0 at.step
            (receives_typed p (facts_hold p is.keeps).order m of h heap top.place found.0 (typing top.method top.place) at.after top.stack frame.stack at.step) in
            effect_fine m (live top.method) found.1 top.locals h (edges found.0 found.1) at.after (does p m found.0 found.1 top.locals top.stack h) fits asked

    -- ---- of a move

    called_fine : (z : Bool) (id : MethodId) (args : List Value) (frames : List Activation) (k : Objects) → AskedIsFine set h (cond z (move.Runs (move.Enters (receiver_of p id args)) (entered p id args ∷ frames) k) (move.Ends cause.Depth))
    called_fine true id args frames k = tt
    called_fine false id args frames k = tt

    returned_fine : (v : Option Value) (k : Objects) (below : List Activation) → AskedIsFine set h (returned v below k)
    returned_fine v k [] = tt
    returned_fine v k (a ∷ as1) = tt

    move_fine : (below : List Activation) (e : Effect) → EffectIsFine e → AskedIsFine set h (move_by p e top below)
    move_fine below (effect.Goes place ls vs k) f = tt
    move_fine below (effect.Makes o place ls vs k) f = tt
    move_fine below (effect.Opens place ls vs k) f = tt
    move_fine below (effect.Calls id args place ls vs k) f = called_fine (nat_lt (length (goes_on top place ls vs ∷ below)) frame_limit) id args (goes_on top place ls vs ∷ below) k
    move_fine below (effect.Asks id args place ls vs k) f = f
    move_fine below (effect.Returns v k) f = returned_fine v k below
    move_fine below (effect.Raises c) f = tt
    move_fine below (effect.Throws object class c) f = tt
    move_fine below (effect.Ends c) f = tt
    move_fine below effect.Stuck f = tt

    pub calls_fine : (below : List Activation) → AskedIsFine set h (moves p top below h)
    unfolding moves
    calls_fine below = move_fine below (effect_of p top h) effect_here
