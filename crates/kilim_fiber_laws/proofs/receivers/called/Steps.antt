-- A step of the thread leaves each frame behind its call.
use Rattle.std.proofs.Common.{◌≡◌, cond, eqb, ℕ, ◌+◌, Bool, true, false, List, [], ◌∷◌, length, Option, Some, None, refl, sym, ap, subst, ◌∙◌}
use Rattle.std.specs.Prelude.{◌&&◌, nat_le, nat_lt}
use Rattle.std.proofs.lemmas.Bool.{and_parts}
use Rattle.kilim_program.specs.declared.class.Method.{Method}
use Rattle.kilim_program.specs.declared.instr.Instr.{Instr}
use Rattle.kilim_program.specs.declared.names.MethodId.{MethodId}
use Rattle.kilim_program.specs.declared.value.Value.{Value}
use Rattle.kilim_program.specs.declared.value.Value.TheVariants.{Box, Ref}
use Rattle.kilim_program.specs.BuiltIn.{class_type}
use Rattle.kilim_program.specs.Lengths.{fetched, first_place}
use Rattle.kilim_program.specs.Names.{◌>>=◌, class_at, is_task, method_at}
use Rattle.kilim_program.specs.Program.{Program}
use Rattle.kilim_type_sound.specs.Fits.{Classes}
use Rattle.kilim_type_sound.specs.Law.{Extends}
use Rattle.kilim_type_sound.specs.Sound.{EffectFits, argument_types}
use Rattle.kilim_type_sound.proofs.Grounds.{facts_hold}
use Rattle.kilim_type_sound.proofs.Narrowed.{narrows}
use Rattle.kilim_type_sound.proofs.Table.{table_fits}
use Rattle.kilim_type_sound.proofs.Walk.{stands_at as typed_at}
use Rattle.kilim_run_state.specs.declared.cause.EndCause.{EndCause}
use Rattle.kilim_run_state.specs.declared.cause.EndCause.TheVariants as cause
use Rattle.kilim_run_machine.specs.Does.{does}
use Rattle.kilim_run_machine.specs.Effect.{Asks, Calls, Effect, Ends, Goes, Makes, Opens, Raises, Throws, Returns, Stuck}
use Rattle.kilim_run_state.specs.Machine.{Activation, Objects}
use Rattle.kilim_run_machine.specs.Raising.{index_at, other_index, raised_class}
use Rattle.kilim_fiber_spec.proofs.lone.Left.{raises_has, thrown_has}
use Rattle.kilim_fiber_laws.proofs.receivers.called.Left.{AreCalled, at_called, behind_called}
use Rattle.kilim_run_state.specs.Objects.{new_object}
use Rattle.kilim_program.specs.declared.names.ClassId.{ClassId}
use Rattle.kilim_fiber_spec.specs.Fibers.{frame}
use Rattle.kilim_program.specs.Members.{constructor_of, execute_of, is_concrete, is_own_constructor}
use Rattle.kilim_run_machine.specs.Moves.{entered, frame_limit}
use Rattle.kilim_run_machine.specs.Natives.{native_of}
use Rattle.kilim_isolation_laws.specs.Laws.{IsRunOfAccepted}
use Rattle.kilim_isolation_laws.proofs.Keeping.{is_verified, stack_there}
use Rattle.kilim_run_model.specs.Lone.{box_limit}
use Rattle.kilim_run_model.specs.State.{Setting}
use Rattle.kilim_type_spec.specs.Step.{Types, made_at, made_by}
use Rattle.kilim_type_spec.specs.Typed.{edges}
use Rattle.kilim_type_laws.specs.Laws.{typing_at}
use Rattle.kilim_fiber_laws.specs.receivers.called.Law.{AllCalled, Bottom, CalledAs, Entered}
use Rattle.kilim_fiber_laws.proofs.receivers.called.Called.{CallsFrom, boundary_grown, calls_from, types_grown}
use Rattle.kilim_fiber_laws.proofs.receivers.called.Natives.{asks_so, ended}
use Rattle.kilim_fiber_laws.proofs.courses.Receives.{receives_typed}
use Rattle.kilim_fiber_spec.specs.lone.Law.{lone_at}
use Rattle.kilim_fiber_laws.proofs.receivers.Chain.{WellAs, as_well, wants_all}
use Rattle.kilim_fiber_spec.specs.Acts.{World, counted, ending, raises, with_heap, with_new}
use Rattle.kilim_fiber_spec.specs.Thread.{At, Frame, Run, Stop, Thread, begins, begins_in, code_in, effect_does, fetch, finishes, found_does, own_in, own_of, push, raised_behind, returns, self_of, step, left_at, left_behind, stands_at}

-- places of `new`
made_there : (es : List (ℕ × Instr)) (end at : ℕ) (i : Instr) (next : ℕ) → fetched es end at ≡ Some (i, next) → made_at es at ≡ made_by i
made_there [] end at i next e = absurd (cc)
made_there (x ∷ es) end at i next e = by (eqb x.0 at) e (made_there es end at i next)
  where
    by : (z : Bool) → cond z (Some (x.1, first_place es end)) (fetched es end at) ≡ Some (i, next) → (fetched es end at ≡ Some (i, next) → made_at es at ≡ made_by i) → cond z (made_by x.1) (made_at es at) ≡ made_by i
    by true e again = let pair : (x.1, first_place es end) ≡ (i, next) = cc in ap (λ (y : Instr × ℕ). made_by y.0) pair
    by false e again = again e

-- a call took arguments of its types
abbrev Enters : Program → Classes → Effect → Type 0
Enters p of (Calls c args q l s h) = Entered p of c (self_of p c args)
Enters p of e = Unit {0}

enters_of : (p : Program) (of : Classes) (own : Method) (wanted : ℕ → ℕ → Bool) (next : ℕ) (before : List Value) (now : Objects) (reached : List ℕ) (g : Types) (e : Effect) → EffectFits p own of wanted next before now reached g e → Enters p of e
enters_of p of own wanted next before now reached g (Calls c args q l s h) fits = record { callee = fits.callee; there = fits.there; args = args; takes = fits.arguments; self = refl }
enters_of p of own wanted next before now reached g (Goes q l s h) fits = tt
enters_of p of own wanted next before now reached g (Makes o q l s h) fits = tt
enters_of p of own wanted next before now reached g (Opens q l s h) fits = tt
enters_of p of own wanted next before now reached g (Asks c args q l s h) fits = tt
enters_of p of own wanted next before now reached g (Returns v h) fits = tt
enters_of p of own wanted next before now reached g (Raises why) fits = tt
enters_of p of own wanted next before now reached g (Throws object class why) fits = tt
enters_of p of own wanted next before now reached g (Ends why) fits = tt
enters_of p of own wanted next before now reached g Stuck fits = tt

module _ (set : Setting) (run : IsRunOfAccepted set) where
  -- ---- with more classes of names

  module _ (of more : Classes) (grows : Extends of more) where
    bottom_grown : (k : Option ℕ) (c : MethodId) (y : Value) → Bottom set.program of k c y → Bottom set.program more k c y
    bottom_grown k c y b = record { given = b.given; class = b.class; task = b.task; begins = b.begins; name = b.name; self = b.self; is = grows b.name (class_type b.class.0) b.is }

    entered_grown : (c : MethodId) (y : Value) → Entered set.program of c y → Entered set.program more c y
    entered_grown c y e = record { callee = e.callee; there = e.there; args = e.args; takes = types_grown set.program of more grows e.callee (argument_types e.callee) e.args e.takes; self = e.self }

    all_grown : (k : Option ℕ) (c : MethodId) (y : Value) (b : List Frame) → AllCalled set.program of k c y b → AllCalled set.program more k c y b
    all_grown k c y [] a = λ pauses. bottom_grown k c y (a pauses)
    all_grown k c y (At m q l s x ∷ b) a = ((λ pauses. boundary_grown set.program of more grows c y m q l s (a.0.0 pauses), entered_grown c y a.0.1), all_grown k m x b a.1)

    calls_grown : (m : MethodId) (e : Effect) → CallsFrom set.program of m e → CallsFrom set.program more m e
    calls_grown m (Calls c args q l s h) k = λ pauses. boundary_grown set.program of more grows c (self_of set.program c args) m q l s (k pauses)
    calls_grown m (Goes q l s h) k = tt
    calls_grown m (Makes o q l s h) k = tt
    calls_grown m (Opens q l s h) k = tt
    calls_grown m (Asks c args q l s h) k = tt
    calls_grown m (Returns v h) k = tt
    calls_grown m (Raises why) k = tt
    calls_grown m (Throws object class why) k = tt
    calls_grown m (Ends why) k = tt
    calls_grown m Stuck k = tt

    enters_grown : (e : Effect) → Enters set.program of e → Enters set.program more e
    enters_grown (Calls c args q l s h) k = entered_grown c (self_of set.program c args) k
    enters_grown (Goes q l s h) k = tt
    enters_grown (Makes o q l s h) k = tt
    enters_grown (Opens q l s h) k = tt
    enters_grown (Asks c args q l s h) k = tt
    enters_grown (Returns v h) k = tt
    enters_grown (Raises why) k = tt
    enters_grown (Throws object class why) k = tt
    enters_grown (Ends why) k = tt
    enters_grown Stuck k = tt

  -- ---- each effect

  module _ (more : Classes) where
    -- the object that is kept begins its `execute`
    finished : (w : World) → ((n : ℕ) → w.kept ≡ Some n → more n ≡ Some (class_type set.main.0)) → (o : Option ℕ) → w.kept ≡ o → CalledAs set more (finishes set w o)
    finished w main None e = ended set (CalledAs set more) (λ o. tt) w cause.Done
    finished w main (Some n) e = by (execute_of set.program set.main) refl
      where
        after : World
        after = record (counted w) { kept = None }

        task : is_task set.program set.main ≡ true
        task = (and_parts (is_task set.program set.main) (is_own_constructor (constructor_of set.program set.main >>= method_at set.program)) (and_parts (is_concrete (class_at set.program set.main)) (is_task set.program set.main && is_own_constructor (constructor_of set.program set.main >>= method_at set.program)) run.main).1).0

        at : (c : MethodId) → execute_of set.program set.main ≡ Some c → (z : Bool) → CalledAs set more (cond z (ending set w Stop cause.Done) (Run c 0 (entered set.program c (Ref n ∷ [])).locals [] (Ref n) [] after))
        at c is true = ended set (CalledAs set more) (λ o. tt) w cause.Done
        at c is false = λ pauses. record { given = refl; class = set.main; task = task; begins = is; name = n; self = refl; is = main n e }

        found : (c : MethodId) → execute_of set.program set.main ≡ Some c → (x : Option Method) → CalledAs set more (begins_in set c n w after x)
        found c is None = tt
        found c is (Some method) = at c is method.built_in

        by : (x : Option MethodId) → execute_of set.program set.main ≡ x → CalledAs set more (begins set n w after x)
        by None is = tt
        by (Some c) is = found c is (method_at set.program c)

    returned : (v : Option Value) (h : Objects) (m : MethodId) (x : Value) (b : List Frame) (w : World) → ((n : ℕ) → w.kept ≡ Some n → more n ≡ Some (class_type set.main.0)) → AllCalled set.program more w.kept m x b → CalledAs set more (returns set v b (with_heap w h))
    returned v h m x [] w main all = finished (with_heap w h) main w.kept refl
    returned v h m x (At m2 q2 l2 s2 x2 ∷ b) w main all = all.1

    module _ (top : Activation) (x : Value) (b : List Frame) (w : World) (all : AllCalled set.program more w.kept top.method x b) (main : (n : ℕ) → w.kept ≡ Some n → more n ≡ Some (class_type set.main.0)) where
      went : (q : ℕ) (l s : List Value) (after : World) → after.kept ≡ w.kept → CalledAs set more (Run top.method q l s x b after)
      went q l s after e = subst (λ (k : Option ℕ). AllCalled set.program more k top.method x b) (sym e) all

      stands : (f : Frame) (fs : List Frame) (after : World) → after.kept ≡ w.kept → AreCalled set.program more w.kept (f ∷ fs) → CalledAs set more (stands_at set f fs after)
      stands (At k q l s y) fs after e h = subst (λ (o : Option ℕ). AllCalled set.program more o k y fs) (sym e) h

      raised : (v : World) → v.kept ≡ w.kept → (why : EndCause) (left : ClassId → List Frame) (o : Option ClassId) → ((c : ClassId) → AreCalled set.program more w.kept (left c)) → CalledAs set more (raises set Stop (stands_at set) (counted v) why set.program left o)
      raised v e why left o all =
          raises_has set (CalledAs set more) (counted v) why (ended set (CalledAs set more) (λ o. tt) (counted v) why) set.program left o
          (λ c f fs d. stands f fs (with_new (counted v) (new_object set.program c)) e (subst (AreCalled set.program more w.kept) d (all c)))

      effect_called : (e : Effect) → CallsFrom set.program more top.method e → Enters set.program more e → CalledAs set more (effect_does set e top x b w)
      effect_called (Goes q l s h) from enters = all
      effect_called (Makes o q l s h) from enters = all
      effect_called (Opens q l s h) from enters = by (nat_lt w.boxes box_limit)
        where
          by : (z : Bool) → CalledAs set more (cond z (Run top.method q l (Box (record { task = w.task; number = w.boxes }) ∷ s) x b (record (counted (with_heap w h)) { boxes = w.boxes + 1 })) (ending set (with_heap w h) Stop cause.Boxes))
          by true = all
          by false = ended set (CalledAs set more) (λ o. tt) (with_heap w h) cause.Boxes
      effect_called (Calls c args q l s h) from enters = by (nat_lt (length (At top.method q l s x ∷ b)) frame_limit)
        where
          by : (z : Bool) → CalledAs set more (cond z (Run c 0 (entered set.program c args).locals [] (self_of set.program c args) (At top.method q l s x ∷ b) (counted (with_heap w h))) (ending set (with_heap w h) Stop cause.Depth))
          by true = ((from, enters), all)
          by false = ended set (CalledAs set more) (λ o. tt) (with_heap w h) cause.Depth
      effect_called (Asks c args q l s h) from enters =
          asks_so set (CalledAs set more) (λ o. tt) (with_heap w h) (λ after v. Run top.method q l (push v s) x b after) (λ after v e. went q l (push v s) after e) (raised_behind set (At top.method q l s x ∷ b) (with_heap w h))
          (λ why. raised (with_heap w h) refl why (λ c. left_behind set.program c (Ref w.next) (At top.method q l s x ∷ b)) (raised_class set.program other_index why) (λ c. behind_called set.program c (Ref w.next) more w.kept (At top.method q l s x ∷ b) all)) (native_of set.program c) args
      effect_called (Returns v h) from enters = returned v h top.method x b w main all
      effect_called (Raises why) from enters =
          raised w refl why (λ c. left_at set.program c (Ref w.next) top x b) (raised_class set.program (index_at set.program top) why) (λ c. at_called set.program c (Ref w.next) more w.kept top x b all)
      effect_called (Throws n c why) from enters =
          thrown_has set (CalledAs set more) (counted w) why (ended set (CalledAs set more) (λ o. tt) (counted w) why) (counted w) (left_at set.program c (Ref n) top x b)
          (λ f fs d. stands f fs (counted w) refl (subst (AreCalled set.program more w.kept) d (at_called set.program c (Ref n) more w.kept top x b all)))
      effect_called (Ends why) from enters = ended set (CalledAs set more) (λ o. tt) w why
      effect_called Stuck from enters = tt

  -- ---- each step

  module _ (of : Classes) (m : MethodId) (p : ℕ) (l s : List Value) (x : Value) (b : List Frame) (w : World) (well : WellAs set run of (Run m p l s x b w)) where
    -- what its instruction does fits
    fits_made : (i : Instr) (to : ℕ) → fetch set.program m p ≡ Some (i, to) → Enters set.program of (does set.program (own_of set.program m) i to l s w.heap)
    fits_made i to f =
        let top = well.fits.fits.frames.0 in
        let v = (is_verified set run.keeps run.form run.well run.accepted run.main run.begins).verified in
        let own : fetched top.method.code top.method.code_length p ≡ Some (i, to) = ap (λ (o : Option Method). code_in o p) (sym top.there) ∙ f in
        let at = typed_at set.program top.method (typing_at set.program m) (v.typed m top.method top.there top.code) p i to own in
        subst (λ (e : Effect). Enters set.program of e) (ap (λ (o : Option Method). does set.program (own_in o) i to l s w.heap) (sym top.there))
        (enters_of set.program of top.method (wants_all m) to l w.heap (edges i to) at.after (does set.program top.method i to l s w.heap)
        (table_fits set.program (facts_hold set.program run.keeps) narrows top.method of w.heap well.fits.fits.heap (wants_all m) p to (typing_at set.program m p) at.after l s i (record {
          wants = v.wants m top.method top.there p (i, to) own;
          locals = top.locals;
          stack = top.stack;
          there = stack_there set run.keeps run.form run.well run.accepted run.main run.begins (lone_at m p l s b w) (as_well set run of (lone_at m p l s b w) well);
        }) (made_there top.method.code top.method.code_length p i to own) (v.proper m top.method top.there p (i, to) own) at.step))

    -- what a call of its instruction makes
    calls_made : (i : Instr) (to : ℕ) → fetch set.program m p ≡ Some (i, to) → CallsFrom set.program of m (does set.program (own_of set.program m) i to l s w.heap)
    calls_made i to f =
        let top = well.fits.fits.frames.0 in
        let own : fetched top.method.code top.method.code_length p ≡ Some (i, to) = ap (λ (o : Option Method). code_in o p) (sym top.there) ∙ f in
        let at = typed_at set.program top.method (typing_at set.program m) ((is_verified set run.keeps run.form run.well run.accepted run.main run.begins).verified.typed m top.method top.there top.code) p i to own in
        subst (λ (e : Effect). CallsFrom set.program of m e) (ap (λ (o : Option Method). does set.program (own_in o) i to l s w.heap) (sym top.there))
        (calls_from set.program run.keeps run.form of w.heap well.fits.fits.heap m top.method top.there p to l s
        (stack_there set run.keeps run.form run.well run.accepted run.main run.begins (lone_at m p l s b w) (as_well set run of (lone_at m p l s b w) well)) top.stack (λ k. top.locals.slots k refl) at.after i f at.step
        (receives_typed set.program (facts_hold set.program run.keeps).order top.method of w.heap well.fits.fits.heap p i (typing_at set.program m p) at.after s top.stack at.step))

  pub step_called : (of more : Classes) → Extends of more → (t : Thread) → WellAs set run of t → CalledAs set of t → CalledAs set more (step set t)
  step_called of more grows (Stop o) well all = tt
  step_called of more grows (Run m p l s x b w) well all = by (nat_le set.limits.steps w.done)
    where
      found : (o : Option (Instr × ℕ)) → fetch set.program m p ≡ o → CalledAs set more (found_does set o (frame m p l s) x b w)
      found None f = tt
      found (Some at) f =
          effect_called more (frame m p l s) x b w (all_grown of more grows w.kept m x b all) (λ n e. grows n (class_type set.main.0) (well.fits.kept n e)) (does set.program (own_of set.program m) at.0 at.1 l s w.heap)
          (calls_grown of more grows m (does set.program (own_of set.program m) at.0 at.1 l s w.heap) (calls_made of m p l s x b w well at.0 at.1 f))
          (enters_grown of more grows (does set.program (own_of set.program m) at.0 at.1 l s w.heap) (fits_made of m p l s x b w well at.0 at.1 f))

      by : (z : Bool) → CalledAs set more (cond z (ending set w Stop cause.Spent) (found_does set (fetch set.program m p) (frame m p l s) x b w))
      by true = ended set (CalledAs set more) (λ o. tt) w cause.Spent
      by false = found (fetch set.program m p) refl
