-- A thread has at most 512 frames.
use Rattle.std.proofs.Common.{◌≡◌, ℕ, suc, ◌≤◌, Bool, true, false, List, [], ◌∷◌, Option, Some, None, refl, sym, ap, subst, ltb-true, arith}
use Rattle.std.specs.Prelude.{nat_lt, nat_le, length, if◌then◌else◌}
use Rattle.kilim_run_state.specs.declared.cause.EndCause.{EndCause}
use Rattle.kilim_run_state.specs.declared.cause.EndCause.TheVariants as cause
use Rattle.kilim_program.specs.declared.class.Method.{Method}
use Rattle.kilim_program.specs.declared.instr.Instr.{Instr}
use Rattle.kilim_program.specs.declared.names.MethodId.{MethodId}
use Rattle.kilim_program.specs.declared.value.Value.{Value}
use Rattle.kilim_program.specs.declared.value.Value.TheVariants.{Ref}
use Rattle.kilim_program.specs.Names.{method_at}
use Rattle.kilim_run_machine.specs.Does.{does}
use Rattle.kilim_run_machine.specs.Effect.{Asks, Calls, Effect, Ends, Goes, Makes, Opens, Raises, Throws, Returns, Stuck}
use Rattle.kilim_program.specs.Members.{execute_of}
use Rattle.kilim_run_machine.specs.Moves.{entered, frame_limit}
use Rattle.kilim_run_machine.specs.Natives.{Native, native_of}
use Rattle.kilim_run_model.specs.State.{Setting}
use Rattle.kilim_fiber_spec.specs.Acts.{Over, World, asks, counted, ending, native_does, opens_box, with_heap}
use Rattle.kilim_fiber_spec.specs.Thread.{At, Frame, Run, Stop, Thread, begins, begins_in, calls, effect_does, fetch, finishes, found_does, own_of, push, returns, self_of, step, left_at, left_behind, raised_behind, stands_at}
use Rattle.kilim_fiber_spec.proofs.lone.Left.{at_few, behind_few, raises_has, thrown_has}
use Rattle.kilim_fiber_spec.specs.Fibers.{frame}
use Rattle.kilim_run_machine.specs.Raising.{index_at, other_index, raised_class}
use Rattle.kilim_run_state.specs.Machine.{Activation}
use Rattle.kilim_fiber_laws.proofs.simulation.Natural.{GoesOn, IsOver, IsRaised, Outcome, ending_is, fold, native_same, opens_same}
use Rattle.kilim_fiber_laws.specs.courses.Law.{HasFew}

over : (o : Over) (t : Thread) → t ≡ Stop o → HasFew t
over o t e = subst HasFew (sym e) tt

module _ (set : Setting) where
  ended : (w : World) (why : EndCause) → HasFew (ending set w Stop why)
  ended w why = over (ending set w (λ (o : Over). o) why) (ending set w Stop why) (ending_is set w Stop why)

  -- whatever a built-in method does
  folded : (go : World → Option Value → Thread) (raise : EndCause → Thread) → ((after : World) (v : Option Value) → HasFew (go after v)) → ((why : EndCause) → HasFew (raise why)) → (o : Outcome) (t : Thread) → t ≡ fold Stop go raise o → HasFew t
  folded go raise h g (GoesOn after v) t e = subst HasFew (sym e) (h after v)
  folded go raise h g (IsOver o) t e = over o t e
  folded go raise h g (IsRaised why) t e = subst HasFew (sym e) (g why)

  asked : (w : World) (go : World → Option Value → Thread) (raise : EndCause → Thread) → ((after : World) (v : Option Value) → HasFew (go after v)) → ((why : EndCause) → HasFew (raise why)) → (o : Option Native) (args : List Value) → HasFew (asks set w Stop go raise o args)
  asked w go raise h g None args = tt
  asked w go raise h g (Some n) args = folded go raise h g (native_does set w IsOver GoesOn IsRaised n args) (native_does set w Stop go raise n args) (native_same set w Stop go raise n args).0

  -- where something is raised or thrown
  stands : (n : ℕ) (f : Frame) (fs : List Frame) (w : World) → suc (length fs) ≤ n → n ≤ 512 → HasFew (stands_at set f fs w)
  stands n (At m p l s x) fs w h few = omega (arith, h, few)

  raised : (b : List Frame) (w : World) → length b ≤ 512 → (why : EndCause) → HasFew (raised_behind set b w why)
  raised b w few why =
      raises_has set HasFew (counted w) why (ended (counted w) why) set.program (λ c. left_behind set.program c (Ref w.next) b) (raised_class set.program other_index why)
      (λ c f fs e. let h = behind_few set.program c (Ref w.next) b in stands (length (left_behind set.program c (Ref w.next) b)) f fs _ (subst (λ (n : ℕ). suc (length fs) ≤ n) (sym (ap length e)) (omega arith)) (omega (arith, h, few)))

  called : (c : MethodId) (args : List Value) (b : List Frame) (w : World) → HasFew (calls set c args b w)
  called c args b w = by (nat_lt (length b) frame_limit) refl
    where
      by : (z : Bool) → nat_lt (length b) frame_limit ≡ z → HasFew (if z then Run c 0 (entered set.program c args).locals [] (self_of set.program c args) b (counted w) else ending set w Stop cause.Depth)
      by true e = let l = ltb-true (length b) frame_limit e in omega (arith, l)
      by false e = ended w cause.Depth

  begun_in : (c : MethodId) (n : ℕ) (w after : World) (o : Option Method) → HasFew (begins_in set c n w after o)
  begun_in c n w after None = tt
  begun_in c n w after (Some method) = by method.built_in
    where
      by : (z : Bool) → HasFew (if z then ending set w Stop cause.Done else Run c 0 (entered set.program c (Ref n ∷ [])).locals [] (Ref n) [] after)
      by true = ended w cause.Done
      by false = omega (arith)

  begun : (n : ℕ) (w after : World) (o : Option MethodId) → HasFew (begins set n w after o)
  begun n w after None = tt
  begun n w after (Some c) = begun_in c n w after (method_at set.program c)

  finished : (w : World) (o : Option ℕ) → HasFew (finishes set w o)
  finished w None = ended w cause.Done
  finished w (Some n) = begun n w (record (counted w) { kept = None }) (execute_of set.program set.main)

  returned : (v : Option Value) (b : List Frame) (w : World) → suc (length b) ≤ 512 → HasFew (returns set v b w)
  returned v [] w h = finished w w.kept
  returned v (At m p l s x ∷ b) w h = omega (arith, h)

  effect_few : (e : Effect) (top : Activation) (x : Value) (b : List Frame) (w : World) → suc (length b) ≤ 512 → HasFew (effect_does set e top x b w)
  effect_few (Goes p l s heap) top x b w h = h
  effect_few (Makes object p l s heap) top x b w h = h
  effect_few (Opens p l s heap) top x b w h =
      let go : World → Option Value → Thread = λ after v. Run top.method p l (push v s) x b after in
      folded go (ending set w Stop) (λ after v. h) (ended w) (opens_box set (with_heap w heap) IsOver GoesOn (counted (with_heap w heap))) (opens_box set (with_heap w heap) Stop go (counted (with_heap w heap))) (opens_same set (with_heap w heap) Stop go (ending set w Stop) (counted (with_heap w heap)) refl).0
  effect_few (Calls c args p l s heap) top x b w h = called c args (At top.method p l s x ∷ b) (with_heap w heap)
  effect_few (Asks c args p l s heap) top x b w h = asked (with_heap w heap) (λ after v. Run top.method p l (push v s) x b after) (raised_behind set (At top.method p l s x ∷ b) (with_heap w heap)) (λ after v. h) (raised (At top.method p l s x ∷ b) (with_heap w heap) h) (native_of set.program c) args
  effect_few (Returns v heap) top x b w h = returned v b (with_heap w heap) h
  effect_few (Raises why) top x b w h =
      raises_has set HasFew (counted w) why (ended (counted w) why) set.program (λ c. left_at set.program c (Ref w.next) top x b) (raised_class set.program (index_at set.program top) why)
      (λ c f fs e. let g = at_few set.program c (Ref w.next) top x b in stands (length (left_at set.program c (Ref w.next) top x b)) f fs _ (subst (λ (n : ℕ). suc (length fs) ≤ n) (sym (ap length e)) (omega arith)) (omega (arith, g, h)))
  effect_few (Throws n c why) top x b w h =
      thrown_has set HasFew (counted w) why (ended (counted w) why) (counted w) (left_at set.program c (Ref n) top x b)
      (λ f fs e. let g = at_few set.program c (Ref n) top x b in stands (length (left_at set.program c (Ref n) top x b)) f fs _ (subst (λ (n : ℕ). suc (length fs) ≤ n) (sym (ap length e)) (omega arith)) (omega (arith, g, h)))
  effect_few (Ends why) top x b w h = ended w why
  effect_few Stuck top x b w h = tt

  found_few : (o : Option (Instr × ℕ)) (top : Activation) (x : Value) (b : List Frame) (w : World) → suc (length b) ≤ 512 → HasFew (found_does set o top x b w)
  found_few None top x b w h = tt
  found_few (Some i) top x b w h = effect_few (does set.program (own_of set.program top.method) i.0 i.1 top.locals top.stack w.heap) top x b w h

  pub few_on : (t : Thread) → HasFew t → HasFew (step set t)
  few_on (Run m p l s x b w) h = by (nat_le set.limits.steps w.done)
    where
      by : (z : Bool) → HasFew (if z then ending set w Stop cause.Spent else found_does set (fetch set.program m p) (frame m p l s) x b w)
      by true = ended w cause.Spent
      by false = found_few (fetch set.program m p) (frame m p l s) x b w h
  few_on (Stop o) h = tt
