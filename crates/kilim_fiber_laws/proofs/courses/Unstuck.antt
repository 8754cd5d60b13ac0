-- The thread isn't stuck, where built-in methods get arguments that they take.
use Rattle.std.proofs.Common.{◌≡◌, ◌≢◌, ℕ, ◌+◌, Bool, true, false, List, [], ◌∷◌, Option, Some, None, refl, sym, subst}
use Rattle.std.specs.Prelude.{nat_lt, nat_le, length, if◌then◌else◌}
use Rattle.kilim_run_state.specs.declared.cause.EndCause.{EndCause}
use Rattle.kilim_run_state.specs.declared.cause.EndCause.TheVariants as cause
use Rattle.kilim_program.specs.declared.class.Method.{Method}
use Rattle.kilim_program.specs.declared.instr.Instr.{Instr}
use Rattle.kilim_program.specs.declared.names.MethodId.{MethodId}
use Rattle.kilim_program.specs.declared.value.Value.{Value}
use Rattle.kilim_program.specs.declared.value.Value.TheVariants.{Box, Ref}
use Rattle.kilim_program.specs.Names.{method_at}
use Rattle.kilim_run_machine.specs.Does.{does}
use Rattle.kilim_run_machine.specs.Effect.{Asks, Calls, Effect, Ends, Goes, Makes, Opens, Raises, Throws, Returns, Stuck}
use Rattle.kilim_run_state.specs.Machine.{Activation, Objects}
use Rattle.kilim_program.specs.Members.{execute_of}
use Rattle.kilim_run_machine.specs.Moves.{entered, frame_limit}
use Rattle.kilim_run_machine.specs.Natives.{native_of}
use Rattle.kilim_run_model.specs.Lone.{box_limit}
use Rattle.kilim_run_model.specs.State.{Setting}
use Rattle.kilim_run_model.specs.declared.deed.Deed.{Deed}
use Rattle.kilim_fiber_spec.specs.Acts.{Astray, Finished, Lost, Over, Wants, World, asks, counted, ending, last, opens_box, with_heap, with_new}
use Rattle.kilim_fiber_spec.specs.Acts as action
use Rattle.kilim_fiber_spec.proofs.lone.Left.{raises_has, thrown_has}
use Rattle.kilim_fiber_spec.specs.Fibers.{frame}
use Rattle.kilim_run_machine.specs.Raising.{index_at, raised_class}
use Rattle.kilim_run_state.specs.Objects.{new_object}
use Rattle.kilim_fiber_spec.specs.Thread.{At, Frame, Run, Stop, Thread, begins, begins_in, calls, effect_does, fetch, finishes, found_does, own_of, push, returns, self_of, step, left_at, raised_behind, stands_at}

abbrev pub is_lost : Thread → Bool
is_lost (Stop Lost) = true
is_lost t = false

pub not_lost : (t : Thread) → t ≢ Stop Lost → is_lost t ≡ false
not_lost (Run m p l s x b w) h = refl
not_lost (Stop (Wants a w)) h = refl
not_lost (Stop (Finished why w)) h = refl
not_lost (Stop Astray) h = refl
not_lost (Stop Lost) h = absurd (h refl)

module _ (set : Setting) where
  ended : (w : World) (why : EndCause) → is_lost (ending set w Stop why) ≡ false
  ended w why = by w.deeds
    where
      by : (ds : List Deed) → is_lost (elim ds [ [] ↦ Stop (Wants (action.Ends why) w) | deed ∷ rest ↦ last set w Stop why rest ]) ≡ false
      by [] = refl
      by (d ∷ []) = refl
      by (d ∷ e ∷ rest) = refl

  called : (c : MethodId) (args : List Value) (b : List Frame) (w : World) → is_lost (calls set c args b w) ≡ false
  called c args b w = by (nat_lt (length b) frame_limit)
    where
      by : (z : Bool) → is_lost (if z then Run c 0 (entered set.program c args).locals [] (self_of set.program c args) b (counted w) else ending set w Stop cause.Depth) ≡ false
      by true = refl
      by false = ended w cause.Depth

  opened : (m : MethodId) (p : ℕ) (l s : List Value) (x : Value) (b : List Frame) (w after : World) → is_lost (opens_box set w Stop (λ now v. Run m p l (push v s) x b now) after) ≡ false
  opened m p l s x b w after = by (nat_lt w.boxes box_limit)
    where
      by : (z : Bool) → is_lost (if z then Run m p l (push (Some (Box (record { task = w.task; number = w.boxes }))) s) x b (record after { boxes = w.boxes + 1 }) else ending set w Stop cause.Boxes) ≡ false
      by true = refl
      by false = ended w cause.Boxes

  module _ (f : MethodId) (execute : Method) (is : execute_of set.program set.main ≡ Some f) (there : method_at set.program f ≡ Some execute) where
    begun : (n : ℕ) (w after : World) → is_lost (begins set n w after (execute_of set.program set.main)) ≡ false
    begun n w after = subst (λ (o : Option MethodId). is_lost (begins set n w after o) ≡ false) (sym is) (subst (λ (o : Option Method). is_lost (begins_in set f n w after o) ≡ false) (sym there) (by execute.built_in))
      where
        by : (z : Bool) → is_lost (if z then ending set w Stop cause.Done else Run f 0 (entered set.program f (Ref n ∷ [])).locals [] (Ref n) [] after) ≡ false
        by true = ended w cause.Done
        by false = refl

    finished : (w : World) (o : Option ℕ) → is_lost (finishes set w o) ≡ false
    finished w None = ended w cause.Done
    finished w (Some n) = begun n w (record (counted w) { kept = None })

    returned : (v : Option Value) (b : List Frame) (w : World) → is_lost (returns set v b w) ≡ false
    returned v [] w = finished w w.kept
    returned v (At m p l s x ∷ b) w = refl

    stands : (f : Frame) (fs : List Frame) (w : World) → is_lost (stands_at set f fs w) ≡ false
    stands (At m p l s x) fs w = refl

    effect_not : (e : Effect) (top : Activation) (x : Value) (b : List Frame) (w : World) → e ≢ Stuck
        → ((c : MethodId) (args : List Value) (q : ℕ) (l2 s2 : List Value) (heap : Objects) → e ≡ Asks c args q l2 s2 heap → is_lost (asks set (with_heap w heap) Stop (λ after v. Run top.method q l2 (push v s2) x b after) (raised_behind set (At top.method q l2 s2 x ∷ b) (with_heap w heap)) (native_of set.program c) args) ≡ false)
        → is_lost (effect_does set e top x b w) ≡ false
    effect_not (Goes p l s heap) top x b w n a = refl
    effect_not (Makes object p l s heap) top x b w n a = refl
    effect_not (Opens p l s heap) top x b w n a = opened top.method p l s x b (with_heap w heap) (counted (with_heap w heap))
    effect_not (Calls c args p l s heap) top x b w n a = called c args (At top.method p l s x ∷ b) (with_heap w heap)
    effect_not (Asks c args p l s heap) top x b w n a = a c args p l s heap refl
    effect_not (Returns v heap) top x b w n a = returned v b (with_heap w heap)
    effect_not (Raises why) top x b w n a =
        raises_has set (λ t. is_lost t ≡ false) (counted w) why (ended (counted w) why) set.program (λ c. left_at set.program c (Ref w.next) top x b) (raised_class set.program (index_at set.program top) why) (λ c f fs e. stands f fs (with_new (counted w) (new_object set.program c)))
    effect_not (Throws k c why) top x b w n a = thrown_has set (λ t. is_lost t ≡ false) (counted w) why (ended (counted w) why) (counted w) (left_at set.program c (Ref k) top x b) (λ f fs e. stands f fs (counted w))
    effect_not (Ends why) top x b w n a = ended w why
    effect_not Stuck top x b w n a = absurd (n refl)

    pub step_not : (m : MethodId) (p to : ℕ) (i : Instr) (l s : List Value) (x : Value) (b : List Frame) (w : World) → fetch set.program m p ≡ Some (i, to) → does set.program (own_of set.program m) i to l s w.heap ≢ Stuck
        → ((c : MethodId) (args : List Value) (q : ℕ) (l2 s2 : List Value) (heap : Objects) → does set.program (own_of set.program m) i to l s w.heap ≡ Asks c args q l2 s2 heap → is_lost (asks set (with_heap w heap) Stop (λ after v. Run m q l2 (push v s2) x b after) (raised_behind set (At m q l2 s2 x ∷ b) (with_heap w heap)) (native_of set.program c) args) ≡ false)
        → is_lost (step set (Run m p l s x b w)) ≡ false
    step_not m p to i l s x b w at n a = by (nat_le set.limits.steps w.done)
      where
        by : (z : Bool) → is_lost (if z then ending set w Stop cause.Spent else found_does set (fetch set.program m p) (frame m p l s) x b w) ≡ false
        by true = ended w cause.Spent
        by false = subst (λ (o : Option (Instr × ℕ)). is_lost (found_does set o (frame m p l s) x b w) ≡ false) (sym at) (effect_not (does set.program (own_of set.program m) i to l s w.heap) (frame m p l s) x b w n a)
