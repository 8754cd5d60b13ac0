-- All frames below a frame of a pausable method are ready, down to the task's own.
use Rattle.std.proofs.Common.{◌≡◌, ℕ, Bool, true, List, [], ◌∷◌, Option, Some, None, sym, ap, subst, ◌∙◌}
use Rattle.std.specs.Prelude.{◌&&◌}
use Rattle.std.proofs.lemmas.Bool.{and_from}
use Rattle.kilim_program.specs.declared.class.Method.{Method}
use Rattle.kilim_program.specs.declared.names.ClassId.{ClassId}
use Rattle.kilim_program.specs.declared.names.MethodId.{MethodId}
use Rattle.kilim_program.specs.declared.ty.Ty.{Ty}
use Rattle.kilim_program.specs.declared.value.Value.{Value}
use Rattle.kilim_program.specs.declared.value.Value.TheVariants.{Ref}
use Rattle.kilim_program.specs.BuiltIn.{class_type}
use Rattle.kilim_program.specs.Names.{◌>>=◌, is_task, method_at}
use Rattle.kilim_program.specs.Program.{Program}
use Rattle.kilim_type_sound.specs.Fits.{Classes, HeapFits, IsThere}
use Rattle.kilim_run_state.specs.declared.value.Object.{Object as HeapObject}
use Rattle.kilim_run_state.specs.Machine.{Objects}
use Rattle.kilim_program.specs.Members.{execute_of}
use Rattle.kilim_isolation_laws.specs.Laws.{IsRunOfAccepted}
use Rattle.kilim_run_model.specs.Reach.{Liveness}
use Rattle.kilim_run_model.specs.State.{Setting, class_of}
use Rattle.kilim_fiber_laws.proofs.woven_served.accepted.Tasks.{execute_taken, takes_task}
use Rattle.kilim_fiber_laws.specs.receivers.called.Law.{AllCalled, Bottom}
use Rattle.kilim_fiber_spec.specs.lone.Law.{lone_frames}
use Rattle.kilim_weave_laws.specs.woven_programs.Law.{KeepsPauses}
use Rattle.kilim_fiber_laws.proofs.woven_served.ready.Below.{fit_inner}
use Rattle.kilim_fiber_laws.proofs.woven_served.ready.There.{LowerThere, lower_local_of, lower_rest_of, lower_stack_of}
use Rattle.kilim_fiber_laws.specs.receivers.Law.{SelvesThere}
use Rattle.kilim_fiber_spec.specs.alike.Shares.{Agree}
use Rattle.kilim_fiber_spec.specs.Fibers.{executes_on, frame}
use Rattle.kilim_fiber_spec.specs.Form.{Facts, is_pausable}
use Rattle.kilim_fiber_spec.specs.Links.{AllStand, AreReady, Forms, Inner, Link, Lk, Takes, code, u_frames}
use Rattle.kilim_fiber_spec.specs.Thread.{At, Frame}
use Rattle.kilim_fiber_laws.specs.stands.Law.{IsFormOf}

type_is : (x y : Ty) → Some x ≡ Some y → x ≡ y
type_is x y e = cc

-- the receiver of the first frame
pub self_of_first : (set : Setting) (h : Objects) (b : List Frame) (c : MethodId) (y : Value) → SelvesThere set h c y b → is_pausable set.program c ≡ true → IsThere h y
self_of_first set h [] c y selves pausable = selves pausable
self_of_first set h (At m q l s x ∷ b) c y selves pausable = selves.0 pausable

module _ (set : Setting) (run : IsRunOfAccepted set) (pauses : KeepsPauses set.program) (W : Program) (marks : List (List Bool)) (form : Forms set W marks) (is_form : (m : MethodId) (a : Method) → method_at set.program m ≡ Some a → IsFormOf set.program W (code set W marks) m (form m) a) (agree : Agree set.program W)
    (facts : (m : MethodId) → Facts set.program W (code set W marks) (form m)) (executes_same : (c : ClassId) → is_task set.program c ≡ true → execute_of W c ≡ execute_of set.program c) where
  -- the slots that are live in methods with pausable calls
  abbrev pub live_in : Liveness
  live_in = record { top = λ m q k. (form m).has_calls && (form m).live q k; below = λ m q k. (form m).has_calls && (form m).live q k }

  module _ (of : Classes) (h : Objects) (heap : HeapFits set.program of h) where
    bottom_ready : (c : MethodId) (y : Value) (kept : Option ℕ) → Bottom set.program of kept c y → IsThere h y → (kept ≡ None) × AreReady set W marks form h (Inner c) y []
    bottom_ready c y kept b there = (
      b.given,
      subst (λ (z : Value). (executes_on W h z ≡ Some c) × Takes set W marks form c (z ∷ []) z) (sym b.self) (
        executed (subst (λ (z : Value). IsThere h z) b.self there),
        takes_task set run.keeps run.form W marks form c (execute_taken set.program run.keeps run.form b.class b.task c b.begins) b.name,
      ),
    )
      where
        executed : IsThere h (Ref b.name) → executes_on W h (Ref b.name) ≡ Some c
        executed t =
            let same = type_is t.0.class (class_type b.class.0) (sym (heap.classes b.name t.0 t.1) ∙ b.is) in
            ap (λ (o : Option HeapObject). o >>= λ (object : HeapObject). class_of object.class.base >>= λ c. execute_of W c) t.1
            ∙ (ap (λ (ty : Ty). class_of ty.base >>= λ c. execute_of W c) same ∙ (executes_same b.class b.task ∙ b.begins))

    pub ready_below : (links : List Link) (c : MethodId) (y : Value) (kept : Option ℕ) → is_pausable set.program c ≡ true → AllCalled set.program of kept c y (u_frames links) → SelvesThere set h c y (u_frames links) → LowerThere h live_in (lone_frames (u_frames links)) → AllStand set W marks form links →
        (kept ≡ None) × AreReady set W marks form h (Inner c) y links
    ready_below [] c y kept pausable called selves there stand = bottom_ready c y kept (called pausable) (selves pausable)
    ready_below (Lk m from to i callee s l wl x old was ∷ ks) c y kept pausable called selves there stand =
        let group = (facts m).group from to i callee stand.0.0 stand.0.1 in
        let rest = ready_below ks m x kept group.pausable called.1 selves.1 (lower_rest_of h live_in (frame m to l s) (lone_frames (u_frames ks)) there) stand.1 in (
          rest.0,
          (
            fit_inner set run pauses W marks form is_form agree of h heap c y called.0.1 m from to i callee l s wl x old was (called.0.0 pausable) stand.0.0 stand.0.1 (selves.0 pausable) (lower_stack_of h live_in (frame m to l s) (lone_frames (u_frames ks)) there)
                (λ j e v at. lower_local_of h live_in (frame m to l s) (lone_frames (u_frames ks)) there j (and_from (form m).has_calls ((form m).live to j) group.has_calls e) v at)
                (self_of_first set h (u_frames ks) m x selves.1 group.pausable),
            rest.1,
          ),
        )
