-- What an exception that is caught leaves.
use Rattle.std.proofs.Common.{◌≡◌, ℕ, ◌+◌, List, [], ◌∷◌, Option, Some, None, refl, sym, ap, ◌∙◌}
use Rattle.std.specs.FinMap.{get}
use Rattle.kilim_program.specs.declared.class.Handler.{Handler}
use Rattle.kilim_program.specs.declared.class.Method.{Method}
use Rattle.kilim_program.specs.declared.instr.Instr.{Instr}
use Rattle.kilim_program.specs.declared.names.ClassId.{ClassId}
use Rattle.kilim_program.specs.declared.value.Value.{Value}
use Rattle.kilim_program.specs.declared.value.Value.TheVariants.{Ref}
use Rattle.kilim_program.specs.Names.{method_at}
use Rattle.kilim_program.specs.Program.{Program}
use Rattle.kilim_run_state.specs.declared.cause.EndCause.{EndCause}
use Rattle.kilim_run_state.specs.declared.value.Object.{Object}
use Rattle.kilim_run_state.specs.Machine.{Activation}
use Rattle.kilim_run_state.specs.Objects.{new_object}
use Rattle.kilim_run_machine.specs.Raising.{IsEntry, call_in, caught_behind, caught_by, caught_in, handler_of, index_at, lands, or_below, other_index, raised_class, thrown, unwound}
use Rattle.kilim_run_model.specs.State.{Alive}
use Rattle.kilim_run_model.specs.Lone.{Goes, Lone, Next, made_at, raised, raises_by, raises_of, throws_by}
use Rattle.kilim_type_sound.specs.Left.{CaughtLeaves, IsLeft, RaisedLeaves}
use Rattle.kilim_type_sound.proofs.Caught.{found}
use Rattle.kilim_type_sound.proofs.Maps.{put_other}

module _ (p : Program) (c : ClassId) (v : Value) where
  -- a frame that catches
  record Catches (a g : Activation) : Type 0 where
    handler : Handler
    method : Method
    there : method_at p a.method ≡ Some method
    among : IsEntry method.handlers handler
    is : lands a v handler ≡ g

  by_catches : (a : Activation) (m : Method) (at : ℕ) → method_at p a.method ≡ Some m → (o : Option Handler) → handler_of p c at m.handlers ≡ o → (g : Activation) → caught_by a v o ≡ Some g → Catches a g
  by_catches a m at there None is g e = absurd (cc)
  by_catches a m at there (Some h) is g e = record { handler = h; method = m; there = there; among = (found p c at m.handlers h is).among; is = cc }

  in_catches : (a : Activation) (at : ℕ) (o : Option Method) → method_at p a.method ≡ o → (g : Activation) → caught_in p c v a at o ≡ Some g → Catches a g
  in_catches a at None there g e = absurd (cc)
  in_catches a at (Some m) there g e = by_catches a m at there (handler_of p c at m.handlers) refl g e

  behind_catches : (a : Activation) (o : Option (ℕ × Instr)) (g : Activation) → caught_behind p c v a o ≡ Some g → Catches a g
  behind_catches a None g e = absurd (cc)
  behind_catches a (Some call) g e = in_catches a call.0 (method_at p a.method) refl g e

  abbrev Left : List Activation → List Activation → Type 0
  Left frames left = IsLeft p v frames left

  one_more : (a : Activation) (rest left : List Activation) → Left rest left → Left (a ∷ rest) left
  one_more a rest left w = record {
    gone = a ∷ w.gone;
    catching = w.catching;
    rest = w.rest;
    handler = w.handler;
    were = ap (λ (fs : List Activation). a ∷ fs) w.were;
    method = w.method;
    there = w.there;
    among = w.among;
    are = w.are;
  }

  or_left : (a : Activation) (rest un : List Activation) (o : Option Activation) (f : Activation) (fs : List Activation) → ((g : Activation) → o ≡ Some g → Catches a g) → (un ≡ f ∷ fs → Left rest (f ∷ fs)) → or_below o rest un ≡ f ∷ fs → Left (a ∷ rest) (f ∷ fs)
  or_left a rest un None f fs here later e = one_more a rest (f ∷ fs) (later e)
  or_left a rest un (Some g) f fs here later e =
      let w = here g refl in
      record { gone = []; catching = a; rest = rest; handler = w.handler; were = refl; method = w.method; there = w.there; among = w.among; are = sym (ap (λ (z : Activation). z ∷ rest) w.is ∙ e) }

  pub unwound_left : (frames : List Activation) (f : Activation) (fs : List Activation) → unwound p c v frames ≡ f ∷ fs → IsLeft p v frames (f ∷ fs)
  unwound_left [] f fs e = absurd (cc)
  unwound_left (a ∷ rest) f fs e =
      or_left a rest (unwound p c v rest) (caught_behind p c v a (call_in (method_at p a.method) a.place)) f fs (behind_catches a (call_in (method_at p a.method) a.place)) (unwound_left rest f fs) e

  pub thrown_left : (top : Activation) (below : List Activation) (f : Activation) (fs : List Activation) → thrown p c v top below ≡ f ∷ fs → IsLeft p v (top ∷ below) (f ∷ fs)
  thrown_left top below f fs e =
      or_left top below (unwound p c v below) (caught_in p c v top top.place (method_at p top.method)) f fs (in_catches top top.place (method_at p top.method) refl) (unwound_left below f fs) e

goes_is : (a b : Lone) → Goes a ≡ Goes b → a ≡ b
goes_is a b e = ap of e
  where
    of : Next → Lone
    of (Goes after) = after
    of next = a

-- a thread that goes on with a new object and these frames
made_leaves : (p : Program) (l : Lone) (frames : List Activation) (ob : Object) (why : EndCause) (done boxes : ℕ) (left : List Activation) (after : Lone) → ((f : Activation) (fs : List Activation) → left ≡ f ∷ fs → IsLeft p (Ref l.next) frames (f ∷ fs)) →
    raises_by l ob why done boxes left ≡ Goes after → RaisedLeaves p l frames after
made_leaves p l frames ob why done boxes [] after each e = absurd (cc)
made_leaves p l frames ob why done boxes (f ∷ fs) after each e =
    let is = goes_is (made_at l ob (f ∷ fs) done boxes) after e in
    record {
      heap = λ name other. ap (λ (z : Lone). get z.heap name) (sym is) ∙ put_other l.heap l.next ob name other;
      left = f ∷ fs;
      done = done;
      boxes = boxes;
      thread = ap (λ (z : Lone). z.thread) (sym is);
      is_left = each f fs refl;
    }

of_leaves : (p : Program) (l : Lone) (frames : List Activation) (why : EndCause) (done boxes : ℕ) (left : ClassId → List Activation) (o : Option ClassId) (after : Lone) →
    ((c : ClassId) (f : Activation) (fs : List Activation) → left c ≡ f ∷ fs → IsLeft p (Ref l.next) frames (f ∷ fs)) → raises_of p l why done boxes left o ≡ Goes after → RaisedLeaves p l frames after
of_leaves p l frames why done boxes left None after each e = absurd (cc)
of_leaves p l frames why done boxes left (Some c) after each e = made_leaves p l frames (new_object p c) why done boxes (left c) after (each c) e

throws_leave : (l : Lone) (why : EndCause) (done boxes : ℕ) (left : List Activation) (after : Lone) → throws_by l why done boxes left ≡ Goes after → after.heap ≡ l.heap
throws_leave l why done boxes [] after e = absurd (cc)
throws_leave l why done boxes (f ∷ fs) after e = ap (λ (z : Lone). z.heap) (sym (goes_is (record l { thread = Alive (f ∷ fs) done boxes }) after e))

pub caught_leaves : CaughtLeaves
caught_leaves = record {
  thrown_frames = λ p c thing top f below fs e. thrown_left p c thing top below f fs e;
  unwound_frames = λ p c thing frames f fs e. unwound_left p c thing frames f fs e;
  thrown_heap = λ l why done boxes left after e. throws_leave l why done boxes left after e;
  raised_at = λ p l done boxes top below why after e. of_leaves p l (top ∷ below) why (done + 1) boxes (λ c. thrown p c (Ref l.next) top below) (raised_class p (index_at p top) why) after (λ c f fs left. thrown_left p c (Ref l.next) top below f fs left) e;
  raised_behind = λ p l frames done boxes why after e. asked_leaves p l frames done boxes why after e;
}
  where
    asked_leaves : (p : Program) (l : Lone) (frames : List Activation) (done boxes : ℕ) (why : EndCause) (after : Lone) → raised p (record l { thread = Alive frames done boxes }) why ≡ Goes after → RaisedLeaves p l frames after
    asked_leaves p l frames done boxes why after e =
        let w = of_leaves p (record l { thread = Alive frames done boxes }) frames why done boxes (λ c. unwound p c (Ref l.next) frames) (raised_class p other_index why) after (λ c f fs left. unwound_left p c (Ref l.next) frames f fs left) e in
        record { heap = w.heap; left = w.left; done = w.done; boxes = w.boxes; thread = w.thread; is_left = w.is_left }
