-- With what operands a member of `kilim/Fiber` is called that does something.
use Rattle.std.proofs.Common.{◌≡◌, ◌≤◌, ℕ, List, [], ◌∷◌, Option, Some, length, refl, sym, ap, subst, ◌∙◌, take, reverse}
use Rattle.std.specs.Prelude.{pos, slice_get}
use Rattle.std.proofs.lemmas.List.{length-reverse, length-take-le}
use Rattle.kilim_program.specs.declared.value.Value.{Value}
use Rattle.kilim_program.specs.declared.value.Value.TheVariants.{Int, Fiber}
use Rattle.kilim_run_machine.specs.Natives as native
use Rattle.kilim_run_state.specs.declared.frames.frames.Frames.{Frames}
use Rattle.kilim_fiber_spec.specs.Fibers.{Fib}
use Rattle.kilim_fiber_steps.specs.records.Members.{NotDone, did}
use Rattle.kilim_fiber_steps.specs.records.natives.Natives.{member_meant}
use Rattle.kilim_fiber_steps.specs.declared.records.natives.natives.Member.{Member}
use Rattle.kilim_fiber_steps.specs.declared.records.natives.natives.Member.TheVariants as code
use Rattle.kilim_fiber_body.specs.Body.{HasOperands, operands_in, operands_of}

-- ---- arguments

saved_args : (args : List Value) (f : Fib) → (did native.Save args f ≡ NotDone → ⊥) → (v : Value) × (args ≡ v ∷ Fiber ∷ [])
saved_args (v ∷ Fiber ∷ []) f does = (v, refl)
saved_args _ f does = absurd (does refl)

placed_args : (args : List Value) (f : Fib) → (did native.Place args f ≡ NotDone → ⊥) → (n : ℕ) × ((v : Value) × (args ≡ Int (pos n) ∷ v ∷ Fiber ∷ []))
placed_args (Int (pos n) ∷ v ∷ Fiber ∷ []) f does = (n, (v, refl))
placed_args _ f does = absurd (does refl)

pub alone_args : (m : Member) (args : List Value) (f : Fib) → (m ≡ code.Save → ⊥) → (m ≡ code.Place → ⊥) → (did (member_meant m) args f ≡ NotDone → ⊥) → args ≡ Fiber ∷ []
alone_args code.Save args f save place does = absurd (save refl)
alone_args code.Place args f save place does = absurd (place refl)
alone_args code.Pc (Fiber ∷ []) f save place does = refl
alone_args code.Down (Fiber ∷ []) f save place does = refl
alone_args code.Up (Fiber ∷ []) f save place does = refl
alone_args code.Restore (Fiber ∷ []) f save place does = refl
alone_args code.Receiver (Fiber ∷ []) f save place does = refl
alone_args _ _ f save place does = absurd (does refl)

-- ---- where they lie

count_of : (n : ℕ) (xs : List Value) (args : List Value) → n ≤ length xs → reverse (take n xs) ≡ args → n ≡ length args
count_of n xs args le e = sym (length-take-le n xs le) ∙ (sym (length-reverse (take n xs)) ∙ ap length e)

second_last : (xs : List Value) (v w : Value) → reverse (take 2 xs) ≡ v ∷ w ∷ [] → slice_get xs 0 ≡ Some w
second_last [] v w e = absurd (cc)
second_last (x ∷ []) v w e = absurd (cc)
second_last (x ∷ y ∷ xs) v w e = cc

third_last : (xs : List Value) (u v w : Value) → reverse (take 3 xs) ≡ u ∷ v ∷ w ∷ [] → (slice_get xs 0 ≡ Some w) × (slice_get xs 2 ≡ Some u)
third_last [] u v w e = absurd (cc)
third_last (x ∷ []) u v w e = absurd (cc)
third_last (x ∷ y ∷ []) u v w e = absurd (cc)
third_last (x ∷ y ∷ z ∷ xs) u v w e = (cc, cc)

module _ (frames : Frames) (lie : frames.operands ≤ length frames.top.stack.values) where
  abbrev values : List Value
  values = frames.top.stack.values

  pub record IsSaved : Type 0 where
    pub two : frames.operands ≡ 2
    pub there : 2 ≤ length values
    pub last : slice_get values 0 ≡ Some Fiber

  pub record IsPlaced : Type 0 where
    pub three : frames.operands ≡ 3
    pub there : 3 ≤ length values
    pub last : slice_get values 0 ≡ Some Fiber
    pub first : (n : ℕ) × (slice_get values 2 ≡ Some (Int (pos n)))

  saved_at : (v : Value) → operands_of frames ≡ v ∷ Fiber ∷ [] → IsSaved
  saved_at v e =
      let two = count_of frames.operands values (v ∷ Fiber ∷ []) lie e in
      record {
        two = two;
        there = subst (λ (n : ℕ). n ≤ length values) two lie;
        last = second_last values v Fiber (sym (ap (λ (n : ℕ). reverse (take n values)) two) ∙ e);
      }

  placed_at : (n : ℕ) (v : Value) → operands_of frames ≡ Int (pos n) ∷ v ∷ Fiber ∷ [] → IsPlaced
  placed_at n v e =
      let three = count_of frames.operands values (Int (pos n) ∷ v ∷ Fiber ∷ []) lie e in
      let at = third_last values (Int (pos n)) v Fiber (sym (ap (λ (k : ℕ). reverse (take k values)) three) ∙ e) in
      record { three = three; there = subst (λ (k : ℕ). k ≤ length values) three lie; last = at.0; first = (n, at.1) }

pub saved : (frames : Frames) (o : Option Frames) (f : Fib) → o ≡ Some frames → (there : frames.operands ≤ length frames.top.stack.values) → (did native.Save (operands_in o) f ≡ NotDone → ⊥) → IsSaved frames there
saved frames o f is there does =
    let args = saved_args (operands_of frames) f (subst (λ (z : Option Frames). did native.Save (operands_in z) f ≡ NotDone → ⊥) is does) in
    saved_at frames there args.0 args.1

pub placed : (frames : Frames) (o : Option Frames) (f : Fib) → o ≡ Some frames → (there : frames.operands ≤ length frames.top.stack.values) → (did native.Place (operands_in o) f ≡ NotDone → ⊥) → IsPlaced frames there
placed frames o f is there does =
    let args = placed_args (operands_of frames) f (subst (λ (z : Option Frames). did native.Place (operands_in z) f ≡ NotDone → ⊥) is does) in
    placed_at frames there args.0 args.1.0 args.1.1

pub there_by : (frames : Frames) (o : Option Frames) → o ≡ Some frames → HasOperands o → frames.operands ≤ length frames.top.stack.values
there_by frames o is there = subst HasOperands is there
