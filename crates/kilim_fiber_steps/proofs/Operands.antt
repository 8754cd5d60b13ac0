-- With what operands a member of `kilim/Fiber` is called that does something, and what it leaves.
use Rattle.std.proofs.Common.{◌≡◌, ◌≤◌, ℕ, List, [], ◌∷◌, Some, None, length, refl, sym, ap, subst, ◌∙◌, take, drop, reverse, true, ◌<◌, length-drop, Result, arith}
use Rattle.std.specs.Prelude.{OnOk, pos, slice_get}
use Rattle.std.proofs.lemmas.List.{length-reverse, length-take-le}
use Rattle.std.proofs.lemmas.Option.{same_Some}
use Rattle.kilim_units.specs.declared.memory.NoMemory.{NoMemory}
use Rattle.kilim_program.specs.declared.value.Value.{Value}
use Rattle.kilim_program.specs.declared.value.Value.TheVariants.{Int, Fiber}
use Rattle.kilim_run_machine.specs.Natives as native
use Rattle.kilim_run_state.specs.declared.frames.frame.Frame.{Frame}
use Rattle.kilim_fiber_spec.specs.Fibers.{Fib}
use Rattle.kilim_fiber_steps.specs.Woven.{IsDone, gives_value}
use Rattle.kilim_fiber_steps.specs.records.Members.{Does, NotDone, did}
use Rattle.kilim_fiber_steps.specs.records.natives.Natives.{member_meant}
use Rattle.kilim_fiber_steps.specs.declared.records.natives.natives.Member.{Member}
use Rattle.kilim_fiber_steps.specs.declared.records.natives.natives.Member.TheVariants as code

-- ---- arguments

saved_args : (args : List Value) (f : Fib) → (did native.Save args f ≡ NotDone → ⊥) → (v : Value) × (args ≡ v ∷ Fiber ∷ [])
saved_args (v ∷ Fiber ∷ []) f does = (v, refl)
saved_args _ f does = absurd (does refl)

placed_args : (args : List Value) (f : Fib) → (did native.Place args f ≡ NotDone → ⊥) → (n : ℕ) × ((v : Value) × (args ≡ Int (pos n) ∷ v ∷ Fiber ∷ []))
placed_args (Int (pos n) ∷ v ∷ Fiber ∷ []) f does = (n, (v, refl))
placed_args _ f does = absurd (does refl)

pub alone_args : (m : Member) (args : List Value) (f : Fib) → (m ≡ code.Save → ⊥) → (m ≡ code.Place → ⊥) → (did (member_meant m) args f ≡ NotDone → ⊥) → args ≡ Fiber ∷ []
alone_args code.Save args f save place does = absurd (save refl)
alone_args code.Place args f save place does = absurd (place refl)
alone_args code.Pc (Fiber ∷ []) f save place does = refl
alone_args code.Down (Fiber ∷ []) f save place does = refl
alone_args code.Up (Fiber ∷ []) f save place does = refl
alone_args code.Restore (Fiber ∷ []) f save place does = refl
alone_args code.Receiver (Fiber ∷ []) f save place does = refl
alone_args _ _ f save place does = absurd (does refl)

-- ---- where they lie

pub count_of : (n : ℕ) (xs : List Value) (args : List Value) → n ≤ length xs → reverse (take n xs) ≡ args → n ≡ length args
count_of n xs args le e = sym (length-take-le n xs le) ∙ (sym (length-reverse (take n xs)) ∙ ap length e)

second_last : (xs : List Value) (v w : Value) → reverse (take 2 xs) ≡ v ∷ w ∷ [] → slice_get xs 0 ≡ Some w
second_last [] v w e = absurd (cc)
second_last (x ∷ []) v w e = absurd (cc)
second_last (x ∷ y ∷ xs) v w e = cc

third_last : (xs : List Value) (u v w : Value) → reverse (take 3 xs) ≡ u ∷ v ∷ w ∷ [] → (slice_get xs 0 ≡ Some w) × (slice_get xs 2 ≡ Some u)
third_last [] u v w e = absurd (cc)
third_last (x ∷ []) u v w e = absurd (cc)
third_last (x ∷ y ∷ []) u v w e = absurd (cc)
third_last (x ∷ y ∷ z ∷ xs) u v w e = (cc, cc)

module _ (count : ℕ) (values : List Value) (lie : count ≤ length values) where
  pub record IsSaved : Type 0 where
    pub two : count ≡ 2
    pub there : 2 ≤ length values
    pub last : slice_get values 0 ≡ Some Fiber

  pub record IsPlaced : Type 0 where
    pub three : count ≡ 3
    pub there : 3 ≤ length values
    pub last : slice_get values 0 ≡ Some Fiber
    pub first : (n : ℕ) × (slice_get values 2 ≡ Some (Int (pos n)))

  pub record IsAlone : Type 0 where
    pub one : count ≡ 1
    pub there : 1 ≤ length values
    pub args : reverse (take 1 values) ≡ Fiber ∷ []

  saved_at : (v : Value) → reverse (take count values) ≡ v ∷ Fiber ∷ [] → IsSaved
  saved_at v e =
      let two = count_of count values (v ∷ Fiber ∷ []) lie e in
      record {
        two = two;
        there = subst (λ (n : ℕ). n ≤ length values) two lie;
        last = second_last values v Fiber (sym (ap (λ (n : ℕ). reverse (take n values)) two) ∙ e);
      }

  placed_at : (n : ℕ) (v : Value) → reverse (take count values) ≡ Int (pos n) ∷ v ∷ Fiber ∷ [] → IsPlaced
  placed_at n v e =
      let three = count_of count values (Int (pos n) ∷ v ∷ Fiber ∷ []) lie e in
      let at = third_last values (Int (pos n)) v Fiber (sym (ap (λ (k : ℕ). reverse (take k values)) three) ∙ e) in
      record { three = three; there = subst (λ (k : ℕ). k ≤ length values) three lie; last = at.0; first = (n, at.1) }

  pub alone : (m : Member) (f : Fib) → (m ≡ code.Save → ⊥) → (m ≡ code.Place → ⊥) → (did (member_meant m) (reverse (take count values)) f ≡ NotDone → ⊥) → IsAlone
  alone m f save place does =
      let e = alone_args m (reverse (take count values)) f save place does in
      let one = count_of count values (Fiber ∷ []) lie e in
      record { one = one; there = subst (λ (k : ℕ). k ≤ length values) one lie; args = sym (ap (λ (k : ℕ). reverse (take k values)) one) ∙ e }

  pub saved : (m : Member) (f : Fib) → m ≡ code.Save → (did (member_meant m) (reverse (take count values)) f ≡ NotDone → ⊥) → IsSaved
  saved m f is does =
      let args = saved_args (reverse (take count values)) f (subst (λ (z : Member). did (member_meant z) (reverse (take count values)) f ≡ NotDone → ⊥) is does) in
      saved_at args.0 args.1

  pub placed : (m : Member) (f : Fib) → m ≡ code.Place → (did (member_meant m) (reverse (take count values)) f ≡ NotDone → ⊥) → IsPlaced
  placed m f is does =
      let args = placed_args (reverse (take count values)) f (subst (λ (z : Member). did (member_meant z) (reverse (take count values)) f ≡ NotDone → ⊥) is does) in
      placed_at args.0 args.1.0 args.1.1

-- ---- what it leaves

-- the stack of two operands
two_taken : (xs : List Value) (v : Value) (rest : List Value) → drop 1 xs ≡ v ∷ rest → slice_get xs 0 ≡ Some Fiber → (reverse (take 2 xs) ≡ v ∷ Fiber ∷ []) × (drop 2 xs ≡ rest)
two_taken [] v rest e last = absurd (cc)
two_taken (x ∷ xs) v rest e last = let same : x ≡ Fiber = same_Some _ _ last in let all : xs ≡ v ∷ rest = e in rw (all, same) (refl, refl)

-- and of three
three_taken : (xs : List Value) (v u : Value) (rest : List Value) → drop 1 xs ≡ v ∷ u ∷ rest → slice_get xs 0 ≡ Some Fiber → (reverse (take 3 xs) ≡ u ∷ v ∷ Fiber ∷ []) × (drop 3 xs ≡ rest)
three_taken [] v u rest e last = absurd (cc)
three_taken (x ∷ xs) v u rest e last = let same : x ≡ Fiber = same_Some _ _ last in let all : xs ≡ v ∷ u ∷ rest = e in rw (all, same) (refl, refl)

-- a frame with another stack, and that with yet another
under : (f g : Frame) (v : Value) → f ≡ record g { stack = record g.stack { values = v ∷ g.stack.values } } → (g ≡ record f { stack = record f.stack { values = g.stack.values } }) × (f.stack.values ≡ v ∷ g.stack.values)
under f g v e = (sym (ap (λ (z : Frame). record z { stack = record z.stack { values = g.stack.values } }) e), ap (λ (z : Frame). z.stack.values) e)

-- what stands below two others
third_there : (xs : List Value) (v u : Value) (rest : List Value) (w : Value) → drop 1 xs ≡ v ∷ u ∷ rest → slice_get xs 2 ≡ Some w → u ≡ w
third_there [] v u rest w e at = absurd (cc)
third_there (x ∷ xs) v u rest w e at = same_Some _ _ (sym (ap (λ (ys : List Value). slice_get ys 1) e) ∙ at)

pub int_there : (before dropped mid after : Frame) (v u : Value) → dropped ≡ record before { stack = record before.stack { values = drop 1 before.stack.values } } →
    dropped ≡ record mid { stack = record mid.stack { values = v ∷ mid.stack.values } } → mid ≡ record after { stack = record after.stack { values = u ∷ after.stack.values } } →
    (n : ℕ) × (slice_get before.stack.values 2 ≡ Some (Int (pos n))) → (n : ℕ) × (u ≡ Int (pos n))
int_there before dropped mid after v u e d b (n, at) =
    let one = under dropped mid v d in
    let two = under mid after u b in
    let stack : drop 1 before.stack.values ≡ v ∷ u ∷ after.stack.values = sym (ap (λ (z : Frame). z.stack.values) e) ∙ (one.1 ∙ ap (λ (vs : List Value). v ∷ vs) two.1) in
    (n, third_there before.stack.values v u after.stack.values (Int (pos n)) stack at)

pub two_left : (before dropped mid : Frame) (v : Value) → dropped ≡ record before { stack = record before.stack { values = drop 1 before.stack.values } } → dropped ≡ record mid { stack = record mid.stack { values = v ∷ mid.stack.values } } →
    3 ≤ length before.stack.values → 0 < length mid.stack.values
two_left before dropped mid v e d less =
    let stack = ap (λ (z : Frame). length z.stack.values) e in
    let other = ap (λ (z : Frame). length z.stack.values) d in
    omega (arith, less, stack, other, length-drop 1 before.stack.values)

pub save_done : (before dropped after : Frame) (v : Value) (old new : Fib) → slice_get before.stack.values 0 ≡ Some Fiber → dropped ≡ record before { stack = record before.stack { values = drop 1 before.stack.values } } →
    dropped ≡ record after { stack = record after.stack { values = v ∷ after.stack.values } } → did native.Save (v ∷ Fiber ∷ []) old ≡ Does new None → IsDone native.Save 2 before old after new
save_done before dropped after v old new last e d does =
    let u = under dropped after v d in
    let stack : drop 1 before.stack.values ≡ v ∷ after.stack.values = sym (ap (λ (z : Frame). z.stack.values) e) ∙ u.1 in
    let taken = two_taken before.stack.values v after.stack.values stack last in
    record {
      value = None;
      does = ap (λ (args : List Value). did native.Save args old) taken.0 ∙ does;
      frame = u.0 ∙ (ap (λ (z : Frame). record z { stack = record z.stack { values = after.stack.values } }) e ∙ ap (λ (vs : List Value). record before { stack = record before.stack { values = vs } }) (sym taken.1));
    }

pub place_done : (before dropped mid after : Frame) (v u : Value) (n : ℕ) (old new : Fib) → slice_get before.stack.values 0 ≡ Some Fiber → dropped ≡ record before { stack = record before.stack { values = drop 1 before.stack.values } } →
    dropped ≡ record mid { stack = record mid.stack { values = v ∷ mid.stack.values } } → mid ≡ record after { stack = record after.stack { values = u ∷ after.stack.values } } → u ≡ Int (pos n) →
    did native.Place (Int (pos n) ∷ v ∷ Fiber ∷ []) old ≡ Does new None → IsDone native.Place 3 before old after new
place_done before dropped mid after v u n old new last e d b int does =
    let one = under dropped mid v d in
    let two = under mid after u b in
    let stack : drop 1 before.stack.values ≡ v ∷ u ∷ after.stack.values = sym (ap (λ (z : Frame). z.stack.values) e) ∙ (one.1 ∙ ap (λ (vs : List Value). v ∷ vs) two.1) in
    let taken = three_taken before.stack.values v u after.stack.values stack last in
    record {
      value = None;
      does = ap (λ (args : List Value). did native.Place args old) (taken.0 ∙ ap (λ (w : Value). w ∷ v ∷ Fiber ∷ []) int) ∙ does;
      frame = two.0 ∙ (ap (λ (z : Frame). record z { stack = record z.stack { values = after.stack.values } }) (one.0 ∙ ap (λ (z : Frame). record z { stack = record z.stack { values = mid.stack.values } }) e)
          ∙ ap (λ (vs : List Value). record before { stack = record before.stack { values = vs } }) (sym taken.1));
    }

-- its result, where the member is known
pub result_by : (m known : Member) (f g : Fib) (v w : Value) → m ≡ known → did (member_meant known) (Fiber ∷ []) f ≡ Does g (Some v) → v ≡ w → did (member_meant m) (Fiber ∷ []) f ≡ Does g (Some w)
result_by m known f g v w is done same = ap (λ (z : Member). did (member_meant z) (Fiber ∷ []) f) is ∙ (done ∙ ap (λ (z : Value). Does g (Some z)) same)

-- one with a result has room for it
pub gives_by : (member : native.FiberMember) (f g : Fib) (v : Value) → did member (Fiber ∷ []) f ≡ Does g (Some v) → gives_value member ≡ true
gives_by native.Pc f g v e = refl
gives_by native.Down f g v e = refl
gives_by native.Up f g v e = refl
gives_by native.Restore f g v e = refl
gives_by native.Receiver f g v e = refl
gives_by native.Save f g v e = absurd (let never : NotDone ≡ Does g (Some v) = e in cc)
gives_by native.Place f g v e = absurd (let never : NotDone ≡ Does g (Some v) = e in cc)

pub alone_done : (member : native.FiberMember) (before dropped after : Frame) (v : Value) (old new : Fib) → reverse (take 1 before.stack.values) ≡ Fiber ∷ [] → did member (Fiber ∷ []) old ≡ Does new (Some v) →
    dropped ≡ record before { stack = record before.stack { values = drop 1 before.stack.values } } → after ≡ record dropped { stack = record dropped.stack { values = v ∷ dropped.stack.values } } → IsDone member 1 before old after new
alone_done member before dropped after v old new args does e d = record {
  value = Some v;
  does = ap (λ (vs : List Value). did member vs old) args ∙ does;
  frame = d ∙ ap (λ (z : Frame). record z { stack = record z.stack { values = v ∷ z.stack.values } }) e;
}

pub done_as : (m known : Member) (count few : ℕ) (before after : Frame) (old new : Fib) → m ≡ known → count ≡ few → IsDone (member_meant known) few before old after new → IsDone (member_meant m) count before old after new
done_as m known count few before after old new is same done =
    subst (λ (z : Member). IsDone (member_meant z) count before old after new) (sym is) (subst (λ (n : ℕ). IsDone (member_meant known) n before old after new) (sym same) done)

pub done_ok : (m known : Member) (count few : ℕ) (before after : Frame) (old new : Fib) (r : Result Unit NoMemory) → m ≡ known → count ≡ few → OnOk r (IsDone (member_meant known) few before old after new) → OnOk r (IsDone (member_meant m) count before old after new)
done_ok m known count few before after old new r is same done =
    subst (λ (z : Member). OnOk r (IsDone (member_meant z) count before old after new)) (sym is) (subst (λ (n : ℕ). OnOk r (IsDone (member_meant known) n before old after new)) (sym same) done)

pub alone_done_ok : (m : Member) (count : ℕ) (before after : Frame) (old new : Fib) (r : Result Unit NoMemory) → count ≡ 1 → OnOk r (IsDone (member_meant m) 1 before old after new) → OnOk r (IsDone (member_meant m) count before old after new)
alone_done_ok m count before after old new r same done = subst (λ (n : ℕ). OnOk r (IsDone (member_meant m) n before old after new)) (sym same) done
