-- What is asked of a built-in method.
use Rattle.std.proofs.Common.{◌≡◌, ◌+◌, ◌<◌, ◌≤◌, ℕ, Bool, true, false, cond, length, arith, inl, inr, List, [], ◌∷◌, Option, Some, None, Result, Ok, Err, refl, sym, ap, subst, ◌∙◌}
use Rattle.std.specs.Prelude.{IfOk, nat_le, pos}
use Rattle.kilim_program.specs.declared.names.BoxName.{BoxName}
use Rattle.kilim_program.specs.declared.names.ClassId.{ClassId}
use Rattle.kilim_program.specs.declared.value.Value.{Value}
use Rattle.kilim_program.specs.declared.value.Value.TheVariants.{Int, Long, Null, Ref, Text, Box, Fiber}
use Rattle.kilim_program.specs.Program.{Program}
use Rattle.kilim_run_state.specs.declared.value.Object.{Object}
use Rattle.kilim_run_state.specs.declared.value.Token.{Token}
use Rattle.kilim_run_state.specs.Machine.{Activation, Objects}
use Rattle.kilim_run_state.specs.Objects.{new_object}
use Rattle.kilim_run_machine.specs.Moves.{push_result}
use Rattle.kilim_run_machine.specs.Natives as native
use Rattle.kilim_run_state.specs.Shapes.{shape_of}
use Rattle.kilim_run_state.specs.Trees.{OfMessage, Root}
use Rattle.kilim_units.specs.declared.memory.NoMemory.{NoMemory}
use Rattle.kilim_run_model.specs.State.{Setting}
use Rattle.kilim_run_state.specs.declared.run.Limits.{Limits}
use Rattle.kilim_fiber_laws.specs.woven_kin.Standing.{Standing}
use Rattle.kilim_fiber_laws.specs.woven_kin.Alike.{TakesName}
use Rattle.kilim_fiber_laws.specs.woven_kin.Nexts.{Next, Goes, Ends, Stands, native_next, asks_next, first_wait, member_next, message_next, putw_next, raises, thrown_to, wait_again, wait_next, with_new}
use Rattle.kilim_fiber_body.specs.Operands.{AreCopies}
use Rattle.kilim_fiber_body.specs.declared.operands.Operands.{Operands}
use Rattle.kilim_fiber_body.specs.declared.operands.Operands.TheVariants as copied
use Rattle.kilim_fiber_body.specs.Comes.{CanAsk, CanGive, IsMade, is_other, IsGivenBy, GiftIs, IsGift, Comes, ComesBy, gives_result}
use Rattle.kilim_run_state.specs.declared.cause.EndCause.{EndCause}
use Rattle.kilim_run_state.specs.declared.cause.EndCause.TheVariants as cause
use Rattle.kilim_run_model.specs.Kept.{given}
use Rattle.kilim_fiber_spec.specs.Acts as acts
use Rattle.kilim_fiber_body.specs.Body.{aside_in, behind_at}
use Rattle.kilim_fiber_body.specs.declared.body.Apart.{Apart}
use Rattle.kilim_fiber_spec.specs.Fibers.{Fib, Fiber_at, Saved, is_rewinding, member_does}
use Rattle.kilim_fiber_steps.specs.records.Members.{Did, NotDone, Does, did}
use Rattle.kilim_fiber_steps.specs.records.natives.Natives.{meaning, member_meant}
use Rattle.kilim_fiber_body.specs.declared.body.Body.{Body}
use Rattle.kilim_fiber_body.specs.declared.body.Came.{Came}
use Rattle.kilim_fiber_body.specs.declared.body.Came.TheVariants as came
use Rattle.kilim_fiber_body.specs.declared.gifts.Gift.{Gift}
use Rattle.kilim_fiber_body.specs.declared.gifts.Gift.TheVariants as gift
use Rattle.kilim_fiber_steps.specs.declared.records.natives.natives.Member.{Member}
use Rattle.kilim_fiber_steps.specs.declared.records.natives.natives.Native.{Native}
use Rattle.kilim_fiber_steps.specs.declared.records.natives.natives.Native.TheVariants as code

-- what comes, of the same next thing
pub come_by : (x : ℕ) (new : Body) (r : Result Came NoMemory) (a b : Next) → a ≡ b → IfOk r (λ came. Comes x a new came) → IfOk r (λ came. Comes x b new came)
come_by x new r a b e done = subst (λ (z : Next). IfOk r (λ came. Comes x z new came)) e done

-- ---- counts

pub not_le : (a b : ℕ) → b < a → nat_le a b ≡ false
not_le a b lt = grind (arith, lt)

pub is_le : (a b : ℕ) → a ≤ b → nat_le a b ≡ true
is_le a b le = grind (arith, le)

-- ---- exceptions

-- what is raised and not caught makes no object
pub uncaught : (W : Program) (l : Standing) (why : EndCause) (left : ClassId → List Activation) (o : Option ClassId) → ((c : ClassId) → o ≡ Some c → left c ≡ []) → raises W l why left o ≡ Ends why
uncaught W l why left None none = refl
uncaught W l why left (Some c) none = ap (thrown_to (with_new l (new_object W c)) why) (none c refl)

-- ---- under some name

not_next : (m n : ℕ) → m ≡ 0 → n ≡ 0 → n ≡ m + 1 → ⊥
not_next m n e d more = omega (arith, e, d, more)

-- no name is taken where the next name stays
pub takes_none : (next : Next) (new : Body) (c : Came) → Comes 0 next new c → TakesName 0 next → ⊥
takes_none next new came.On comes takes = not_next 0 0 refl refl (subst (TakesName 0) comes takes)
takes_none next new (came.Puts box tree shape) comes takes = subst (TakesName 0) comes.2 takes
takes_none next new (came.PutWaits box tree shape) (inl comes) takes = subst (TakesName 0) comes.2 takes
takes_none next new (came.PutWaits box tree shape) (inr comes) takes = subst (TakesName 0) comes takes
takes_none next new (came.Bounds box most) comes takes = subst (TakesName 0) comes takes
takes_none next new (came.Takes box) comes takes = subst (TakesName 0) comes takes
takes_none next new (came.Probes box) comes takes = subst (TakesName 0) comes takes
takes_none next new (came.Starts tree shape) comes takes = subst (TakesName 0) comes.2 takes
takes_none next new (came.Prints shape) comes takes = subst (TakesName 0) comes.2 takes
takes_none next new came.Rests comes takes = subst (TakesName 0) comes takes
takes_none next new (came.Ends why) comes takes = subst (TakesName 0) comes takes

pub any_name : (h : Objects) (next : ℕ → Next) (new : Body) (r : Result Came NoMemory) → IfOk r (λ came. Comes 0 (next 0) new came) → IfOk r (λ came. ComesBy h next new came)
any_name h next new (Ok c) comes = record { name = 0; free = λ takes. absurd (takes_none (next 0) new c comes takes); after = 0; comes = comes }
any_name h next new (Err e) comes = tt

-- of the same next things
pub name_by : (h : Objects) (new : Body) (r : Result Came NoMemory) (a b : ℕ → Next) → IfOk r (λ came. ComesBy h a new came) → ((x : ℕ) → a x ≡ b x) → IfOk r (λ came. ComesBy h b new came)
name_by h new (Ok c) a b r e = record {
  name = r.name;
  free = λ takes. r.free (subst (TakesName r.name) (sym (e r.name)) takes);
  after = r.after;
  comes = subst (λ (z : Next). Comes r.after z new c) (e r.name) r.comes;
}
name_by h new (Err fault) a b r e = tt

-- ---- a gift

pub given_is : (W : Program) (root : ℕ) (h k : Objects) (g : Gift) (tree : List Object) (shape : List Token) → g ≡ gift.Tree tree shape → GiftIs W root h k g → IsGift W root h k tree shape
given_is W root h k g tree shape e is = subst (λ g. GiftIs W root h k g) e is

pub too_large : (W : Program) (root : ℕ) (h k : Objects) (g : Gift) → g ≡ gift.TooLarge → GiftIs W root h k g → shape_of W h root ≡ None
too_large W root h k g e is = (subst (λ g. GiftIs W root h k g) e is).0

given_by : (p W : Program) (limits : Limits) (b : Body) (box : BoxName) (v : Value) → CanAsk p W limits (Some native.Put) (Box box ∷ v ∷ []) b → IsGivenBy p b.heap v
given_by p W limits b box (Int n) can = tt
given_by p W limits b box (Long n) can = tt
given_by p W limits b box Null can = tt
given_by p W limits b box (Ref n) can = can.gives OfMessage n refl
given_by p W limits b box (Text units) can = tt
given_by p W limits b box (Box other) can = tt
given_by p W limits b box Fiber can = tt

pub put_given : (p W : Program) (limits : Limits) (b : Body) (n : Native) (box : BoxName) (first v : Value) → n ≡ code.Put → first ≡ Box box → CanAsk p W limits (Some (meaning n)) (first ∷ v ∷ []) b → IsGivenBy p b.heap v
put_given p W limits b n box first v is-put is-box can =
    given_by p W limits b box v (subst (λ (w : Value). CanAsk p W limits (Some native.Put) (w ∷ v ∷ []) b) is-box (subst (λ (n : Native). CanAsk p W limits (Some (meaning n)) (first ∷ v ∷ []) b) is-put can))

-- ---- a put that waits

-- with operands that are known
pub wait_known : (p W : Program) (limits : Limits) (b : Body) (n : Native) (first v third : Value) → n ≡ code.PutWait → third ≡ Fiber → CanAsk p W limits (Some (meaning n)) (first ∷ v ∷ third ∷ []) b → CanAsk p W limits (Some native.PutWait) (first ∷ v ∷ Fiber ∷ []) b
wait_known p W limits b n first v third is-wait is-fiber can =
    subst (λ (z : Value). CanAsk p W limits (Some native.PutWait) (first ∷ v ∷ z ∷ []) b) is-fiber (subst (λ (m : Native). CanAsk p W limits (Some (meaning m)) (first ∷ v ∷ third ∷ []) b) is-wait can)

pub wait_same : (set : Setting) (W : Program) (l : Standing) (n : Native) (first v third : Value) → n ≡ code.PutWait → third ≡ Fiber → native_next set W l native.PutWait (first ∷ v ∷ Fiber ∷ []) ≡ native_next set W l (meaning n) (first ∷ v ∷ third ∷ [])
wait_same set W l n first v third is-wait is-fiber = λ i. native_next set W l (meaning (sym is-wait i)) (first ∷ v ∷ sym is-fiber i ∷ [])

module _ (p W : Program) (limits : Limits) (b : Body) (first v : Value) (can : CanAsk p W limits (Some native.PutWait) (first ∷ v ∷ Fiber ∷ []) b) where
  abbrev l : Standing
  l = behind_at 0 b

  pub wait_given : (box : BoxName) → first ≡ Box box → IsGivenBy p b.heap v
  wait_given box is = by v (λ root n e. can.gives root n (ap (λ (z : Value). given (Some native.PutWait) (z ∷ v ∷ Fiber ∷ [])) is ∙ e))
    where
      by : (v : Value) → ((root : Root) (n : ℕ) → given (Some native.PutWait) (Box box ∷ v ∷ Fiber ∷ []) ≡ Some (root, n) → CanGive p b.heap n) → IsGivenBy p b.heap v
      by (Ref n) gives = gives OfMessage n refl
      by (Int n) gives = tt
      by (Long n) gives = tt
      by Null gives = tt
      by (Text units) gives = tt
      by (Box other) gives = tt
      by Fiber gives = tt

  -- ---- where it isn't made again
  module _ (forward : is_rewinding b.records ≡ false) (set : Setting) (x : ℕ) where
    first_is : putw_next set W (is_rewinding b.records) (behind_at x b) first v ≡ cond (nat_le set.limits.steps b.count) (Ends cause.Spent) (first_wait set.program W (behind_at x b) first v)
    first_is = ap (λ (z : Bool). putw_next set W z (behind_at x b) first v) forward

    pub put_spent : set.limits.steps ≤ b.count → putw_next set W (is_rewinding b.records) (behind_at x b) first v ≡ Ends cause.Spent
    put_spent done = first_is ∙ ap (λ (z : Bool). cond z (Ends cause.Spent) (first_wait set.program W (behind_at x b) first v)) (is_le set.limits.steps b.count done)

    pub put_waits : (box : BoxName) → first ≡ Box box → b.count < set.limits.steps → putw_next set W (is_rewinding b.records) (behind_at x b) first v ≡ wait_next set.program W (behind_at x b) box v
    put_waits box is few =
        first_is ∙ (ap (λ (z : Bool). cond z (Ends cause.Spent) (first_wait set.program W (behind_at x b) first v)) (not_le set.limits.steps b.count few) ∙ ap (λ (z : Value). first_wait set.program W (behind_at x b) z v) is)

  pub first_made : is_rewinding b.records ≡ false → (box : BoxName) → first ≡ Box box → b.count < limits.steps → (q : Program) × (wait_next q W l box v ≡ Stands → ⊥)
  first_made forward box is few =
      let set = can.made.set in
      let less : b.count < set.limits.steps = subst (λ (z : Limits). b.count < z.steps) (sym can.made.is-limits) few in
      (set.program, λ none. can.made.never (put_waits forward set 0 box is less ∙ none))

  -- ---- where it is made again
  module _ (back : is_rewinding b.records ≡ true) where
    again_is : (set : Setting) → putw_next set W (is_rewinding b.records) l first v ≡ wait_again set l first (aside_in b.apart)
    again_is set = ap (λ (z : Bool). putw_next set W z l first v) back

    pub again_next : (set : Setting) (box : BoxName) → first ≡ Box box → wait_again set l (Box box) (aside_in b.apart) ≡ putw_next set W (is_rewinding b.records) l first v
    again_next set box is = sym (again_is set ∙ ap (λ (z : Value). wait_again set l z (aside_in b.apart)) is)

    -- something stands apart
    pub again_apart : (box : BoxName) → first ≡ Box box → b.apart ≡ None → ⊥
    again_apart box is none =
        can.made.never (again_is can.made.set ∙ (ap (λ (z : Value). wait_again can.made.set l z (aside_in b.apart)) is ∙ ap (λ (o : Option Apart). wait_again can.made.set l (Box box) (aside_in o)) none))

    pub again_boxed : ((box : BoxName) → first ≡ Box box → ⊥) → ⊥
    again_boxed none = can.made.never (again_is can.made.set ∙ by first (aside_in b.apart) none)
      where
        by : (first : Value) (kept : List acts.Apart) → ((box : BoxName) → first ≡ Box box → ⊥) → wait_again can.made.set l first kept ≡ Stands
        by (Box box) kept none = absurd (none box refl)
        by _ kept none = refl

-- what a member does, as what comes next
abbrev next_by : Standing → Did → Next
next_by l NotDone = Stands
next_by l (Does h w) = Goes (record l { fiber = h; frames = push_result w l.frames })

member_same : (l : Standing) (member : native.FiberMember) (args : List Value) (f : Fib) → next_by l (did member args f) ≡ member_does Stands (λ h w. Goes (record l { fiber = h; frames = push_result w l.frames })) member args f
member_same l native.Pc (Fiber ∷ []) (Fiber_at lo (Saved q x vs) de re pa) = refl
member_same l native.Down (Fiber ∷ []) (Fiber_at lo r [] re pa) = refl
member_same l native.Down (Fiber ∷ []) (Fiber_at lo r (d ∷ de) re pa) = refl
member_same l native.Up (Fiber ∷ []) (Fiber_at [] r de re pa) = refl
member_same l native.Up (Fiber ∷ []) (Fiber_at (k ∷ lo) r de re pa) = refl
member_same l native.Save (v ∷ Fiber ∷ []) (Fiber_at lo (Saved q x vs) de re pa) = refl
member_same l native.Place (Int (pos n) ∷ y ∷ Fiber ∷ []) (Fiber_at lo (Saved q x vs) de re pa) = refl
member_same l native.Restore (Fiber ∷ []) (Fiber_at lo (Saved q x []) de re pa) = refl
member_same l native.Restore (Fiber ∷ []) (Fiber_at lo (Saved q x (v ∷ vs)) de re pa) = refl
member_same l native.Receiver (Fiber ∷ []) (Fiber_at lo r [] re pa) = refl
member_same l native.Receiver (Fiber ∷ []) (Fiber_at lo r (Saved q x vs ∷ de) re pa) = refl
member_same l _ _ _ = refl

pub stands_by : (member : native.FiberMember) (args : List Value) (l : Standing) → did member args l.fiber ≡ NotDone → member_next member args l ≡ Stands
stands_by member args l e = sym (member_same l member args l.fiber) ∙ ap (next_by l) e

pub put_made : (W : Program) (limits : Limits) (l : Standing) (n : Native) (box : BoxName) (first v : Value) → n ≡ code.Put → first ≡ Box box → IsMade W limits l (first ∷ v ∷ []) (Some (meaning n)) → (q : Program) × (message_next q W l box v ≡ Stands → ⊥)
put_made W limits l n box first v is-put is-box made =
    let same : IsMade W limits l (Box box ∷ v ∷ []) (Some native.Put) = subst (λ (w : Value). IsMade W limits l (w ∷ v ∷ []) (Some native.Put)) is-box (subst (λ (n : Native). IsMade W limits l (first ∷ v ∷ []) (Some (meaning n))) is-put made) in
    (same.set.program, same.never)

-- ---- calls that verified code makes

-- one of a method that is no member of `kilim/Fiber` has at most three arguments
pub made_few : (set : Setting) (W : Program) (l : Standing) (n : Native) (args : List Value) → is_other n ≡ true → (native_next set W l (meaning n) args ≡ Stands → ⊥) → length args ≤ 3
made_few set W l code.Execute (Ref n ∷ Fiber ∷ []) o m = omega arith
made_few set W l code.Start (Ref n ∷ []) o m = omega arith
made_few set W l code.Put (Box box ∷ v ∷ []) o m = omega arith
made_few set W l code.PutWait (v ∷ u ∷ Fiber ∷ []) o m = omega arith
made_few set W l code.Bound (Box box ∷ Int i ∷ []) o m = omega arith
made_few set W l code.Get (v ∷ Fiber ∷ []) o m = omega arith
made_few set W l code.Getnb (Box box ∷ []) o m = omega arith
made_few set W l code.Print (v ∷ []) o m = omega arith
made_few set W l code.Yield (Fiber ∷ []) o m = omega arith
made_few set W l code.ArgCount [] o m = omega arith
made_few set W l code.Arg (Int i ∷ []) o m = omega arith
made_few set W l (code.OfFiber member) args o m = absurd (cc)
made_few set W l _ _ o m = absurd (m refl)

pub other_by : (n : Native) → ((member : Member) → n ≡ code.OfFiber member → ⊥) → is_other n ≡ true
other_by (code.OfFiber member) none = absurd (none member refl)
other_by _ none = refl

-- a member that is called so does something
pub done_by : (W : Program) (limits : Limits) (member : native.FiberMember) (args : List Value) (f : Fib) (l : Standing) (o : Option native.Native) → o ≡ Some (native.OfFiber member) → l.fiber ≡ f → IsMade W limits l args o → did member args f ≡ NotDone → ⊥
done_by W limits member args f l o e is made none =
    let same : IsMade W limits l args (Some (native.OfFiber member)) = subst (IsMade W limits l args) e made in
    same.never (stands_by member args l (ap (did member args) is ∙ none))

-- ---- the same method, the same arguments

pub native_same : (set : Setting) (W : Program) (l : Standing) (n m : Native) (args brgs : List Value) → n ≡ m → args ≡ brgs → native_next set W l (meaning m) brgs ≡ native_next set W l (meaning n) args
native_same set W l n m args brgs e d = λ i. native_next set W l (meaning (sym e i)) (sym d i)

pub asked_same : (set : Setting) (W : Program) (l : Standing) (args : List Value) (o : Option native.Native) (n : native.Native) → o ≡ Some n → native_next set W l n args ≡ asks_next set W l args o
asked_same set W l args o n e = ap (λ (z : Option native.Native). asks_next set W l args z) (sym e)

-- of a method that is known, with these arguments
pub known_by : (p W : Program) (limits : Limits) (b : Body) (args : List Value) (o : Option native.Native) (n : native.Native) → o ≡ Some n → CanAsk p W limits o args b → CanAsk p W limits (Some n) args b
known_by p W limits b args o n e can = subst (λ o. CanAsk p W limits o args b) e can

pub with_args : (p W : Program) (limits : Limits) (b : Body) (args brgs : List Value) (n : native.Native) → args ≡ brgs → CanAsk p W limits (Some n) args b → CanAsk p W limits (Some n) brgs b
with_args p W limits b args brgs n e can = subst (λ args. CanAsk p W limits (Some n) args b) e can

pub args_same : (set : Setting) (W : Program) (l : Standing) (n : native.Native) (args brgs : List Value) → args ≡ brgs → native_next set W l n brgs ≡ native_next set W l n args
args_same set W l n args brgs e = ap (native_next set W l n) (sym e)

-- ---- the operands, as they are told

pub told_none : (args : List Value) (found : Operands) → found ≡ copied.None → AreCopies args found → args ≡ []
told_none args found e are = subst (AreCopies args) e are

pub told_more : (args : List Value) (found : Operands) → found ≡ copied.More → AreCopies args found → 3 < length args
told_more args found e are = subst (AreCopies args) e are

pub told_one : (args : List Value) (found : Operands) (v : Value) → found ≡ copied.One v → AreCopies args found → args ≡ v ∷ []
told_one args found v e are = subst (AreCopies args) e are

pub told_two : (args : List Value) (found : Operands) (v w : Value) → found ≡ copied.Two v w → AreCopies args found → args ≡ v ∷ w ∷ []
told_two args found v w e are = subst (AreCopies args) e are

pub told_three : (args : List Value) (found : Operands) (u v w : Value) → found ≡ copied.Three u v w → AreCopies args found → args ≡ u ∷ v ∷ w ∷ []
told_three args found u v w e are = subst (AreCopies args) e are

-- ---- a member that has the fiber alone

-- what it does is what the woven fiber does next
pub member_by : (member : native.FiberMember) (args : List Value) (f g : Fib) (v : Option Value) (l : Standing) → did member args f ≡ Does g v → l.fiber ≡ f → member_next member args l ≡ Goes (record l { fiber = g; frames = push_result v l.frames })
member_by member args f g v l e is = sym (member_same l member args l.fiber) ∙ ap (next_by l) (ap (did member args) is ∙ e)

-- its result, where the member is known
pub result_by : (m known : Member) (f g : Fib) (v w : Value) → m ≡ known → did (member_meant known) (Fiber ∷ []) f ≡ Does g (Some v) → v ≡ w → did (member_meant m) (Fiber ∷ []) f ≡ Does g (Some w)
result_by m known f g v w is done same = ap (λ (z : Member). did (member_meant z) (Fiber ∷ []) f) is ∙ (done ∙ ap (λ (z : Value). Does g (Some z)) same)

-- one with a result has room for it
pub gives_by : (member : native.FiberMember) (f g : Fib) (v : Value) → did member (Fiber ∷ []) f ≡ Does g (Some v) → gives_result (Some (native.OfFiber member)) ≡ true
gives_by native.Pc f g v e = refl
gives_by native.Down f g v e = refl
gives_by native.Up f g v e = refl
gives_by native.Restore f g v e = refl
gives_by native.Receiver f g v e = refl
gives_by native.Save f g v e = absurd (let never : NotDone ≡ Does g (Some v) = e in cc)
gives_by native.Place f g v e = absurd (let never : NotDone ≡ Does g (Some v) = e in cc)
