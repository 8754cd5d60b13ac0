-- What is asked of a built-in method, and where a new mailbox or a return ends the task.
use Rattle.std.proofs.Common.{◌≡◌, ◌≤◌, ◌<◌, ◌+◌, ℕ, Bool, true, false, cond, eqb, length, List, [], ◌∷◌, Option, Some, None, Result, Ok, Err, refl, sym, ap, subst, ◌∙◌, arith}
use Rattle.std.proofs.lemmas.Bool.Decides.{nat_tests}
use Rattle.std.specs.Prelude.{nat_lt, IfOk}
use Rattle.kilim_program.specs.Program.{Program}
use Rattle.kilim_program.specs.declared.names.BoxName.{BoxName}
use Rattle.kilim_program.specs.declared.names.ClassId.{ClassId}
use Rattle.kilim_program.specs.declared.value.Value.{Value}
use Rattle.kilim_program.specs.declared.value.Value.TheVariants.{Int, Long, Null, Ref, Text, Box, Fiber}
use Rattle.kilim_program.specs.Members.{execute_of}
use Rattle.kilim_units.specs.declared.memory.NoMemory.{NoMemory}
use Rattle.kilim_run_state.specs.declared.cause.EndCause.TheVariants as cause
use Rattle.kilim_run_state.specs.Machine.{Objects, Activation}
use Rattle.kilim_run_machine.specs.Moves.{push_value}
use Rattle.kilim_run_machine.specs.Natives as native
use Rattle.kilim_type_sound.specs.Fits.{AreThere}
use Rattle.kilim_run_model.specs.State.{Setting, begun_on}
use Rattle.kilim_run_model.specs.Lone.{Lone, Next, Goes, Ends, Stands, went, over, ended, opens_next, native_next, asks_next, finish_next, begins_next}
use Rattle.kilim_fiber_steps.specs.records.natives.Natives.{meaning}
use Rattle.kilim_fiber_steps.specs.declared.records.natives.natives.Native.{Native}
use Rattle.kilim_fiber_steps.specs.declared.records.natives.natives.Native.TheVariants as code
use Rattle.kilim_replay_laws.specs.shared.Shared.{HeapServes}
use Rattle.kilim_replay_thread.specs.Comes.{CanAsk, CanShow, Comes, IsOnOrEnd, IsPutWait, IsSame, IsShownMessage, SuitsCall}
use Rattle.kilim_replay_thread.specs.Live.{kept_for}
use Rattle.kilim_replay_thread.specs.Operands.{AreCopies}
use Rattle.kilim_replay_thread.specs.declared.operands.Operands.{Operands}
use Rattle.kilim_replay_thread.specs.declared.operands.Operands.TheVariants as copied
use Rattle.kilim_replay_thread.specs.declared.task.Came.{Came}
use Rattle.kilim_replay_thread.specs.declared.task.Came.TheVariants as came
use Rattle.kilim_replay_thread.specs.declared.task.Live.{Live}
use Rattle.kilim_replay_thread.specs.declared.task.World.{World}

-- ---- a new mailbox

pub opens_full : (t : ℕ) (l : Lone) (frames : List Activation) (done boxes : ℕ) → 1000 ≤ boxes → opens_next t l frames done boxes ≡ Ends cause.Boxes (ended l cause.Boxes)
opens_full t l frames done boxes le =
    let full : nat_lt boxes 1000 ≡ false = grind (arith, nat_tests) in
    ap (λ (b : Bool). cond b (Goes (went l (push_value (Box (record { task = t; number = boxes })) frames) done (boxes + 1))) (over l cause.Boxes)) full

pub opens_new : (t : ℕ) (l : Lone) (frames : List Activation) (done boxes : ℕ) → boxes < 1000 → opens_next t l frames done boxes ≡ Goes (went l (push_value (Box (record { task = t; number = boxes })) frames) done (boxes + 1))
opens_new t l frames done boxes lt =
    let few : nat_lt boxes 1000 ≡ true = grind (arith, nat_tests) in
    ap (λ (b : Bool). cond b (Goes (went l (push_value (Box (record { task = t; number = boxes })) frames) done (boxes + 1))) (over l cause.Boxes)) few

-- ---- a tree that is shown

pub can_show : (p : Program) (h : Objects) (n : ℕ) (rest : List Value) → HeapServes p h → AreThere h (Ref n ∷ rest) → CanShow p h n
can_show p h n rest serves there = record { there = serves.there n there.0.0 there.0.1; suits = serves.suits }

message_shown : (p : Program) (w : World) (l : Live) (box : BoxName) (v : Value) → CanAsk p (Some native.Put) (Box box ∷ v ∷ []) w l → IsShownMessage p w.heap v
message_shown p w l box Null can = tt
message_shown p w l box (Ref n) can = can_show p w.heap n [] can.heap can.there.1
message_shown p w l box (Int n) can = absurd (can.made.never refl)
message_shown p w l box (Long n) can = absurd (can.made.never refl)
message_shown p w l box (Text units) can = absurd (can.made.never refl)
message_shown p w l box (Box other) can = absurd (can.made.never refl)
message_shown p w l box Fiber can = absurd (can.made.never refl)

wait_shown : (p : Program) (w : World) (l : Live) (box : BoxName) (v : Value) → CanAsk p (Some native.PutWait) (Box box ∷ v ∷ []) w l → IsShownMessage p w.heap v
wait_shown p w l box Null can = tt
wait_shown p w l box (Ref n) can = can_show p w.heap n [] can.heap can.there.1
wait_shown p w l box (Int n) can = absurd (can.made.never refl)
wait_shown p w l box (Long n) can = absurd (can.made.never refl)
wait_shown p w l box (Text units) can = absurd (can.made.never refl)
wait_shown p w l box (Box other) can = absurd (can.made.never refl)
wait_shown p w l box Fiber can = absurd (can.made.never refl)

-- what is put, by operands that are known
with_both : (p : Program) (w : World) (l : Live) (n m : Native) (box : BoxName) (first v : Value) → n ≡ m → first ≡ Box box → CanAsk p (Some (meaning n)) (first ∷ v ∷ []) w l → CanAsk p (Some (meaning m)) (Box box ∷ v ∷ []) w l
with_both p w l n m box first v is is-box can = subst (λ (u : Value). CanAsk p (Some (meaning m)) (u ∷ v ∷ []) w l) is-box (subst (λ (k : Native). CanAsk p (Some (meaning k)) (first ∷ v ∷ []) w l) is can)

pub put_shown : (p : Program) (w : World) (l : Live) (n : Native) (box : BoxName) (first v : Value) → n ≡ code.Put → first ≡ Box box → CanAsk p (Some (meaning n)) (first ∷ v ∷ []) w l → IsShownMessage p w.heap v
put_shown p w l n box first v is is-box can = message_shown p w l box v (with_both p w l n code.Put box first v is is-box can)

pub put_wait_shown : (p : Program) (w : World) (l : Live) (n : Native) (box : BoxName) (first v : Value) → n ≡ code.PutWait → first ≡ Box box → CanAsk p (Some (meaning n)) (first ∷ v ∷ []) w l → IsShownMessage p w.heap v
put_wait_shown p w l n box first v is is-box can = wait_shown p w l box v (with_both p w l n code.PutWait box first v is is-box can)

-- ---- a call that verified code makes has at most two arguments

pub made_few : (set : Setting) (after : Lone) (n : Native) (args : List Value) → (native_next set after (meaning n) args ≡ Stands → ⊥) → length args ≤ 2
made_few set after code.Execute (Ref n ∷ []) m = omega arith
made_few set after code.Start (Ref n ∷ []) m = omega arith
made_few set after code.Put (Box box ∷ v ∷ []) m = omega arith
made_few set after code.PutWait (Box box ∷ v ∷ []) m = omega arith
made_few set after code.Bound (Box box ∷ Int i ∷ []) m = omega arith
made_few set after code.Get (Box box ∷ []) m = omega arith
made_few set after code.Getnb (Box box ∷ []) m = omega arith
made_few set after code.Print (v ∷ []) m = omega arith
made_few set after code.Yield [] m = omega arith
made_few set after code.ArgCount [] m = omega arith
made_few set after code.Arg (Int i ∷ []) m = omega arith
made_few set after _ _ m = absurd (m refl)

-- ---- the same method, the same arguments

pub come_by : (t : ℕ) (w : World) (l : Live) (w' : World) (l' : Live) (r : Result Came NoMemory) (n m : Next) → m ≡ n → IfOk r (λ came. Comes t m w l w' l' came) → IfOk r (λ came. Comes t n w l w' l' came)
come_by t w l w' l' r n m e f = subst (λ (x : Next). IfOk r (λ came. Comes t x w l w' l' came)) e f

pub native_same : (set : Setting) (l : Lone) (n m : Native) (args brgs : List Value) → n ≡ m → args ≡ brgs → native_next set l (meaning m) brgs ≡ native_next set l (meaning n) args
native_same set l n m args brgs e d = λ i. native_next set l (meaning (sym e i)) (sym d i)

pub asked_same : (set : Setting) (l : Lone) (args : List Value) (o : Option native.Native) (n : native.Native) → o ≡ Some n → native_next set l n args ≡ asks_next set l args o
asked_same set l args o n e = ap (λ (z : Option native.Native). asks_next set l args z) (sym e)

pub known_by : (p : Program) (w : World) (l : Live) (args : List Value) (o : Option native.Native) (n : native.Native) → o ≡ Some n → CanAsk p o args w l → CanAsk p (Some n) args w l
known_by p w l args o n e can = subst (λ (o : Option native.Native). CanAsk p o args w l) e can

pub with_args : (p : Program) (w : World) (l : Live) (args brgs : List Value) (n : native.Native) → args ≡ brgs → CanAsk p (Some n) args w l → CanAsk p (Some n) brgs w l
with_args p w l args brgs n e can = subst (λ (args : List Value). CanAsk p (Some n) args w l) e can

pub args_same : (set : Setting) (l : Lone) (n : native.Native) (args brgs : List Value) → args ≡ brgs → native_next set l n brgs ≡ native_next set l n args
args_same set l n args brgs e = ap (native_next set l n) (sym e)

pub told_none : (args : List Value) (o : Operands) → o ≡ copied.None → AreCopies args o → args ≡ []
told_none args o e c = subst (AreCopies args) e c

pub told_one : (args : List Value) (o : Operands) (v : Value) → o ≡ copied.One v → AreCopies args o → args ≡ v ∷ []
told_one args o v e c = subst (AreCopies args) e c

pub told_two : (args : List Value) (o : Operands) (v w : Value) → o ≡ copied.Two v w → AreCopies args o → args ≡ v ∷ w ∷ []
told_two args o v w e c = subst (AreCopies args) e c

pub told_more : (args : List Value) (o : Operands) → o ≡ copied.More → AreCopies args o → 2 < length args
told_more args o e c = subst (AreCopies args) e c

-- ---- the last frame returns

pub leaves_done : (set : Setting) (l : Lone) (done boxes : ℕ) (kept : Option ℕ) → kept ≡ None → finish_next set l done boxes kept ≡ Ends cause.Done (ended l cause.Done)
leaves_done set l done boxes kept e = ap (finish_next set l done boxes) e

finish_on : (set : Setting) (p : Program) (main : ClassId) (l : Lone) (done boxes n : ℕ) (kept : Option ℕ) (o : Option (List Activation)) → set.program ≡ p → set.main ≡ main → kept ≡ Some n → begun_on p (execute_of p main) n ≡ o → finish_next set l done boxes kept ≡ begins_next l done boxes o
finish_on set p main l done boxes n kept o is-program is-main e begun =
    ap (finish_next set l done boxes) e
    ∙ (ap (λ (p : Program). begins_next l done boxes (begun_on p (execute_of p set.main) n)) is-program
    ∙ (ap (λ (m : ClassId). begins_next l done boxes (begun_on p (execute_of p m) n)) is-main
    ∙ ap (begins_next l done boxes) begun))

pub leaves_none : (set : Setting) (p : Program) (main : ClassId) (l : Lone) (done boxes n : ℕ) (kept : Option ℕ) → set.program ≡ p → set.main ≡ main → kept ≡ Some n → begun_on p (execute_of p main) n ≡ Some [] → finish_next set l done boxes kept ≡ Ends cause.Done (ended l cause.Done)
leaves_none set p main l done boxes n kept is-program is-main e begun = finish_on set p main l done boxes n kept (Some []) is-program is-main e begun

pub leaves_begun : (set : Setting) (p : Program) (main : ClassId) (l : Lone) (done boxes n : ℕ) (kept : Option ℕ) (top : Activation) (below : List Activation) → set.program ≡ p → set.main ≡ main → kept ≡ Some n → begun_on p (execute_of p main) n ≡ Some (top ∷ below) →
    finish_next set l done boxes kept ≡ Goes (record (went l (top ∷ below) done boxes) { kept = None })
leaves_begun set p main l done boxes n kept top below is-program is-main e begun = finish_on set p main l done boxes n kept (Some (top ∷ below)) is-program is-main e begun

abbrev no_name : Option ℕ
no_name = None

pub none_kept : (t : ℕ) → kept_for t no_name ≡ no_name
none_kept t = by (eqb t 0)
  where
    by : (z : Bool) → cond z no_name no_name ≡ no_name
    by true = refl
    by false = refl

pub unchanged : (w : World) (l : Live) → IsSame w l w l
unchanged w l = record { world = refl; live = refl }

-- ---- which call it is

pub suits_as : (r : Result Came NoMemory) (o o' : Option native.Native) (args args' : List Value) → o ≡ o' → args ≡ args' → IfOk r (SuitsCall o' args') → IfOk r (SuitsCall o args)
suits_as r o o' args args' e f s = subst (λ (q : Option native.Native). IfOk r (SuitsCall q args)) (sym e) (subst (λ (vs : List Value). IfOk r (SuitsCall o' vs)) (sym f) s)

-- what ends at a put that waits otherwise
pub on_end : (box : BoxName) (message : Value) (r : Result Came NoMemory) → message ≡ Null → IfOk r IsOnOrEnd → IfOk r (IsPutWait box message)
on_end box message (Ok came.On) e one = tt
on_end box message (Ok (came.Ends why)) e one = e
on_end box message (Ok c) e one = absurd one
on_end box message (Err x) e one = tt
