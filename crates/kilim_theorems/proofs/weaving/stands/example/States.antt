-- The first thread comes to four states, and all that is known of a thread is so of them.
use Rattle.std.proofs.Common.{◌≡◌, ℕ, cond, eqb, zero, suc, ◌<◌, ◌≤◌, Bool, true, false, Option, Some, None, List, [], ◌∷◌, length, refl, sym, ap, subst, ◌∙◌, arith}
use Rattle.std.specs.Prelude.{if◌then◌else◌, drop, ◌&&◌}
use Rattle.std.specs.FinMap.{empty, get, get-empty}
use Rattle.std.proofs.lemmas.Bool.{false≢true}
use Rattle.std.proofs.lemmas.Option.{none-some, same_Some}
use Rattle.kilim_run_state.specs.declared.cause.EndCause.{EndCause}
use Rattle.kilim_run_state.specs.declared.cause.EndCause.TheVariants as cause
use Rattle.kilim_program.specs.declared.class.Method.{Method}
use Rattle.kilim_program.specs.declared.instr.Instr.{Instr}
use Rattle.kilim_program.specs.declared.instr.Instr.TheVariants.{Goto, Invokestatic}
use Rattle.kilim_program.specs.declared.names.ClassId.{ClassId}
use Rattle.kilim_program.specs.declared.names.MethodId.{MethodId}
use Rattle.kilim_run_state.specs.declared.value.Object.{Object}
use Rattle.kilim_program.specs.declared.value.Value.{Value}
use Rattle.kilim_program.specs.declared.value.Value.TheVariants.{Null, Ref}
use Rattle.kilim_program.specs.BuiltIn.{class_type, method_id}
use Rattle.kilim_program.specs.Fits.{fits_type}
use Rattle.kilim_program.specs.Lengths.{fetched, jump_targets, ends_path}
use Rattle.kilim_program.specs.Names.{method_at, ◌>>=◌}
use Rattle.kilim_program.specs.Same.{argument_slots}
use Rattle.kilim_lemmas.proofs.Maps.{put_there, put_other}
use Rattle.kilim_run_machine.specs.Does.{does}
use Rattle.kilim_run_machine.specs.Effect.{Effect, Calls, Asks, Throws}
use Rattle.kilim_run_state.specs.Machine.{Objects}
use Rattle.kilim_program.specs.Members.{execute_of}
use Rattle.kilim_run_machine.specs.Natives.{Native, native_of}
use Rattle.kilim_run_machine.specs.Natives as native
use Rattle.kilim_run_model.specs.State.{class_of}
use Rattle.kilim_type_spec.specs.Step.{Types, meets, row, special_fits}
use Rattle.kilim_type_spec.specs.Typed.{Live, Catches, ReadsIt, GoesOn, reads, IsLive, typing_of}
use Rattle.kilim_weave_spec.specs.Samples.{loop_execute, loop, woven_loop, woven_loop_marks, of_class}
use Rattle.kilim_weave_spec.specs.Woven.{pausable_callee, taken, below, saved, saved_from}
use Rattle.kilim_fiber_spec.specs.Acts.{Lost, Wants, Ends}
use Rattle.kilim_fiber_spec.specs.Fibers.{executes_on}
use Rattle.kilim_fiber_spec.specs.Form.{Facts}
use Rattle.kilim_fiber_spec.specs.Links.{Link, Lk, u_frames, Forms, code, Leaf, Takes, Fit, Redoes, AreReady, AllStand, AllFit, SlotsFit, plan_of}
use Rattle.kilim_fiber_spec.specs.Rows.{OldHeap, is_old_base, Receives, IsClean}
use Rattle.kilim_fiber_spec.specs.Serves.{From, Known, is_leaf, leaf_receiver, resting_heap}
use Rattle.kilim_fiber_spec.specs.Thread.{Frame, Thread, Run, Stop, own_of, fetch, self_of, step, steps}
use Rattle.kilim_fiber_spec.specs.Rooms.{GivesWhole, HasRoom, bare_frames}
use Rattle.kilim_type_sound.specs.Fits.{AreThere, IsThere}
use Rattle.kilim_run_interp.specs.Step.{stack_limit}
use Rattle.kilim_fiber_laws.specs.stands.Law.{IsFormOf}
use Rattle.kilim_theorems.specs.weaving.stands.example.Example.{two_steps, one_object, after, first}

-- ---- the states

abbrev standing : ℕ → ℕ → Thread
standing place done = Run (method_id 1) place (Ref 0 ∷ []) [] (Ref 0) [] (after done)

abbrev spent : Thread
spent = Stop (Wants (Ends cause.Spent) (after 2))

step_0 : step two_steps first ≡ standing 3 1
unfolding does meets row special_fits fits_type jump_targets ends_path typing_of
step_0 = refl

step_1 : step two_steps (standing 3 1) ≡ standing 0 2
unfolding does meets row special_fits fits_type jump_targets ends_path typing_of
step_1 = refl

step_2 : step two_steps (standing 0 2) ≡ spent
step_2 = refl

stays : (n : ℕ) → steps two_steps n spent ≡ spent
stays zero = refl
stays (suc n) = stays n

found : (P : Thread → Type 0) → P first → P (standing 3 1) → P (standing 0 2) → P spent → (n : ℕ) → P (steps two_steps n first)
found P a b c d zero = a
found P a b c d (suc zero) = subst P (sym step_0) b
found P a b c d (suc (suc zero)) = subst P (sym (ap (step two_steps) step_0 ∙ step_1)) c
found P a b c d (suc (suc (suc n))) =
    subst (λ t. P (steps two_steps n t)) (sym (ap (λ t. step two_steps (step two_steps t)) step_0 ∙ (ap (step two_steps) step_1 ∙ step_2))) (subst P (sym (stays n)) d)

at_each : (P : Thread → Type 0) → P first → P (standing 3 1) → P (standing 0 2) → P spent → (t : Thread) → From two_steps first t → P t
at_each P a b c d t f = subst P f.1 (found P a b c d f.0)

steps_last : (n : ℕ) (t : Thread) → steps two_steps n (step two_steps t) ≡ step two_steps (steps two_steps n t)
steps_last zero t = refl
steps_last (suc n) t = steps_last n (step two_steps t)

-- ---- its instructions

abbrev behind : Instr → ℕ → Option (Instr × ℕ)
behind i to = Some (i, to)

along : (P : Instr → ℕ → Type 0) (j i : Instr) (a b : ℕ) → behind j a ≡ behind i b → P j a → P i b
along P j i a b e x = subst (λ (z : Instr × ℕ). P z.0 z.1) (same_Some (j, a) (i, b) e) x

abbrev yields : Instr
yields = Invokestatic (method_id 18)

-- ---- no method is called that has code, and nothing is thrown

abbrev is_call : Effect → Bool
is_call (Calls c args p l s heap) = true
is_call e = false

abbrev is_throw : Effect → Bool
is_throw (Throws object class why) = true
is_throw e = false

abbrev is_lost : Thread → Bool
is_lost (Stop Lost) = true
is_lost t = false

-- ---- its heap

one_there : get one_object 0 ≡ Some (record { class = class_type 0; fields = []; elements = [] })
one_there = put_there empty 0 (record { class = class_type 0; fields = []; elements = [] })

old : OldHeap loop one_object
old n o e = by n e
  where
    by : (n : ℕ) → get one_object n ≡ Some o → is_old_base loop o.class.base
    by zero e = subst (λ (z : Object). is_old_base loop z.class.base) (same_Some (record { class = class_type 0; fields = []; elements = [] }) o (sym one_there ∙ e)) (omega (arith))
    by (suc n) e = absurd (none-some o (sym (put_other empty 0 (record { class = class_type 0; fields = []; elements = [] }) (suc n) (λ z. omega (arith, z)) ∙ get-empty _ (suc n)) ∙ e))

executes : executes_on woven_loop one_object (Ref 0) ≡ Some (method_id 1)
executes = ap (λ (z : Option Object). z >>= λ (object : Object). class_of object.class.base >>= λ c. execute_of woven_loop c) one_there

-- ---- nothing is live

none_reads : (k p to : ℕ) (i : Instr) → fetched loop_execute.code loop_execute.code_length p ≡ Some (i, to) → reads i k ≡ true → ⊥
none_reads k p to i f r = start (eqb 0 p) f
  where
    second : (b : Bool) → cond b (behind (Goto 0) 6) None ≡ behind i to → ⊥
    second true e = false≢true (along (λ z q. reads z k ≡ true) i (Goto 0) to 6 (sym e) r)
    second false e = none-some (i, to) e

    start : (b : Bool) → cond b (behind yields 3) (cond (eqb 3 p) (behind (Goto 0) 6) None) ≡ behind i to → ⊥
    start true e = false≢true (along (λ z q. reads z k ≡ true) i yields to 3 (sym e) r)
    start false e = second (eqb 3 p) e

none_live : (k p : ℕ) → Live loop_execute k p → ⊥
none_live k p (ReadsIt q to i f r) = none_reads k q to i f r
none_live k p (GoesOn q to next i f w a l) = none_live k next l
none_live k p (Catches q to next i f a l) = none_live k next l

none_shown : (live : ℕ → ℕ → Bool) → IsLive loop_execute live → (p k : ℕ) → live p k ≡ false
none_shown live is p k = by (live p k) refl
  where
    by : (b : Bool) → live p k ≡ b → b ≡ false
    by true e = absurd (none_live k p ((is p k).0 e))
    by false e = refl

-- ---- the method that is called

abbrev the_yield : Method
the_yield = own_of loop (method_id 18)

abbrev or_yield : Option Method → Method
or_yield None = the_yield
or_yield (Some m) = m

abbrev asked : Effect → MethodId
asked (Asks c args p l s heap) = c
asked e = method_id 0

abbrev asked_with : Effect → List Value
asked_with (Asks c args p l s heap) = args
asked_with e = []

abbrev asked_on : Effect → List Value
asked_on (Asks c args p l s heap) = s
asked_on e = []

-- ---- frames

abbrev no_frame : List Frame
no_frame = []

abbrev has_frame : List Frame → Bool
has_frame [] = false
has_frame (f ∷ fs) = true

-- ---- what is known

module _ (form : Forms two_steps woven_loop woven_loop_marks) (facts : (m : MethodId) → Facts loop woven_loop (code two_steps woven_loop woven_loop_marks) (form m))
    (is : (m : MethodId) (a : Method) → method_at loop m ≡ Some a → IsFormOf loop woven_loop (code two_steps woven_loop woven_loop_marks) m (form m) a) where
  the : loop_execute ≡ (form (method_id 1)).method
  the = (form (method_id 1)).there loop_execute refl

  takes_one : (n : ℕ) → Takes two_steps woven_loop woven_loop_marks form (method_id 1) (Ref n ∷ []) (Ref n)
  takes_one n = record {
    slots = ap argument_slots the;
    self = refl;
    self_first = λ h. refl;
    self_none = λ h. absurd (false≢true (ap (λ (m : Method). m.is_static) the ∙ h));
    is_reference = λ go. refl;
  }

  calls_there : (form (method_id 1)).has_calls ≡ true
  calls_there = ((facts (method_id 1)).group 0 3 yields the_yield refl refl).has_calls

  typing_there : (form (method_id 1)).typing ≡ typing_of loop loop_execute
  typing_there = (is (method_id 1) loop_execute refl).typing

  not_shown : (form (method_id 1)).live 3 0 ≡ false
  not_shown = none_shown (form (method_id 1)).live ((is (method_id 1) loop_execute refl).live calls_there) 3 0

  nothing_below : AllFit woven_loop one_object (below (plan_of two_steps woven_loop woven_loop_marks form (method_id 1)) the_yield 0) []
  unfolding typing_of meets row special_fits fits_type jump_targets ends_path
  nothing_below = subst (λ (typing : ℕ → Types). AllFit woven_loop one_object (drop (taken the_yield) (typing 0).stack) []) (sym typing_there) tt

  nothing_saved : SlotsFit woven_loop one_object (saved (plan_of two_steps woven_loop woven_loop_marks form (method_id 1)) 0 3) (Ref 0 ∷ [])
  unfolding typing_of meets row special_fits fits_type jump_targets ends_path
  nothing_saved =
      subst (λ (typing : ℕ → Types). SlotsFit woven_loop one_object (saved_from ((form (method_id 1)).live 3) 0 (typing 0).locals) (Ref 0 ∷ [])) (sym typing_there)
      (subst (λ b. SlotsFit woven_loop one_object (if b && true then (0, of_class 0) ∷ [] else []) (Ref 0 ∷ [])) (sym not_shown) tt)

  redoes : Redoes two_steps woven_loop woven_loop_marks form one_object (method_id 1) yields 3 the_yield Null (Leaf native.Yield)
  unfolding does
  redoes = (method_id 18, [], (λ l s. refl), refl, (refl, refl, tt))

  fits_there : (wl : List Value) (was_number : ℕ) (was : Value) → Fit two_steps woven_loop woven_loop_marks form one_object (Leaf native.Yield) Null (Lk (method_id 1) 0 3 yields the_yield [] (Ref 0 ∷ []) wl (Ref 0) was_number was)
  fits_there wl was_number was = (nothing_below, nothing_saved, tt, redoes, old, record { clean = tt; receives = tt }, omega (arith), (record { class = class_type 0; fields = []; elements = [] }, one_there))

  abbrev Ready : Thread → Type 0
  Ready (Run m p l s x b w) =
      (to : ℕ) (i : Instr) (callee : Method) (s2 args wl : List Value) (number : ℕ) (was : Value) (links : List Link) (c : MethodId) (leaf : Native) → b ≡ u_frames links → fetch loop m p ≡ Some (i, to) → pausable_callee loop i ≡ Some callee →
      does loop (own_of loop m) i to l s w.heap ≡ Asks c args to l s2 w.heap → native_of loop c ≡ Some leaf → is_leaf leaf ≡ true → AllStand two_steps woven_loop woven_loop_marks form links →
      (w.kept ≡ None) × AreReady two_steps woven_loop woven_loop_marks form (resting_heap loop leaf args w.heap) (Leaf leaf) (leaf_receiver leaf args) (Lk m p to i callee s2 l wl x number was ∷ links)
  Ready (Stop over) = Unit {0}

  abbrev ReadyAs : Native → List Value → MethodId → ℕ → Instr → Method → List Value → List Value → ℕ → Value → Type 0
  ReadyAs leaf args m to i callee s2 wl number was =
      AreReady two_steps woven_loop woven_loop_marks form (resting_heap loop leaf args one_object) (Leaf leaf) (leaf_receiver leaf args) (Lk m 0 to i callee s2 (Ref 0 ∷ []) wl (Ref 0) number was ∷ [])

  ready_at : (done : ℕ) → Ready (standing 0 done)
  unfolding does
  ready_at done to i callee s2 args wl number was [] c leaf none f pc e nat isleaf stand =
      (refl, along (λ i to. pausable_callee loop i ≡ Some callee → does loop (own_of loop (method_id 1)) i to (Ref 0 ∷ []) [] one_object ≡ Asks c args to (Ref 0 ∷ []) s2 one_object → ReadyAs leaf args (method_id 1) to i callee s2 wl number was) yields i 3 to f at_yield pc e)
    where
      base : ReadyAs native.Yield [] (method_id 1) 3 yields the_yield [] wl number was
      base = (fits_there wl number was, (executes, takes_one 0))

      at_yield : pausable_callee loop yields ≡ Some callee → does loop (own_of loop (method_id 1)) yields 3 (Ref 0 ∷ []) [] one_object ≡ Asks c args 3 (Ref 0 ∷ []) s2 one_object → ReadyAs leaf args (method_id 1) 3 yields callee s2 wl number was
      at_yield pc e =
          subst (λ (z : Method). ReadyAs leaf args (method_id 1) 3 yields z s2 wl number was) (same_Some the_yield callee pc)
          (subst (λ (z : List Value). ReadyAs leaf args (method_id 1) 3 yields the_yield z wl number was) (ap asked_on e)
          (subst (λ (z : List Value). ReadyAs leaf z (method_id 1) 3 yields the_yield [] wl number was) (ap asked_with e)
          (subst (λ (z : Native). ReadyAs z [] (method_id 1) 3 yields the_yield [] wl number was) (same_Some native.Yield leaf (ap (native_of loop) (ap asked e) ∙ nat)) base)))
  ready_at done to i callee s2 args wl number was (k ∷ links) c leaf none f pc e nat isleaf stand = absurd (no_frames k links none)
    where
      no_frames : (k : Link) (links : List Link) → no_frame ≡ u_frames (k ∷ links) → ⊥
      no_frames k links e = false≢true (ap has_frame e)

  abbrev There : Thread → Type 0
  There (Run m p l s x b w) = (i : Instr) × (to : ℕ) × (fetch loop m p ≡ Some (i, to))
  There (Stop over) = Unit {0}

  abbrev Old : Thread → Type 0
  Old (Run m p l s x b w) = OldHeap loop w.heap
  Old (Stop over) = Unit {0}

  abbrev Cleanly : Thread → Type 0
  Cleanly (Run m p l s x b w) = (to : ℕ) (i : Instr) → fetch loop m p ≡ Some (i, to) → IsClean loop i s w.heap
  Cleanly (Stop over) = Unit {0}

  abbrev TakesThem : Thread → Type 0
  TakesThem (Run m p l s x b w) =
      (to q : ℕ) (i : Instr) (l2 s2 args : List Value) (heap : Objects) (c : MethodId) → fetch loop m p ≡ Some (i, to) → does loop (own_of loop m) i to l s w.heap ≡ Calls c args q l2 s2 heap → Takes two_steps woven_loop woven_loop_marks form c args (self_of loop c args)
  TakesThem (Stop over) = Unit {0}

  abbrev StackThere : Thread → Type 0
  StackThere (Run m p l s x b w) = AreThere w.heap s
  StackThere (Stop over) = Unit {0}

  abbrev SelfThere : Thread → Type 0
  SelfThere (Run m p l s x b w) = IsThere w.heap x
  SelfThere (Stop over) = Unit {0}

  abbrev Low : Thread → Type 0
  Low (Run m p l s x b w) = length s ≤ stack_limit loop m
  Low (Stop over) = Unit {0}

  abbrev Roomy : Thread → Type 0
  Roomy (Run m p l s x b w) = (to : ℕ) (i : Instr) → fetch loop m p ≡ Some (i, to) → HasRoom loop (does loop (own_of loop m) i to l s w.heap) m (bare_frames b)
  Roomy (Stop over) = Unit {0}

  yield_fits : HasRoom loop (does loop (own_of loop (method_id 1)) yields 3 (Ref 0 ∷ []) [] one_object) (method_id 1) []
  unfolding does
  yield_fits = record { unstuck = refl; fits = omega (arith); result = λ gives. absurd (false≢true gives) }

  goto_fits : HasRoom loop (does loop (own_of loop (method_id 1)) (Goto 0) 6 (Ref 0 ∷ []) [] one_object) (method_id 1) []
  unfolding does
  goto_fits = record { unstuck = refl; fits = omega (arith); result = tt }

  roomy : (j i : Instr) (a to : ℕ) → HasRoom loop (does loop (own_of loop (method_id 1)) j a (Ref 0 ∷ []) [] one_object) (method_id 1) [] → behind j a ≡ behind i to → HasRoom loop (does loop (own_of loop (method_id 1)) i to (Ref 0 ∷ []) [] one_object) (method_id 1) []
  roomy j i a to r e = along (λ i to. HasRoom loop (does loop (own_of loop (method_id 1)) i to (Ref 0 ∷ []) [] one_object) (method_id 1) []) j i a to e r

  abbrev Giving : Thread → Type 0
  Giving (Run m p l s x b w) = (to : ℕ) (i : Instr) → fetch loop m p ≡ Some (i, to) → GivesWhole loop loop w.heap (does loop (own_of loop m) i to l s w.heap)
  Giving (Stop over) = Unit {0}

  yield_gives : GivesWhole loop loop one_object (does loop (own_of loop (method_id 1)) yields 3 (Ref 0 ∷ []) [] one_object)
  unfolding does
  yield_gives = λ root n e. absurd (none-some (root, n) e)

  goto_gives : GivesWhole loop loop one_object (does loop (own_of loop (method_id 1)) (Goto 0) 6 (Ref 0 ∷ []) [] one_object)
  unfolding does
  goto_gives = tt

  giving : (j i : Instr) (a to : ℕ) → GivesWhole loop loop one_object (does loop (own_of loop (method_id 1)) j a (Ref 0 ∷ []) [] one_object) → behind j a ≡ behind i to → GivesWhole loop loop one_object (does loop (own_of loop (method_id 1)) i to (Ref 0 ∷ []) [] one_object)
  giving j i a to r e = along (λ i to. GivesWhole loop loop one_object (does loop (own_of loop (method_id 1)) i to (Ref 0 ∷ []) [] one_object)) j i a to e r

  abbrev Throwing : Thread → Type 0
  Throwing (Run m p l s x b w) = (to n : ℕ) (i : Instr) (c : ClassId) (why : EndCause) → fetch loop m p ≡ Some (i, to) → does loop (own_of loop m) i to l s w.heap ≡ Throws n c why → c.0 < length loop.classes
  Throwing (Stop over) = Unit {0}

  throws_none : (j i : Instr) (a to n : ℕ) (c : ClassId) (why : EndCause) → is_throw (does loop loop_execute j a (Ref 0 ∷ []) [] one_object) ≡ false → behind j a ≡ behind i to → does loop loop_execute i to (Ref 0 ∷ []) [] one_object ≡ Throws n c why
      → c.0 < length loop.classes
  throws_none j i a to n c why none e d = absurd (false≢true (sym (along (λ i to. is_throw (does loop loop_execute i to (Ref 0 ∷ []) [] one_object) ≡ false) j i a to e none) ∙ ap is_throw d))

  yield_throws_none : is_throw (does loop loop_execute yields 3 (Ref 0 ∷ []) [] one_object) ≡ false
  unfolding does
  yield_throws_none = refl

  goto_throws_none : is_throw (does loop loop_execute (Goto 0) 6 (Ref 0 ∷ []) [] one_object) ≡ false
  unfolding does
  goto_throws_none = refl

  abbrev Few : Thread → Type 0
  Few (Run m p l s x b w) = suc (length b) ≤ 512
  Few (Stop over) = Unit {0}

  cleanly : (j i : Instr) (a to : ℕ) → Receives loop j [] one_object → behind j a ≡ behind i to → IsClean loop i [] one_object
  cleanly j i a to r e = record { clean = tt; receives = along (λ i to. Receives loop i [] one_object) j i a to e r }

  takes_none : (j i : Instr) (a to q : ℕ) (l2 s2 args : List Value) (heap : Objects) (c : MethodId) → is_call (does loop loop_execute j a (Ref 0 ∷ []) [] one_object) ≡ false → behind j a ≡ behind i to → does loop loop_execute i to (Ref 0 ∷ []) [] one_object ≡ Calls c args q l2 s2 heap
      → Takes two_steps woven_loop woven_loop_marks form c args (self_of loop c args)
  takes_none j i a to q l2 s2 args heap c none e d =
      absurd (false≢true (sym (along (λ i to. is_call (does loop loop_execute i to (Ref 0 ∷ []) [] one_object) ≡ false) j i a to e none) ∙ ap is_call d))

  ready_none : (done : ℕ) → Ready (standing 3 done)
  ready_none done to i callee s2 args wl number was links c leaf none f pc e nat isleaf stand =
      absurd (none-some callee (along (λ i to. pausable_callee loop i ≡ Some callee) i (Goto 0) to 6 (sym f) pc))

  yield_calls_none : is_call (does loop loop_execute yields 3 (Ref 0 ∷ []) [] one_object) ≡ false
  unfolding does
  yield_calls_none = refl

  goto_calls_none : is_call (does loop loop_execute (Goto 0) 6 (Ref 0 ∷ []) [] one_object) ≡ false
  unfolding does
  goto_calls_none = refl

  unlost : (t : Thread) → From two_steps first t → is_lost (step two_steps t) ≡ false
  unlost = at_each (λ t. is_lost (step two_steps t) ≡ false) (ap is_lost step_0) (ap is_lost step_1) (ap is_lost step_2) refl

  pub known : Known two_steps woven_loop woven_loop_marks form (From two_steps first)
  known = record {
    keeps = λ t f. (suc f.0, steps_last f.0 first ∙ ap (step two_steps) f.1);
    there = λ m p l s x b w f. at_each There (yields, 3, refl) (Goto 0, 6, refl) (yields, 3, refl) tt (Run m p l s x b w) f;
    unstuck = λ t f e. false≢true (sym (unlost t f) ∙ ap is_lost e);
    old_heap = λ m p l s x b w f. at_each Old old old old tt (Run m p l s x b w) f;
    clean = λ m p to i l s x b w f e. at_each Cleanly (λ to i e. cleanly yields i 3 to tt e) (λ to i e. cleanly (Goto 0) i 6 to tt e) (λ to i e. cleanly yields i 3 to tt e) tt (Run m p l s x b w) f to i e;
    takes = λ m p to q i l s l2 s2 args x b w heap c f e d. at_each TakesThem
        (λ to q i l2 s2 args heap c e d. takes_none yields i 3 to q l2 s2 args heap c yield_calls_none e d)
        (λ to q i l2 s2 args heap c e d. takes_none (Goto 0) i 6 to q l2 s2 args heap c goto_calls_none e d)
        (λ to q i l2 s2 args heap c e d. takes_none yields i 3 to q l2 s2 args heap c yield_calls_none e d)
        tt (Run m p l s x b w) f to q i l2 s2 args heap c e d;
    begins = λ c n e. subst (λ (z : MethodId). Takes two_steps woven_loop woven_loop_marks form z (Ref n ∷ []) (Ref n)) (same_Some (method_id 1) c e) (takes_one n);
    ready = λ m p to i callee l s s2 args wl x number was links w c leaf f e pc d nat isleaf stand may.
        at_each Ready (ready_at 0) (ready_none 1) (ready_at 2) tt (Run m p l s x (u_frames links) w) f to i callee s2 args wl number was links c leaf refl e pc d nat isleaf stand;
    stack_there = λ m p l s x b w f. at_each StackThere tt tt tt tt (Run m p l s x b w) f;
    self_there = λ m p l s x b w f pausable. at_each SelfThere one one one tt (Run m p l s x b w) f;
    low = λ m p l s x b w f. at_each Low low low low tt (Run m p l s x b w) f;
    room = λ m p to i l s x b w f g. at_each Roomy (λ to i e. roomy yields i 3 to yield_fits e) (λ to i e. roomy (Goto 0) i 6 to goto_fits e) (λ to i e. roomy yields i 3 to yield_fits e) tt (Run m p l s x b w) f to i g;
    gives = λ m p to i l s x b w f g. at_each Giving (λ to i e. giving yields i 3 to yield_gives e) (λ to i e. giving (Goto 0) i 6 to goto_gives e) (λ to i e. giving yields i 3 to yield_gives e) tt (Run m p l s x b w) f to i g;
    throws = λ m p to i l s x b w n c why f e d. at_each Throwing
        (λ to n i c why e d. throws_none yields i 3 to n c why yield_throws_none e d)
        (λ to n i c why e d. throws_none (Goto 0) i 6 to n c why goto_throws_none e d)
        (λ to n i c why e d. throws_none yields i 3 to n c why yield_throws_none e d)
        tt (Run m p l s x b w) f to n i c why e d;
    few_frames = λ m p l s x b w f. at_each Few few few few tt (Run m p l s x b w) f;
  }
    where
      low : 0 ≤ stack_limit loop (method_id 1)
      low = omega (arith)

      one : IsThere one_object (Ref 0)
      one = (record { class = class_type 0; fields = []; elements = [] }, one_there)

      few : 1 ≤ 512
      few = omega (arith)
