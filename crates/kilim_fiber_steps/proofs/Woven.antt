-- Steps of a woven fiber: instructions and members, one behind the other.
use Rattle.std.proofs.Common.{◌≡◌, ◌∙◌, refl, sym, ap, subst, ℕ, ◌+◌, ◌-◌, ◌<◌, ◌≤◌, Bool, true, false, not, List, [], ◌∷◌, Option, Some, None, length, drop, reverse, take, arith}
use Rattle.std.specs.Prelude.{◌&&◌, if◌then◌else◌}
use Rattle.kilim_program.specs.declared.class.Method.{Method}
use Rattle.kilim_program.specs.declared.names.MethodId.{MethodId}
use Rattle.kilim_program.specs.declared.value.Value.{Value}
use Rattle.kilim_program.specs.declared.value.Value.TheVariants.{Fiber, Null}
use Rattle.kilim_program.specs.Lengths.{first_place}
use Rattle.kilim_program.specs.Names.{method_at}
use Rattle.kilim_program.specs.Program.{Program}
use Rattle.kilim_run_state.specs.Machine.{Activation, Objects}
use Rattle.kilim_run_state.specs.declared.frames.frame.Frame.{Frame}
use Rattle.kilim_run_state.specs.declared.frames.frames.Frames.{Frames}
use Rattle.kilim_run_state.specs.frames.Calls.{activation, below_of, calls_of}
use Rattle.kilim_run_machine.specs.Effect.{Effect}
use Rattle.kilim_run_machine.specs.Moves.{effect_of, move_by, moves, push_result}
use Rattle.kilim_run_machine.specs.Moves as move
use Rattle.kilim_run_machine.specs.Natives.{native_of}
use Rattle.kilim_run_machine.specs.Natives as native
use Rattle.kilim_run_rows.specs.declared.outcome.Moved.TheVariants.{Asked}
use Rattle.kilim_run_interp.specs.Step.{AreRoomy, stack_limit}
use Rattle.kilim_fiber_spec.specs.Fibers.{Fib, is_rewinding, marks_of, pausing, rewound}
use Rattle.kilim_fiber_spec.specs.Thread.{push}
use Rattle.kilim_fiber_steps.specs.Counted.{CountedRunsTo, IsCountedSafe, tick_if}
use Rattle.kilim_fiber_steps.specs.Legs.{IsOpen, standing}
use Rattle.kilim_fiber_steps.specs.Marks.{NextHas}
use Rattle.kilim_fiber_steps.specs.Woven.{AtFirst, ByMember, ByPause, ByReturn, ByRun, CallsMember, CallsYield, FiberRunsTo, HasYielded, IsDone, IsFiberLeg, IsFiberSafe, MemberFits, YieldSteps, gives_value}
use Rattle.kilim_fiber_steps.specs.records.Members.{NotDone, did}
use Rattle.kilim_fiber_steps.specs.records.natives.Natives.{member_meant}
use Rattle.kilim_fiber_steps.specs.declared.records.natives.natives.Member.{Member}
use Rattle.kilim_fiber_steps.specs.declared.runs.Halt.TheVariants as halt
use Rattle.kilim_fiber_steps.proofs.Marks.{mark_in}

-- one that is live doesn't rewind
not_live : {r : Bool} → true ≡ not r → r ≡ false
not_live {r = true} e = absurd (cc)
not_live {r = false} e = refl

not_dead : {r : Bool} → false ≡ not r → r ≡ true
not_dead {r = true} e = refl
not_dead {r = false} e = absurd (cc)

-- the operands leave the stack, and the result comes on top
pushed : (m : MethodId) (place : ℕ) (locals rest : List Value) (below : List Activation) (value : Option Value) → (record { method = m; place = place; locals = locals; stack = push value rest } ∷ below) ≡ push_result value (record { method = m; place = place; locals = locals; stack = rest } ∷ below)
pushed m place locals rest below None = refl
pushed m place locals rest below (Some v) = refl

-- the same of a `yield`
pub called_yield : (p : Program) (own : Method) (marks : List Bool) (live : Bool) (left : ℕ) (frames : Frames) (frame : Frame) (at : ℕ) (h : Objects) (mark : Bool) (id : MethodId) (count next behind : ℕ) →
    IsOpen p own marks live left (standing own frames frame at) h mark (Asked id count) next (standing own frames frame at) h → behind < length own.code → next ≡ first_place (drop behind own.code) own.code_length →
    native_of p id ≡ Some native.Yield → (live ≡ true → 0 < left) → CallsYield p own marks live left frames frame at h count behind
unfolding moves
called_yield p own marks live left frames frame at h mark id count next behind is within place of_fiber more = record {
  mark = mark;
  is = is.is;
  some = is.some;
  more = more;
  within = within;
  id = id;
  of_fiber = of_fiber;
  there = is.shows.0;
  asks = ap (λ (e : Effect). move_by p e (activation (standing own frames frame at).top) (below_of frames)) is.shows.1
      ∙ ap (λ (q : ℕ). move.Asks id (reverse (take count frame.stack.values)) (record { method = frame.method; place = q; locals = frame.locals; stack = drop count frame.stack.values } ∷ below_of frames) h) place;
}

-- an instruction that asks for a member calls it
pub called_member : (p : Program) (own : Method) (marks : List Bool) (live : Bool) (left : ℕ) (frames : Frames) (frame : Frame) (at : ℕ) (h : Objects) (mark : Bool) (member : Member) (id : MethodId) (count next behind : ℕ) →
    IsOpen p own marks live left (standing own frames frame at) h mark (Asked id count) next (standing own frames frame at) h → behind < length own.code → next ≡ first_place (drop behind own.code) own.code_length →
    native_of p id ≡ Some (native.OfFiber (member_meant member)) → CallsMember p own marks live left frames frame at h member count behind
unfolding moves
called_member p own marks live left frames frame at h mark member id count next behind is within place of_fiber = record {
  mark = mark;
  is = is.is;
  some = is.some;
  within = within;
  id = id;
  of_fiber = of_fiber;
  there = is.shows.0;
  asks = ap (λ (e : Effect). move_by p e (activation (standing own frames frame at).top) (below_of frames)) is.shows.1
      ∙ ap (λ (q : ℕ). move.Asks id (reverse (take count frame.stack.values)) (record { method = frame.method; place = q; locals = frame.locals; stack = drop count frame.stack.values } ∷ below_of frames) h) place;
}

module _ (p : Program) (counted : List (List Bool)) where
  -- ---- one behind the other

  pub fiber_behind : (limit left : ℕ) (first : List Activation) (h : Objects) (f : Fib) (m : ℕ) (mid : List Activation) (x : Objects) (g : Fib) → m + left ≡ limit → FiberRunsTo p counted limit first h f m mid x g →
      (n : ℕ) (calls : List Activation) (k : Objects) (e : Fib) → FiberRunsTo p counted left mid x g n calls k e → FiberRunsTo p counted limit first h f (m + n) calls k e
  fiber_behind limit left first h f m mid x g all runs n calls k e (AtFirst zero same heap fiber) =
      let q : m + n ≡ m = omega (arith, zero) in
      subst (λ (z : ℕ). FiberRunsTo p counted limit first h f z calls k e) (sym q)
      (subst (λ (z : List Activation). FiberRunsTo p counted limit first h f m z k e) (sym same)
      (subst (λ (z : Objects). FiberRunsTo p counted limit first h f m mid z e) (sym heap) (subst (λ (z : Fib). FiberRunsTo p counted limit first h f m mid x z) (sym fiber) runs)))
  fiber_behind limit left first h f m mid x g all runs n calls k e (ByRun q more between y rest steps sum few) =
      ByRun (m + q) more between y (fiber_behind limit left first h f m mid x g all runs q between y e rest) steps (omega (arith, sum)) (omega (arith, all, few))
  fiber_behind limit left first h f m mid x g all runs n calls k e (ByMember mark top below d rest has some step) =
      ByMember mark top below d (fiber_behind limit left first h f m mid x g all runs n (top ∷ below) k d rest) has (λ counts. let less : n < left = some counts in omega (arith, all, less)) step
  fiber_behind limit left first h f m mid x g all runs n calls k e (ByReturn mark top below d rest has again step new) =
      ByReturn mark top below d (fiber_behind limit left first h f m mid x g all runs n (top ∷ below) k d rest) has again step new
  fiber_behind limit left first h f m mid x g all runs n calls k e (ByPause q mark top below d rest has lives step new sum few) =
      ByPause (m + q) mark top below d (fiber_behind limit left first h f m mid x g all runs q (top ∷ below) k d rest) has lives step new (omega (arith, sum)) (omega (arith, all, few))

  module _ (limit left : ℕ) (first : List Activation) (h : Objects) (f : Fib) (m : ℕ) (mid : List Activation) (x : Objects) (g : Fib) (all : m + left ≡ limit) (safe : IsFiberSafe p counted limit first h f) (runs : FiberRunsTo p counted limit first h f m mid x g) where
    pub counted_safe : IsCountedSafe p counted (not (is_rewinding g)) left mid x
    counted_safe = λ n mark top below k few some steps has.
        (safe (m + n) mark top below k g (omega (arith, all, few)) (λ counts. let less : n < left = some counts in omega (arith, all, less)) (ByRun m n mid x runs steps refl (omega (arith, all, few))) has).fine

    pub fiber_safe : IsFiberSafe p counted left mid x g
    fiber_safe = λ n mark top below k e few some rest has.
        safe (m + n) mark top below k e (omega (arith, all, few)) (λ counts. let less : n < left = some counts in omega (arith, all, less)) (fiber_behind limit left first h f m mid x g all runs n (top ∷ below) k e rest) has

    -- steps behind it
    pub ran_on : (n fewer : ℕ) (calls : List Activation) (k : Objects) → CountedRunsTo p counted (not (is_rewinding g)) mid x (left - fewer) calls k → fewer ≤ left → n ≡ limit - fewer → FiberRunsTo p counted limit first h f n calls k g
    ran_on n fewer calls k steps few e = ByRun m (left - fewer) mid x runs steps (omega (arith, all, few, e)) (omega (arith, e))

  -- ---- a member

  module _ (own : Method) (marks : List Bool) (limit left : ℕ) (first : List Activation) (h : Objects) (f : Fib) (n : ℕ) (frames : Frames) (frame : Frame) (at : ℕ) (k : Objects) (e : Fib) (member : Member) (count behind : ℕ)
      (there : method_at p frame.method ≡ Some own) (are : marks_of counted frame.method ≡ marks) (all : n + left ≡ limit)
      (runs : FiberRunsTo p counted limit first h f n (calls_of (standing own frames frame at)) k e) (call : CallsMember p own marks (not (is_rewinding e)) left frames frame at k member count behind) where
    some_left : (call.mark && not (is_rewinding e)) ≡ true → n < limit
    some_left counts = let less : 0 < left = call.some counts in omega (arith, all, less)

    pub member_fits : IsFiberSafe p counted limit first h f → (did (member_meant member) (reverse (take count frame.stack.values)) e ≡ NotDone → ⊥) × (gives_value (member_meant member) ≡ true → length (drop count frame.stack.values) < stack_limit p frame.method)
    member_fits safe =
        let here = safe n call.mark (activation (standing own frames frame at).top) (below_of frames) k e (omega (arith, all)) some_left runs
        (mark_in p counted frame.method own marks (first_place (drop at own.code) own.code_length) call.mark there are call.is) in
        let fits = subst (MemberFits p e) call.asks here.fits in
        fits.member (member_meant member) call.of_fiber

    pub member_on : (after : Frame) (g : Fib) → IsDone (member_meant member) count frame e after g → FiberRunsTo p counted limit first h f n (calls_of (standing own frames after behind)) k g
    member_on after g done =
        ByMember call.mark (activation (standing own frames frame at).top) (below_of frames) e runs (mark_in p counted frame.method own marks (first_place (drop at own.code) own.code_length) call.mark there are call.is) some_left
        (record {
          id = call.id;
          member = member_meant member;
          args = reverse (take count frame.stack.values);
          after = record { method = frame.method; place = first_place (drop behind own.code) own.code_length; locals = frame.locals; stack = drop count frame.stack.values } ∷ below_of frames;
          value = done.value;
          asks = call.asks;
          is = call.of_fiber;
          does = done.does;
          goes =
              ap (λ (z : Frame). calls_of (standing own frames z behind)) done.frame ∙ pushed frame.method (first_place (drop behind own.code) own.code_length) frame.locals (drop count frame.stack.values) (below_of frames) done.value;
        })

  -- ---- a `yield`

  module _ (own : Method) (marks : List Bool) (limit left : ℕ) (first : List Activation) (h : Objects) (f : Fib) (n : ℕ) (frames : Frames) (frame : Frame) (at : ℕ) (k : Objects) (e : Fib) (count behind : ℕ)
      (there : method_at p frame.method ≡ Some own) (are : marks_of counted frame.method ≡ marks) (all : n + left ≡ limit)
      (runs : FiberRunsTo p counted limit first h f n (calls_of (standing own frames frame at)) k e) (live : Bool) (live-is : live ≡ not (is_rewinding e)) (call : CallsYield p own marks live left frames frame at k count behind) where
    has_mark : NextHas p counted call.mark (calls_of (standing own frames frame at))
    has_mark = mark_in p counted frame.method own marks (first_place (drop at own.code) own.code_length) call.mark there are call.is

    pub yield_args : IsFiberSafe p counted limit first h f → reverse (take count frame.stack.values) ≡ Fiber ∷ []
    yield_args safe =
        let here = safe n call.mark (activation (standing own frames frame at).top) (below_of frames) k e (omega (arith, all))
        (λ counts. let less : 0 < left = call.some (ap (λ (b : Bool). call.mark && b) live-is ∙ counts) in omega (arith, all, less)) runs has_mark in
        let fits = subst (MemberFits p e) call.asks here.fits in
        fits.yield call.of_fiber

    yielded : (after : Frame) (g : Fib) → reverse (take count frame.stack.values) ≡ Fiber ∷ [] → HasYielded live count frame e after g → YieldSteps p (moves p (activation (standing own frames frame at).top) (below_of frames) k) k (calls_of (standing own frames after behind))
    yielded after g args done = record {
      id = call.id;
      asks = call.asks ∙ (ap (λ (vs : List Value). move.Asks call.id vs (record { method = frame.method; place = first_place (drop behind own.code) own.code_length; locals = frame.locals; stack = drop count frame.stack.values } ∷ below_of frames) k) args
          ∙ ap (λ (z : Frame). move.Asks call.id (Fiber ∷ []) (calls_of (standing own frames z behind)) k) (sym done.frame));
      is = call.of_fiber;
    }

    turned : (yes : Bool) (fewer : ℕ) (after : Frame) (g : Fib) → yes ≡ not (is_rewinding e) → (yes ≡ true → 0 < left) → left ≡ tick_if yes fewer → g ≡ (if yes then pausing Null e else rewound e) →
        YieldSteps p (moves p (activation (standing own frames frame at).top) (below_of frames) k) k (calls_of (standing own frames after behind)) → FiberRunsTo p counted limit first h f (limit - fewer) (calls_of (standing own frames after behind)) k g
    turned true fewer after g is more less fiber step =
        ByPause n call.mark (activation (standing own frames frame at).top) (below_of frames) e runs has_mark (not_live is) step fiber (omega (arith, all, less)) (omega arith)
    turned false fewer after g is more less fiber step =
        let same : limit - fewer ≡ n = omega (arith, all, less) in
        subst (λ (q : ℕ). FiberRunsTo p counted limit first h f q (calls_of (standing own frames after behind)) k g) (sym same)
        (ByReturn call.mark (activation (standing own frames frame at).top) (below_of frames) e runs has_mark (not_dead is) step fiber)

    pub yield_on : (fewer : ℕ) (after : Frame) (g : Fib) → reverse (take count frame.stack.values) ≡ Fiber ∷ [] → left ≡ tick_if live fewer → HasYielded live count frame e after g → FiberRunsTo p counted limit first h f (limit - fewer) (calls_of (standing own frames after behind)) k g
    yield_on fewer after g args less done = turned live fewer after g live-is call.more less done.fiber (yielded after g args done)

-- room stays
pub done_roomy : (p : Program) (own : Method) (frames : Frames) (before after : Frame) (at to count : ℕ) (member : native.FiberMember) (old new : Fib) → IsDone member count before old after new → AreRoomy p (standing own frames before at) → AreRoomy p (standing own frames after to)
done_roomy p own frames before after at to count member old new done roomy = subst (λ (z : Frame). AreRoomy p (standing own frames z to)) (sym done.frame) (record { top = roomy.top; below = roomy.below })

pub done_method : (member : native.FiberMember) (count : ℕ) (before after : Frame) (old new : Fib) → IsDone member count before old after new → after.method ≡ before.method
done_method member count before after old new done = ap (λ (z : Frame). z.method) done.frame

-- the same behind a `yield`
pub yield_roomy : (p : Program) (own : Method) (frames : Frames) (before after : Frame) (at to count : ℕ) (live : Bool) (old new : Fib) → HasYielded live count before old after new → AreRoomy p (standing own frames before at) → AreRoomy p (standing own frames after to)
yield_roomy p own frames before after at to count live old new done roomy = subst (λ (z : Frame). AreRoomy p (standing own frames z to)) (sym done.frame) (record { top = roomy.top; below = roomy.below })

pub yield_method : (live : Bool) (count : ℕ) (before after : Frame) (old new : Fib) → HasYielded live count before old after new → after.method ≡ before.method
yield_method live count before after old new done = ap (λ (z : Frame). z.method) done.frame

-- nothing was done
pub lost_at_once : (p : Program) (own : Method) (counted : List (List Bool)) (limit most : ℕ) (first : List Activation) (h : Objects) (f : Fib) (new : Frames) (k : Objects) → IsFiberLeg p own counted limit most first h f limit most halt.Lost new k f
lost_at_once p own counted limit most first h f new k = record {
  done = 0;
  rest = limit;
  calls = first;
  heap = h;
  runs = AtFirst refl refl refl refl;
  all = omega arith;
  leg = record { few = omega arith; less = omega arith; is = tt };
}
