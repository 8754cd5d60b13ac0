-- Steps one behind the other, some of which count.
use Rattle.std.proofs.Common.{◌≡◌, ◌∙◌, refl, sym, ap, subst, ℕ, ◌+◌, ◌-◌, ◌<◌, ◌≤◌, Bool, true, false, List, ◌∷◌, Some, None, length, reverse, take, arith}
use Rattle.std.specs.Prelude.{◌&&◌}
use Rattle.kilim_program.specs.declared.class.Method.{Method}
use Rattle.kilim_program.specs.declared.names.MethodId.{MethodId}
use Rattle.kilim_program.specs.declared.value.Value.{Value}
use Rattle.kilim_program.specs.Names.{method_at}
use Rattle.kilim_program.specs.Program.{Program}
use Rattle.kilim_run_state.specs.Machine.{Activation, Objects}
use Rattle.kilim_run_machine.specs.Moves.{Move, effect_of, move_by, moves}
use Rattle.kilim_run_state.specs.declared.frames.frames.Frames.{Frames}
use Rattle.kilim_run_state.specs.frames.Calls.{activation, below_of, calls_of}
use Rattle.kilim_run_rows.specs.declared.outcome.Moved.{Moved}
use Rattle.kilim_run_interp.specs.Step.{CanSettle, Steps}
use Rattle.kilim_run_interp.specs.Run.{IsFine}
use Rattle.kilim_run_interp.specs.declared.machine.Stepped.TheVariants.{AtNative}
use Rattle.kilim_run_interp.proofs.Reading.{can_settle}
use Rattle.kilim_fiber_spec.specs.Fibers.{marks_of}
use Rattle.kilim_fiber_steps.specs.Counted.{AtFirst, CountedRunsTo, Further, GoesOn, HasCountedRun, IsCountedLast, IsCountedSafe, Went, tick_if}
use Rattle.kilim_fiber_steps.specs.Legs.{HasGone, HasHalted, IsHalt, IsOver, IsUnsettled, Settles}
use Rattle.kilim_fiber_steps.specs.Marks.{IsMarked, NextHas}
use Rattle.kilim_fiber_steps.specs.declared.runs.Halt.{Halt}
use Rattle.kilim_fiber_steps.specs.declared.runs.Halt.TheVariants as halt
use Rattle.kilim_fiber_steps.specs.declared.runs.Halted.{Halted}
use Rattle.kilim_fiber_steps.specs.declared.runs.Halted.TheVariants as halted
use Rattle.kilim_fiber_steps.proofs.Marks.{mark_in}

-- ---- counts

tick_on : (b : Bool) (n q : ℕ) → tick_if b (n + q) ≡ n + tick_if b q
tick_on true n q = omega arith
tick_on false n q = refl

-- what is left, against what was counted
pub one_less : (b : Bool) (limit left fewer : ℕ) → left ≤ limit → left ≡ tick_if b fewer → limit - fewer ≡ tick_if b (limit - left)
one_less true limit left fewer most is = omega (arith, most, is)
one_less false limit left fewer most is = omega (arith, most, is)

pub no_more : (b : Bool) (left fewer : ℕ) → left ≡ tick_if b fewer → fewer ≤ left
no_more true left fewer is = omega (arith, is)
no_more false left fewer is = omega (arith, is)

-- an instruction that counts has the mark, where the fiber is live
pub over_by : (own : Method) (marks : List Bool) (mark live : Bool) (left : ℕ) (f : Frames) (x : Objects) → IsMarked own.code marks own.code_length f.top.pc mark → (mark && live) ≡ true → left ≡ 0 → IsOver own marks live left f x f x
over_by own marks true true left f x is counts none = record { is = is; lives = refl; none = none; still = record { frames = refl; heap = refl } }
over_by own marks true false left f x is counts none = absurd (cc)
over_by own marks false live left f x is counts none = absurd (cc)

-- frames that wait for an answer tell the call
pub asks_by : (p : Program) (top : Activation) (below : List Activation) (m : Move) (id : MethodId) (count next : ℕ) (old new : Frames) (h k : Objects) → new ≡ record old { operands = count; next = next } → count ≤ length old.top.stack.values →
    Steps m (AtNative (record { method = id; args = reverse (take count old.top.stack.values) })) (top ∷ below) new h k → Settles p top below m (Some (halted.Asks id)) new h k
asks_by p top below m id count next old new h k kept few steps =
    let args : reverse (take new.operands new.top.stack.values) ≡ reverse (take count old.top.stack.values) = ap (λ (f : Frames). reverse (take f.operands f.top.stack.values)) kept in (
      subst (λ (f : Frames). f.operands ≤ length f.top.stack.values) (sym kept) few,
      subst (λ (vs : List Value). Steps m (AtNative (record { method = id; args = vs })) (top ∷ below) new h k) (sym args) steps,
    )

module _ (p : Program) (counted : List (List Bool)) (live : Bool) where
  pub moved_to : (first : List Activation) (h : Objects) (n : ℕ) (calls other : List Activation) (x k : Objects) → other ≡ calls → k ≡ x → CountedRunsTo p counted live first h n calls x → CountedRunsTo p counted live first h n other k
  moved_to first h n calls other x k same heap runs =
      let here : CountedRunsTo p counted live first h n other x = subst (λ (cs : List Activation). CountedRunsTo p counted live first h n cs x) (sym same) runs in
      subst (λ (z : Objects). CountedRunsTo p counted live first h n other z) (sym heap) here

  runs_on : (first : List Activation) (h : Objects) (n : ℕ) (mid : List Activation) (x : Objects) (m : ℕ) (calls : List Activation) (k : Objects) →
      CountedRunsTo p counted live first h n mid x → CountedRunsTo p counted live mid x m calls k → CountedRunsTo p counted live first h (n + m) calls k
  runs_on first h n mid x m calls k runs (AtFirst zero same heap) =
      let e : n + m ≡ n = omega (arith, zero) in
      subst (λ (q : ℕ). CountedRunsTo p counted live first h q calls k) (sym e) (moved_to first h n mid calls x k same heap runs)
  runs_on first h n mid x m calls k runs (Further mark q between y rest has step more) =
      Further mark (n + q) between y (runs_on first h n mid x q between y runs rest) has step (ap (λ (z : ℕ). n + z) more ∙ sym (tick_on (mark && live) n q))

  pub behind : (first : List Activation) (h : Objects) (n m total : ℕ) (mid : List Activation) (x : Objects) (calls : List Activation) (k : Objects) →
      CountedRunsTo p counted live first h n mid x → CountedRunsTo p counted live mid x m calls k → total ≡ n + m → CountedRunsTo p counted live first h total calls k
  behind first h n m total mid x calls k runs rest e = subst (λ (q : ℕ). CountedRunsTo p counted live first h q calls k) (sym e) (runs_on first h n mid x m calls k runs rest)

  pub safe_on : (limit rest : ℕ) (first : List Activation) (h : Objects) (n : ℕ) (mid : List Activation) (x : Objects) →
      IsCountedSafe p counted live limit first h → CountedRunsTo p counted live first h n mid x → n + rest ≤ limit → IsCountedSafe p counted live rest mid x
  safe_on limit rest first h n mid x safe runs less q mark top below k few unspent further has =
      safe (n + q) mark top below k (omega (arith, less, few)) (λ counts. let some : q < rest = unspent counts in omega (arith, less, some)) (runs_on first h n mid x q (top ∷ below) k runs further) has

  pub fine_at : (limit left : ℕ) (mark : Bool) (first : List Activation) (h : Objects) (top : Activation) (below : List Activation) (x : Objects) →
      IsCountedSafe p counted live limit first h → left ≤ limit → ((mark && live) ≡ true → 0 < left) → CountedRunsTo p counted live first h (limit - left) (top ∷ below) x → NextHas p counted mark (top ∷ below) → IsFine p top below x
  fine_at limit left mark first h top below x safe most some runs has =
      safe (limit - left) mark top below x (omega arith) (λ counts. let more : 0 < left = some counts in omega (arith, more, most)) runs has

  pub one_more : (limit left fewer : ℕ) (counts mark : Bool) (first : List Activation) (h : Objects) (top : Activation) (below calls : List Activation) (x k : Objects) →
      CountedRunsTo p counted live first h (limit - left) (top ∷ below) x → NextHas p counted mark (top ∷ below) → GoesOn p top below (moves p top below x) x calls k →
      left ≤ limit → counts ≡ (mark && live) → left ≡ tick_if counts fewer → CountedRunsTo p counted live first h (limit - fewer) calls k
  one_more limit left fewer counts mark first h top below calls x k runs has went most by is =
      Further mark (limit - left) (top ∷ below) x runs has went (one_less counts limit left fewer most is ∙ ap (λ (b : Bool). tick_if b (limit - left)) by)

  -- ---- one instruction behind the steps of a frame

  pub gone_on : (own : Method) (marks : List Bool) (limit left fewer : ℕ) (first : List Activation) (h : Objects) (f : Frames) (x : Objects) (counts : Bool) (new : Frames) (k : Objects) →
      method_at p f.top.method ≡ Some own → marks_of counted f.top.method ≡ marks → left ≤ limit → CountedRunsTo p counted live first h (limit - left) (calls_of f) x →
      HasGone p own marks live left f x counts new k → left ≡ tick_if counts fewer → CountedRunsTo p counted live first h (limit - fewer) (calls_of new) k
  gone_on own marks limit left fewer first h f x counts new k there are most runs is less =
      one_more limit left fewer counts is.mark first h (activation f.top) (below_of f) (calls_of new) x k runs
      (mark_in p counted f.top.method own marks f.top.pc is.mark there are is.is) (Went is.went) most is.by less

  -- what ended the steps of a frame, from its last instruction
  pub leg_of : (own : Method) (marks : List Bool) (limit left fuel : ℕ) (first : List Activation) (h : Objects) (f : Frames) (x : Objects) (halt : Halt) (new : Frames) (k : Objects) →
      method_at p f.top.method ≡ Some own → marks_of counted f.top.method ≡ marks → 0 < fuel → CountedRunsTo p counted live first h (limit - left) (calls_of f) x →
      HasHalted p own marks live left f x halt new k → IsHalt p own counted live limit first h left fuel halt new k
  leg_of own marks limit left fuel first h f x halt.Stops new k there are more runs is = moved_to first h (limit - left) (calls_of f) (calls_of new) x k is.frames is.heap runs
  leg_of own marks limit left fuel first h f x halt.Spent new k there are more runs is =
      let has : NextHas p counted true (calls_of f) = mark_in p counted f.top.method own marks f.top.pc true there are is.is in
      record {
        runs = moved_to first h (limit - left) (calls_of f) (calls_of new) x k is.still.frames is.still.heap runs;
        has = subst (λ (cs : List Activation). NextHas p counted true cs) (sym is.still.frames) has;
        lives = is.lives;
        none = is.none;
      }
  leg_of own marks limit left fuel first h f x (halt.Leaves mark moved next) new k there are more runs is = (
    more,
    record {
      before = f.top;
      heap = x;
      runs = subst (λ (below : List Activation). CountedRunsTo p counted live first h (limit - left) (activation f.top ∷ below) x) (sym is.below) runs;
      has = mark_in p counted f.top.method own marks f.top.pc mark there are is.is;
      some = is.some;
      shows = is.shows;
      same = is.same;
    },
  )
  leg_of own marks limit left fuel first h f x halt.Far new k there are more runs is = (more, moved_to first h (limit - left) (calls_of f) (calls_of new) x k is.frames is.heap runs)
  leg_of own marks limit left fuel first h f x halt.On new k there are more runs is = absurd is
  leg_of own marks limit left fuel first h f x halt.Lost new k there are more runs is = tt

  -- ---- from the steps of one frame to those of a task

  module _ (own : Method) (limit left few fuel : ℕ) (first mid : List Activation) (h x : Objects) (new : Frames) (k : Objects) (runs : CountedRunsTo p counted live first h (limit - left) mid x) (most : left ≤ limit) (less : few ≤ left) where
    pub has_stopped : IsHalt p own counted live left mid x few fuel halt.Stops new k → HasCountedRun p counted live limit first h (limit - few) false halted.Stops new k
    has_stopped is = record {
      calls = calls_of new;
      heap = k;
      most = omega arith;
      runs = behind first h (limit - left) (left - few) (limit - few) mid x (calls_of new) k runs is (omega (arith, most, less));
      last = (refl, refl);
    }

    pub has_spent : IsHalt p own counted live left mid x few fuel halt.Spent new k → HasCountedRun p counted live limit first h (limit - few) true halted.Spent new k
    has_spent is =
        let none = is.none in
        record {
          calls = calls_of new;
          heap = k;
          most = omega arith;
          runs = behind first h (limit - left) (left - few) (limit - few) mid x (calls_of new) k runs is.runs (omega (arith, most, less));
          last = record { counts = is.lives; all = omega (arith, none); has = is.has; frames = refl; heap = refl };
        }

    module _ (mark : Bool) (moved : Moved) (next : ℕ) (rest : IsUnsettled p own counted live left mid x few mark moved next new k) where
      so_far : CountedRunsTo p counted live first h (limit - few) (activation rest.before ∷ below_of new) rest.heap
      so_far = behind first h (limit - left) (left - few) (limit - few) mid x (activation rest.before ∷ below_of new) rest.heap runs rest.runs (omega (arith, most, less))

      has_here : NextHas p counted mark (activation rest.before ∷ below_of new)
      has_here = rest.has

      fine_here : IsCountedSafe p counted live limit first h → IsFine p (activation rest.before) (below_of new) rest.heap
      fine_here safe = fine_at limit few mark first h (activation rest.before) (below_of new) rest.heap safe (omega (arith, most, less)) rest.some so_far has_here

      pub can_go_on : IsCountedSafe p counted live limit first h → CanSettle p moved new
      can_go_on safe =
          can_settle p own (effect_of p (activation rest.before) rest.heap) next moved rest.before new rest.heap k rest.before.method rest.shows (fine_here safe).fits

      module _ (after : Frames) (y : Objects) where
        -- the task goes on
        pub further : (counts : Bool) (fewer : ℕ) → counts ≡ (mark && live) → few ≡ tick_if counts fewer →
            Settles p (activation rest.before) (below_of new) (move_by p (effect_of p (activation rest.before) rest.heap) (activation rest.before) (below_of new)) None after rest.heap y →
            CountedRunsTo p counted live first h (limit - fewer) (calls_of after) y
        unfolding moves
        further counts fewer by is went =
            one_more limit few fewer counts mark first h (activation rest.before) (below_of new) (calls_of after) rest.heap y so_far has_here went (omega (arith, most, less)) by is

        unspent : (mark && live) ≡ true → limit - few < limit
        unspent counts = let some : 0 < few = rest.some counts in omega (arith, some, most, less)

        -- it halts
        last_of : (halted : Halted) → Settles p (activation rest.before) (below_of new) (moves p (activation rest.before) (below_of new) rest.heap) (Some halted) after rest.heap y →
            IsCountedLast p counted live limit (limit - few) (activation rest.before ∷ below_of new) rest.heap mark halted after y
        last_of halted.Stops none = absurd none
        last_of halted.Spent none = absurd none
        last_of halted.NewBox steps = record { left = unspent; has = has_here; step = steps }
        last_of (halted.Asks id) steps = (steps.0, record { left = unspent; has = has_here; step = steps.1 })
        last_of halted.Returned steps = record { left = unspent; has = has_here; step = steps }
        last_of (halted.Ended cause) steps = record { left = unspent; has = has_here; step = steps }

        pub halts : (halted : Halted) → Settles p (activation rest.before) (below_of new) (move_by p (effect_of p (activation rest.before) rest.heap) (activation rest.before) (below_of new)) (Some halted) after rest.heap y →
            HasCountedRun p counted live limit first h (limit - few) mark halted after y
        unfolding moves
        halts halted steps = record {
          calls = activation rest.before ∷ below_of new;
          heap = rest.heap;
          most = omega arith;
          runs = so_far;
          last = last_of halted steps;
        }
