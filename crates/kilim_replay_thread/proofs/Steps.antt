-- Steps of one thread.
use Rattle.std.proofs.Common.{◌≡◌, ℕ, suc, ◌+◌, ◌-◌, ◌<◌, ◌≤◌, Bool, true, false, cond, List, [], ◌∷◌, Option, Some, None, refl, sym, ap, subst, ◌∙◌, arith}
use Rattle.std.specs.FinMap.{insert}
use Rattle.std.proofs.lemmas.Bool.{false≢true, lt-leb}
use Rattle.kilim_program.specs.Program.{Program}
use Rattle.kilim_run_state.specs.declared.cause.EndCause.TheVariants as cause
use Rattle.kilim_run_state.specs.declared.value.Object.{Object}
use Rattle.kilim_program.specs.declared.value.Value.TheVariants.{Ref}
use Rattle.kilim_run_state.specs.Machine.{Activation, Objects}
use Rattle.kilim_program.specs.Lengths.{fetched}
use Rattle.kilim_program.specs.Names.{method_at}
use Rattle.kilim_program.specs.declared.class.Method.{Method}
use Rattle.kilim_program.specs.declared.instr.Instr.{Instr}
use Rattle.kilim_program.specs.declared.names.MethodId.{MethodId}
use Rattle.kilim_program.specs.declared.value.Value.{Value}
use Rattle.kilim_run_machine.specs.Does.{does}
use Rattle.kilim_run_machine.specs.Effect.{Effect}
use Rattle.kilim_run_machine.specs.Effect as effect
use Rattle.kilim_run_machine.specs.Moves.{Move, Runs, Makes, Enters, called, effect_in, effect_of, entered, frame_limit, goes_on, move_by, moves, push_value, receiver_of, returned}
use Rattle.kilim_run_machine.specs.Moves as move
use Rattle.kilim_run_state.specs.declared.frames.frame.Frame.{Frame}
use Rattle.kilim_run_state.specs.declared.frames.frames.Frames.{Frames}
use Rattle.kilim_run_state.specs.frames.Calls.{activation, below_of, calls_of}
use Rattle.kilim_run_rows.specs.declared.outcome.Moved.{Moved}
use Rattle.kilim_run_rows.specs.declared.outcome.Moved.TheVariants as moved
use Rattle.kilim_run_rows.specs.Outcome.{IsMade, Shows, is_stuck}
use Rattle.kilim_run_interp.specs.Step as step
use Rattle.kilim_run_interp.specs.Step.{CanSettle, IsWent}
use Rattle.kilim_run_interp.specs.Run.{IsFine}
use Rattle.kilim_run_interp.proofs.Reading.{can_settle, effect_is}
use Rattle.kilim_run_model.specs.State.{Setting}
use Rattle.kilim_run_model.specs.Lone.{Goes, frames_next, next_by, next_move, over}
use Rattle.kilim_run_model.specs.Course.{Quiet, Stays, Moves}
use Rattle.kilim_replay_thread.specs.declared.runs.Halted.{Halted}
use Rattle.kilim_replay_thread.specs.declared.runs.Halted.TheVariants as halted
use Rattle.kilim_replay_thread.specs.Thread.{HasRun, IsLast, IsOpen, IsSafe, Settles, is_plain, IsNamed, RanOn, MadeOne, StepsOn, RunsTo, AtFirst, Further, RunsAreQuiet, thread_on, is_asked, IsShown}

module _ (set : Setting) (t : ℕ) (boxes : ℕ) (kept : Option ℕ) where
  named_goes : (top : Activation) (below : List Activation) (m : Move) (calls : List Activation) (h k : Objects) (next after done : ℕ) (frames : List Activation) → IsNamed m calls h k next after →
      next_by set t (thread_on h next kept frames done boxes) done boxes top below m ≡ Goes (thread_on k after kept calls (done + 1) boxes)
  named_goes top below m calls h k next after done frames (RanOn change is same) =
      ap (next_by set t (thread_on h next kept frames done boxes) done boxes top below) is ∙ ap (λ (j : ℕ). Goes (thread_on k j kept calls (done + 1) boxes)) (sym same)
  named_goes top below m calls h k next after done frames (MadeOne object before is pushed added same) =
      ap (next_by set t (thread_on h next kept frames done boxes) done boxes top below) is
      ∙ (ap (λ (cs : List Activation). Goes (thread_on (insert h next object) (next + 1) kept cs (done + 1) boxes)) (sym pushed)
      ∙ (ap (λ (x : Objects). Goes (thread_on x (next + 1) kept calls (done + 1) boxes)) (sym added)
      ∙ ap (λ (j : ℕ). Goes (thread_on k j kept calls (done + 1) boxes)) (sym same)))

  step_goes : (mid calls : List Activation) (h k : Objects) (next after done : ℕ) → done < set.limits.steps → StepsOn set.program mid h next calls k after → next_move set t (thread_on h next kept mid done boxes) ≡ Goes (thread_on k after kept calls (done + 1) boxes)
  unfolding next_move
  step_goes [] calls h k next after done left s = absurd s
  step_goes (top ∷ below) calls h k next after done left s =
      ap (λ (z : Bool). cond z (over (thread_on h next kept (top ∷ below) done boxes) cause.Spent) (frames_next set t (thread_on h next kept (top ∷ below) done boxes) (top ∷ below) done boxes)) (lt-leb set.limits.steps done left)
      ∙ named_goes top below (moves set.program top below h) calls h k next after done (top ∷ below) s

  quiet : (first : List Activation) (h : Objects) (next done : ℕ) (calls : List Activation) (k : Objects) (after n : ℕ) → RunsTo set.program first h next n calls k after → done + n ≤ set.limits.steps → Quiet set t (thread_on h next kept first done boxes) (thread_on k after kept calls (done + n) boxes)
  quiet first h next done calls k after n (AtFirst none same heap names) le =
      Stays (ap (λ (cs : List Activation). thread_on h next kept cs done boxes) (sym same) ∙ (ap (λ (x : Objects). thread_on x next kept calls done boxes) (sym heap)
      ∙ (ap (λ (j : ℕ). thread_on k j kept calls done boxes) (sym names) ∙ ap (λ (j : ℕ). thread_on k after kept calls j boxes) (let e : done ≡ done + n = omega (arith, none) in e))))
  quiet first h next done calls k after n (Further q mid x l runs step more) le =
      let before = quiet first h next done mid x l q runs (omega (arith, le, more)) in
      let e : done + q + 1 ≡ done + n = omega (arith, more) in
      let lt : done + q < set.limits.steps = omega (arith, le, more) in
      subst (λ (j : ℕ). Quiet set t (thread_on h next kept first done boxes) (thread_on k after kept calls j boxes)) e (Moves (thread_on x l kept mid (done + q) boxes) before (step_goes mid calls x k l after (done + q) lt step))

pub runs_are_quiet : RunsAreQuiet
runs_are_quiet set t first calls h k next after n done boxes kept runs le = quiet set t boxes kept first h next done calls k after n runs le

-- ---- one instruction of a frame

module _ (p : Program) (own : Method) (i : Instr) (behind : ℕ) (f : Frames) (x k : Objects) (after : Frame) (there : method_at p f.top.method ≡ Some own) (found : fetched own.code own.code_length f.top.pc ≡ Some (i, behind)) (same : after.method ≡ f.top.method) where
  told : Effect
  told = does p own i behind f.top.locals f.top.stack.values x

  is : effect_of p (activation f.top) x ≡ told
  unfolding told
  is = effect_is p (activation f.top) x own i behind there found

  pub goes_named : (to next : ℕ) → does p own i behind f.top.locals f.top.stack.values x ≡ effect.Goes to after.locals after.stack.values k →
      IsNamed (moves p (activation f.top) (below_of f) x) (record { method = after.method; place = to; locals = after.locals; stack = after.stack.values } ∷ below_of f) x k next next
  unfolding moves told
  goes_named to next shows =
      RanOn move.Steps
      (ap (λ (e : Effect). move_by p e (activation f.top) (below_of f)) (is ∙ shows)
      ∙ ap (λ (m : MethodId). move.Runs move.Steps (record { method = m; place = to; locals = after.locals; stack = after.stack.values } ∷ below_of f) k) (sym same))
      refl

  pub made_named : (next name : ℕ) → name ≡ next → IsMade (does p own i behind f.top.locals f.top.stack.values x) behind name after x k →
      IsNamed (moves p (activation f.top) (below_of f) x) (record { method = after.method; place = behind; locals = after.locals; stack = after.stack.values } ∷ below_of f) x k next (name + 1)
  unfolding moves told
  made_named next name same_name made =
      MadeOne made.object (record { method = after.method; place = behind; locals = after.locals; stack = made.rest } ∷ below_of f)
      (ap (λ (e : Effect). move_by p e (activation f.top) (below_of f)) (is ∙ made.is)
      ∙ ap (λ (m : MethodId). move.Makes made.object (record { method = m; place = behind; locals = after.locals; stack = made.rest } ∷ below_of f) x) (sym same))
      (ap (λ (s : List Value). record { method = after.method; place = behind; locals = after.locals; stack = s } ∷ below_of f) (made.stack ∙ ap (λ (j : ℕ). Ref j ∷ made.rest) same_name))
      (made.added ∙ ap (λ (j : ℕ). insert x j made.object) same_name)
      (ap (λ (j : ℕ). j + 1) same_name)

-- ---- what a plain outcome leaves is no new object

no_called : (z : Bool) (change : move.Change) (fs : List Activation) (k : Objects) (o : Object) (gs : List Activation) (y : Objects) → cond z (move.Runs change fs k) (move.Ends cause.Depth) ≡ move.Makes o gs y → ⊥
no_called true change fs k o gs y e = cc
no_called false change fs k o gs y e = cc

no_returned : (v : Option Value) (below : List Activation) (k : Objects) (o : Object) (gs : List Activation) (y : Objects) → returned v below k ≡ move.Makes o gs y → ⊥
no_returned v [] k o gs y e = cc
no_returned v (a ∷ as1) k o gs y e = cc

abbrev IsNoNew : Effect → Type 0
IsNoNew (effect.Makes object place locals stack heap) = ⊥
IsNoNew e = Unit {0}

by_no : (p : Program) (e : Effect) (top : Activation) (below : List Activation) → IsNoNew e → (o : Object) (gs : List Activation) (y : Objects) → move_by p e top below ≡ move.Makes o gs y → ⊥
by_no p (effect.Goes place ls st h) top below n o gs y e = cc
by_no p (effect.Makes object place ls st h) top below n o gs y e = n
by_no p (effect.Opens place ls st h) top below n o gs y e = cc
by_no p (effect.Calls m args place ls st h) top below n o gs y e = no_called _ _ _ h o gs y e
by_no p (effect.Asks m args place ls st h) top below n o gs y e = cc
by_no p (effect.Returns v h) top below n o gs y e = no_returned v below h o gs y e
by_no p (effect.Raises c) top below n o gs y e = cc
by_no p (effect.Throws object class c) top below n o gs y e = cc
by_no p (effect.Ends c) top below n o gs y e = cc
by_no p effect.Stuck top below n o gs y e = cc

plain_no : (own : Method) (e : Effect) (behind : ℕ) (m : Moved) (before after : Frame) (h k : Objects) → is_plain m ≡ true → Shows own e behind m before after h k → IsNoNew e
plain_no own e behind moved.Next before after h k z s = subst IsNoNew (sym s) tt
plain_no own e behind (moved.Jump to) before after h k z s = subst IsNoNew (sym s) tt
plain_no own e behind (moved.Made at) before after h k z s = absurd (cc)
plain_no own e behind moved.Opened before after h k z s = subst IsNoNew (sym s.0) tt
plain_no own e behind (moved.Called id n) before after h k z s = subst IsNoNew (sym s.1) tt
plain_no own e behind (moved.Asked id n) before after h k z s = subst IsNoNew (sym s.1) tt
plain_no own e behind moved.Returned before after h k z s = subst IsNoNew (sym s.0) tt
plain_no own e behind moved.ReturnedValue before after h k z s = subst IsNoNew (sym s.1) tt
plain_no own e behind (moved.Raised c) before after h k z s = subst IsNoNew (sym s.0) tt
plain_no own e behind (moved.Thrown at class c) before after h k z s = subst IsNoNew (sym s.0) tt
plain_no own e behind (moved.Ended c) before after h k z s = subst IsNoNew (sym s.0) tt
plain_no own e behind moved.NoMemory before after h k z s = absurd (cc)

-- ---- nothing but a call of a built-in method that is handed out asks

abbrev IsNoAsk : Effect → Type 0
IsNoAsk (effect.Asks id args place locals stack heap) = ⊥
IsNoAsk e = Unit {0}

no_asked : (z : Bool) (change : move.Change) (fs : List Activation) (k : Objects) (id : MethodId) (args : List Value) (gs : List Activation) (y : Objects) → cond z (move.Runs change fs k) (move.Ends cause.Depth) ≡ move.Asks id args gs y → ⊥
no_asked true change fs k id args gs y e = cc
no_asked false change fs k id args gs y e = cc

no_returned_ask : (v : Option Value) (below : List Activation) (k : Objects) (id : MethodId) (args : List Value) (gs : List Activation) (y : Objects) → returned v below k ≡ move.Asks id args gs y → ⊥
no_returned_ask v [] k id args gs y e = cc
no_returned_ask v (a ∷ as1) k id args gs y e = cc

asks_not : (p : Program) (e : Effect) (top : Activation) (below : List Activation) → IsNoAsk e → (id : MethodId) (args : List Value) (gs : List Activation) (y : Objects) → move_by p e top below ≡ move.Asks id args gs y → ⊥
asks_not p (effect.Goes place ls st h) top below n id args gs y e = cc
asks_not p (effect.Makes object place ls st h) top below n id args gs y e = cc
asks_not p (effect.Opens place ls st h) top below n id args gs y e = cc
asks_not p (effect.Calls m own place ls st h) top below n id args gs y e = no_asked _ _ _ h id args gs y e
asks_not p (effect.Asks m own place ls st h) top below n id args gs y e = n
asks_not p (effect.Returns v h) top below n id args gs y e = no_returned_ask v below h id args gs y e
asks_not p (effect.Raises c) top below n id args gs y e = cc
asks_not p (effect.Throws object class c) top below n id args gs y e = cc
asks_not p (effect.Ends c) top below n id args gs y e = cc
asks_not p effect.Stuck top below n id args gs y e = cc

pub other_no : (own : Method) (e : Effect) (behind : ℕ) (m : Moved) (before after : Frame) (h k : Objects) → is_plain m ≡ true → is_asked m ≡ false → Shows own e behind m before after h k → IsNoAsk e
other_no own e behind moved.Next before after h k z o s = subst IsNoAsk (sym s) tt
other_no own e behind (moved.Jump to) before after h k z o s = subst IsNoAsk (sym s) tt
other_no own e behind (moved.Made at) before after h k z o s = absurd (cc)
other_no own e behind moved.Opened before after h k z o s = subst IsNoAsk (sym s.0) tt
other_no own e behind (moved.Called id n) before after h k z o s = subst IsNoAsk (sym s.1) tt
other_no own e behind (moved.Asked id n) before after h k z o s = absurd (cc)
other_no own e behind moved.Returned before after h k z o s = subst IsNoAsk (sym s.0) tt
other_no own e behind moved.ReturnedValue before after h k z o s = subst IsNoAsk (sym s.1) tt
other_no own e behind (moved.Raised c) before after h k z o s = subst IsNoAsk (sym s.0) tt
other_no own e behind (moved.Thrown at class c) before after h k z o s = subst IsNoAsk (sym s.0) tt
other_no own e behind (moved.Ended c) before after h k z o s = subst IsNoAsk (sym s.0) tt
other_no own e behind moved.NoMemory before after h k z o s = absurd (cc)

pub never_asks : (p : Program) (own : Method) (behind : ℕ) (m : Moved) (top : Frame) (below : List Activation) → is_plain m ≡ true → is_asked m ≡ false → (shown : IsShown own behind m top) → (id : MethodId) (args : List Value) (gs : List Activation) (y : Objects) → move_by p shown.effect (activation shown.before) below ≡ move.Asks id args gs y → ⊥
never_asks p own behind m top below plain other shown id args gs y e = asks_not p shown.effect (activation shown.before) below (other_no own shown.effect behind m shown.before top shown.heap shown.after plain other shown.shows) id args gs y e

went_named : (m : Move) (calls : List Activation) (h k : Objects) (next : ℕ) → ((o : Object) (gs : List Activation) (y : Objects) → m ≡ move.Makes o gs y → ⊥) → IsWent m calls h k → IsNamed m calls h k next next
went_named m calls h k next none (step.RanOn change is) = RanOn change is refl
went_named m calls h k next none (step.MadeOne object at before is pushed fresh added) = absurd (none object before h is)

-- a frame that isn't stuck is of a method of the program
pub no_method : (p : Program) (top : Activation) (below : List Activation) (h : Objects) → IsFine p top below h → method_at p top.method ≡ None → ⊥
no_method p top below h fine none = false≢true (sym fine.fine ∙ ap (λ (o : Option Method). is_stuck (effect_in p top h o)) none)

-- ---- one step more

module _ (p : Program) (limit left : ℕ) (first : List Activation) (h : Objects) (start : ℕ) (f : Frames) (x : Objects) (next : ℕ) (runs : RunsTo p first h start (limit - left) (calls_of f) x next) (few : left ≤ limit) (some : 0 < left) where
  one_less : limit - (left - 1) ≡ suc (limit - left)
  one_less = omega (arith, few, some)

  pub further : (calls : List Activation) (k : Objects) (after : ℕ) → IsNamed (moves p (activation f.top) (below_of f) x) calls x k next after → RunsTo p first h start (limit - (left - 1)) calls k after
  further calls k after named = Further (limit - left) (calls_of f) x next runs named one_less

  pub fine_here : IsSafe p limit first h start → IsFine p (activation f.top) (below_of f) x
  fine_here safe = safe (limit - left) (activation f.top) (below_of f) x next (omega (arith, few, some)) runs

  module _ (own : Method) (m : Moved) (behind : ℕ) (mid : Frames) (k : Objects) (opened : IsOpen p own f x m behind mid k) where
    pub can : IsSafe p limit first h start → CanSettle p m mid
    can safe =
        can_settle p own (effect_of p (activation f.top) x) behind m f.top mid x k f.top.method opened.shows
        (subst (λ (below : List Activation). step.FitsStack p (effect_of p (activation f.top) x) f.top.method below) (sym opened.below) (fine_here safe).fits)

    pub goes_further : (new : Frames) (after : ℕ) → after ≡ next → Settles (move_by p (effect_of p (activation f.top) x) (activation f.top) (below_of mid)) None (activation f.top ∷ below_of mid) new x k → RunsTo p first h start (limit - (left - 1)) (calls_of new) k after
    unfolding moves
    goes_further new after same settles =
        let no_new = plain_no own (effect_of p (activation f.top) x) behind m f.top mid.top x k opened.plain opened.shows in
        let here : IsWent (move_by p (effect_of p (activation f.top) x) (activation f.top) (below_of f)) (calls_of new) x k = subst (λ (below : List Activation). IsWent (move_by p (effect_of p (activation f.top) x) (activation f.top) below) (calls_of new) x k) opened.below settles in
        subst (λ (j : ℕ). RunsTo p first h start (limit - (left - 1)) (calls_of new) k j) (sym same) (further (calls_of new) k next (went_named _ (calls_of new) x k next (by_no p (effect_of p (activation f.top) x) (activation f.top) (below_of f) no_new) here))

    last_of : (z : Halted) (new : Frames) → Settles (moves p (activation f.top) (below_of f) x) (Some z) (calls_of f) new x k → IsLast p limit (limit - left) (calls_of f) x z new k
    last_of halted.Spent new s = absurd s
    last_of halted.NewBox new s = (omega (arith, few, some), s)
    last_of (halted.Asks id) new s = (omega (arith, few, some), s)
    last_of halted.Returned new s = (omega (arith, few, some), s)
    last_of (halted.Raised c) new s = (omega (arith, few, some), s)
    last_of (halted.Thrown object class c) new s = (omega (arith, few, some), s)
    last_of (halted.Ended c) new s = (omega (arith, few, some), s)

    pub halts : (z : Halted) (new : Frames) (after : ℕ) → after ≡ next → Settles (move_by p (effect_of p (activation f.top) x) (activation f.top) (below_of mid)) (Some z) (activation f.top ∷ below_of mid) new x k → HasRun p limit first h start (limit - left) z new k after
    unfolding moves
    halts z new after same settles = record {
      calls = calls_of f;
      heap = x;
      most = omega arith;
      runs = subst (λ (j : ℕ). RunsTo p first h start (limit - left) (calls_of f) x j) (sym same) runs;
      last = last_of z new (subst (λ (below : List Activation). Settles (move_by p (effect_of p (activation f.top) x) (activation f.top) below) (Some z) (activation f.top ∷ below) new x k) opened.below settles);
    }
