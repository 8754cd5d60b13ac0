-- Instructions and members of `kilim/Fiber`, one after the other: what a run of them comes to is what the woven fiber comes to.
use Rattle.std.proofs.Common.{◌≡◌, ◌∙◌, ◌<◌, ◌≤◌, ◌+◌, ◌-◌, ℕ, Bool, true, false, not, List, [], ◌∷◌, Some, refl, sym, ap, subst, arith}
use Rattle.std.specs.Prelude.{◌&&◌}
use Rattle.kilim_program.specs.declared.names.MethodId.{MethodId}
use Rattle.kilim_program.specs.declared.value.Value.{Value}
use Rattle.kilim_program.specs.declared.value.Value.TheVariants.{Fiber}
use Rattle.kilim_program.specs.Program.{Program}
use Rattle.kilim_run_state.specs.Machine.{Activation, Objects}
use Rattle.kilim_run_state.specs.declared.frames.frames.Frames.{Frames}
use Rattle.kilim_run_machine.specs.Moves.{Move, moves, push_result}
use Rattle.kilim_run_machine.specs.Moves as move
use Rattle.kilim_run_machine.specs.Natives.{FiberMember, Native, native_of}
use Rattle.kilim_run_machine.specs.Natives as native
use Rattle.kilim_run_model.specs.State.{Setting}
use Rattle.kilim_run_interp.specs.Step.{CallerFits}
use Rattle.kilim_fiber_spec.specs.Fibers.{Fib, is_rewinding}
use Rattle.kilim_fiber_steps.specs.Marks.{IsMark}
use Rattle.kilim_fiber_steps.specs.Woven.{AtFirst, ByMember, ByPause, ByReturn, ByRun, FiberRunsTo, HasFiberRun, IsFiberSafe, MemberFits, MemberSteps, YieldSteps, gives_value}
use Rattle.kilim_fiber_steps.specs.declared.runs.Halted.{Halted}
use Rattle.kilim_fiber_steps.specs.declared.runs.Halted.TheVariants as halted
use Rattle.kilim_fiber_laws.specs.woven_kin.Standing.{Standing}
use Rattle.kilim_fiber_laws.specs.woven_kin.Nexts.{Goes, Next, Stands, asks_next, member_next, native_next, next_by, next_of, yield_next}
use Rattle.kilim_fiber_body.specs.Body.{aside_in, calls_in, standing_at}
use Rattle.kilim_fiber_body.specs.Comes.{gives_result}
use Rattle.kilim_fiber_body.specs.Legs.{ComesTo, ComesToAny, HasGone}
use Rattle.kilim_fiber_body.specs.Reach as reach
use Rattle.kilim_fiber_body.specs.Reach.{GoesTo, IsReadyOn}
use Rattle.kilim_fiber_body.specs.Steps.{HasRoom, MoveFits}
use Rattle.kilim_fiber_body.specs.declared.body.Body.{Body}
use Rattle.kilim_fiber_body.proofs.Asking.{member_by, stands_by}
use Rattle.kilim_fiber_body.proofs.Going.{goes_on, gone_to, name_stays, next_here, not_both, not_spent}
use Rattle.kilim_fiber_body.proofs.Reaching.{joined, stands_never}

caller_by : (W : Program) (fs : List Activation) → HasRoom W fs → CallerFits W fs
caller_by W [] room = absurd room
caller_by W (f ∷ fs) room = room

gives_same : (member : FiberMember) → gives_value member ≡ true → gives_result (Some (native.OfFiber member)) ≡ true
gives_same native.Pc gives = refl
gives_same native.Down gives = refl
gives_same native.Up gives = refl
gives_same native.Restore gives = refl
gives_same native.Receiver gives = refl
gives_same native.Save gives = absurd (not_both gives refl)
gives_same native.Place gives = absurd (not_both gives refl)

-- a `yield` that verified code makes has the fiber alone
yield_args : (set : Setting) (W : Program) (l : Standing) (args : List Value) → (native_next set W l native.Yield args ≡ Stands → ⊥) → args ≡ Fiber ∷ []
yield_args set W l (Fiber ∷ []) never = refl
yield_args set W l _ never = absurd (never refl)

-- while it rewinds nothing counts
never_counts : (mark r : Bool) → r ≡ true → (mark && not r) ≡ true → ⊥
never_counts true true e counts = not_both counts refl
never_counts true false e counts = not_both e refl
never_counts false r e counts = not_both counts refl

module _ (set : Setting) (W : Program) (marks : List (List Bool)) (t : ℕ) where
  -- ---- from an earlier standing on

  comes_later : (first mid : Standing) (next : Next) → GoesTo set W marks t first mid → ComesTo set W marks t mid next → ComesTo set W marks t first next
  comes_later first mid next goes c = record { mid = c.mid; goes = joined set W marks t first c.mid goes c.goes; is = c.is }

  comes_any_later : (first mid : Standing) (h : Objects) (next : ℕ → Next) → GoesTo set W marks t first mid → ComesToAny set W marks t mid h next → ComesToAny set W marks t first h next
  comes_any_later first mid h next goes c = record { mid = c.mid; goes = joined set W marks t first c.mid goes c.goes; heap = c.heap; is = c.is }

  gone_later : (first l : Standing) (mid : Body) (counts : Bool) (h : Halted) → GoesTo set W marks t first l → HasGone set W marks t l mid counts h → HasGone set W marks t first mid counts h
  gone_later first l mid counts halted.Stops goes r = joined set W marks t first (standing_at 0 mid) goes r
  gone_later first l mid counts halted.Spent goes r = comes_later first l _ goes r
  gone_later first l mid counts halted.NewBox goes r = (r.0, comes_later first l _ goes r.1)
  gone_later first l mid counts (halted.Asks call) goes r = record { operands = r.operands; can = r.can; comes = comes_any_later first l _ _ goes r.comes }
  gone_later first l mid counts halted.Returned goes r = comes_later first l _ goes r
  gone_later first l mid counts (halted.Ended why) goes r = comes_later first l _ goes r

  module _ (b : Body) (limit : ℕ) (all : b.count + limit ≡ set.limits.steps) where
    abbrev at_ : ℕ → List Activation → Objects → Fib → Standing
    at_ n calls k g = record { frames = calls; fiber = g; heap = k; next = 0; done = b.count + n; boxes = b.boxes; kept = b.kept; aside = aside_in b.apart }

    abbrev with_ : Fib → Body
    with_ g = record b { records = g }

    -- what comes next where a member is called
    member_comes : (n : ℕ) (mark : Bool) (top : Activation) (below : List Activation) (k : Objects) (e : Fib) (id : MethodId) (member : FiberMember) (args : List Value) (after : List Activation) (z : Objects) → IsMark W marks top.method top.place mark →
        ((mark && not (is_rewinding e)) ≡ true → n < limit) → moves W top below k ≡ move.Asks id args after z → native_of W id ≡ Some (native.OfFiber member) →
        next_of set W marks t (at_ n (top ∷ below) k e) ≡ member_next member args (at_ n after z e)
    member_comes n mark top below k e id member args after z is left asks of_fiber =
        next_here set W marks t (with_ e) [] k b.count (not (is_rewinding e)) refl limit all 0 n mark top below k is left
        ∙ (ap (next_by set W t (mark && not (is_rewinding e)) (at_ n (top ∷ below) k e) top below) asks ∙ ap (asks_next set W (at_ n after z e) args) of_fiber)

    member_goes : (n : ℕ) (mark : Bool) (top : Activation) (below : List Activation) (k : Objects) (e : Fib) (calls : List Activation) (g : Fib) → IsMark W marks top.method top.place mark → ((mark && not (is_rewinding e)) ≡ true → n < limit) →
        MemberSteps W (moves W top below k) e k calls g → next_of set W marks t (at_ n (top ∷ below) k e) ≡ Goes (at_ n calls k g)
    member_goes n mark top below k e calls g is left step =
        member_comes n mark top below k e step.id step.member step.args step.after k is left step.asks step.is
        ∙ (member_by step.member step.args e g step.value (at_ n step.after k e) step.does refl ∙ ap (λ (cs : List Activation). Goes (at_ n cs k g)) (sym step.goes))

    -- and where it yields
    yield_comes : (n : ℕ) (mark : Bool) (top : Activation) (below : List Activation) (k : Objects) (e : Fib) (calls : List Activation) → IsMark W marks top.method top.place mark →
        ((mark && not (is_rewinding e)) ≡ true → n < limit) → YieldSteps W (moves W top below k) k calls → next_of set W marks t (at_ n (top ∷ below) k e) ≡ yield_next (is_rewinding e) (at_ n calls k e)
    yield_comes n mark top below k e calls is left step =
        next_here set W marks t (with_ e) [] k b.count (not (is_rewinding e)) refl limit all 0 n mark top below k is left
        ∙ (ap (next_by set W t (mark && not (is_rewinding e)) (at_ n (top ∷ below) k e) top below) step.asks ∙ ap (asks_next set W (at_ n calls k e) (Fiber ∷ [])) step.is)

    -- one step further, which takes no name
    stays : (n m : ℕ) (calls after : List Activation) (h k : Objects) (e g : Fib) → GoesTo set W marks t (standing_at 0 b) (at_ n calls h e) → next_of set W marks t (at_ n calls h e) ≡ Goes (at_ m after k g) → GoesTo set W marks t (standing_at 0 b) (at_ m after k g)
    stays n m calls after h k e g goes next = reach.Further (at_ n calls h e) 0 0 goes (name_stays set W marks t (at_ n calls h e) (at_ m after k g) next refl) next

    pub fiber_goes : (n : ℕ) (calls : List Activation) (k : Objects) (g : Fib) → FiberRunsTo W marks limit (calls_in b.frames) b.heap b.records n calls k g → GoesTo set W marks t (standing_at 0 b) (at_ n calls k g)
    fiber_goes n calls k g (AtFirst z same heap fiber) =
        let e : b.count + n ≡ b.count = omega (arith, z) in
        reach.AtFirst (λ i. record { frames = same i; fiber = fiber i; heap = heap i; next = 0; done = e i; boxes = b.boxes; kept = b.kept; aside = aside_in b.apart })
    fiber_goes n calls k g (ByRun m more mid x runs steps sum few) =
        let less : m ≤ limit = omega (arith, sum, few) in
        let there : (b.count + m) + (limit - m) ≡ set.limits.steps = omega (arith, all, less) in
        let e : (b.count + m) + more ≡ b.count + n = omega (arith, sum) in
        joined set W marks t (standing_at 0 b) (at_ n calls k g) (fiber_goes m mid x g runs)
        (subst (λ (d : ℕ). GoesTo set W marks t (at_ m mid x g) (record (at_ n calls k g) { done = d })) e
        (goes_on set W marks t (with_ g) mid x (b.count + m) (not (is_rewinding g)) refl (limit - m) there more calls k (omega (arith, sum, few)) steps))
    fiber_goes n calls k g (ByMember mark top below e runs has left step) =
        stays n n (top ∷ below) calls k k e g (fiber_goes n (top ∷ below) k e runs) (member_goes n mark top below k e calls g has left step)
    fiber_goes n calls k g (ByReturn mark top below e runs has again step new) =
        stays n n (top ∷ below) calls k k e g (fiber_goes n (top ∷ below) k e runs)
        (yield_comes n mark top below k e calls has (λ counts. absurd (never_counts mark (is_rewinding e) again counts)) step
        ∙ (ap (λ (r : Bool). yield_next r (at_ n calls k e)) again ∙ ap (λ (z : Fib). Goes (at_ n calls k z)) (sym new)))
    fiber_goes n calls k g (ByPause m mark top below e runs has lives step new sum few) =
        let d : b.count + m + 1 ≡ b.count + n = omega (arith, sum) in
        stays m n (top ∷ below) calls k k e g (fiber_goes m (top ∷ below) k e runs)
        (yield_comes m mark top below k e calls has (λ counts. omega (arith, sum, few)) step
        ∙ (ap (λ (r : Bool). yield_next r (at_ m calls k e)) lives ∙ (λ i. Goes (record (at_ m calls k (sym new i)) { done = d i }))))

    -- ---- each step is safe

    fits_by : (n : ℕ) (mark : Bool) (top : Activation) (below : List Activation) (k : Objects) (g : Fib) → IsReadyOn set W marks t (standing_at 0 b) → GoesTo set W marks t (standing_at 0 b) (at_ n (top ∷ below) k g) →
        IsMark W marks top.method top.place mark → ((mark && not (is_rewinding g)) ≡ true → n < limit) → (w : Move) → moves W top below k ≡ w → MoveFits set.program W k w → MemberFits W g w
    fits_by n mark top below k g ready goes is left (move.Asks id args frames heap) e fits = record {
      member = λ member of_fiber. (
        λ none. stands_never set W marks t (standing_at 0 b) (at_ n (top ∷ below) k g) (ready (at_ n (top ∷ below) k g) goes) 0
            (member_comes n mark top below k g id member args frames heap is left e of_fiber ∙ stands_by member args (at_ n frames heap g) none),
        λ gives. caller_by W frames (fits.0 (ap gives_result of_fiber ∙ gives_same member gives)),
      );
      yield = λ yields. yield_args set W (at_ n frames heap g) args
          (λ none. stands_never set W marks t (standing_at 0 b) (at_ n (top ∷ below) k g) (ready (at_ n (top ∷ below) k g) goes) 0
          (next_here set W marks t (with_ g) [] k b.count (not (is_rewinding g)) refl limit all 0 n mark top below k is left
          ∙ (ap (next_by set W t (mark && not (is_rewinding g)) (at_ n (top ∷ below) k g) top below) e ∙ (ap (asks_next set W (at_ n frames heap g) args) yields ∙ none))));
    }
    fits_by n mark top below k g ready goes is left (move.Runs change frames heap) e fits = tt
    fits_by n mark top below k g ready goes is left (move.Makes object frames heap) e fits = tt
    fits_by n mark top below k g ready goes is left (move.Opens frames heap) e fits = tt
    fits_by n mark top below k g ready goes is left (move.Returns heap) e fits = tt
    fits_by n mark top below k g ready goes is left (move.Raises cause) e fits = tt
    fits_by n mark top below k g ready goes is left (move.Throws object class cause) e fits = tt
    fits_by n mark top below k g ready goes is left (move.Ends cause) e fits = tt
    fits_by n mark top below k g ready goes is left move.Stuck e fits = tt

    pub fiber_safe : IsReadyOn set W marks t (standing_at 0 b) → IsFiberSafe W marks limit (calls_in b.frames) b.heap b.records
    fiber_safe ready = λ n mark top below k g few left runs has.
        let goes = fiber_goes n (top ∷ below) k g runs in
        let unspent = not_spent set W marks t (with_ g) [] k b.count (not (is_rewinding g)) refl limit all n mark top below k has left in
        let here = ready (at_ n (top ∷ below) k g) goes in
        record {
          fine = here.fine top below refl unspent;
          fits = fits_by n mark top below k g ready goes has left (moves W top below k) refl (here.fits top below refl unspent);
        }

    -- ---- what ends it

    pub fiber_gone : (n : ℕ) (mark : Bool) (halt : Halted) (new : Frames) (k : Objects) (g : Fib) → IsReadyOn set W marks t (standing_at 0 b) → HasFiberRun W marks limit (calls_in b.frames) b.heap b.records n mark halt new k g →
        HasGone set W marks t (standing_at 0 b) (record b { frames = Some new; records = g; heap = k; count = b.count + n }) (mark && not (is_rewinding g)) halt
    fiber_gone n mark halt new k g ready run =
        let goes = fiber_goes run.done run.calls run.heap g run.runs in
        let whole = run.all in
        let there : (b.count + run.done) + run.left ≡ set.limits.steps = omega (arith, all, whole) in
        let sum = run.sum in
        let e : (b.count + run.done) + run.rest ≡ b.count + n = omega (arith, sum) in
        gone_later (standing_at 0 b) (at_ run.done run.calls run.heap g) (record b { frames = Some new; records = g; heap = k; count = b.count + n }) (mark && not (is_rewinding g)) halt goes
        (subst (λ (d : ℕ). HasGone set W marks t (at_ run.done run.calls run.heap g) (record b { frames = Some new; records = g; heap = k; count = d }) (mark && not (is_rewinding g)) halt) e
        (gone_to set W marks t (with_ g) run.calls run.heap (b.count + run.done) (not (is_rewinding g)) refl run.left there run.rest mark halt new k
        (λ m more. ready m (joined set W marks t (standing_at 0 b) m goes more)) run.is))
