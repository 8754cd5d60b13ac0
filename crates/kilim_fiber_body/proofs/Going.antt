-- Instructions one after the other: what a run of them comes to is what the woven fiber comes to.
use Rattle.std.proofs.Common.{◌≡◌, ◌<◌, ◌≤◌, ◌+◌, ◌-◌, ℕ, suc, length, Bool, true, false, cond, not, List, [], ◌∷◌, Option, Some, refl, sym, ap, subst, ◌∙◌, arith}
use Rattle.std.specs.Prelude.{◌&&◌, nat_le}
use Rattle.std.specs.FinMap.{insert}
use Rattle.kilim_program.specs.declared.instr.Instr.{Instr}
use Rattle.kilim_program.specs.declared.names.ClassId.{ClassId}
use Rattle.kilim_program.specs.declared.names.MethodId.{MethodId}
use Rattle.kilim_program.specs.declared.value.Value.TheVariants.{Ref}
use Rattle.kilim_program.specs.Program.{Program}
use Rattle.kilim_run_state.specs.declared.cause.EndCause.{EndCause}
use Rattle.kilim_run_state.specs.declared.cause.EndCause.TheVariants as cause
use Rattle.kilim_run_state.specs.Machine.{Objects, Activation}
use Rattle.kilim_run_machine.specs.Moves.{Change, Move, moves, push_value}
use Rattle.kilim_run_machine.specs.Moves as move
use Rattle.kilim_run_machine.specs.Natives.{native_of}
use Rattle.kilim_run_machine.specs.Raising.{index_at, raised_class, thrown}
use Rattle.kilim_run_state.specs.Objects.{new_object}
use Rattle.kilim_run_state.specs.declared.frames.frames.Frames.{Frames}
use Rattle.kilim_run_state.specs.frames.Calls.{answered}
use Rattle.kilim_run_model.specs.State.{Setting}
use Rattle.kilim_run_interp.specs.declared.machine.Stepped.TheVariants as stepped
use Rattle.kilim_run_interp.specs.Step.{RanOn, MadeOne, Steps}
use Rattle.kilim_run_interp.specs.Run.{IsFine}
use Rattle.kilim_fiber_spec.proofs.fiber_kin.Fine.{opens_fit}
use Rattle.kilim_fiber_steps.specs.Marks.{IsMark, NextHas}
use Rattle.kilim_fiber_steps.specs.Counted as counted
use Rattle.kilim_fiber_steps.specs.Counted.{Caught, CountedRunsTo, GoesOn, HasCountedRun, IsCountedLast, IsCountedSafe, IsEnding, StepsOn, Thrown, Went, asked_of, tick_if}
use Rattle.kilim_fiber_steps.specs.declared.runs.Halted.{Halted}
use Rattle.kilim_fiber_steps.specs.declared.runs.Halted.TheVariants as halted
use Rattle.kilim_fiber_spec.specs.Fibers.{is_rewinding}
use Rattle.kilim_fiber_laws.specs.woven_kin.Standing.{Standing}
use Rattle.kilim_fiber_laws.specs.woven_kin.Nexts.{Next, Goes, Ends, asks_next, finish_next, found_next, next_by, next_of, opens_next, raises, spent_or, stood, thrown_to, ticked, with_new}
use Rattle.kilim_fiber_laws.specs.woven_kin.Alike.{HasFree, TakesName, spends, spends_at}
use Rattle.kilim_fiber_body.specs.Body.{aside_in, behind_at, operands_of, standing_at}
use Rattle.kilim_fiber_body.specs.Comes.{CanGive}
use Rattle.kilim_fiber_body.specs.Legs.{ComesTo, HasGone}
use Rattle.kilim_fiber_body.specs.Reach.{AtFirst, Further, GoesTo, IsReadyOn, named}
use Rattle.kilim_fiber_body.specs.Steps.{MoveFits}
use Rattle.kilim_fiber_body.specs.declared.body.Body.{Body}
use Rattle.kilim_fiber_body.proofs.Asking.{is_le, not_le, uncaught}
use Rattle.kilim_fiber_body.proofs.Reaching.{stands_never}

pub not_both : {b : Bool} → b ≡ true → b ≡ false → ⊥
not_both e d = cc

-- ---- counts

pub whole_limit : (done steps : ℕ) → done ≤ steps → done + (steps - done) ≡ steps
whole_limit done steps le = omega arith

none_more : (done n : ℕ) → n ≡ 0 → done + n ≡ done
none_more done n e = omega (arith, e)

-- where an instruction counts only if fewer than the limit are counted, it isn't spent
unspent : (c : Bool) (steps done limit n : ℕ) → done + limit ≡ steps → (c ≡ true → n < limit) → (c && nat_le steps (done + n)) ≡ false
unspent true steps done limit n all left = let lt = left refl in not_le steps (done + n) (omega (arith, all, lt))
unspent false steps done limit n all left = refl

-- one that counts is spent where as many are counted as may be
spent : (c : Bool) (steps done limit n : ℕ) → done + limit ≡ steps → c ≡ true → n ≡ limit → (c && nat_le steps (done + n)) ≡ true
spent c steps done limit n all e same = ap (λ (z : Bool). z && nat_le steps (done + n)) e ∙ is_le steps (done + n) (omega (arith, all, same))

one_ticked : (c : Bool) (l : Standing) (done n : ℕ) → ticked c (record l { done = done + n }) ≡ record l { done = done + tick_if c n }
one_ticked true l done n = let e : done + n + 1 ≡ done + suc n = omega arith in ap (λ (d : ℕ). record l { done = d }) e
one_ticked false l done n = refl

few_before : (c : Bool) (limit n m : ℕ) → n ≤ limit → n ≡ tick_if c m → (m ≤ limit) × (c ≡ true → m < limit)
few_before true limit n m few e = (omega (arith, few, e), λ d. omega (arith, few, e))
few_before false limit n m few e = (omega (arith, few, e), λ d. absurd (not_both d refl))

-- ---- names

same_name : (m n : ℕ) → m ≡ n → m ≡ n + 1 → ⊥
same_name m n e more = omega (arith, e, more)

-- where the next name stays, none is taken
pub name_stays : (set : Setting) (W : Program) (marks : List (List Bool)) (t : ℕ) (l after : Standing) → next_of set W marks t l ≡ Goes after → after.next ≡ l.next → HasFree set W marks t l
name_stays set W marks t l after e same takes = absurd (same_name after.next l.next same (subst (TakesName l.next) e takes))

-- ---- the fiber

-- from these frames, this heap and this count, with what else a body has
module _ (set : Setting) (W : Program) (marks : List (List Bool)) (t : ℕ) (b : Body) (cs : List Activation) (hs : Objects) (ds : ℕ) (live : Bool) (live-is : live ≡ not (is_rewinding b.records)) (limit : ℕ) (all : ds + limit ≡ set.limits.steps) where
  abbrev pub at_ : ℕ → ℕ → List Activation → Objects → Standing
  at_ x n calls k = record { frames = calls; fiber = b.records; heap = k; next = x; done = ds + n; boxes = b.boxes; kept = b.kept; aside = aside_in b.apart }

  abbrev pub first : Standing
  first = record { frames = cs; fiber = b.records; heap = hs; next = 0; done = ds; boxes = b.boxes; kept = b.kept; aside = aside_in b.apart }

  -- the next instruction has that mark, and may be done
  abbrev pub IsLeft : ℕ → Bool → Type 0
  IsLeft n mark = (mark && live) ≡ true → n < limit

  -- what comes next, by the next move
  spent_or_next : (x n : ℕ) (mark : Bool) (top : Activation) (below : List Activation) (k : Objects) → IsMark W marks top.method top.place mark →
      next_of set W marks t (at_ x n (top ∷ below) k) ≡ spent_or set (mark && live) (ds + n) (next_by set W t (mark && live) (at_ x n (top ∷ below) k) top below (moves W top below k))
  unfolding next_of
  spent_or_next x n mark top below k is =
      let l = at_ x n (top ∷ below) k in
      ap (λ (z : Option (Instr × ℕ × Bool)). found_next set W t l top below z) is.at
      ∙ (ap (λ (z : Bool). spent_or set (z && not (is_rewinding b.records)) (ds + n) (next_by set W t (z && not (is_rewinding b.records)) l top below (moves W top below k))) is.is
      ∙ ap (λ (z : Bool). spent_or set (mark && z) (ds + n) (next_by set W t (mark && z) l top below (moves W top below k))) (sym live-is))

  pub next_here : (x n : ℕ) (mark : Bool) (top : Activation) (below : List Activation) (k : Objects) → IsMark W marks top.method top.place mark → IsLeft n mark →
      next_of set W marks t (at_ x n (top ∷ below) k) ≡ next_by set W t (mark && live) (at_ x n (top ∷ below) k) top below (moves W top below k)
  next_here x n mark top below k is left =
      spent_or_next x n mark top below k is
      ∙ ap (λ (z : Bool). cond z (Ends cause.Spent) (next_by set W t (mark && live) (at_ x n (top ∷ below) k) top below (moves W top below k))) (unspent (mark && live) set.limits.steps ds limit n all left)

  pub not_spent : (n : ℕ) (mark : Bool) (top : Activation) (below : List Activation) (k : Objects) → IsMark W marks top.method top.place mark → IsLeft n mark → spends_at set W marks (at_ 0 n (top ∷ below) k) top ≡ false
  not_spent n mark top below k is left =
      ap (λ (z : Option (Instr × ℕ × Bool)). spends set z (at_ 0 n (top ∷ below) k)) is.at
      ∙ (ap (λ (z : Bool). (z && not (is_rewinding b.records)) && nat_le set.limits.steps (ds + n)) is.is
      ∙ (ap (λ (z : Bool). (mark && z) && nat_le set.limits.steps (ds + n)) (sym live-is) ∙ unspent (mark && live) set.limits.steps ds limit n all left))

  -- one instruction further
  module _ (n : ℕ) (mark : Bool) (top : Activation) (below : List Activation) (k : Objects) (calls : List Activation) (y : Objects) (is : IsMark W marks top.method top.place mark) (left : IsLeft n mark) (goes : GoesTo set W marks t first (at_ 0 n (top ∷ below) k)) where
    abbrev counted_now : ℕ
    counted_now = tick_if (mark && live) n

    -- by a next move, under that name
    moved_by : (x : ℕ) (w : Move) → moves W top below k ≡ w → next_of set W marks t (at_ x n (top ∷ below) k) ≡ next_by set W t (mark && live) (at_ x n (top ∷ below) k) top below w
    moved_by x w e = next_here x n mark top below k is left ∙ ap (next_by set W t (mark && live) (at_ x n (top ∷ below) k) top below) e

    -- the next name stays
    stays : next_of set W marks t (at_ 0 n (top ∷ below) k) ≡ Goes (at_ 0 counted_now calls y) → GoesTo set W marks t first (at_ 0 counted_now calls y)
    stays e = Further (at_ 0 n (top ∷ below) k) 0 0 goes (name_stays set W marks t (at_ 0 n (top ∷ below) k) (at_ 0 counted_now calls y) e refl) e

    -- what is raised is counted, and then goes to the frames that are left
    raised_to : (x : ℕ) (why : EndCause) (of : ClassId) (f : Activation) (fs : List Activation) → raised_class W (index_at W top) why ≡ Some of → thrown W of (Ref x) top below ≡ f ∷ fs →
        next_by set W t (mark && live) (at_ x n (top ∷ below) k) top below (move.Raises why) ≡ Goes (at_ (x + 1) counted_now (f ∷ fs) (insert k x (new_object W of)))
    raised_to x why of f fs class caught =
        ap (λ (z : Standing). raises W z why (λ c. thrown W c (Ref x) top below) (raised_class W (index_at W top) why)) (one_ticked (mark && live) (at_ x n (top ∷ below) k) ds n)
        ∙ (ap (raises W (at_ x counted_now (top ∷ below) k) why (λ c. thrown W c (Ref x) top below)) class
        ∙ ap (thrown_to (with_new (at_ x counted_now (top ∷ below) k) (new_object W of)) why) caught)

    thrown_on : (why : EndCause) (object : ℕ) (class : ClassId) (f : Activation) (fs : List Activation) → thrown W class (Ref object) top below ≡ f ∷ fs →
        next_by set W t (mark && live) (at_ 0 n (top ∷ below) k) top below (move.Throws object class why) ≡ Goes (at_ 0 counted_now (f ∷ fs) k)
    thrown_on why object class f fs caught =
        ap (λ (z : Standing). thrown_to z why (thrown W class (Ref object) top below)) (one_ticked (mark && live) (at_ 0 n (top ∷ below) k) ds n)
        ∙ ap (thrown_to (at_ 0 counted_now (top ∷ below) k) why) caught

    further_on : GoesOn W top below (moves W top below k) k calls y → GoesTo set W marks t first (at_ 0 counted_now calls y)
    further_on (Went (RanOn change e)) = stays (moved_by 0 (move.Runs change calls y) e ∙ ap Goes (one_ticked (mark && live) (at_ 0 n calls y) ds n))
    further_on (Went (MadeOne object at before e pushed free now)) =
        Further (at_ 0 n (top ∷ below) k) at (at + 1) goes (λ takes. free)
        (moved_by at (move.Makes object before k) e ∙ (ap Goes (one_ticked (mark && live) (at_ (at + 1) n (push_value (Ref at) before) (insert k at object)) ds n)
        ∙ (λ i. Goes (at_ (at + 1) counted_now (sym pushed i) (sym now i)))))
    further_on (Caught why of name f fs e class free now caught are) =
        Further (at_ 0 n (top ∷ below) k) name (name + 1) goes (λ takes. free)
        (moved_by name (move.Raises why) e ∙ (raised_to name why of f fs class caught ∙ (λ i. Goes (at_ (name + 1) counted_now (sym are i) (sym now i)))))
    further_on (Thrown why object class f fs e same caught are) =
        stays (moved_by 0 (move.Throws object class why) e ∙ (thrown_on why object class f fs caught ∙ (λ i. Goes (at_ 0 counted_now (sym are i) (sym same i)))))

  step_on : (n m : ℕ) (mark : Bool) (mid : List Activation) (x : Objects) (calls : List Activation) (k : Objects) → IsLeft m mark → n ≡ tick_if (mark && live) m → NextHas W marks mark mid → StepsOn W mid x calls k → GoesTo set W marks t first (at_ 0 m mid x) → GoesTo set W marks t first (at_ 0 n calls k)
  step_on n m mark [] x calls k left more has step goes = absurd has
  step_on n m mark (top ∷ below) x calls k left more has step goes =
      subst (λ (q : ℕ). GoesTo set W marks t first (at_ 0 q calls k)) (sym more) (further_on m mark top below x calls k has left goes step)

  pub goes_on : (n : ℕ) (calls : List Activation) (k : Objects) → n ≤ limit → CountedRunsTo W marks live (cs) hs n calls k → GoesTo set W marks t first (at_ 0 n calls k)
  goes_on n calls k few (counted.AtFirst z same heap) =
      let e = none_more ds n z in
      AtFirst (λ i. record { frames = same i; fiber = b.records; heap = heap i; next = 0; done = e i; boxes = b.boxes; kept = b.kept; aside = aside_in b.apart })
  goes_on n calls k few (counted.Further mark m mid x runs has step more) =
      let before = few_before (mark && live) limit n m few more in
      step_on n m mark mid x calls k before.1 more has step (goes_on m mid x before.0 runs)

  -- each step is safe
  pub safe_going : IsReadyOn set W marks t first → IsCountedSafe W marks live limit (cs) hs
  safe_going ready = λ n mark top below k few left runs has. (ready (at_ 0 n (top ∷ below) k) (goes_on n (top ∷ below) k few runs)).fine top below refl (not_spent n mark top below k has left)

  -- ---- what ends it

  -- the body with what the run left
  abbrev pub after : ℕ → Frames → Objects → Body
  after n new k = record b { frames = Some new; heap = k; count = ds + n }

  -- by a next move
  comes_by : (n : ℕ) (mark : Bool) (top : Activation) (below : List Activation) (k : Objects) (w : Move) → IsMark W marks top.method top.place mark → IsLeft n mark → moves W top below k ≡ w → GoesTo set W marks t first (at_ 0 n (top ∷ below) k) →
      ComesTo set W marks t first (next_by set W t (mark && live) (at_ 0 n (top ∷ below) k) top below w)
  comes_by n mark top below k w is left e goes = record {
    mid = at_ 0 n (top ∷ below) k;
    goes = goes;
    is = next_here 0 n mark top below k is left ∙ ap (next_by set W t (mark && live) (at_ 0 n (top ∷ below) k) top below) e;
  }

  to_next : (x y : Next) → x ≡ y → ComesTo set W marks t first x → ComesTo set W marks t first y
  to_next x y e c = subst (ComesTo set W marks t first) e c

  module _ (ready : IsReadyOn set W marks t first) (n : ℕ) (mark : Bool) (top : Activation) (below : List Activation) (h : Objects) (new : Frames) (k : Objects) (goes : GoesTo set W marks t first (at_ 0 n (top ∷ below) h)) where
    abbrev l : Standing
    l = at_ 0 n (top ∷ below) h

    abbrev counts : Bool
    counts = mark && live

    fine_here : IsMark W marks top.method top.place mark → IsLeft n mark → IsFine W top below h
    fine_here is left = (ready l goes).fine top below refl (not_spent n mark top below h is left)

    fits_here : IsMark W marks top.method top.place mark → IsLeft n mark → MoveFits set.program W h (moves W top below h)
    fits_here is left = (ready l goes).fits top below refl (not_spent n mark top below h is left)

    -- behind what was handed out it stands as the body does
    behind_is : k ≡ h → stood l (answered new) h ≡ behind_at 0 (after n new k)
    behind_is same = ap (stood l (answered new)) (sym same)

    opened : IsMark W marks top.method top.place mark → IsLeft n mark → Steps (moves W top below h) stepped.NewBox (top ∷ below) new h k → HasGone set W marks t first (after n new k) counts halted.NewBox
    opened is left e =
        (opens_fit W top below h h _ _ (fine_here is left) e.0, to_next _ _ (ap (opens_next t counts) (behind_is e.1.heap)) (comes_by n mark top below h (move.Opens (answered new) h) is left e.0 goes))

    asked_is : (id : MethodId) → IsMark W marks top.method top.place mark → IsLeft n mark → Steps (moves W top below h) (stepped.AtNative (asked_of id new)) (top ∷ below) new h k →
        (x : ℕ) → next_of set W marks t (named x l) ≡ asks_next set W (behind_at x (after n new k)) (operands_of new) (native_of W id)
    asked_is id is left e x =
        next_here x n mark top below h is left
        ∙ (ap (next_by set W t counts (at_ x n (top ∷ below) h) top below) e.0
        ∙ ap (λ (z : Objects). asks_next set W (stood (at_ x n (top ∷ below) h) (answered new) z) (operands_of new) (native_of W id)) (sym e.1.heap))

    asked : (id : MethodId) → (new.operands ≤ length new.top.stack.values) → IsMark W marks top.method top.place mark → IsLeft n mark → Steps (moves W top below h) (stepped.AtNative (asked_of id new)) (top ∷ below) new h k → HasGone set W marks t first (after n new k) counts (halted.Asks id)
    asked id there is left e =
        let fits = subst (MoveFits set.program W h) e.0 (fits_here is left) in
        record {
          operands = there;
          can = record {
            made = record { set = set; is-limits = refl; never = λ none. stands_never set W marks t first l (ready l goes) 0 (asked_is id is left e 0 ∙ none) };
            room = λ gives. fits.0 gives;
            gives = λ root at given. subst (λ (z : Objects). CanGive set.program z at) (sym e.1.heap) (fits.1 root at given);
          };
          comes = record { mid = l; goes = goes; heap = sym e.1.heap; is = asked_is id is left e };
        }

    returned : IsMark W marks top.method top.place mark → IsLeft n mark → Steps (moves W top below h) stepped.Returned (top ∷ below) new h k → HasGone set W marks t first (after n new k) counts halted.Returned
    returned is left e =
        let same : l ≡ standing_at 0 (after n new k) = λ i. at_ 0 n (sym e.1.frames i) (sym e.1.heap i) in
        to_next _ _ (ap (λ (z : Standing). finish_next set W z b.kept) same) (comes_by n mark top below h (move.Returns h) is left e.0 goes)

    ended_by : (why : EndCause) (w : Move) → IsMark W marks top.method top.place mark → IsLeft n mark → moves W top below h ≡ w → IsEnding W top below w why → ComesTo set W marks t first (Ends why)
    ended_by why (move.Raises other) is left e ends =
        to_next _ _ (uncaught W (ticked counts l) other (λ c. thrown W c (Ref 0) top below) (raised_class W (index_at W top) other) (λ c known. ends.1 c known (Ref 0)) ∙ ap Ends ends.0)
        (comes_by n mark top below h (move.Raises other) is left e goes)
    ended_by why (move.Throws object class other) is left e ends =
        to_next _ _ (ap (thrown_to (ticked counts l) other) ends.1 ∙ ap Ends ends.0) (comes_by n mark top below h (move.Throws object class other) is left e goes)
    ended_by why (move.Ends other) is left e ends = to_next _ _ (ap Ends ends) (comes_by n mark top below h (move.Ends other) is left e goes)
    ended_by why (move.Runs change frames heap) is left e ends = absurd ends
    ended_by why (move.Makes object frames heap) is left e ends = absurd ends
    ended_by why (move.Opens frames heap) is left e ends = absurd ends
    ended_by why (move.Asks id args frames heap) is left e ends = absurd ends
    ended_by why (move.Returns heap) is left e ends = absurd ends
    ended_by why move.Stuck is left e ends = absurd ends

    over : IsMark W marks top.method top.place mark → counts ≡ true → n ≡ limit → ComesTo set W marks t first (Ends cause.Spent)
    over is counts-is full =
        let next : next_of set W marks t l ≡ Ends cause.Spent =
        spent_or_next 0 n mark top below h is ∙ ap (λ (z : Bool). cond z (Ends cause.Spent) (next_by set W t counts l top below (moves W top below h))) (spent counts set.limits.steps ds limit n all counts-is full) in
        record { mid = l; goes = goes; is = next }

  gone_on : (n : ℕ) (mark : Bool) (calls : List Activation) (h : Objects) (halt : Halted) (new : Frames) (k : Objects) → IsReadyOn set W marks t first → GoesTo set W marks t first (at_ 0 n calls h) → IsCountedLast W marks live limit n calls h mark halt new k →
      HasGone set W marks t first (after n new k) (mark && live) halt
  gone_on n mark calls h halted.Stops new k ready goes r = subst (λ (z : Standing). GoesTo set W marks t first z) (λ i. at_ 0 n (sym r.0 i) (sym r.1 i)) goes
  gone_on n mark [] h halted.Spent new k ready goes r = absurd r.has
  gone_on n mark (top ∷ below) h halted.Spent new k ready goes r = over ready n mark top below h new k goes r.has r.counts r.all
  gone_on n mark [] h halted.NewBox new k ready goes r = absurd r.has
  gone_on n mark (top ∷ below) h halted.NewBox new k ready goes r = opened ready n mark top below h new k goes r.has r.left r.step
  gone_on n mark [] h (halted.Asks id) new k ready goes r = absurd r.1.has
  gone_on n mark (top ∷ below) h (halted.Asks id) new k ready goes r = asked ready n mark top below h new k goes id r.0 r.1.has r.1.left r.1.step
  gone_on n mark [] h halted.Returned new k ready goes r = absurd r.has
  gone_on n mark (top ∷ below) h halted.Returned new k ready goes r = returned ready n mark top below h new k goes r.has r.left r.step
  gone_on n mark [] h (halted.Ended why) new k ready goes r = absurd r.has
  gone_on n mark (top ∷ below) h (halted.Ended why) new k ready goes r = ended_by ready n mark top below h new k goes why (moves W top below h) r.has r.left refl r.step

  pub gone_to : (n : ℕ) (mark : Bool) (halt : Halted) (new : Frames) (k : Objects) → IsReadyOn set W marks t first → HasCountedRun W marks live limit (cs) hs n mark halt new k → HasGone set W marks t first (after n new k) (mark && live) halt
  gone_to n mark halt new k ready run = gone_on n mark run.calls run.heap halt new k ready (goes_on n run.calls run.heap run.most run.runs) run.last
