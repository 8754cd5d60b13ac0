-- What a fiber that rests keeps.
use Rattle.std.proofs.Common.{◌≡◌, ◌+◌, Bool, true, false, length, Option, Some, None, Result, Ok, Err, sym, ap, subst, ◌∙◌, arith}
use Rattle.std.specs.Prelude.{IfOk}
use Rattle.kilim_run_model.specs.declared.waits.Waits.{Waits}
use Rattle.kilim_run_board.specs.fibers.Fibers.{CanRun, StandsFor}
use Rattle.kilim_run_board.specs.declared.fibers.Wants.{Wants}
use Rattle.kilim_run_board.specs.declared.fibers.Wants.TheVariants as wants
use Rattle.kilim_run_state.specs.declared.frames.frames.Frames.{Frames}
use Rattle.kilim_run_state.specs.declared.run.Limits.{Limits}
use Rattle.kilim_run_model.specs.State.{Setting}
use Rattle.kilim_units.specs.declared.memory.NoMemory.{NoMemory}
use Rattle.kilim_fiber_body.specs.Body.{calls_in, standing_at}
use Rattle.kilim_fiber_body.specs.declared.body.Body.{Body}
use Rattle.kilim_fiber_body.specs.declared.body.Came.{Came}
use Rattle.kilim_fiber_body.specs.declared.body.Came.TheVariants as came
use Rattle.kilim_fiber_body.specs.declared.code.Code.{Code}
use Rattle.kilim_fiber.specs.Calls.{EndsIdle, HasWanted, RestsAt, WantsBy, is_rest}
use Rattle.kilim_fiber.specs.Clauses.{RestsInRecords}
use Rattle.kilim_fiber.specs.Fiber.{task_of, course_of, CameTo, HoldsFiber, ServesCode}
use Rattle.kilim_fiber_steps.specs.records.Members.{deeper_of}
use Rattle.kilim_fiber.specs.Records.{NoFrameIsLeft, records_in, records_of}
use Rattle.kilim_fiber.specs.declared.fiber.Asked.{Asked}
use Rattle.kilim_fiber.specs.declared.fiber.Fiber.{Fiber}
use Rattle.kilim_fiber.proofs.Left.{Keeps, keeps_each}

on_ok : {A E : Type 0} (r : Result A E) (P Q : A → Type 0) → ((a : A) → P a → Q a) → IfOk r P → IfOk r Q
on_ok (Ok x) P Q go w = go x w
on_ok (Err x) P Q go w = tt

module _ (code : Code) (limits : Limits) where
  abbrev Gives : Fiber → Fiber → Wants Fiber → Type 0
  Gives old new w = RestsInRecords code limits old new w

  abbrev StandsIn : Setting → Fiber → Type 0
  StandsIn set f = StandsFor task_of course_of (HoldsFiber code.program code.counted) set f

  abbrev MayRun : Fiber → Type 0
  MayRun f = CanRun task_of course_of (HoldsFiber code.program code.counted) ServesCode code limits f

  abbrev Came_to : Fiber → Body → Came → Type 0
  Came_to f b a = (set : Setting) → ServesCode set code → set.limits ≡ limits → (s : StandsIn set f) → CameTo code.program code.counted set f.task (course_of f) s.lone b a

  giving : (old new : Fiber) (w v : Wants Fiber) → w ≡ v → Gives old new v → Gives old new w
  giving old new w v e g = subst (λ (z : Wants Fiber). Gives old new z) (sym e) g

  -- ---- a body that came to rest

  module _ (f : Fiber) (b : Body) (busy : f.idle ≡ false) (none : b.frames ≡ None) (can : MayRun f) (comes : Came_to f b came.Rests) where
    abbrev now : Asked → Option Waits → Fiber
    now q refused = record f { body = b; asked = q; refused = refused; rests = true }

    keeps : (set : Setting) → ServesCode set code → set.limits ≡ limits → (s : StandsIn set f) → Keeps set f.task (course_of f) b.records
    keeps set served is-limits s =
        keeps_each set code.program code.counted served.can f.task (course_of f) (standing_at 0 b) (comes set served is-limits s).next (ap calls_in none)

    count : (q : Asked) (refused : Option Waits) → records_of (now q refused) ≡ 1 + length (deeper_of b.records)
    count q refused = ap (λ (o : Option Frames). records_in o f.idle b.records) none ∙ ap (λ (z : Bool). records_in None z b.records) busy

    rests : (q : Asked) (refused : Option Waits) (waits : Option Waits) → Gives f (now q refused) (wants.Rest waits)
    rests q refused waits = (
      record { busy = busy; frames = none; records = (keeps can.set can.served can.is-limits can.stands).left },
      λ set served is-limits s.
          let all = keeps set served is-limits s in
          let many = all.count in
          let same = count q refused in
          record { here = all.here; is = all.is; count = omega (arith, many, same) },
    )

  -- ---- the branches of the call

  pub idle_rests : (old new : Fiber) (w : Wants Fiber) → EndsIdle limits old new w → Gives old new w
  idle_rests old new w e = giving old new w _ e.ends tt

  refused_gives : (f mid new : Fiber) (v : Waits) (a : Came) (w : Wants Fiber) → f.idle ≡ false → mid ≡ record f { body = mid.body } → MayRun f → NoFrameIsLeft a mid.body → Came_to f mid.body a → RestsAt v a mid new w → Gives f new w
  refused_gives f mid new v a w busy same can none comes e =
      let had = subst (λ (m : Fiber). RestsAt v a m new w) same e in
      let left = subst (λ (z : Came). NoFrameIsLeft z mid.body) had.came-is none in
      let here = subst (Came_to f mid.body) had.came-is comes in
      giving f new w (wants.Rest (Some v)) had.rests (subst (λ (z : Fiber). Gives f z (wants.Rest (Some v))) (sym had.same) (rests f mid.body busy left can here f.asked None (Some v)))

  pub refused_rests : (f mid new : Fiber) (v : Waits) (a : Came) (r : Result (Wants Fiber) NoMemory) → f.idle ≡ false → mid ≡ record f { body = mid.body } → MayRun f → NoFrameIsLeft a mid.body → Came_to f mid.body a →
      IfOk r (λ w. RestsAt v a mid new w) → IfOk r (λ w. Gives f new w)
  refused_rests f mid new v a r busy same can none comes e = on_ok r (λ w. RestsAt v a mid new w) (λ w. Gives f new w) (λ w x. refused_gives f mid new v a w busy same can none comes x) e

  module _ (f : Fiber) (b : Body) (busy : f.idle ≡ false) (can : MayRun f) (q : Asked) where
    abbrev after : Came → Fiber
    after a = record f { body = b; asked = q; rests = is_rest a }

    gives : (a : Came) (w : Wants Fiber) → NoFrameIsLeft a b → Came_to f b a → WantsBy code.program f.main a w q → Gives f (after a) w
    gives came.On w none comes e = absurd e
    gives (came.Puts box tree shape) w none comes e = giving f (after (came.Puts box tree shape)) w _ e.0 tt
    gives (came.PutWaits box tree shape) w none comes e = giving f (after (came.PutWaits box tree shape)) w _ e.0 tt
    gives (came.Bounds box most) w none comes e = giving f (after (came.Bounds box most)) w _ e.0 tt
    gives (came.Takes box) w none comes e = giving f (after (came.Takes box)) w _ e.0 tt
    gives (came.Probes box) w none comes e = giving f (after (came.Probes box)) w _ e.0 tt
    gives (came.Starts tree shape) w none comes e = giving f (after (came.Starts tree shape)) w (wants.Start e.0 shape) e.1 tt
    gives (came.Prints shape) w none comes e = giving f (after (came.Prints shape)) w _ e.0 tt
    gives came.Rests w none comes e = giving f (after came.Rests) w (wants.Rest None) e (rests f b busy none can comes q f.refused None)
    gives (came.Ends why) w none comes e = giving f (after (came.Ends why)) w _ e tt

  wants_gives : (f mid new : Fiber) (a : Came) (w : Wants Fiber) → f.idle ≡ false → mid ≡ record f { body = mid.body } → MayRun f → NoFrameIsLeft a mid.body → Came_to f mid.body a → HasWanted code.program limits f.body.count a mid new w → Gives f new w
  wants_gives f mid new a w busy same can none comes e =
      let had = subst (λ (m : Fiber). HasWanted code.program limits f.body.count a m new w) same e in
      subst (λ (z : Fiber). Gives f z w) (sym had.same) (gives f mid.body busy can had.asked a w none comes had.by)

  pub wants_rests : (f mid new : Fiber) (a : Came) (r : Result (Wants Fiber) NoMemory) → f.idle ≡ false → mid ≡ record f { body = mid.body } → MayRun f → NoFrameIsLeft a mid.body → Came_to f mid.body a →
      IfOk r (λ w. HasWanted code.program limits f.body.count a mid new w) → IfOk r (λ w. Gives f new w)
  wants_rests f mid new a r busy same can none comes e = on_ok r (λ w. HasWanted code.program limits f.body.count a mid new w) (λ w. Gives f new w) (λ w x. wants_gives f mid new a w busy same can none comes x) e
