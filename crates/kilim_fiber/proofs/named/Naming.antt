-- The contract of fibers, where the program of the code is the one that is named.
use Rattle.std.proofs.Common.{◌≡◌, ◌≤◌, ℕ, Bool, List, [], Option, Result, sym, ap, subst, ◌∙◌}
use Rattle.std.specs.Prelude.{OnOk}
use Rattle.kilim_run_state.specs.declared.run.Limits.{Limits}
use Rattle.kilim_units.specs.declared.memory.NoMemory.{NoMemory}
use Rattle.kilim_run_board.specs.declared.fibers.Answer.{Answer}
use Rattle.kilim_run_board.specs.declared.fibers.Wants.{Wants}
use Rattle.kilim_run_board.specs.fibers.Fibers.{Asks, CanAnswer, CanRun, CountsRightly, Resumed, course_after}
use Rattle.kilim_run_board.specs.fibers.Wishes.{Wish}
use Rattle.kilim_run_model.specs.declared.deed.Deed.{Deed}
use Rattle.kilim_fiber.specs.Clauses.{Went}
use Rattle.kilim_fiber.specs.Fiber.{AskedOf, ServesCode}
use Rattle.kilim_fiber.specs.Past.{deeds_of}
use Rattle.kilim_program.specs.Program.{Program}
use Rattle.kilim_run_model.specs.State.{Setting}
use Rattle.kilim_run_board.specs.fibers.Fibers.{StandsFor}
use Rattle.kilim_fiber_body.specs.declared.code.Code.{Code}
use Rattle.kilim_fiber.specs.Fiber.{task_of, course_of, HoldsFiber}
use Rattle.kilim_fiber.specs.declared.fiber.Fiber.{Fiber}
use Rattle.kilim_fiber.proofs.Beginning.{numbered}
use Rattle.kilim_fiber.specs.named.Named.{ServesNamed}

module _ (W : Program) (marks : List (List Bool)) where
  abbrev Holds : Setting → Fiber → Type 0
  Holds set f = StandsFor task_of course_of (HoldsFiber W marks) set f

  abbrev HoldsIn : Code → Setting → Fiber → Type 0
  HoldsIn code set f = StandsFor task_of course_of (HoldsFiber code.program code.counted) set f

  -- from what is said of the code's program to what is said of the one that is named
  to_named : (T : Program → List (List Bool) → Type 0) (set : Setting) (code : Code) → ServesNamed W marks set code → T code.program code.counted → T W marks
  to_named T set code s w = subst (λ (V : Program). T V marks) s.program (subst (λ (ms : List (List Bool)). T code.program ms) s.counted w)

  pub boot_named : (set : Setting) (code : Code) (f g : Fiber) → g ≡ f → ServesNamed W marks set code → HoldsIn code set f → Holds set g
  boot_named set code f g e s h = subst (λ (x : Fiber). Holds set x) (sym e) (to_named (λ V ms. StandsFor task_of course_of (HoldsFiber V ms) set f) set code s h)

  pub number_named : (set : Setting) (f old new : Fiber) (k : ℕ) → f ≡ old → deeds_of old.past.value ≡ [] → old.body.count ≡ 0 → new ≡ record f { task = k } → Holds set old → Holds set new
  number_named set f old new k e none zero same s =
      subst (λ (x : Fiber). Holds set x) (ap (λ (x : Fiber). record x { task = k }) (sym e) ∙ sym same) (numbered W marks set old k none zero s)

  -- and back
  from_named : (T : Program → List (List Bool) → Type 0) (set : Setting) (code : Code) → ServesNamed W marks set code → T W marks → T code.program code.counted
  from_named T set code s w = subst (λ (V : Program). T V code.counted) (sym s.program) (subst (λ (ms : List (List Bool)). T W ms) (sym s.counted) w)

  held_named : (set : Setting) (code : Code) (f old : Fiber) → f ≡ old → ServesNamed W marks set code → Holds set old → HoldsIn code set f
  held_named set code f old e s h = subst (λ (x : Fiber). HoldsIn code set x) (sym e) (from_named (λ V ms. StandsFor task_of course_of (HoldsFiber V ms) set old) set code s h)

  pub asked_named : (set : Setting) (code : Code) (f old : Fiber) (wish : Wish) → f ≡ old → ServesNamed W marks set code → Asks task_of course_of (AskedOf W marks) set old wish → Asks task_of course_of (AskedOf code.program code.counted) set f wish
  asked_named set code f old wish e s a =
      subst (λ (x : Fiber). Asks task_of course_of (AskedOf code.program code.counted) set x wish) (sym e) (from_named (λ V ms. Asks task_of course_of (AskedOf V ms) set old wish) set code s a)

  pub run_named : (code : Code) (limits : Limits) (f old : Fiber) → f ≡ old → CanRun task_of course_of (HoldsFiber W marks) (ServesNamed W marks) code limits old → CanRun task_of course_of (HoldsFiber code.program code.counted) ServesCode code limits f
  run_named code limits f old e c = record { set = c.set; served = c.served.serves; is-limits = c.is-limits; stands = held_named c.set code f old e c.served c.stands }

  pub answer_named : (code : Code) (f old : Fiber) (a : Answer) → f ≡ old → CanAnswer task_of course_of (AskedOf W marks) (ServesNamed W marks) code old a → CanAnswer task_of course_of (AskedOf code.program code.counted) ServesCode code f a
  answer_named code f old a e c = record { set = c.set; served = c.served.serves; wish = c.wish; deed = c.deed; asks = asked_named c.set code f old c.wish e c.served c.asks; fits = c.fits }

  pub wants_named : (code : Code) (limits : Limits) (f old new : Fiber) (w v : Wants Fiber) → f ≡ old → v ≡ w →
      ((set : Setting) → ServesCode set code → set.limits ≡ limits → HoldsIn code set f → Resumed task_of course_of (HoldsFiber code.program code.counted) (AskedOf code.program code.counted) set new w) →
      (set : Setting) → ServesNamed W marks set code → set.limits ≡ limits → Holds set old → Resumed task_of course_of (HoldsFiber W marks) (AskedOf W marks) set new v
  wants_named code limits f old new w v e d gives set s l h =
      subst (λ (x : Wants Fiber). Resumed task_of course_of (HoldsFiber W marks) (AskedOf W marks) set new x) (sym d)
      (to_named (λ V ms. Resumed task_of course_of (HoldsFiber V ms) (AskedOf V ms) set new w) set code s (gives set s.serves l (held_named set code f old e s h)))

  abbrev GoesOn : Program → List (List Bool) → Setting → Wish → Option Deed → Fiber → Fiber → Type 0
  GoesOn V ms set wish deed old new =
      (course_of new ≡ course_after (course_of old) deed) × StandsFor task_of course_of (HoldsFiber V ms) set new × CountsRightly wish old.body.count new.body.count new.refused deed × (new.body.count ≤ set.limits.steps)

  pub went_named : {A : Type 0} (r : Result A NoMemory) (code : Code) (set : Setting) (f old new : Fiber) (wish : Wish) (deed : Option Deed) → f ≡ old → ServesNamed W marks set code → OnOk r (Went code set f wish deed new) → OnOk r (GoesOn W marks set wish deed old new)
  went_named r code set f old new wish deed e s w =
      subst (λ (x : Fiber). OnOk r (GoesOn W marks set wish deed x new)) e (to_named (λ V ms. OnOk r (GoesOn V ms set wish deed f new)) set code s w)
