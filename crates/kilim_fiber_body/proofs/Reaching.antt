-- From one leg to the next.
use Rattle.std.proofs.Common.{◌≡◌, ℕ, Bool, true, List, Option, None, Result, Ok, Err, refl, sym, ap, subst, ◌∙◌}
use Rattle.std.specs.Prelude.{IfOk}
use Rattle.std.specs.FinMap.{get}
use Rattle.kilim_program.specs.Program.{Program}
use Rattle.kilim_run_state.specs.Machine.{Objects}
use Rattle.kilim_run_state.specs.declared.frames.frames.Frames.{Frames}
use Rattle.kilim_run_model.specs.State.{Setting}
use Rattle.kilim_units.specs.declared.memory.NoMemory.{NoMemory}
use Rattle.kilim_fiber_spec.specs.Fibers.{executes_on, first_receiver}
use Rattle.kilim_fiber_laws.specs.woven_kin.Standing.{Standing}
use Rattle.kilim_fiber_laws.specs.woven_kin.Nexts.{Next, Stands, next_in, next_of, resumes_next}
use Rattle.kilim_fiber_laws.specs.woven_kin.Alike.{TakesName}
use Rattle.kilim_fiber_body.specs.Body.{calls_in, standing_at}
use Rattle.kilim_fiber_body.specs.Comes.{Comes, ComesBy}
use Rattle.kilim_fiber_body.specs.Legs.{ComesTo, ComesToAny}
use Rattle.kilim_fiber_body.specs.Reach.{GoesTo, AtFirst, Further, IsReadyOn, IsWanting, Reaches, HasReached, named}
use Rattle.kilim_fiber_body.specs.Steps.{IsReadyAt}
use Rattle.kilim_fiber_body.specs.declared.body.Body.{Body}
use Rattle.kilim_fiber_body.specs.declared.body.Came.{Came}
use Rattle.kilim_fiber_body.specs.declared.body.Came.TheVariants as came
use Rattle.kilim_fiber_body.proofs.Asking.{takes_none}

module _ (set : Setting) (W : Program) (marks : List (List Bool)) (t : ℕ) (first : Standing) where
  -- joined
  pub joined : {mid : Standing} (m : Standing) → GoesTo set W marks t first mid → GoesTo set W marks t mid m → GoesTo set W marks t first m
  joined {mid = mid} m goes (AtFirst e) = subst (λ (z : Standing). GoesTo set W marks t first z) (sym e) goes
  joined {mid = mid} m goes (Further l x y far free next) = Further l x y (joined l goes far) free next

  -- what comes next isn't where no verified code comes
  pub stands_never : (m : Standing) → IsReadyAt set W marks t m → (x : ℕ) → next_of set W marks t (named x m) ≡ Stands → ⊥
  stands_never m ready x e = ready.never x (λ takes. absurd (subst (TakesName x) e takes)) e

  -- ---- what comes next is what it comes to

  module _ (next : Next) (new : Body) (comes-to : ComesTo set W marks t first next) where
    taken_none : (c : Came) → Comes 0 next new c → TakesName 0 (next_of set W marks t (named 0 comes-to.mid)) → ⊥
    taken_none c comes takes = takes_none next new c comes (subst (TakesName 0) comes-to.is takes)

    wants : (c : Came) → Comes 0 next new c → Reaches set W marks t first new c
    wants c comes = record {
      mid = comes-to.mid;
      goes = comes-to.goes;
      free = 0;
      is-free = λ takes. absurd (taken_none c comes takes);
      after = 0;
      comes = subst (λ (z : Next). Comes 0 z new c) (sym comes-to.is) comes;
    }

    pub came_next : (c : Came) → Comes 0 next new c → HasReached set W marks t first new c
    came_next came.On comes = Further comes-to.mid 0 0 comes-to.goes (λ takes. absurd (taken_none came.On comes takes)) (comes-to.is ∙ comes)
    came_next (came.Puts box tree shape) comes = wants (came.Puts box tree shape) comes
    came_next (came.PutWaits box tree shape) comes = wants (came.PutWaits box tree shape) comes
    came_next (came.Bounds box most) comes = wants (came.Bounds box most) comes
    came_next (came.Takes box) comes = wants (came.Takes box) comes
    came_next (came.Probes box) comes = wants (came.Probes box) comes
    came_next (came.Starts tree shape) comes = wants (came.Starts tree shape) comes
    came_next (came.Prints shape) comes = wants (came.Prints shape) comes
    came_next came.Rests comes = wants came.Rests comes
    came_next (came.Ends why) comes = wants (came.Ends why) comes

    pub came_ok : (r : Result Came NoMemory) → IfOk r (λ c. Comes 0 next new c) → IfOk r (λ c. HasReached set W marks t first new c)
    came_ok (Ok c) comes = came_next c comes
    came_ok (Err e) comes = tt

  -- the same of what comes next under some name
  module _ (h : Objects) (next : ℕ → Next) (new : Body) (comes-to : ComesToAny set W marks t first h next) where
    free_there : (c : Came) (r : ComesBy h next new c) → TakesName r.name (next_of set W marks t (named r.name comes-to.mid)) → get comes-to.mid.heap r.name ≡ None
    free_there c r takes = ap (λ (z : Objects). get z r.name) comes-to.heap ∙ r.free (subst (TakesName r.name) (comes-to.is r.name) takes)

    asks : (c : Came) → ComesBy h next new c → Reaches set W marks t first new c
    asks c r = record {
      mid = comes-to.mid;
      goes = comes-to.goes;
      free = r.name;
      is-free = free_there c r;
      after = r.after;
      comes = subst (λ (z : Next). Comes r.after z new c) (sym (comes-to.is r.name)) r.comes;
    }

    asked_next : (c : Came) → ComesBy h next new c → HasReached set W marks t first new c
    asked_next came.On r = Further comes-to.mid r.name r.after comes-to.goes (free_there came.On r) (comes-to.is r.name ∙ r.comes)
    asked_next (came.Puts box tree shape) r = asks (came.Puts box tree shape) r
    asked_next (came.PutWaits box tree shape) r = asks (came.PutWaits box tree shape) r
    asked_next (came.Bounds box most) r = asks (came.Bounds box most) r
    asked_next (came.Takes box) r = asks (came.Takes box) r
    asked_next (came.Probes box) r = asks (came.Probes box) r
    asked_next (came.Starts tree shape) r = asks (came.Starts tree shape) r
    asked_next (came.Prints shape) r = asks (came.Prints shape) r
    asked_next came.Rests r = asks came.Rests r
    asked_next (came.Ends why) r = asks (came.Ends why) r

    pub asked_ok : (r : Result Came NoMemory) → IfOk r (λ c. ComesBy h next new c) → IfOk r (λ c. HasReached set W marks t first new c)
    asked_ok (Ok c) comes = asked_next c comes
    asked_ok (Err e) comes = tt

-- where it rests
pub rests_next : (set : Setting) (W : Program) (marks : List (List Bool)) (t : ℕ) (b : Body) → b.frames ≡ None → ComesTo set W marks t (standing_at 0 b) (resumes_next W (standing_at 0 b) (executes_on W b.heap (first_receiver b.records)))
unfolding next_of
rests_next set W marks t b none = record {
  mid = standing_at 0 b;
  goes = AtFirst refl;
  is = ap (λ (o : Option Frames). next_in set W marks t (standing_at 0 b) (calls_in o)) none;
}

-- and it has an `execute` to go on with
pub rests_made : (set : Setting) (W : Program) (marks : List (List Bool)) (t : ℕ) (b : Body) → b.frames ≡ None → IsReadyOn set W marks t (standing_at 0 b) → executes_on W b.heap (first_receiver b.records) ≡ None → ⊥
rests_made set W marks t b none ready e =
    let r = rests_next set W marks t b none in
    stands_never set W marks t (standing_at 0 b) r.mid (ready r.mid r.goes) 0 (r.is ∙ ap (resumes_next W (standing_at 0 b)) e)

-- ---- what it comes to

pub wanting_by : (c : Came) → (c ≡ came.On → ⊥) → IsWanting c ≡ true
wanting_by came.On out = absurd (out refl)
wanting_by (came.Puts box tree shape) out = refl
wanting_by (came.PutWaits box tree shape) out = refl
wanting_by (came.Bounds box most) out = refl
wanting_by (came.Takes box) out = refl
wanting_by (came.Probes box) out = refl
wanting_by (came.Starts tree shape) out = refl
wanting_by (came.Prints shape) out = refl
wanting_by came.Rests out = refl
wanting_by (came.Ends why) out = refl

module _ (set : Setting) (W : Program) (marks : List (List Bool)) (t : ℕ) (first : Standing) where
  -- from an earlier standing on
  later : (mid : Standing) (new : Body) (c : Came) → GoesTo set W marks t first mid → Reaches set W marks t mid new c → Reaches set W marks t first new c
  later mid new c goes r = record { mid = r.mid; goes = joined set W marks t first r.mid goes r.goes; free = r.free; is-free = r.is-free; after = r.after; comes = r.comes }

  pub reached_later : (mid : Standing) (new : Body) (c : Came) → (c ≡ came.On → ⊥) → GoesTo set W marks t first mid → HasReached set W marks t mid new c → Reaches set W marks t first new c
  reached_later mid new came.On out goes r = absurd (out refl)
  reached_later mid new (came.Puts box tree shape) out goes r = later mid new (came.Puts box tree shape) goes r
  reached_later mid new (came.PutWaits box tree shape) out goes r = later mid new (came.PutWaits box tree shape) goes r
  reached_later mid new (came.Bounds box most) out goes r = later mid new (came.Bounds box most) goes r
  reached_later mid new (came.Takes box) out goes r = later mid new (came.Takes box) goes r
  reached_later mid new (came.Probes box) out goes r = later mid new (came.Probes box) goes r
  reached_later mid new (came.Starts tree shape) out goes r = later mid new (came.Starts tree shape) goes r
  reached_later mid new (came.Prints shape) out goes r = later mid new (came.Prints shape) goes r
  reached_later mid new came.Rests out goes r = later mid new came.Rests goes r
  reached_later mid new (came.Ends why) out goes r = later mid new (came.Ends why) goes r

  pub went_later : (mid : Standing) (new : Body) (c : Came) → c ≡ came.On → GoesTo set W marks t first mid → HasReached set W marks t mid new c → GoesTo set W marks t first (standing_at 0 new)
  went_later mid new c e goes r = joined set W marks t first (standing_at 0 new) goes (subst (λ (z : Came). HasReached set W marks t mid new z) e r)
