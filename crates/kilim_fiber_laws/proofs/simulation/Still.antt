-- While a fiber pauses, nothing changes but its frames and its records; and so it comes to rest.
use Rattle.std.proofs.Common.{◌≡◌, ◌≢◌, inl, inr, ℕ, zero, suc, ◌+◌, ◌≤◌, Bool, true, false, List, [], ◌∷◌, Option, Some, None, refl, sym, ap, subst, ◌∙◌, arith}
use Rattle.std.specs.Prelude.{if◌then◌else◌, pos}
use Rattle.kilim_run_state.specs.declared.cause.EndCause.TheVariants as cause
use Rattle.std.proofs.lemmas.Option.{same_Some}
use Rattle.kilim_program.specs.declared.names.MethodId.{MethodId}
use Rattle.kilim_program.specs.declared.value.Value.{Value}
use Rattle.kilim_program.specs.declared.value.Value.TheVariants as value
use Rattle.kilim_program.specs.Program.{Program}
use Rattle.kilim_run_state.specs.Machine.{Activation}
use Rattle.kilim_run_machine.specs.Natives.{FiberMember, Pc, Down, Up, Save, Place, Restore, Receiver}
use Rattle.kilim_run_model.specs.State.{Setting}
use Rattle.kilim_fiber_spec.specs.Acts.{Lost, World, ending}
use Rattle.kilim_fiber_spec.specs.Fibers.{Fib, Fiber_at, Saved, Woven_state, WRun, Resting, WStop, is_pausing, member_does, wfinishes, wreturns, wstep, wsteps}
use Rattle.kilim_fiber_spec.specs.Runs.{ComesToRest, IsMark, Soon, done_in}
use Rattle.kilim_fiber_spec.specs.Thread.{push}
use Rattle.kilim_fiber_laws.specs.simulation.Throwing.{IsCalm}
use Rattle.kilim_fiber_laws.proofs.simulation.Room.{NextHasRoom}

-- it pauses still, or rests, in that world and with these pauses to come
abbrev pub IsStill : World → List ℕ → Woven_state → Type 0
IsStill w ps (WRun m p l s b f v rest) = (is_pausing f ≡ true) × (v ≡ w) × (rest ≡ ps)
IsStill w ps (Resting f v rest) = (v ≡ w) × (rest ≡ ps)
IsStill w ps (WStop over) = over ≡ Lost

-- a member of the fiber
pub member_still : (nx : ℕ) (m : MethodId) (l s : List Value) (b : List Activation) (w : World) (ps : List ℕ) (k : FiberMember) (args : List Value) (f : Fib) → is_pausing f ≡ true
    → IsStill w ps (member_does (WStop Lost) (λ (f2 : Fib) (v : Option Value). WRun m nx l (push v s) b f2 w ps) k args f)
member_still nx m l s b w ps Pc (value.Fiber ∷ []) (Fiber_at lo (Saved p x vs) de re pa) on = (on, refl, refl)
member_still nx m l s b w ps Down (value.Fiber ∷ []) (Fiber_at lo r [] re pa) on = (on, refl, refl)
member_still nx m l s b w ps Down (value.Fiber ∷ []) (Fiber_at lo r (d ∷ de) re pa) on = (on, refl, refl)
member_still nx m l s b w ps Up (value.Fiber ∷ []) (Fiber_at [] r de re pa) on = refl
member_still nx m l s b w ps Up (value.Fiber ∷ []) (Fiber_at (k ∷ lo) r de re pa) on = (on, refl, refl)
member_still nx m l s b w ps Save (v ∷ value.Fiber ∷ []) (Fiber_at lo (Saved p x vs) de re pa) on = (on, refl, refl)
member_still nx m l s b w ps Place (value.Int (pos n) ∷ y ∷ value.Fiber ∷ []) (Fiber_at lo (Saved p x vs) de re pa) on = (on, refl, refl)
member_still nx m l s b w ps Restore (value.Fiber ∷ []) (Fiber_at lo (Saved p x []) de re pa) on = refl
member_still nx m l s b w ps Restore (value.Fiber ∷ []) (Fiber_at lo (Saved p x (v ∷ vs)) de re pa) on = (on, refl, refl)
member_still nx m l s b w ps Receiver (value.Fiber ∷ []) (Fiber_at lo r [] re pa) on = refl
member_still nx m l s b w ps Receiver (value.Fiber ∷ []) (Fiber_at lo r (Saved p x vs ∷ de) re pa) on = (on, refl, refl)
member_still nx m l s b w ps k args f on = refl

module _ (set : Setting) (W : Program) (marks : List (List Bool)) where
  -- the last frame returns, or another one
  pub return_still : (v : Option Value) (b : List Activation) (f : Fib) (w : World) (ps : List ℕ) → w.kept ≡ None → is_pausing f ≡ true → IsStill w ps (wreturns set W marks false v b f w ps)
  return_still v [] f w ps kept on = subst (λ (o : Option ℕ). IsStill w ps (wfinishes set W marks f w ps o)) (sym kept) (subst (λ (z : Bool). IsStill w ps (if z then Resting f w ps else ending set w WStop cause.Done)) (sym on) (refl, refl))
  return_still v (top ∷ b) f w ps kept on = (on, refl, refl)

  -- the next step of a fiber that pauses
  abbrev pub PausesOn : Woven_state → Type 0
  PausesOn (WRun m p l s b f w ps) = is_pausing f ≡ true → IsStill w ps (wstep set W marks (WRun m p l s b f w ps))
  PausesOn (Resting f w ps) = Unit {0}
  PausesOn (WStop over) = Unit {0}

  none_done : (n : ℕ) → None ≡ Some n → ⊥
  none_done n e = cc

  some_done : (n : ℕ) → Some n ≡ None → ⊥
  some_done n e = cc

  -- where nothing changes, nothing is counted
  uncounted : (w : World) (ps : List ℕ) (y : Woven_state) (n : ℕ) → IsStill w ps y → Some w.done ≡ Some n → done_in y ≡ Some (n + 1) → ⊥
  uncounted w ps (WRun m p l s b f v rest) n still e d =
      let a : v.done ≡ w.done = ap (λ (z : World). z.done) still.1 in
      let c = same_Some w.done n e in
      let g = same_Some v.done (n + 1) d in
      omega (arith, a, c, g)
  uncounted w ps (Resting f v rest) n still e d = none_done (n + 1) d
  uncounted w ps (WStop over) n still e d = none_done (n + 1) d

  -- up to the next mark, which is the rest
  rests_at : (n : ℕ) (y : Woven_state) (w : World) (ps : List ℕ) → IsStill w ps y → ((j : ℕ) → PausesOn (wsteps set W marks j y)) → ((j : ℕ) → wsteps set W marks j y ≢ WStop Lost) → IsMark set W marks (wsteps set W marks n y)
      → (k : ℕ) × (k ≤ n) × (g : Fib) × (wsteps set W marks k y ≡ Resting g w ps)
  rests_at n (Resting g v rest) w ps still all ok mark = (0, omega arith, g, ap (λ (z : World). Resting g z rest) still.0 ∙ ap (λ (q : List ℕ). Resting g w q) still.1)
  rests_at n (WStop over) w ps still all ok mark = absurd (ok 0 (ap WStop still))
  rests_at zero (WRun m p l s b f v rest) w ps still all ok (inl c) = absurd (uncounted v rest (wstep set W marks (WRun m p l s b f v rest)) c.0 (all 0 still.0) c.1 c.2)
  rests_at zero (WRun m p l s b f v rest) w ps still all ok (inr c) = absurd (some_done v.done c)
  rests_at (suc n) (WRun m p l s b f v rest) w ps still all ok mark =
      let next = wstep set W marks (WRun m p l s b f v rest) in
      let on = subst (λ (z : World). IsStill z ps next) still.1 (subst (λ (q : List ℕ). IsStill v q next) still.2 (all 0 still.0)) in
      let r = rests_at n next w ps on (λ j. all (suc j)) (λ j. ok (suc j)) mark in
      let few = r.1 in
      (suc r.0, omega (arith, few), r.2, r.3)

  -- from each state of a run
  pub comes_to_rest : (most : ℕ) (x : Woven_state) → ((j : ℕ) → PausesOn (wsteps set W marks j x)) → ((j : ℕ) → wsteps set W marks j x ≢ WStop Lost) → ((j : ℕ) → Soon set W marks most (wsteps set W marks j x))
      → (j : ℕ) → ComesToRest set W marks most (wsteps set W marks j x)
  comes_to_rest most x all ok soon (suc j) = comes_to_rest most (wstep set W marks x) (λ k. all (suc k)) (λ k. ok (suc k)) (λ k. soon (suc k)) j
  comes_to_rest most (WRun m p l s b f w ps) all ok soon zero = λ on.
      let next = soon 0 in
      let r = rests_at next.0 (WRun m p l s b f w ps) w ps (on, refl, refl) all ok next.2 in
      let a = r.1 in let c = next.1 in
      (r.0, omega (arith, a, c), r.2, r.3)
  comes_to_rest most (Resting f w ps) all ok soon zero = tt
  comes_to_rest most (WStop over) all ok soon zero = tt

  -- ---- what is known of a step

  abbrev pub StepIsKnown : Woven_state → Type 0
  StepIsKnown z = NextHasRoom set W marks z × PausesOn z × IsCalm set W marks z
