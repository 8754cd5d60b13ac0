-- What is saved, restored or given again is in the heap.
use Rattle.std.proofs.Common.{◌≡◌, ℕ, Bool, true, false, List, [], ◌∷◌, Option, Some, None, refl, sym, ap, subst}
use Rattle.std.specs.FinMap.{get}
use Rattle.std.specs.Prelude.{if◌then◌else◌}
use Rattle.std.proofs.lemmas.Bool.{false≢true}
use Rattle.kilim_program.specs.declared.names.MethodId.{MethodId}
use Rattle.kilim_program.specs.declared.ty.Ty.{Ty}
use Rattle.kilim_program.specs.declared.value.Value.{Value}
use Rattle.kilim_program.specs.declared.value.Value.TheVariants as value
use Rattle.kilim_program.specs.declared.verified.VType.{VType}
use Rattle.kilim_program.specs.declared.verified.VType.TheVariants.{Top, Int, Long, Null, UninitThis, Uninit, Object}
use Rattle.kilim_program.specs.Program.{Program}
use Rattle.kilim_type_sound.specs.Fits.{AreThere, IsThere}
use Rattle.kilim_run_state.specs.declared.value.Object.{Object as HeapObject}
use Rattle.kilim_run_machine.specs.Does.{cast_fits, does}
use Rattle.kilim_run_machine.specs.Effect.{Effect, Goes, Raises, with_some}
use Rattle.kilim_run_state.specs.declared.cause.EndCause.TheVariants as cause
use Rattle.kilim_run_state.specs.Machine.{Objects}
use Rattle.kilim_run_model.specs.State.{Setting}
use Rattle.kilim_type_spec.specs.Step.{vtype}
use Rattle.kilim_fiber_spec.specs.Acts.{World}
use Rattle.kilim_fiber_spec.specs.Form.{is_pausable}
use Rattle.kilim_fiber_spec.specs.Links.{AllFit, Casts, Fits, RefFits, dummy_value, with_dummies}
use Rattle.kilim_fiber_spec.specs.Thread.{Frame, Run, Thread, no_method, push}

abbrev goes_somewhere : Effect → Bool
goes_somewhere (Goes q l s heap) = true
goes_somewhere e = false

-- what a method gives, if it gives something
abbrev pub MaybeThere : Objects → Option Value → Type 0
MaybeThere heap None = Unit {0}
MaybeThere heap (Some v) = IsThere heap v

pub dummy_there : (heap : Objects) (t : VType) → IsThere heap (dummy_value t)
dummy_there heap Int = tt
dummy_there heap Long = tt
dummy_there heap t = tt

pub pushed_there : (heap : Objects) (v : Option Value) (s : List Value) → MaybeThere heap v → AreThere heap s → AreThere heap (push v s)
pushed_there heap None s v th = th
pushed_there heap (Some x) s v th = (v, th)

pub dummies_there : (heap : Objects) (tys : List Ty) (s : List Value) → AreThere heap s → AreThere heap (with_dummies tys s)
dummies_there heap [] s th = th
dummies_there heap (ty ∷ tys) s th = dummies_there heap tys (dummy_value (vtype ty) ∷ s) (dummy_there heap (vtype ty), th)

module _ (W : Program) (heap : Objects) where
  -- a cast looks at the object
  casts_there : (ty : Ty) (v : Value) → Casts W heap ty v → IsThere heap v
  unfolding does
  casts_there ty (value.Ref n) c = by (get heap n) refl (c no_method 0 [] [])
    where
      by : (o : Option HeapObject) → get heap n ≡ o → with_some o (λ object. if cast_fits W (Some object.class) ty then Goes 0 [] (value.Ref n ∷ []) heap else Raises cause.Cast) ≡ Goes 0 [] (value.Ref n ∷ []) heap → (x : HeapObject) × (get heap n ≡ Some x)
      by None e d = absurd (false≢true (ap goes_somewhere d))
      by (Some x) e d = (x, e)
  casts_there ty (value.Int x) c = tt
  casts_there ty (value.Long x) c = tt
  casts_there ty value.Null c = tt
  casts_there ty (value.Text units) c = tt
  casts_there ty (value.Box box) c = tt
  casts_there ty value.Fiber c = tt

  pub fit_there : (t : VType) (v : Value) → Fits W heap t v → IsThere heap v
  fit_there Int v fit = subst (λ (z : Value). IsThere heap z) (sym fit.1) tt
  fit_there Long v fit = subst (λ (z : Value). IsThere heap z) (sym fit.1) tt
  fit_there Null v fit = subst (λ (z : Value). IsThere heap z) (sym fit) tt
  fit_there (Object ty) v fit = casts_there ty v fit.1
  fit_there Top v fit = absurd fit
  fit_there UninitThis v fit = absurd fit
  fit_there (Uninit at) v fit = absurd fit

  pub ref_there : (t : VType) (v : Value) → RefFits W heap t v → IsThere heap v
  ref_there Null v fit = subst (λ (z : Value). IsThere heap z) (sym fit) tt
  ref_there (Object ty) v fit = casts_there ty v fit.1
  ref_there Int v fit = absurd fit
  ref_there Long v fit = absurd fit
  ref_there Top v fit = absurd fit
  ref_there UninitThis v fit = absurd fit
  ref_there (Uninit at) v fit = absurd fit

  pub all_there : (ts : List VType) (s : List Value) → AllFit W heap ts s → AreThere heap s
  all_there [] [] fit = tt
  all_there [] (v ∷ s) fit = absurd fit
  all_there (t ∷ ts) [] fit = absurd fit
  all_there (t ∷ ts) (v ∷ s) fit = (fit_there t v fit.0, all_there ts s fit.1)

module _ (set : Setting) where
  -- what is known of where the thread goes on
  pub record NextHeld (u : Thread) : Type 0 where
    pub stack : (m : MethodId) (p : ℕ) (l s : List Value) (x : Value) (b : List Frame) (w : World) → u ≡ Run m p l s x b w → AreThere w.heap s
    pub self : (m : MethodId) (p : ℕ) (l s : List Value) (x : Value) (b : List Frame) (w : World) → u ≡ Run m p l s x b w → is_pausable set.program m ≡ true → IsThere w.heap x
