-- A call with dummies for arguments takes them all.
use Rattle.std.proofs.Common.{◌≡◌, ℕ, zero, suc, ◌+◌, true, List, [], ◌∷◌, ◌++◌, length, refl, sym, ap, ◌∙◌, arith, append_assoc}
use Rattle.std.proofs.lemmas.List.{append-nil, reverse-append}
use Rattle.std.specs.Prelude.{reverse, map}
use Rattle.std.proofs.lemmas.Bool.{and_from}
use Rattle.kilim_program.specs.declared.class.Method.{Method}
use Rattle.kilim_program.specs.declared.ty.Base.{Base}
use Rattle.kilim_program.specs.declared.ty.Base.TheVariants as base
use Rattle.kilim_program.specs.declared.ty.Ty.{Ty}
use Rattle.kilim_program.specs.declared.value.Value.{Value}
use Rattle.kilim_program.specs.Program.{Program}
use Rattle.kilim_type_sound.specs.Fits.{Classes, has_type, have_types}
use Rattle.kilim_run_machine.specs.Effect.{Effect, on_values}
use Rattle.kilim_type_spec.specs.Step.{vtype}
use Rattle.kilim_fiber_laws.specs.woven_served.ready.Law.{dummies_down}
use Rattle.kilim_fiber_spec.specs.Links.{dummy_value, with_dummies}

values_same : (k : ℕ) (s : List Value) (f g : List Value → List Value → Effect) → ((vs r : List Value) → f vs r ≡ g vs r) → on_values k s f ≡ on_values k s g
values_same zero s f g e = e [] s
values_same (suc k) [] f g e = refl
values_same (suc k) (v ∷ s) f g e = values_same k s (λ vs r. f (v ∷ vs) r) (λ vs r. g (v ∷ vs) r) (λ vs r. e (v ∷ vs) r)

dummies_from : (tys : List Ty) (k : ℕ) (s : List Value) (go : List Value → List Value → Effect) → on_values (length tys + k) (with_dummies tys s) go ≡ on_values k s (λ vs r. go (dummies_down tys ++ vs) r)
dummies_from [] k s go = let e : length {A = Ty} [] + k ≡ k = omega arith in ap (λ (n : ℕ). on_values n s go) e
dummies_from (ty ∷ tys) k s go =
    let e : suc (length tys) + k ≡ length tys + suc k = omega arith in
    ap (λ (n : ℕ). on_values n (with_dummies tys (dummy_value (vtype ty) ∷ s)) go) e
    ∙ (dummies_from tys (suc k) (dummy_value (vtype ty) ∷ s) go
    ∙ values_same k s (λ vs r. go (dummies_down tys ++ dummy_value (vtype ty) ∷ vs) r) (λ vs r. go ((dummies_down tys ++ dummy_value (vtype ty) ∷ []) ++ vs) r)
    (λ vs r. ap (λ (xs : List Value). go xs r) (sym (append_assoc (dummies_down tys) (dummy_value (vtype ty) ∷ []) vs))))

pub dummies_taken : (tys : List Ty) (s : List Value) (go : List Value → List Value → Effect) → on_values (length tys) (with_dummies tys s) go ≡ go (dummies_down tys) s
dummies_taken tys s go =
    let e : length tys ≡ length tys + 0 = omega arith in
    ap (λ (n : ℕ). on_values n (with_dummies tys s) go) e ∙ (dummies_from tys 0 s go ∙ ap (λ (xs : List Value). go xs s) (append-nil (dummies_down tys)))

-- they are of the parameters' types
pub dummies_reversed : (tys : List Ty) → reverse (dummies_down tys) ≡ map (λ (ty : Ty). dummy_value (vtype ty)) tys
dummies_reversed [] = refl
dummies_reversed (ty ∷ tys) = reverse-append (dummies_down tys) (dummy_value (vtype ty) ∷ []) ∙ ap (λ (xs : List Value). dummy_value (vtype ty) ∷ xs) (dummies_reversed tys)

module _ (p : Program) (m : Method) (of : Classes) where
  dummy_typed : (ty : Ty) → has_type p m of (vtype ty) (dummy_value (vtype ty)) ≡ true
  dummy_typed ty = by ty.dims ty.base
    where
      by : (d : ℕ) (b : Base) → has_type p m of (vtype (record { dims = d; base = b })) (dummy_value (vtype (record { dims = d; base = b }))) ≡ true
      by zero base.Bool = refl
      by zero base.Byte = refl
      by zero base.Char = refl
      by zero base.Short = refl
      by zero base.Int = refl
      by zero base.Long = refl
      by zero (base.Class c) = refl
      by (suc d) b = refl

  pub dummies_typed : (tys : List Ty) → have_types p m of (map vtype tys) (map (λ (ty : Ty). dummy_value (vtype ty)) tys) ≡ true
  dummies_typed [] = refl
  dummies_typed (ty ∷ tys) = and_from (has_type p m of (vtype ty) (dummy_value (vtype ty))) (have_types p m of (map vtype tys) (map (λ (ty : Ty). dummy_value (vtype ty)) tys)) (dummy_typed ty) (dummies_typed tys)
