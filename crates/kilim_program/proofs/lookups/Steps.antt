-- One class of a walk along superclasses.
use Rattle.std.proofs.Common.{◌≡◌, ◌∙◌, sym, ap, refl, ℕ, zero, suc, ◌-◌, ◌<◌, Bool, true, false, ◌&&◌, List, [], ◌∷◌, ◌++◌, Option, Some, None, length, arith}
use Rattle.std.specs.List.{flat_map}
use Rattle.kilim_program.specs.declared.class.Class.{Class}
use Rattle.kilim_program.specs.declared.class.Method.{Method}
use Rattle.kilim_program.specs.declared.names.ClassId.{ClassId}
use Rattle.kilim_program.specs.declared.names.MethodId.{MethodId}
use Rattle.kilim_program.specs.declared.ty.Ty.{Ty}
use Rattle.kilim_program.specs.Program.{Program}
use Rattle.kilim_program.specs.Names.{class_at, method_at, methods_of, line_up_to, first_that}
use Rattle.kilim_program.specs.Same.{same_type, same_types, answers}
use Rattle.kilim_program.specs.lookups.Lines.{selected_of}
use Rattle.kilim_program.proofs.lookups.Lists.{first_right}

pub line_step : (p : Program) (n : ℕ) (c : ClassId) (class : Class) (up : ClassId) → 0 < n → class_at p c ≡ Some class → class.superclass ≡ Some up → line_up_to p n c ≡ c ∷ line_up_to p (n - 1) up
line_step p zero c class up more there above = absurd (omega (arith, more))
line_step p (suc n) c class up more there above = let e : suc n - 1 ≡ n = omega arith in rw (e, there, above)

methods_by : (p : Program) (c : ClassId) (class : Class) → class_at p c ≡ Some class → methods_of p c ≡ class.methods
methods_by p c class there = rw (methods_of, there)

pub selected_step : (p : Program) (named : Method) (n : ℕ) (c : ClassId) (class : Class) (up : ClassId) → 0 < n → class_at p c ≡ Some class → class.superclass ≡ Some up →
    first_that (λ m. answers named (method_at p m)) class.methods ≡ None → selected_of p named (n - 1) up ≡ selected_of p named n c
selected_step p named n c class up more there above none =
    let rest : List MethodId = flat_map (methods_of p) (line_up_to p (n - 1) up) in
    let test : MethodId → Bool = λ m. answers named (method_at p m) in
    sym (first_right test class.methods rest none)
    ∙ ap (λ (ms : List MethodId). first_that test (ms ++ rest)) (sym (methods_by p c class there))
    ∙ ap (λ (cs : List ClassId). first_that test (flat_map (methods_of p) cs)) (sym (line_step p n c class up more there above))

false_and : (a b : Bool) → false ≡ b → false ≡ (a && b)
false_and true b e = e
false_and false b e = refl

pub types_differ : (xs ys : List Ty) → (length xs ≡ length ys → ⊥) → false ≡ same_types xs ys
types_differ [] [] h = absurd (h refl)
types_differ [] (y ∷ ys) h = refl
types_differ (x ∷ xs) [] h = refl
types_differ (x ∷ xs) (y ∷ ys) h = false_and (same_type x y) (same_types xs ys) (types_differ xs ys (λ e. h (ap suc e)))
