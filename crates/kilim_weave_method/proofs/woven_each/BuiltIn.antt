-- The last of the built-in classes and methods of the woven form are the fiber's.
use Rattle.std.proofs.Common.{◌≡◌, ℕ, List, ap, ◌∙◌, drop}
use Rattle.kilim_program.specs.declared.class.Class.{Class}
use Rattle.kilim_program.specs.declared.class.Form.TheVariants.{Woven}
use Rattle.kilim_program.specs.declared.class.Method.{Method}
use Rattle.kilim_program.specs.BuiltIn.{built_in_classes_in, built_in_methods_in, fiber_classes, fiber_methods}

pub last_methods_are : (first first' : ℕ) (methods slice last : List Method) → first ≡ first' → methods ≡ built_in_methods_in Woven first → slice ≡ methods → last ≡ drop 43 slice → last ≡ fiber_methods Woven first'
last_methods_are first first' methods slice last is all seen dropped = dropped ∙ (ap (drop 43) (seen ∙ all) ∙ ap (fiber_methods Woven) is)

pub last_classes_are : (first first' method method' : ℕ) (classes slice last : List Class) → first ≡ first' → method ≡ method' → classes ≡ built_in_classes_in Woven first method → slice ≡ classes → last ≡ drop 18 slice → last ≡ fiber_classes Woven first' method'
last_classes_are first first' method method' classes slice last is also all seen dropped =
    dropped ∙ (ap (drop 18) (seen ∙ all) ∙ (ap (λ (n : ℕ). fiber_classes Woven n method) is ∙ ap (fiber_classes Woven first') also))
