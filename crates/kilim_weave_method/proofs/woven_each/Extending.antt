-- A pausable method without pausable calls, made of its parts.
use Rattle.std.proofs.Common.{◌≡◌, ℕ, suc, List, [], ◌∷◌, ◌++◌, length, ap, ◌∙◌}
use Rattle.std.specs.Prelude.{if◌then◌else◌}
use Rattle.kilim_program.specs.declared.class.Method.{Method}
use Rattle.kilim_program.specs.declared.ty.Qualifier.TheVariants.{Safe}
use Rattle.kilim_program.specs.BuiltIn.{class_type}
use Rattle.kilim_program.specs.Program.{Program}
use Rattle.kilim_program.specs.Same.{argument_slots}
use Rattle.kilim_type_spec.specs.Typed.{has_code}
use Rattle.kilim_weave_spec.specs.Form.{only_with_fiber}
use Rattle.kilim_weave_spec.specs.Woven.{larger, with_fiber}
use Rattle.kilim_weave_method.specs.declared.copy.Head.{Head}

pub extended_is : (p : Program) (m : Method) (h : Head) (w : Method) (class locals : ℕ) → class ≡ length p.classes → locals ≡ (if has_code m then larger m.max_locals (suc (argument_slots m)) else m.max_locals)
    → h ≡ record { name = m.name; params = m.params ++ class_type class ∷ []; qualifiers = m.qualifiers ++ Safe ∷ []; handlers = m.handlers } → w ≡ record m { name = h.name; params = h.params; qualifiers = h.qualifiers; handlers = h.handlers }
    → record w { max_locals = locals } ≡ only_with_fiber p m
extended_is p m h w class locals number slots head made =
    ap (λ (x : Method). record x { max_locals = locals }) made
    ∙ (ap (λ (x : Head). record m { name = x.name; params = x.params; qualifiers = x.qualifiers; handlers = x.handlers; max_locals = locals }) head
    ∙ (ap (λ (n : ℕ). record m { params = m.params ++ class_type n ∷ []; qualifiers = m.qualifiers ++ Safe ∷ []; max_locals = locals }) number
    ∙ ap (λ (n : ℕ). record (with_fiber p m) { max_locals = n }) slots))
