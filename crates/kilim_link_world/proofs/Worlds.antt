-- Numbers of members, by those that a world keeps.
use Rattle.std.proofs.Common.{◌≡◌, ℕ, suc, ◌+◌, ◌-◌, List, length, take, min, Some, ap, ◌∙◌, arith}
use Rattle.std.specs.Prelude.{slice_get, slice_index, sum_by}
use Rattle.std.proofs.lemmas.List.{take_min}
use Rattle.std.proofs.lemmas.Option.{get_or_from_slice_get}
use Rattle.kilim_link_spec.specs.declared.view.ClassView.{ClassView}
use Rattle.kilim_link_world.specs.Agrees.{field_count, field_firsts_of, fields_before, firsts_of}
use Rattle.kilim_link_world.proofs.Below.{get_below, length_below}

pub first_is : (count : ClassView → ℕ) (classes : List ClassView) (firsts : List ℕ) (c : ℕ) → firsts ≡ firsts_of count classes → slice_index firsts (min c (length firsts - 1)) ≡ sum_by count (take c classes)
first_is count classes firsts c is =
    let make : ℕ → ℕ = λ k. sum_by count (take k classes) in
    let at = min c (length classes) in
    let len : length firsts ≡ length classes + 1 = ap length is ∙ length_below make (length classes + 1) in
    let place : min c (length firsts - 1) ≡ at = omega arith in
    let there : slice_get firsts at ≡ Some (make at) = ap (λ (ns : List ℕ). slice_get ns at) is ∙ get_below make (length classes + 1) at (omega arith) in
    ap (slice_index firsts) place ∙ (get_or_from_slice_get firsts at (make at) 0 there ∙ ap (sum_by count) (take_min c classes))

pub first_field_is : (classes : List ClassView) (firsts : List ℕ) (c : ℕ) → firsts ≡ field_firsts_of classes → slice_index firsts (min c (length firsts - 1)) ≡ fields_before classes c
first_field_is classes firsts c is =
    let make : ℕ → ℕ = fields_before classes in
    let at = min c (length classes) in
    let len : length firsts ≡ length classes + 1 = ap length is ∙ length_below make (length classes + 1) in
    let place : min c (length firsts - 1) ≡ at = omega arith in
    let there : slice_get firsts at ≡ Some (make at) = ap (λ (ns : List ℕ). slice_get ns at) is ∙ get_below make (length classes + 1) at (omega arith) in
    ap (slice_index firsts) place ∙ (get_or_from_slice_get firsts at (make at) 0 there ∙ ap (λ (vs : List ClassView). suc (sum_by field_count vs)) (take_min c classes))
