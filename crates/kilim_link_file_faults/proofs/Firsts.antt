-- The first of several lists.
use Rattle.std.proofs.Common.{◌≡◌, List, [], ◌∷◌, ◌++◌, Option, refl, ap, sym, ◌∙◌}
use Rattle.std.proofs.lemmas.List.Elements.{filter_map-append}
use Rattle.std.specs.List.{flat_map, filter_map}
use Rattle.kilim_class_file.specs.declared.class_file.MemberInfo.{MemberInfo}
use Rattle.kilim_link_spec.specs.Linked.{code_attribute, first_of}
use Rattle.kilim_link_spec.specs.LeftOut.{decoded_in, left_out_op}

joined : {X A B : Type 0} (h : A → Option B) (g : X → List A) (xs : List X) → flat_map (λ x. filter_map h (g x)) xs ≡ filter_map h (flat_map g xs)
joined h g [] = refl
joined h g (x ∷ xs) = ap (λ ys. filter_map h (g x) ++ ys) (joined h g xs) ∙ sym (filter_map-append h (g x) (flat_map g xs))

pub ops : (ms : List MemberInfo) → first_of (flat_map (λ m. filter_map left_out_op (decoded_in (code_attribute m))) ms) ≡ first_of (filter_map left_out_op (flat_map (λ m. decoded_in (code_attribute m)) ms))
ops ms = ap first_of (joined left_out_op (λ (m : MemberInfo). decoded_in (code_attribute m)) ms)
