-- What is known of nearest members is what is found by going up.
use Rattle.std.proofs.Common.{◌≡◌, ℕ, ◌+◌, List, [], ◌∷◌, Option, Some, None, refl, ap, ◌∙◌}
use Rattle.std.specs.Prelude.{option_map, slice_get, sum_by, take}
use Rattle.std.specs.List.{position_from}
use Rattle.kilim_program.specs.declared.names.ClassId.{ClassId}
use Rattle.kilim_program.specs.BuiltIn.{method_id}
use Rattle.kilim_link_inherited.specs.Inherited.{said_or, line_in}
use Rattle.kilim_link_spec.specs.World.{World, first_found, or_else, field_id, find_field, find_method, is_method, is_field, method_in, methods_at, field_in, fields_at}
use Rattle.kilim_link_inherited.specs.declared.nearest.Nearest.{Nearest}
use Rattle.kilim_link_inherited.specs.declared.said.Said.{Said}
use Rattle.kilim_link_inherited.specs.Nearest.{says, nearest}
use Rattle.kilim_link_inherited.specs.Known.{known, Tells}
use Rattle.kilim_link_world.specs.Agrees.{method_count, fields_before, placed}
use Rattle.kilim_link_world.specs.Superclasses.{AreSuperclasses}

module _ {I : Type 0} (make : ℕ → I) where
  number_or : (first : ℕ) (place later : Option ℕ) → option_map make (said_or (placed first place) later) ≡ or_else (option_map (λ k. make (first + k)) place) (option_map make later)
  number_or first None later = refl
  number_or first (Some k) later = refl

  module _ (first : ClassId → ℕ) (place : ClassId → Option ℕ) (said : List (List Said)) (name descriptor : List ℕ) (saying : (c : ClassId) → says said name descriptor c ≡ placed (first c) (place c)) where
    nearest_found : (line : List ClassId) → option_map make (nearest said name descriptor line) ≡ first_found (λ c. option_map (λ k. make (first c + k)) (place c)) line
    nearest_found [] = refl
    nearest_found (c ∷ line) =
        ap (λ (o : Option (Option ℕ)). option_map make (said_or o (nearest said name descriptor line))) (saying c)
        ∙ (number_or (first c) (place c) (nearest said name descriptor line)
        ∙ ap (λ (later : Option I). or_else (option_map (λ k. make (first c + k)) (place c)) later) (nearest_found line))

module _ (w : World) (ups : List (Option ClassId)) (are : AreSuperclasses w.outline ups) (said : List (List Said)) (it : Nearest) (tells : Tells it ups said) (c : ClassId) (name descriptor : List ℕ) where
  pub method_told : ((d : ClassId) → says said name descriptor d ≡ placed (sum_by method_count (take d.0 w.classes)) (position_from (is_method name descriptor) 0 (methods_at (slice_get w.classes d.0))))
      → option_map method_id (known it c name descriptor) ≡ find_method w c name descriptor
  method_told saying =
      ap (option_map method_id) (tells.nearest_is c name descriptor)
      ∙ (nearest_found method_id (λ d. sum_by method_count (take d.0 w.classes)) (λ d. position_from (is_method name descriptor) 0 (methods_at (slice_get w.classes d.0))) said name descriptor saying (line_in ups c)
      ∙ ap (first_found (method_in w name descriptor)) (are.line_is c))

  pub field_told : ((d : ClassId) → says said name descriptor d ≡ placed (fields_before w.classes d.0) (position_from (is_field name descriptor) 0 (fields_at (slice_get w.classes d.0))))
      → option_map field_id (known it c name descriptor) ≡ find_field w c name descriptor
  field_told saying =
      ap (option_map field_id) (tells.nearest_is c name descriptor)
      ∙ (nearest_found field_id (λ d. fields_before w.classes d.0) (λ d. position_from (is_field name descriptor) 0 (fields_at (slice_get w.classes d.0))) said name descriptor saying (line_in ups c)
      ∙ ap (first_found (field_in w name descriptor)) (are.line_is c))
