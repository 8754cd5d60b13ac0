-- What is known of names is what is known of their numbers.
use Rattle.std.proofs.Common.{◌≡◌, ℕ, List, Option, Some, None, refl, sym, ap, ◌∙◌}
use Rattle.kilim_program.specs.declared.names.ClassId.{ClassId}
use Rattle.kilim_link_inherited.specs.declared.entry.Entry.{Entry}
use Rattle.kilim_link_inherited.specs.Inherited.{inherited, said_at, said_or, line_in, up_in, from_above}
use Rattle.kilim_link_inherited.specs.Numbers.{Apart}
use Rattle.kilim_link_inherited.specs.declared.said.Said.{Said}
use Rattle.kilim_link_inherited.specs.Keyed.{AllKeyed}
use Rattle.kilim_link_inherited.specs.Known.{by_number}
use Rattle.kilim_link_inherited.specs.Nearest.{nearest, says}
use Rattle.kilim_link_inherited.proofs.Named.{none_is_nearest, nearest_is, no_class_says, class_says}

nothing_above : (up : Option ClassId) → from_above (λ c. None) up ≡ None
nothing_above None = refl
nothing_above (Some c) = refl

module _ (number : List ℕ → List ℕ → Option ℕ) (of_class : ClassId → ℕ → Option ℕ) (said : List (List Said)) (entries : List (List Entry)) (ups : List (Option ClassId))
    (apart : Apart number) (keyed : AllKeyed number said entries) (name descriptor : List ℕ) (c : ClassId) where
  module _ (right : (k : ℕ) → of_class c k ≡ inherited entries k (line_in ups c)) where
    nearest_case : (o : Option ℕ) → number name descriptor ≡ o → by_number (of_class c) o ≡ nearest said name descriptor (line_in ups c)
    nearest_case None is = sym (none_is_nearest number name descriptor is said entries keyed (line_in ups c))
    nearest_case (Some k) is = right k ∙ nearest_is number name descriptor apart k is said entries keyed (line_in ups c)

    pub nearest_told : by_number (of_class c) (number name descriptor) ≡ nearest said name descriptor (line_in ups c)
    nearest_told = nearest_case (number name descriptor) refl

  module _ (right : (k : ℕ) → of_class c k ≡ said_or (said_at entries k c) (from_above (λ up. of_class up k) (up_in ups c))) where
    one_case : (o : Option ℕ) → number name descriptor ≡ o → by_number (of_class c) o ≡ said_or (says said name descriptor c) (from_above (λ up. by_number (of_class up) o) (up_in ups c))
    one_case None is =
        sym (ap (λ (s : Option (Option ℕ)). said_or s (from_above (λ up. None) (up_in ups c))) (no_class_says number name descriptor is said entries c.0 keyed) ∙ nothing_above (up_in ups c))
    one_case (Some k) is =
        right k ∙ ap (λ (s : Option (Option ℕ)). said_or s (from_above (λ up. of_class up k) (up_in ups c))) (class_says number name descriptor apart k is said entries c.0 keyed)

    pub one_told : by_number (of_class c) (number name descriptor) ≡ said_or (says said name descriptor c) (from_above (λ up. by_number (of_class up) (number name descriptor)) (up_in ups c))
    one_told = one_case (number name descriptor) refl
