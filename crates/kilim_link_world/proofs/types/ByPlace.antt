-- What attributes say of parameters, by places and one by one.
use Rattle.std.proofs.Common.{◌≡◌, ℕ, zero, suc, ◌+◌, Bool, List, [], ◌∷◌, ◌++◌, drop, map, refl, sym, ap, ◌∙◌, arith}
use Rattle.std.specs.Prelude.{◌||◌}
use Rattle.std.specs.List.{list_any, flat_map}
use Rattle.std.specs.Str.{bytes_eq}
use Rattle.std.proofs.lemmas.List.Concat.{flat_map-cons}
use Rattle.std.proofs.lemmas.List.Folds.{list_any-append, flat_map-map}
use Rattle.kilim_class_descriptors.specs.declared.types.FieldText.{FieldText}
use Rattle.kilim_program.specs.declared.ty.Qualifier.{Qualifier}
use Rattle.kilim_link_spec.specs.World.{World}
use Rattle.kilim_link_spec.specs.Qualified.{names_one, first_types, behind_first, param_by, params_by}
use Rattle.kilim_link_world.specs.types.Params.{types_at, all_at, params_from}

-- one of the lists names it, where all of them together do
pub any_flat : (at : ℕ) (text : List ℕ) (attributes : List (List (List (List ℕ)))) → list_any (λ lists. names_one (types_at at lists) text) attributes ≡ names_one (all_at at attributes) text
any_flat at text [] = refl
any_flat at text (lists ∷ rest) =
    ap (λ (b : Bool). names_one (types_at at lists) text || b) (any_flat at text rest)
    ∙ sym (ap (list_any (bytes_eq text)) (flat_map-cons (types_at at) lists rest) ∙ list_any-append (bytes_eq text) (types_at at lists) (flat_map (types_at at) rest))

first_at : (at : ℕ) (lists : List (List (List ℕ))) → first_types (drop at lists) ≡ types_at at lists
first_at zero [] = refl
first_at (suc at) [] = refl
first_at zero (types ∷ rest) = refl
first_at (suc at) (types ∷ rest) = first_at at rest

behind_at : (at : ℕ) (lists : List (List (List ℕ))) → behind_first (drop at lists) ≡ drop (suc at) lists
behind_at zero [] = refl
behind_at (suc at) [] = refl
behind_at zero (types ∷ rest) = refl
behind_at (suc at) (types ∷ rest) = behind_at at rest

module _ {A B : Type 0} (f g : A → B) (same : (x : A) → f x ≡ g x) where
  map_same : (xs : List A) → map f xs ≡ map g xs
  map_same [] = refl
  map_same (x ∷ xs) = ap (λ (y : B). y ∷ map f xs) (same x) ∙ ap (λ (ys : List B). g x ∷ ys) (map_same xs)

  flat_same : {C : Type 0} (h : B → List C) (xs : List A) → flat_map (λ x. h (f x)) xs ≡ flat_map (λ x. h (g x)) xs
  flat_same h [] = refl
  flat_same {C} h (x ∷ xs) =
      flat_map-cons (λ y. h (f y)) x xs
      ∙ (ap (λ (y : B). h y ++ flat_map (λ z. h (f z)) xs) (same x)
      ∙ (ap (λ (zs : List C). h (g x) ++ zs) (flat_same h xs)
      ∙ sym (flat_map-cons (λ y. h (g y)) x xs)))

map_twice : {A B C : Type 0} (f : A → B) (g : B → C) (xs : List A) → map g (map f xs) ≡ map (λ x. g (f x)) xs
map_twice f g [] = refl
map_twice f g (x ∷ xs) = ap (λ ys. g (f x) ∷ ys) (map_twice f g xs)

itself_all : {A : Type 0} (xss : List (List A)) → map (λ xs. drop 0 xs) xss ≡ xss
itself_all [] = refl
itself_all (xs ∷ xss) = ap (λ yss. xs ∷ yss) (itself_all xss)

abbrev pub Lists : Type 0
Lists = List (List (List ℕ))

first_all : (at : ℕ) (attributes : List Lists) → flat_map first_types (map (drop at) attributes) ≡ all_at at attributes
first_all at attributes = flat_map-map first_types (drop at) attributes ∙ flat_same (λ (lists : Lists). first_types (drop at lists)) (types_at at) (first_at at) (λ ts. ts) attributes

behind_all : (at : ℕ) (attributes : List Lists) → map behind_first (map (drop at) attributes) ≡ map (drop (at + 1)) attributes
behind_all at attributes =
    let next : suc at ≡ at + 1 = omega arith in
    map_twice (drop at) behind_first attributes
    ∙ map_same (λ (lists : Lists). behind_first (drop at lists)) (drop (at + 1)) (λ lists. behind_at at lists ∙ ap (λ (k : ℕ). drop k lists) next) attributes

from_is : (w : World) (at : ℕ) (fs : List FieldText) (attributes : List Lists) → params_by w fs (map (drop at) attributes) ≡ params_from w at fs attributes
from_is w at [] attributes = refl
from_is w at (f ∷ fs) attributes =
    ap (λ (types : List (List ℕ)). param_by w f types ∷ params_by w fs (map behind_first (map (drop at) attributes))) (first_all at attributes)
    ∙ ap (λ (qs : List Qualifier). param_by w f (all_at at attributes) ∷ qs) (ap (params_by w fs) (behind_all at attributes) ∙ from_is w (at + 1) fs attributes)

pub params_are : (w : World) (fs : List FieldText) (attributes : List Lists) → params_from w 0 fs attributes ≡ params_by w fs attributes
params_are w fs attributes = sym (from_is w 0 fs attributes) ∙ ap (params_by w fs) (itself_all attributes)
