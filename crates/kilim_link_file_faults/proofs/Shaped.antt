-- What is asked of types by their shapes.
use Rattle.std.proofs.Common.{◌≡◌, Bool, ◌||◌, ◌&&◌, nat_lt, List, [], ◌∷◌, ◌++◌, map, refl, ap, append_assoc}
use Rattle.std.specs.List.{flat_map, list_any}
use Rattle.kilim_lemmas.proofs.Lists.{map_append}
use Rattle.kilim_class_descriptors.specs.declared.types.FieldText.{FieldText}
use Rattle.kilim_link_spec.specs.declared.named.Mention.{Mention}
use Rattle.kilim_link_spec.specs.LeftOut.{is_float_base, is_task_base}
use Rattle.kilim_link_spec.specs.Mentions.{types_mentioned}
use Rattle.kilim_link_spec.specs.World.{World}
use Rattle.kilim_link_file_faults.specs.Shapes.{Shape, shape_of}

pub both : (before : List Shape) (xs ys : List FieldText) → before ++ map shape_of xs ++ map shape_of ys ≡ before ++ map shape_of (xs ++ ys)
both before xs ys = rw (map_append shape_of xs ys) (simp append_assoc)

any_behind : {A B : Type 0} (f : A → B) (test : B → Bool) (xs : List A) (ys : List B) (zs : List A) → list_any test ys ≡ list_any (λ x. test (f x)) zs
    → list_any test (map f xs ++ ys) ≡ list_any (λ x. test (f x)) (xs ++ zs)
any_behind f test [] ys zs e = e
any_behind f test (x ∷ xs) ys zs e = ap (λ (b : Bool). test (f x) || b) (any_behind f test xs ys zs e)

any_of : {X A B : Type 0} (f : A → B) (g : X → List A) (test : B → Bool) (xs : List X) → list_any test (flat_map (λ x. map f (g x)) xs) ≡ list_any (λ x. test (f x)) (flat_map g xs)
any_of f g test [] = refl
any_of f g test (x ∷ xs) = any_behind f test (g x) (flat_map (λ x. map f (g x)) xs) (flat_map g xs) (any_of f g test xs)

pub floats : (ms : List Mention) → list_any (λ s. is_float_base s.base) (flat_map (λ m. map shape_of (types_mentioned m)) ms) ≡ list_any (λ f. is_float_base f.base) (flat_map types_mentioned ms)
floats ms = any_of shape_of types_mentioned (λ (s : Shape). is_float_base s.base) ms

pub tasks : (w : World) (ms : List Mention) → list_any (λ s. s.is_array && is_task_base w s.base) (flat_map (λ m. map shape_of (types_mentioned m)) ms) ≡ list_any (λ f. nat_lt 0 f.dims && is_task_base w f.base) (flat_map types_mentioned ms)
tasks w ms = any_of shape_of types_mentioned (λ (s : Shape). s.is_array && is_task_base w s.base) ms
