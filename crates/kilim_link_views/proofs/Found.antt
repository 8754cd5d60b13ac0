-- What is made of what is found, one by one.
use Rattle.std.proofs.Common.{◌≡◌, ℕ, ◌+◌, ◌<◌, List, [], ◌∷◌, ◌++◌, Option, Some, None, map, length, take, get_or, refl, sym, ap, ◌∙◌}
use Rattle.std.specs.Prelude.{option_to_list}
use Rattle.std.specs.List.{filter_map}
use Rattle.std.proofs.lemmas.List.{take_more}

one_found : {X Y Z : Type 0} (f : Y → Z) (search : X → Option Y) (x : X) (y : Option Y) → search x ≡ y → map f (filter_map search (x ∷ [])) ≡ map f (option_to_list y)
one_found f search x None e = rw e refl
one_found f search x (Some y) e = rw e refl

more : {X Y Z : Type 0} (f : Y → Z) (search : X → Option Y) (x : X) (y : Option Y) (xs : List X) (z : X) → search x ≡ y → map f (filter_map search (xs ++ z ∷ [])) ≡ map f (filter_map search xs) ++ map f (filter_map search (z ∷ [])) → map f (filter_map search (x ∷ (xs ++ z ∷ []))) ≡ map f (filter_map search (x ∷ xs)) ++ map f (filter_map search (z ∷ []))
more f search x None xs z e h = rw e h
more f search x (Some y) xs z e h = rw e (ap (λ zs. f y ∷ zs) h)

found_append : {X Y Z : Type 0} (f : Y → Z) (search : X → Option Y) (xs : List X) (z : X) → map f (filter_map search (xs ++ z ∷ [])) ≡ map f (filter_map search xs) ++ map f (filter_map search (z ∷ []))
found_append f search [] z = refl
found_append f search (x ∷ xs) z = more f search x (search x) xs z refl (found_append f search xs z)

pub found_more : {X Y Z : Type 0} (f : Y → Z) (search : X → Option Y) (xs : List X) (i : ℕ) (d : X) → i < length xs → map f (filter_map search (take (i + 1) xs)) ≡ map f (filter_map search (take i xs)) ++ map f (option_to_list (search (get_or xs i d)))
found_more f search xs i d lt =
    rw (take_more xs i d lt) (found_append f search (take i xs) (get_or xs i d) ∙ ap (λ zs. map f (filter_map search (take i xs)) ++ zs) (one_found f search (get_or xs i d) (search (get_or xs i d)) refl))

-- one more element of a list, of which what is found is added
pub found_step : {X Y Z : Type 0} (f : Y → Z) (search : X → Option Y) (xs : List X) (i : ℕ) (d : X) (done new : List Z) → i < length xs → done ≡ map f (filter_map search (take i xs)) → new ≡ done ++ map f (option_to_list (search (get_or xs i d))) → new ≡ map f (filter_map search (take (i + 1) xs))
found_step f search xs i d done new lt before now =
    now ∙ (ap (λ zs. zs ++ map f (option_to_list (search (get_or xs i d)))) before ∙ sym (found_more f search xs i d lt))
