-- Lists in which nothing is, taken apart.
use Rattle.std.proofs.Common.{◌≡◌, ℕ, suc, Bool, false, List, [], ◌∷◌, ◌++◌, map, filter}
use Rattle.std.specs.List.{list_any, flat_map, AllByRecursion}
use Rattle.std.proofs.lemmas.Bool.{or_parts}
use Rattle.kilim_lemmas.proofs.Lists.{front_none, rest_none, cond_none}
use Rattle.kilim_link_spec.specs.Faults.{numbers_that}

pub flat_map_none : {A B : Type 0} (f : A → List B) (xs : List A) → flat_map f xs ≡ [] → AllByRecursion (λ x. f x ≡ []) xs
flat_map_none f [] e = tt
flat_map_none f (x ∷ xs) e = (front_none (f x) (flat_map f xs) e, flat_map_none f xs (rest_none (f x) (flat_map f xs) e))

pub none_any : {A : Type 0} (test : A → Bool) (xs : List A) → list_any test xs ≡ false → AllByRecursion (λ x. test x ≡ false) xs
none_any test [] e = tt
none_any test (x ∷ xs) e = let p = or_parts (test x) (list_any test xs) e in (p.0, none_any test xs p.1)

pub filter_none : {A : Type 0} (test : A → Bool) (xs : List A) → filter test xs ≡ [] → AllByRecursion (λ x. test x ≡ false) xs
filter_none test [] e = tt
filter_none test (x ∷ xs) e = let p = cond_none (test x) x (filter test xs) e in (p.0, filter_none test xs p.1)

-- ---- of each element of a list that is put together

pub all_front : {A : Type 0} (P : A → Type 0) (xs ys : List A) → AllByRecursion P (xs ++ ys) → AllByRecursion P xs
all_front P [] ys all = tt
all_front P (x ∷ xs) ys all = (all.0, all_front P xs ys all.1)

pub all_rest : {A : Type 0} (P : A → Type 0) (xs ys : List A) → AllByRecursion P (xs ++ ys) → AllByRecursion P ys
all_rest P [] ys all = all
all_rest P (x ∷ xs) ys all = all_rest P xs ys all.1

pub all_mapped : {A B : Type 0} (P : B → Type 0) (f : A → B) (xs : List A) → AllByRecursion P (map f xs) → AllByRecursion (λ x. P (f x)) xs
all_mapped P f [] all = tt
all_mapped P f (x ∷ xs) all = (all.0, all_mapped P f xs all.1)

pub all_flat : {A B : Type 0} (P : B → Type 0) (f : A → List B) (xs : List A) → AllByRecursion P (flat_map f xs) → AllByRecursion (λ x. AllByRecursion P (f x)) xs
all_flat P f [] all = tt
all_flat P f (x ∷ xs) all = (all_front P (f x) (flat_map f xs) all, all_flat P f xs (all_rest P (f x) (flat_map f xs) all))

-- no element passes the test where no number is one of such an element
pub no_numbers : {A : Type 0} (test : A → Bool) (n : ℕ) (xs : List A) → numbers_that test n xs ≡ [] → AllByRecursion (λ x. test x ≡ false) xs
no_numbers test n [] e = tt
no_numbers test n (x ∷ xs) e = let k = cond_none (test x) n (numbers_that test (suc n) xs) e in (k.0, no_numbers test (suc n) xs k.1)
