-- A test of the names of interfaces, by their indices.
use Rattle.std.proofs.Common.{◌≡◌, Bool, ◌||◌, not, codes, List, ℕ, [], ◌∷◌, map, refl, ap}
use Rattle.std.specs.List.{list_any}
use Rattle.std.specs.Str.{bytes_eq}
use Rattle.kilim_class_pool.specs.declared.entry.Entry.{Entry}
use Rattle.kilim_link_spec.specs.World.{class_text}

any-map : {A B : Type 0} (f : A → B) (test : B → Bool) (xs : List A) → list_any (λ x. test (f x)) xs ≡ list_any test (map f xs)
any-map f test [] = refl
any-map f test (x ∷ xs) = ap (λ (b : Bool). test (f x) || b) (any-map f test xs)

pub others : (pool : List Entry) (xs : List ℕ) → list_any (λ i. not (bytes_eq (class_text pool i) (codes "kilim/Message"))) xs ≡ list_any (λ name. not (bytes_eq name (codes "kilim/Message"))) (map (class_text pool) xs)
others pool xs = any-map (class_text pool) (λ (name : List ℕ). not (bytes_eq name (codes "kilim/Message"))) xs
