-- Loops that append something for each element.
use Rattle.std.proofs.Common.{◌≡◌, ℕ, suc, ◌+◌, ◌<◌, ◌≤◌, List, [], ◌∷◌, ◌++◌, length, get_or, map, take, drop, Option, Some, None, refl, sym, ap, ◌∙◌, append_assoc, arith, drop-cons, subst}
use Rattle.std.specs.List.{flat_map}
use Rattle.std.proofs.lemmas.List.{append-nil, at_drop_all, flat_map_more, map_more, take_all, take_more}
use Rattle.kilim_link_spec.specs.Types.{each_of, with_first}
use Rattle.kilim_link_members.specs.frames.Each.{behind}

-- one more element behind what stood there before
pushed : {A : Type 0} (before done now next : List A) (y z : A) → now ≡ before ++ done → y ≡ z → next ≡ now ++ y ∷ [] → next ≡ before ++ (done ++ z ∷ [])
pushed before done now next y z so_far made step =
    step ∙ (ap (λ ys. ys ++ y ∷ []) so_far ∙ (ap (λ x. (before ++ done) ++ x ∷ []) made ∙ append_assoc before done (z ∷ [])))

pub more : {X A : Type 0} (f : X → A) (before now next : List A) (xs : List X) (i : ℕ) (x d : X) (y : A) → i < length xs → x ≡ get_or xs i d → now ≡ before ++ map f (take i xs) → y ≡ f x
    → next ≡ now ++ y ∷ [] → next ≡ before ++ map f (take (i + 1) xs)
more f before now next xs i x d y lt is so_far made step =
    pushed before (map f (take i xs)) now next y (f (get_or xs i d)) so_far (made ∙ ap f is) step ∙ ap (λ ys. before ++ ys) (sym (map_more f xs i d lt))

pub joined : {X A : Type 0} (f : X → List A) (now next : List A) (xs : List X) (i : ℕ) (x d : X) → i < length xs → x ≡ get_or xs i d → now ≡ flat_map f (take i xs)
    → next ≡ now ++ f x → next ≡ flat_map f (take (i + 1) xs)
joined f now next xs i x d lt is so_far step =
    step ∙ (ap (λ ys. ys ++ f x) so_far ∙ (ap (λ z. flat_map f (take i xs) ++ f z) is ∙ (flat_map_more f [] (take i xs) (get_or xs i d) ∙ ap (flat_map f) (sym (take_more xs i d lt)))))

pub joined_in : {X A : Type 0} (f : X → List A) (now next : List A) (items xs : List X) (i : ℕ) (x : X) → items ≡ xs → i < length items → x ≡ get_or items i x → now ≡ flat_map f (take i xs)
    → next ≡ now ++ f x → next ≡ flat_map f (take (i + 1) xs)
joined_in {X} f now next items xs i x same lt is so_far step =
    joined f now next xs i x x (subst (λ (ys : List X). i < length ys) same lt) (is ∙ ap (λ (ys : List X). get_or ys i x) same) so_far step

pub copied : {A : Type 0} (before now next xs : List A) (i : ℕ) (x d y : A) → i < length xs → x ≡ get_or xs i d → now ≡ before ++ take i xs → y ≡ x
    → next ≡ now ++ y ∷ [] → next ≡ before ++ take (i + 1) xs
copied before now next xs i x d y lt is so_far made step =
    pushed before (take i xs) now next y (get_or xs i d) so_far (made ∙ is) step ∙ ap (λ ys. before ++ ys) (sym (take_more xs i d lt))

-- no element is left
pub all_in : {X A : Type 0} (f : List X → List A) (now : List A) (items xs : List X) (i : ℕ) → items ≡ xs → length items ≤ i → now ≡ f (take i xs) → now ≡ f xs
all_in {X} f now items xs i same le so_far = so_far ∙ ap f (take_all i xs (subst (λ (ys : List X). length ys ≤ i) same le))

-- a loop that makes each element, and stops where one isn't there
made_then : {B : Type 0} (made : List B) (y : B) (others : Option (List B)) → behind made (with_first (Some y) others) ≡ behind (made ++ y ∷ []) others
made_then made y None = refl
made_then {B} made y (Some zs) = ap (λ (all : List B). Some all) (sym (append_assoc made (y ∷ []) zs))

rest_at : {A : Type 0} (xs : List A) (i : ℕ) (x d : A) → i < length xs → x ≡ get_or xs i d → drop i xs ≡ x ∷ drop (i + 1) xs
rest_at xs i x d lt is =
    let n : suc i ≡ i + 1 = omega arith in
    drop-cons xs i d lt ∙ (ap (λ y. y ∷ drop (suc i) xs) (sym is) ∙ ap (λ (k : ℕ). x ∷ drop k xs) n)

module _ {A B : Type 0} (make : A → Option B) (xs : List A) (i : ℕ) (x d : A) (made : List B) {total : Option (List B)} (lt : i < length xs) (is : x ≡ get_or xs i d) (so_far : behind made (each_of make (drop i xs)) ≡ total) where
  here_at : behind made (with_first (make x) (each_of make (drop (i + 1) xs))) ≡ total
  here_at = ap (λ ys. behind made (each_of make ys)) (sym (rest_at xs i x d lt is)) ∙ so_far

  pub one_more : (y : B) (new : List B) → Some y ≡ make x → new ≡ made ++ y ∷ [] → behind new (each_of make (drop (i + 1) xs)) ≡ total
  one_more y new there step =
      let others = each_of make (drop (i + 1) xs) in
      ap (λ ys. behind ys others) step ∙ (sym (made_then made y others) ∙ (ap (λ o. behind made (with_first o others)) there ∙ here_at))

  pub not_there : None ≡ make x → None ≡ total
  not_there none = ap (λ o. behind made (with_first o (each_of make (drop (i + 1) xs)))) none ∙ here_at

pub all_made : {A B : Type 0} (make : A → Option B) (xs : List A) (i : ℕ) (made : List B) {total : Option (List B)} → length xs ≤ i → behind made (each_of make (drop i xs)) ≡ total → Some made ≡ total
all_made {A} {B} make xs i made le so_far =
    ap (λ (all : List B). Some all) (sym (append-nil made)) ∙ (sym (at_drop_all (λ (ys : List A). behind made (each_of make ys)) xs i le) ∙ so_far)
