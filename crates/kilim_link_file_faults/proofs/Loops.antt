-- Loops that append something for each element, and loops that look for an element.
use Rattle.std.proofs.Common.{◌≡◌, ℕ, ◌+◌, ◌<◌, ◌≤◌, Bool, true, false, ◌||◌, List, [], ◌∷◌, ◌++◌, length, get_or, map, take, drop, Option, Some, None, refl, sym, ap, ◌∙◌, append_assoc, subst}
use Rattle.std.specs.List.{list_any, flat_map, filter_map}
use Rattle.std.proofs.lemmas.List.{take_more, take_all, map_more, at_drop_all, flat_map_more}
use Rattle.std.proofs.lemmas.List.Concat.{flat_map-cons}
use Rattle.kilim_link_spec.specs.Linked.{first_of}
use Rattle.kilim_lemmas.proofs.Lists.{drop_at}

pub more : {X A : Type 0} (f : X → A) (before now next : List A) (xs : List X) (i : ℕ) (x d : X) (y : A) → i < length xs → x ≡ get_or xs i d → now ≡ before ++ map f (take i xs) → y ≡ f x
    → next ≡ now ++ y ∷ [] → next ≡ before ++ map f (take (i + 1) xs)
more f before now next xs i x d y lt is so_far made step =
    step ∙ (ap (λ ys. ys ++ y ∷ []) so_far ∙ (ap (λ z. (before ++ map f (take i xs)) ++ z ∷ []) (made ∙ ap f is) ∙ (append_assoc before (map f (take i xs)) (f (get_or xs i d) ∷ []) ∙ ap (λ ys. before ++ ys) (sym (map_more f xs i d lt)))))

pub all_more : {X A : Type 0} (f : X → A) (before now : List A) (xs : List X) (i : ℕ) → length xs ≤ i → now ≡ before ++ map f (take i xs) → now ≡ before ++ map f xs
all_more {X} f before now xs i le so_far = so_far ∙ ap (λ (ys : List X). before ++ map f ys) (take_all i xs le)

pub pushed : {X A : Type 0} (f : X → List A) (before now next : List A) (xs : List X) (i : ℕ) (x : X) → i < length xs → x ≡ get_or xs i x → now ≡ before ++ flat_map f (take i xs) → next ≡ now ++ f x
    → next ≡ before ++ flat_map f (take (i + 1) xs)
pushed f before now next xs i x lt is so_far step =
    step ∙ (ap (λ ys. ys ++ f x) so_far ∙ (ap (λ z. (before ++ flat_map f (take i xs)) ++ f z) is ∙ (flat_map_more f before (take i xs) (get_or xs i x) ∙ ap (λ ys. before ++ flat_map f ys) (sym (take_more xs i x lt)))))

pub all_pushed : {X A : Type 0} (f : X → List A) (before now : List A) (xs : List X) (i : ℕ) → length xs ≤ i → now ≡ before ++ flat_map f (take i xs) → now ≡ before ++ flat_map f xs
all_pushed {X} f before now xs i le so_far = so_far ∙ ap (λ (ys : List X). before ++ flat_map f ys) (take_all i xs le)

-- nothing is left to be looked at
ended : {X Y : Type 0} (f : List X → Y) (items xs : List X) (i : ℕ) {r : Y} → items ≡ xs → length items ≤ i → f (drop i xs) ≡ r → f [] ≡ r
ended {X} f items xs i same le so_far = sym (at_drop_all f xs i (subst (λ (ys : List X). length ys ≤ i) same le)) ∙ so_far

pub none_passes : {A : Type 0} (test : A → Bool) (items xs : List A) (i : ℕ) {r : Bool} → items ≡ xs → length items ≤ i → list_any test (drop i xs) ≡ r → false ≡ r
none_passes test items xs i same le so_far = ended (list_any test) items xs i same le so_far

pub none_first : {A B : Type 0} (f : A → List B) (items xs : List A) (i : ℕ) {r : Option B} → items ≡ xs → length items ≤ i → first_of (flat_map f (drop i xs)) ≡ r → None ≡ r
none_first {A} f items xs i same le so_far = ended (λ (ys : List A). first_of (flat_map f ys)) items xs i same le so_far

pub none_found : {A B : Type 0} (make : A → Option B) (items xs : List A) (i : ℕ) {r : Option B} → items ≡ xs → length items ≤ i → first_of (filter_map make (drop i xs)) ≡ r → None ≡ r
none_found {A} make items xs i same le so_far = ended (λ (ys : List A). first_of (filter_map make ys)) items xs i same le so_far

rest_at : {A : Type 0} (items xs : List A) (i : ℕ) (x : A) → items ≡ xs → i < length items → x ≡ get_or items i x → drop i xs ≡ x ∷ drop (i + 1) xs
rest_at {A} items xs i x same lt is = drop_at xs i x (subst (λ (ys : List A). i < length ys) same lt) (is ∙ ap (λ (ys : List A). get_or ys i x) same)

module _ {A : Type 0} (test : A → Bool) (items xs : List A) (i : ℕ) (x : A) {r : Bool} (b : Bool) (same : items ≡ xs) (lt : i < length items) (is : x ≡ get_or items i x) (answers : b ≡ test x) (so_far : list_any test (drop i xs) ≡ r) where
  here : (b || list_any test (drop (i + 1) xs)) ≡ r
  here = ap (λ (c : Bool). c || list_any test (drop (i + 1) xs)) answers ∙ (sym (ap (list_any test) (rest_at items xs i x same lt is)) ∙ so_far)

  pub found_at : b ≡ true → true ≡ r
  found_at t = ap (λ (c : Bool). c || list_any test (drop (i + 1) xs)) (sym t) ∙ here

  pub passed_at : b ≡ false → list_any test (drop (i + 1) xs) ≡ r
  passed_at t = ap (λ (c : Bool). c || list_any test (drop (i + 1) xs)) (sym t) ∙ here

-- ---- the first of lists that are put together

first_here : {B : Type 0} (ys zs : List B) (y : B) → first_of ys ≡ Some y → first_of (ys ++ zs) ≡ Some y
first_here [] zs y e = absurd cc
first_here (x ∷ ys) zs y e = e

first_later : {B : Type 0} (ys zs : List B) → first_of ys ≡ None → first_of (ys ++ zs) ≡ first_of zs
first_later [] zs e = refl
first_later (x ∷ ys) zs e = absurd cc

module _ {A B : Type 0} (f : A → List B) (items xs : List A) (i : ℕ) (x : A) {r : Option B} (o : Option B) (same : items ≡ xs) (lt : i < length items) (is : x ≡ get_or items i x) (answers : o ≡ first_of (f x)) (so_far : first_of (flat_map f (drop i xs)) ≡ r) where
  split : first_of (f x ++ flat_map f (drop (i + 1) xs)) ≡ r
  split = sym (ap (λ ys. first_of (flat_map f ys)) (rest_at items xs i x same lt is) ∙ ap first_of (flat_map-cons f x (drop (i + 1) xs))) ∙ so_far

  pub first_at : (y : B) → o ≡ Some y → Some y ≡ r
  first_at y e = sym (first_here (f x) (flat_map f (drop (i + 1) xs)) y (sym answers ∙ e)) ∙ split

  pub first_behind : o ≡ None → first_of (flat_map f (drop (i + 1) xs)) ≡ r
  first_behind e = sym (first_later (f x) (flat_map f (drop (i + 1) xs)) (sym answers ∙ e)) ∙ split

-- ---- the first that is found

module _ {A B : Type 0} (make : A → Option B) where
  found : (x : A) (xs : List A) (y : B) → make x ≡ Some y → first_of (filter_map make (x ∷ xs)) ≡ Some y
  found x xs y e = rw e refl

  passed : (x : A) (xs : List A) → make x ≡ None → first_of (filter_map make (x ∷ xs)) ≡ first_of (filter_map make xs)
  passed x xs e = rw e refl

  module _ (items xs : List A) (i : ℕ) (x : A) {r : Option B} (o : Option B) (same : items ≡ xs) (lt : i < length items) (is : x ≡ get_or items i x) (answers : o ≡ make x) (so_far : first_of (filter_map make (drop i xs)) ≡ r) where
    next : first_of (filter_map make (x ∷ drop (i + 1) xs)) ≡ r
    next = sym (ap (λ ys. first_of (filter_map make ys)) (rest_at items xs i x same lt is)) ∙ so_far

    pub found_first : (y : B) → o ≡ Some y → Some y ≡ r
    found_first y e = sym (found x (drop (i + 1) xs) y (sym answers ∙ e)) ∙ next

    pub found_later : o ≡ None → first_of (filter_map make (drop (i + 1) xs)) ≡ r
    found_later e = sym (passed x (drop (i + 1) xs) (sym answers ∙ e)) ∙ next
