-- Lists put together in order, by appending each behind the last.
use Rattle.std.proofs.Common.{◌≡◌, ℕ, ◌+◌, ◌<◌, List, [], ◌∷◌, ◌++◌, length, get_or, map, take, sym, ap, ◌∙◌, append_assoc, ◌≤◌}
use Rattle.std.specs.List.{flat_map}
use Rattle.std.proofs.lemmas.List.{take_more, map_more, map_push, flat_map_more, take_all}
use Rattle.std.proofs.lemmas.Grind.{flat_map-append}
use Rattle.kilim_class_descriptors.specs.declared.types.FieldText.{FieldText}
use Rattle.kilim_link_spec.specs.Types.{type_names}

pub three : {A : Type 0} (before : List A) (x : A) (xs ys : List A) → before ++ x ∷ [] ++ xs ++ ys ≡ before ++ (x ∷ (xs ++ ys))
three before x xs ys = simp append_assoc

pub four : {A : Type 0} (before : List A) (x : A) (xs ys zs : List A) → before ++ x ∷ [] ++ xs ++ ys ++ zs ≡ before ++ (x ∷ (xs ++ (ys ++ zs)))
four before x xs ys zs = simp append_assoc

-- a loop that appends a list for each element
module _ {X A : Type 0} (f : X → List A) (before now next : List A) (xs : List X) (i : ℕ) where
  pub joined : (d : X) → i < length xs → now ≡ before ++ flat_map f (take i xs) → next ≡ now ++ f (get_or xs i d) → next ≡ before ++ flat_map f (take (i + 1) xs)
  joined d lt so_far step =
      step ∙ (ap (λ ys. ys ++ f (get_or xs i d)) so_far ∙ (flat_map_more f before (take i xs) (get_or xs i d) ∙ ap (λ ys. before ++ flat_map f ys) (sym (take_more xs i d lt))))

  pub pushed : (x : X) → i < length xs → x ≡ get_or xs i x → now ≡ before ++ flat_map f (take i xs) → next ≡ now ++ f x → next ≡ before ++ flat_map f (take (i + 1) xs)
  pushed x lt is so_far step = joined x lt so_far (step ∙ ap (λ z. now ++ f z) is)

-- a loop that appends one thing for each element
pub mapped : {X A : Type 0} (f : X → A) (before now next : List A) (xs : List X) (i : ℕ) (x d : X) (y : A) → i < length xs → x ≡ get_or xs i d
    → now ≡ before ++ map f (take i xs) → y ≡ f x → next ≡ now ++ y ∷ [] → next ≡ before ++ map f (take (i + 1) xs)
mapped f before now next xs i x d y lt is so_far made step =
    step ∙ (ap (λ ys. ys ++ y ∷ []) so_far ∙ (ap (λ z. (before ++ map f (take i xs)) ++ z ∷ []) (made ∙ ap f is) ∙ (append_assoc before (map f (take i xs)) (f (get_or xs i d) ∷ []) ∙ ap (λ ys. before ++ ys) (sym (map_more f xs i d lt)))))

pub mapped_twice : {X Y A : Type 0} (f : Y → A) (g : X → Y) (before now next : List A) (xs : List X) (i : ℕ) (x d : X) (y : A) → i < length xs → x ≡ get_or xs i d
    → now ≡ before ++ map f (map g (take i xs)) → y ≡ f (g x) → next ≡ now ++ y ∷ [] → next ≡ before ++ map f (map g (take (i + 1) xs))
mapped_twice f g before now next xs i x d y lt is so_far made step =
    let done = map f (map g (take i xs)) in
    let more = ap (map f) (map_more g xs i d lt) ∙ map_push f (map g (take i xs)) (g (get_or xs i d)) in
    step ∙ (ap (λ ys. ys ++ y ∷ []) so_far ∙ (ap (λ z. (before ++ done) ++ z ∷ []) (made ∙ ap (λ z. f (g z)) is) ∙ (append_assoc before done (f (g (get_or xs i d)) ∷ []) ∙ ap (λ ys. before ++ ys) (sym more))))

-- a loop that appends what is made of each element of a list for each element
pub pushed_twice : {X Y A : Type 0} (f : Y → List A) (g : X → List Y) (before now next : List A) (xs : List X) (i : ℕ) (x : X) → i < length xs → x ≡ get_or xs i x
    → now ≡ before ++ flat_map f (flat_map g (take i xs)) → next ≡ now ++ flat_map f (g x) → next ≡ before ++ flat_map f (flat_map g (take (i + 1) xs))
pushed_twice f g before now next xs i x lt is so_far step =
    let done = flat_map f (flat_map g (take i xs)) in
    let at = get_or xs i x in
    let more = ap (λ ys. flat_map f (flat_map g ys)) (take_more xs i x lt) ∙ (ap (flat_map f) (sym (flat_map_more g [] (take i xs) at)) ∙ flat_map-append f (flat_map g (take i xs)) (g at)) in
    step ∙ (ap (λ ys. ys ++ flat_map f (g x)) so_far ∙ (ap (λ z. (before ++ done) ++ flat_map f (g z)) is ∙ (append_assoc before done (flat_map f (g at)) ∙ ap (λ ys. before ++ ys) (sym more))))

-- the same loops where no element is left
pub all_pushed : {X A : Type 0} (f : X → List A) (before now : List A) (xs : List X) (i : ℕ) → length xs ≤ i → now ≡ before ++ flat_map f (take i xs) → now ≡ before ++ flat_map f xs
all_pushed {X = X} f before now xs i le so_far = so_far ∙ ap (λ (ys : List X). before ++ flat_map f ys) (take_all i xs le)

pub all_mapped : {X A : Type 0} (f : X → A) (before now : List A) (xs : List X) (i : ℕ) → length xs ≤ i → now ≡ before ++ map f (take i xs) → now ≡ before ++ map f xs
all_mapped {X = X} f before now xs i le so_far = so_far ∙ ap (λ (ys : List X). before ++ map f ys) (take_all i xs le)

pub all_mapped_twice : {X Y A : Type 0} (f : Y → A) (g : X → Y) (before now : List A) (xs : List X) (i : ℕ) → length xs ≤ i → now ≡ before ++ map f (map g (take i xs)) → now ≡ before ++ map f (map g xs)
all_mapped_twice {X = X} f g before now xs i le so_far = so_far ∙ ap (λ (ys : List X). before ++ map f (map g ys)) (take_all i xs le)

pub all_pushed_twice : {X Y A : Type 0} (f : Y → List A) (g : X → List Y) (before now : List A) (xs : List X) (i : ℕ) → length xs ≤ i → now ≡ before ++ flat_map f (flat_map g (take i xs))
    → now ≡ before ++ flat_map f (flat_map g xs)
all_pushed_twice {X = X} f g before now xs i le so_far = so_far ∙ ap (λ (ys : List X). before ++ flat_map f (flat_map g ys)) (take_all i xs le)

-- the names in the types of a method: in those of its parameters, and behind them in that of its result
pub both_names : (before : List (List ℕ)) (xs ys : List FieldText) → before ++ flat_map type_names xs ++ flat_map type_names ys ≡ before ++ flat_map type_names (xs ++ ys)
both_names before xs ys = rw (flat_map-append type_names xs ys) (simp append_assoc)
