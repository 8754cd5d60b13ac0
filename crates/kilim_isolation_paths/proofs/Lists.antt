-- Lists, by recursion
use Rattle.std.proofs.Common.{◌≡◌, ◌≢◌, ℕ, zero, suc, ◌+◌, ◌<◌, ◌≤◌, List, [], ◌∷◌, ◌++◌, length, slice_get, Some, None, Option, refl, ap, subst, ◌∙◌, ◌⊎◌, inl, inr, arith, false, add-one, take, is_some}
use Rattle.std.specs.List.{AllByRecursion, AllZip}
use Rattle.std.proofs.lemmas.Grind.{common_steps}
use Rattle.kilim_isolation_paths.specs.Paths.{Has, AreDifferent}

pub get_left : {X : Type 0} (xs ys : List X) (k : ℕ) (x : X) → slice_get xs k ≡ Some x → slice_get (xs ++ ys) k ≡ Some x
get_left [] ys k x h = absurd (cc)
get_left (y ∷ xs) ys zero x h = h
get_left (y ∷ xs) ys (suc k) x h = get_left xs ys k x h

pub get_last : {X : Type 0} (xs : List X) (y : X) → slice_get (xs ++ y ∷ []) (length xs) ≡ Some y
get_last [] y = refl
get_last (x ∷ xs) y = get_last xs y

pub get_push : {X : Type 0} (xs : List X) (y : X) (k : ℕ) (x : X) → slice_get (xs ++ y ∷ []) k ≡ Some x → (slice_get xs k ≡ Some x) ⊎ ((k ≡ length xs) × (y ≡ x))
get_push [] y zero x h = inr (refl, cc)
get_push [] y (suc k) x h = absurd (cc)
get_push (z ∷ xs) y zero x h = inl h
get_push (z ∷ xs) y (suc k) x h = elim (get_push xs y k x h) [ inl a ↦ inl a | inr b ↦ inr (ap suc b.0, b.1) ]

pub has_left : {X : Type 0} (xs ys : List X) (x : X) → Has xs x → Has (xs ++ ys) x
has_left xs ys x h = (h.0, get_left xs ys h.0 x h.1)

pub has_last : {X : Type 0} (xs : List X) (y : X) → Has (xs ++ y ∷ []) y
has_last xs y = (length xs, get_last xs y)

pub has_in : {X : Type 0} (P : X → Type 0) (xs : List X) (x : X) → AllByRecursion P xs → Has xs x → P x
has_in P [] x a h = absurd (cc (h.1))
has_in P (y ∷ xs) x a (zero, h) = let e : y ≡ x = cc in subst P e a.0
has_in P (y ∷ xs) x a (suc k, h) = has_in P xs x a.1 (k, h)

pub all_push : {X : Type 0} (P : X → Type 0) (xs : List X) (y : X) → AllByRecursion P xs → P y → AllByRecursion P (xs ++ y ∷ [])
all_push P [] y a p = (p, tt)
all_push P (x ∷ xs) y a p = (a.0, all_push P xs y a.1 p)

pub all_from : {X : Type 0} (P : X → Type 0) (xs : List X) → ((x : X) → Has xs x → P x) → AllByRecursion P xs
all_from P [] f = tt
all_from P (x ∷ xs) f = (f x (zero, refl), all_from P xs (λ y h. f y (suc h.0, h.1)))

pub different_push : {X : Type 0} (xs : List X) (y : X) → AreDifferent xs → (Has xs y → ⊥) → AreDifferent (xs ++ y ∷ [])
different_push [] y d n = (tt, tt)
different_push (x ∷ xs) y d n =
    (all_push (λ t. x ≢ t) xs y d.0 (λ e. n (zero, ap Some e)), different_push xs y d.1 (λ h. n (suc h.0, h.1)))

-- a list without its k-th element
without : {X : Type 0} → List X → ℕ → List X
without [] k = []
without (x ∷ xs) zero = xs
without (x ∷ xs) (suc k) = x ∷ without xs k

length-without : {X : Type 0} (xs : List X) (k : ℕ) (x : X) → slice_get xs k ≡ Some x → length xs ≡ suc (length (without xs k))
unfolding without
length-without [] k x h = absurd (cc)
length-without (y ∷ xs) zero x h = refl
length-without (y ∷ xs) (suc k) x h = ap suc (length-without xs k x h)

has_without : {X : Type 0} (xs : List X) (k : ℕ) (x y : X) → slice_get xs k ≡ Some x → x ≢ y → Has xs y → Has (without xs k) y
unfolding without
has_without [] k x y h n i = absurd (cc (i.1))
has_without (z ∷ xs) zero x y h n (zero, i) = absurd (n (cc))
has_without (z ∷ xs) zero x y h n (suc j, i) = (j, i)
has_without (z ∷ xs) (suc k) x y h n (zero, i) = (zero, i)
has_without (z ∷ xs) (suc k) x y h n (suc j, i) = let r = has_without xs k x y h n (j, i) in (suc r.0, r.1)

all_without : {X : Type 0} (xs ss : List X) (k : ℕ) (x : X) → slice_get xs k ≡ Some x → AllByRecursion (λ t. x ≢ t) ss → AllByRecursion (Has xs) ss → AllByRecursion (Has (without xs k)) ss
all_without xs [] k x h n a = tt
all_without xs (s ∷ ss) k x h n a = (has_without xs k x s h n.0 a.0, all_without xs ss k x h n.1 a.1)

-- different elements of a list are no more than it has
pub few_different : {X : Type 0} (ss xs : List X) → AreDifferent ss → AllByRecursion (Has xs) ss → length ss ≤ length xs
few_different [] xs d a = omega arith
few_different (s ∷ ss) xs d a =
    let r = few_different ss (without xs a.0.0) d.1 (all_without xs ss a.0.0 s a.0.1 d.0 a.1) in
    let e = length-without xs a.0.0 s a.0.1 in
    grind (arith, common_steps, r, e)

pub get_some : {X : Type 0} (xs : List X) (k : ℕ) → k < length xs → (x : X) × (slice_get xs k ≡ Some x)
get_some [] k h = absurd (omega arith)
get_some (x ∷ xs) zero h = (x, refl)
get_some (x ∷ xs) (suc k) h = get_some xs k (omega arith)

pub get_below : {X : Type 0} (xs ys : List X) (k : ℕ) (x : X) → k < length xs → slice_get (xs ++ ys) k ≡ Some x → slice_get xs k ≡ Some x
get_below [] ys k x b h = absurd (omega arith)
get_below (z ∷ xs) ys zero x b h = h
get_below (z ∷ xs) ys (suc k) x b h = get_below xs ys k x (omega arith) h

pub zip_push : {A B : Type 0} (R : A → B → Type 0) (xs : List A) (ys : List B) (x : A) (y : B) → AllZip R xs ys → R x y → AllZip R (xs ++ x ∷ []) (ys ++ y ∷ [])
zip_push R [] [] x y a r = (r, tt)
zip_push R [] (z ∷ ys) x y a r = absurd a
zip_push R (w ∷ xs) [] x y a r = absurd a
zip_push R (w ∷ xs) (z ∷ ys) x y a r = (a.0, zip_push R xs ys x y a.1 r)

next : {X : Type 0} (xs : List X) (n : ℕ) (x : X) → slice_get xs n ≡ Some x → take (suc n) xs ≡ take n xs ++ x ∷ []
next [] n x h = absurd (cc)
next (y ∷ xs) zero x h = let e : y ≡ x = cc in ap (λ z. z ∷ []) e
next (y ∷ xs) (suc n) x h = ap (λ zs. y ∷ zs) (next xs n x h)

pub take_next : {X : Type 0} (xs : List X) (n : ℕ) (x : X) → slice_get xs n ≡ Some x → take (n + 1) xs ≡ take n xs ++ x ∷ []
take_next xs n x h = rw add-one (next xs n x h)

pub is_none : {X : Type 0} (o : Option X) → is_some o ≡ false → o ≡ None
is_none None h = refl
is_none (Some x) h = absurd (cc)

pub take_whole : {X : Type 0} (xs : List X) (n : ℕ) → length xs ≤ n → take n xs ≡ xs
take_whole [] zero h = refl
take_whole [] (suc n) h = refl
take_whole (x ∷ xs) zero h = absurd (omega arith)
take_whole (x ∷ xs) (suc n) h = ap (λ ys. x ∷ ys) (take_whole xs n (omega arith))

front_of : {X : Type 0} (xs ys : List X) → take (length xs) (xs ++ ys) ≡ xs
front_of [] ys = refl
front_of (x ∷ xs) ys = ap (λ zs. x ∷ zs) (front_of xs ys)

-- what was pushed is cut off again
pub cut_back : {X : Type 0} (xs pushed now : List X) (y : X) (n : ℕ) → n ≡ length xs → pushed ≡ xs ++ y ∷ [] → now ≡ take n pushed → now ≡ xs
cut_back xs pushed now y n at push cut = cut ∙ (ap (λ zs. take n zs) push ∙ (ap (λ m. take m (xs ++ y ∷ [])) at ∙ front_of xs (y ∷ [])))
