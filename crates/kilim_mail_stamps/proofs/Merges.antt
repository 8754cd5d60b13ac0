-- What is sorted by stamp and by task is in order.
use Rattle.std.proofs.Common.{◌≡◌, ◌≢◌, ℕ, zero, suc, ◌+◌, ◌<◌, ◌≤◌, Bool, true, false, ◌==◌, nat_lt, cond, List, [], ◌∷◌, refl, sym, ap, subst, ◌∙◌, ◌⊎◌, inl, inr, arith}
use Rattle.std.specs.Prelude.{◌&&◌, ◌||◌, if◌then◌else◌, length, slice_index_or}
use Rattle.std.specs.List.{sum_by, fold}
use Rattle.std.specs.List.Sorted.{IsPermutation, IsNonDecreasingBy}
use Rattle.std.proofs.lemmas.List.Sorted.{sum_by-IsPermutation}
use Rattle.std.proofs.lemmas.Bool.Decides.{nat_tests}
use Rattle.kilim_mail_stamps.specs.declared.stamped.Stamped.{Stamped}
use Rattle.kilim_mail_stamps.specs.Stamps.{is_before, among, in_order}
use Rattle.kilim_mail_stamps.specs.Merging.{weigh}
use Rattle.kilim_mail_stamps.specs.Merging.{is_at, Apart}
use Rattle.kilim_mail_stamps.proofs.Weights.{alike, alike_is, alike_self, stamped_coded, weigh_in_order}

-- ---- the order, as a proposition

abbrev Lt : Stamped → Stamped → Type 0
Lt a b = (a.stamp < b.stamp) ⊎ ((a.stamp ≡ b.stamp) × (a.entry.task < b.entry.task))

abbrev Le : Stamped → Stamped → Type 0
Le a b = (a.stamp < b.stamp) ⊎ ((a.stamp ≡ b.stamp) × (a.entry.task ≤ b.entry.task))

lt_le : (a b : Stamped) → Lt a b → Le a b
lt_le a b (inl h) = inl h
lt_le a b (inr (e, h)) = inr (e, (omega arith))

le_le : (a b c : Stamped) → Le a b → Le b c → Le a c
le_le a b c (inl h) (inl k) = inl (omega arith)
le_le a b c (inl h) (inr (e, k)) = inl (omega arith)
le_le a b c (inr (e, h)) (inl k) = inl (omega arith)
le_le a b c (inr (e, h)) (inr (f, k)) = inr ((omega arith), (omega arith))

lt_lt : (a b c : Stamped) → Lt a b → Lt b c → Lt a c
lt_lt a b c (inl h) (inl k) = inl (omega arith)
lt_lt a b c (inl h) (inr (e, k)) = inl (omega arith)
lt_lt a b c (inr (e, h)) (inl k) = inl (omega arith)
lt_lt a b c (inr (e, h)) (inr (f, k)) = inr ((omega arith), (omega arith))

not_both : (a b : Stamped) → Lt a b → Le b a → ⊥
not_both a b (inl h) (inl k) = absurd (omega arith)
not_both a b (inl h) (inr (e, k)) = absurd (omega arith)
not_both a b (inr (e, h)) (inl k) = absurd (omega arith)
not_both a b (inr (e, h)) (inr (f, k)) = absurd (omega arith)

told_lt : (a b : Stamped) → is_before a b ≡ true → Lt a b
told_lt a b e = by (nat_lt a.stamp b.stamp) refl (a.stamp == b.stamp) refl (nat_lt a.entry.task b.entry.task) refl
  where
    by : (x : Bool) → nat_lt a.stamp b.stamp ≡ x → (y : Bool) → (a.stamp == b.stamp) ≡ y → (z : Bool) → nat_lt a.entry.task b.entry.task ≡ z → Lt a b
    by true ex y ey z ez = inl (grind (arith, nat_tests))
    by false ex true ey true ez = inr ((grind (arith, nat_tests)), (grind (arith, nat_tests)))
    by false ex true ey false ez = absurd (let h : false ≡ true = sym (ap (λ (x : Bool). x || (a.stamp == b.stamp && nat_lt a.entry.task b.entry.task)) ex ∙ (ap (λ (x : Bool). x && nat_lt a.entry.task b.entry.task) ey ∙ ez)) ∙ e in cc)
    by false ex false ey z ez = absurd (let h : false ≡ true = sym (ap (λ (x : Bool). x || (a.stamp == b.stamp && nat_lt a.entry.task b.entry.task)) ex ∙ ap (λ (x : Bool). x && nat_lt a.entry.task b.entry.task) ey) ∙ e in cc)

told_le : (a b : Stamped) → is_before b a ≡ false → Le a b
told_le a b e = by (nat_lt b.stamp a.stamp) refl (b.stamp == a.stamp) refl (nat_lt b.entry.task a.entry.task) refl
  where
    by : (x : Bool) → nat_lt b.stamp a.stamp ≡ x → (y : Bool) → (b.stamp == a.stamp) ≡ y → (z : Bool) → nat_lt b.entry.task a.entry.task ≡ z → Le a b
    by true ex y ey z ez = absurd (let h : true ≡ false = sym (ap (λ (x : Bool). x || (b.stamp == a.stamp && nat_lt b.entry.task a.entry.task)) ex) ∙ e in cc)
    by false ex true ey true ez = absurd (let h : true ≡ false = sym (ap (λ (x : Bool). x || (b.stamp == a.stamp && nat_lt b.entry.task a.entry.task)) ex ∙ (ap (λ (x : Bool). x && nat_lt b.entry.task a.entry.task) ey ∙ ez)) ∙ e in cc)
    by false ex true ey false ez = inr ((grind (arith, nat_tests)), (grind (arith, nat_tests)))
    by false ex false ey z ez = inl (grind (arith, nat_tests))

-- ---- in order

abbrev Floor : Stamped → List Stamped → Type 0
Floor a [] = Unit {0}
Floor a (x ∷ xs) = Le a x × Floor a xs

abbrev Sorted : List Stamped → Type 0
Sorted [] = Unit {0}
Sorted (x ∷ xs) = Floor x xs × Sorted xs

floor_less : (a b : Stamped) (xs : List Stamped) → Le a b → Floor b xs → Floor a xs
floor_less a b [] le f = tt
floor_less a b (x ∷ xs) le (h, f) = (le_le a b x le h, floor_less a b xs le f)

floor_among : (a x : Stamped) (ys : List Stamped) → Le a x → Floor a ys → Floor a (among x ys)
floor_among a x [] le f = (le, tt)
floor_among a x (y ∷ ys) le (h, f) = by (is_before y x) (floor_among a x ys le f)
  where
    by : (b : Bool) → Floor a (among x ys) → Floor a (if b then y ∷ among x ys else x ∷ (y ∷ ys))
    by true g = (h, g)
    by false g = (le, (h, f))

sorted_among : (x : Stamped) (ys : List Stamped) → Sorted ys → Sorted (among x ys)
sorted_among x [] o = (tt, tt)
sorted_among x (y ∷ ys) (f, o) = by (is_before y x) refl (sorted_among x ys o)
  where
    by : (b : Bool) → is_before y x ≡ b → Sorted (among x ys) → Sorted (if b then y ∷ among x ys else x ∷ (y ∷ ys))
    by true e g = (floor_among y x ys (lt_le y x (told_lt y x e)) f, g)
    by false e g = let le = told_le x y e in ((le, floor_less x y ys le f), (f, o))

sorted_in_order : (xs : List Stamped) → Sorted (in_order xs)
sorted_in_order [] = tt
sorted_in_order (x ∷ xs) = sorted_among x (in_order xs) (sorted_in_order xs)

-- ---- strictly

abbrev Over : Stamped → List Stamped → Type 0
Over a [] = Unit {0}
Over a (x ∷ xs) = Lt a x × Over a xs

abbrev Strict : List Stamped → Type 0
Strict [] = Unit {0}
Strict (x ∷ xs) = Over x xs × Strict xs

over_more : (a b : Stamped) (xs : List Stamped) → Lt a b → Over b xs → Over a xs
over_more a b [] lt o = tt
over_more a b (x ∷ xs) lt (h, o) = (lt_lt a b x lt h, over_more a b xs lt o)

abbrev times : Stamped → List Stamped → ℕ
times x ys = weigh (λ y. cond (alike stamped_coded x y) 1 0) ys

over_has : (a x : Stamped) (ys : List Stamped) → Over a ys → times x ys ≢ 0 → Lt a x
over_has a x [] o some = absurd (some refl)
over_has a x (y ∷ ys) (h, o) some = by (alike stamped_coded x y) refl (λ s. over_has a x ys o s)
  where
    by : (b : Bool) → alike stamped_coded x y ≡ b → (times x ys ≢ 0 → Lt a x) → Lt a x
    by true e later = subst (λ (z : Stamped). Lt a z) (sym (alike_is stamped_coded x y e)) h
    by false e later = later (λ none. some (ap (λ (z : Bool). cond z 1 0 + times x ys) e ∙ (let k : 0 + times x ys ≡ 0 = omega arith in k)))

floor_has : (a x : Stamped) (ys : List Stamped) → Floor a ys → times x ys ≢ 0 → Le a x
floor_has a x [] o some = absurd (some refl)
floor_has a x (y ∷ ys) (h, o) some = by (alike stamped_coded x y) refl (λ s. floor_has a x ys o s)
  where
    by : (b : Bool) → alike stamped_coded x y ≡ b → (times x ys ≢ 0 → Le a x) → Le a x
    by true e later = subst (λ (z : Stamped). Le a z) (sym (alike_is stamped_coded x y e)) h
    by false e later = later (λ none. some (ap (λ (z : Bool). cond z 1 0 + times x ys) e ∙ (let k : 0 + times x ys ≡ 0 = omega arith in k)))

same_first : (x y : Stamped) (xs ys : List Stamped) → Floor x xs → Over y ys → ((g : Stamped → ℕ) → weigh g (x ∷ xs) ≡ weigh g (y ∷ ys)) → x ≡ y
same_first x y xs ys f o same = by (alike stamped_coded x y) refl (alike stamped_coded y x) refl
  where
    by : (b : Bool) → alike stamped_coded x y ≡ b → (c : Bool) → alike stamped_coded y x ≡ c → x ≡ y
    by true e c d = alike_is stamped_coded x y e
    by false e true d = sym (alike_is stamped_coded y x d)
    by false e false d =
        let here : times x (x ∷ xs) ≡ times x (y ∷ ys) = same (λ z. cond (alike stamped_coded x z) 1 0) in
        let one : times x (x ∷ xs) ≡ 1 + times x xs = ap (λ (b : Bool). cond b 1 0 + times x xs) (alike_self stamped_coded x) in
        let none : times x (y ∷ ys) ≡ 0 + times x ys = ap (λ (b : Bool). cond b 1 0 + times x ys) e in
        let lt : Lt y x = over_has y x ys o (λ z. absurd (let k : 1 + times x xs ≡ 0 = sym one ∙ (here ∙ (none ∙ (let w : 0 + times x ys ≡ 0 = omega arith in w))) in omega arith)) in
        let there : times y (x ∷ xs) ≡ times y (y ∷ ys) = same (λ z. cond (alike stamped_coded y z) 1 0) in
        let one' : times y (y ∷ ys) ≡ 1 + times y ys = ap (λ (b : Bool). cond b 1 0 + times y ys) (alike_self stamped_coded y) in
        let none' : times y (x ∷ xs) ≡ 0 + times y xs = ap (λ (b : Bool). cond b 1 0 + times y xs) d in
        let le : Le x y = floor_has x y xs f (λ z. absurd (let k : 1 + times y ys ≡ 0 = sym one' ∙ (sym there ∙ (none' ∙ (let w : 0 + times y xs ≡ 0 = omega arith in w))) in omega arith)) in
        absurd (not_both y x lt le)

-- what is in order and weighs as a strict list is that list
same_list : (xs ys : List Stamped) → Sorted xs → Strict ys → ((g : Stamped → ℕ) → weigh g xs ≡ weigh g ys) → xs ≡ ys
same_list [] [] o r same = refl
same_list [] (y ∷ ys) o r same = absurd (let h : 0 ≡ 1 + weigh (λ z. 1) ys = same (λ z. 1) in omega arith)
same_list (x ∷ xs) [] o r same = absurd (let h : 1 + weigh (λ z. 1) xs ≡ 0 = same (λ z. 1) in omega arith)
same_list (x ∷ xs) (y ∷ ys) (f, o) (v, r) same =
    let first : x ≡ y = same_first x y xs ys f v same in
    let rest : xs ≡ ys = same_list xs ys o r (λ g. let h : g x + weigh g xs ≡ g y + weigh g ys = same g in let k : g x ≡ g y = ap g first in omega arith) in
    ap (λ (z : Stamped). z ∷ xs) first ∙ ap (λ (zs : List Stamped). y ∷ zs) rest

-- ---- from what a sort gives

abbrev pub Neighbours : List Stamped → Type 0
Neighbours xs = (k : ℕ) (d : Stamped) → suc k < length xs → ((slice_index_or xs k d).stamp ≤ (slice_index_or xs (suc k) d).stamp) × ((slice_index_or xs k d).stamp ≡ (slice_index_or xs (suc k) d).stamp → (slice_index_or xs k d).entry.task ≤ (slice_index_or xs (suc k) d).entry.task)

twice : (x y : Stamped) (xs : List Stamped) → Apart (x ∷ y ∷ xs) → x.stamp ≡ y.stamp → x.entry.task ≡ y.entry.task → ⊥
twice x y xs apart e f =
    let a = apart x.stamp x.entry.task in
    let sx : (x.stamp == x.stamp) ≡ true = grind (arith, nat_tests) in
    let tx : (x.entry.task == x.entry.task) ≡ true = grind (arith, nat_tests) in
    let sy : (y.stamp == x.stamp) ≡ true = grind (arith, nat_tests) in
    let ty : (y.entry.task == x.entry.task) ≡ true = grind (arith, nat_tests) in
    let one : is_at x.stamp x.entry.task x ≡ 1 = ap (λ (b : Bool). cond (b && x.entry.task == x.entry.task) 1 0) sx ∙ ap (λ (b : Bool). cond b 1 0) tx in
    let two : is_at x.stamp x.entry.task y ≡ 1 = ap (λ (b : Bool). cond (b && y.entry.task == x.entry.task) 1 0) sy ∙ ap (λ (b : Bool). cond b 1 0) ty in
    absurd (omega arith)

apart_rest : (x : Stamped) (xs : List Stamped) → Apart (x ∷ xs) → Apart xs
apart_rest x xs apart n t = let h = apart n t in omega arith

neighbours_rest : (x : Stamped) (xs : List Stamped) → Neighbours (x ∷ xs) → Neighbours xs
neighbours_rest x xs h k d lt = h (suc k) d (omega arith)

strict_from : (xs : List Stamped) → Neighbours xs → Apart xs → Strict xs
strict_from [] h apart = tt
strict_from (x ∷ []) h apart = (tt, tt)
strict_from (x ∷ y ∷ xs) h apart = at (strict_from (y ∷ xs) (neighbours_rest x (y ∷ xs) h) (apart_rest x (y ∷ xs) apart))
  where
    by : (b : Bool) → nat_lt x.stamp y.stamp ≡ b → (c : Bool) → nat_lt x.entry.task y.entry.task ≡ c → Lt x y
    by true e c f = inl (grind (arith, nat_tests))
    by false e true f =
        let n = h 0 x (let k : 1 < suc (suc (length xs)) = omega arith in k) in
        let le : x.stamp ≤ y.stamp = n.0 in
        inr ((grind (arith, nat_tests)), (grind (arith, nat_tests)))
    by false e false f =
        let n = h 0 x (let k : 1 < suc (suc (length xs)) = omega arith in k) in
        let le : x.stamp ≤ y.stamp = n.0 in
        let same : x.stamp ≡ y.stamp = grind (arith, nat_tests) in
        let task : x.entry.task ≤ y.entry.task = n.1 same in
        let same' : x.entry.task ≡ y.entry.task = grind (arith, nat_tests) in
        absurd (twice x y xs apart same same')

    at : Strict (y ∷ xs) → Strict (x ∷ y ∷ xs)
    at s = let lt = by (nat_lt x.stamp y.stamp) refl (nat_lt x.entry.task y.entry.task) refl in ((lt, over_more x y xs lt s.0), s)

-- ---- weights of a permutation: a sum from the left is one from the right

fold_sum : {A : Type 0} (f : A → ℕ) (a : ℕ) (xs : List A) → fold (λ (n : ℕ) (x : A). n + f x) a xs ≡ a + weigh f xs
fold_sum f a [] = omega arith
fold_sum f a (x ∷ xs) = let h = fold_sum f (a + f x) xs in omega arith

open_sum : {A : Type 0} (f : A → ℕ) (xs : List A) → sum_by f xs ≡ weigh f xs
open_sum f xs = let h = fold_sum f 0 xs in h ∙ (let k : 0 + weigh f xs ≡ weigh f xs = omega arith in k)

pub weigh_permutation : {A : Type 0} (f : A → ℕ) (xs ys : List A) → IsPermutation xs ys → weigh f ys ≡ weigh f xs
weigh_permutation f xs ys p = sym (open_sum f ys) ∙ (sum_by-IsPermutation f xs ys p ∙ open_sum f xs)

pub near_from : (xs : List Stamped) → IsNonDecreasingBy (λ (s : Stamped). s.stamp) xs →
    ((k : ℕ) (d : Stamped) → k + 1 < length xs → (slice_index_or xs k d).stamp ≡ (slice_index_or xs (k + 1) d).stamp → (slice_index_or xs k d).entry.task ≤ (slice_index_or xs (k + 1) d).entry.task) → Neighbours xs
near_from xs up ties k d lt =
    let e : k + 1 ≡ suc k = omega arith in (
      up k (suc k) d (omega arith) lt,
      subst (λ (j : ℕ). (slice_index_or xs k d).stamp ≡ (slice_index_or xs j d).stamp → (slice_index_or xs k d).entry.task ≤ (slice_index_or xs j d).entry.task) e (ties k d (omega arith)),
    )

pub sorted_is : (old new : List Stamped) → IsPermutation old new → Apart old → Neighbours new → new ≡ in_order old
sorted_is old new perm apart near =
    sym (same_list (in_order old) new (sorted_in_order old) (strict_from new near (λ n t. let w = weigh_permutation (is_at n t) old new perm in let a = apart n t in omega arith))
    (λ g. weigh_in_order g old ∙ sym (weigh_permutation g old new perm)))
