-- Types of arrays; stacks and locals as lists.
use Rattle.std.proofs.Common.{◌≡◌, ℕ, zero, suc, ◌+◌, ◌-◌, ◌<◌, ◌≤◌, Bool, true, false, ◌||◌, refl, ap, sym, ◌∙◌, inl, inr, arith, List, [], ◌∷◌, ◌++◌, length, take, drop, reverse, get_or, set}
use Rattle.std.proofs.lemmas.List.{reverse-append, length-reverse, length-take, length-drop, drop_at, drop_all, take-append-drop, drop_more, take_more, get_or_at, set_at, append_assoc, append-nil, take_all, take_at}
use Rattle.std.proofs.lemmas.Bool.{cases_lt}
use Rattle.std.proofs.lemmas.List.Folds.{list_any-append}
use Rattle.std.specs.List.{list_any}
use Rattle.kilim_program.specs.declared.ty.Ty.{Ty}
use Rattle.kilim_program.specs.declared.verified.VType.{VType}
use Rattle.kilim_program.specs.declared.verified.VType.TheVariants.{Top, Int, Long, Null, UninitThis, Uninit, Object}
use Rattle.kilim_type_spec.specs.Step.{dims_vtype, words, size, replaced, one_replaced, is_same, is_long, poke, peek, split_at, split_long, with_half}

pub array_vtype : (ty : Ty) (n : ℕ) → 0 < n → dims_vtype ty n ≡ Object ty
array_vtype ty zero lt = absurd (omega arith)
array_vtype ty (suc n) lt = refl

pub reverse_cons : {A : Type 0} → (x : A) (xs : List A) → reverse (x ∷ xs) ≡ reverse xs ++ x ∷ []
reverse_cons x xs = reverse-append (x ∷ []) xs

-- ---- words

pub words_append : (xs ys : List VType) → words (xs ++ ys) ≡ words xs + words ys
words_append [] ys = omega arith
words_append (x ∷ xs) ys = omega (arith, words_append xs ys)

pub words_reverse : (xs : List VType) → words (reverse xs) ≡ words xs
words_reverse [] = refl
words_reverse (x ∷ xs) = rw reverse_cons (omega (arith, words_append (reverse xs) (x ∷ []), words_reverse xs))

pub words_drop : (xs : List VType) (k : ℕ) → k < length xs → words (drop k xs) ≡ size (get_or xs k Top) + words (drop (k + 1) xs)
words_drop xs k h = ap words (drop_more xs k Top h)

-- what is left without the topmost
pub drop_reversed : {A : Type 0} → (n k : ℕ) (xs : List A) → k + n ≡ length xs → reverse (take k xs) ≡ drop n (reverse xs)
drop_reversed n k xs e =
    let joined : reverse xs ≡ reverse (drop k xs) ++ reverse (take k xs) = ap reverse (sym (take-append-drop k xs)) ∙ reverse-append (take k xs) (drop k xs) in
    let long : length (reverse (drop k xs)) ≡ n = omega (arith, length-reverse (drop k xs), length-drop k xs) in
    sym (ap (drop n) joined ∙ drop_at (reverse (drop k xs)) (reverse (take k xs)) n long)

pub drop_past : {A : Type 0} → (n : ℕ) (xs : List A) → length xs ≤ n → drop n (reverse xs) ≡ []
drop_past n xs h = drop_all n (reverse xs) (omega (arith, length-reverse xs))

pub drop_reverse : {A : Type 0} → (n : ℕ) (xs : List A) → reverse (take (length xs - n) xs) ≡ drop n (reverse xs)
drop_reverse n xs = elim (cases_lt (length xs) n) [
  | inl h ↦ ap (λ k. reverse (take k xs)) (let z : length xs - n ≡ 0 = omega arith in z) ∙ sym (drop_past n xs (omega arith))
  | inr h ↦ drop_reversed n (length xs - n) xs (omega arith)
]

pub top_reversed : {A : Type 0} → (n : ℕ) (xs : List A) → reverse (drop (length xs - n) xs) ≡ take n (reverse xs)
top_reversed n xs = elim (cases_lt (length xs) n) [
  | inl h ↦ ap (λ k. reverse (drop k xs)) (let z : length xs - n ≡ 0 = omega arith in z) ∙ sym (take_all n (reverse xs) (omega (arith, length-reverse xs)))
  | inr h ↦ (
      let k = length xs - n in
      let joined : reverse xs ≡ reverse (drop k xs) ++ reverse (take k xs) = ap reverse (sym (take-append-drop k xs)) ∙ reverse-append (take k xs) (drop k xs) in
      let long : length (reverse (drop k xs)) ≡ n = omega (arith, length-reverse (drop k xs), length-drop k xs) in
      sym (ap (take n) joined ∙ take_at (reverse (drop k xs)) (reverse (take k xs)) n long))
]

pub words_rest : (n : ℕ) (xs : List VType) → words (take (length xs - n) xs) ≡ words (drop n (reverse xs))
words_rest n xs = sym (words_reverse (take (length xs - n) xs)) ∙ ap words (drop_reverse n xs)

-- ---- uninitialized types

pub replaced_append : (old new : VType) (xs ys : List VType) → replaced old new (xs ++ ys) ≡ replaced old new xs ++ replaced old new ys
replaced_append old new [] ys = refl
replaced_append old new (x ∷ xs) ys = ap (λ zs. one_replaced (is_same old x) x new ∷ zs) (replaced_append old new xs ys)

pub replaced_reverse : (old new : VType) (xs : List VType) → reverse (replaced old new xs) ≡ replaced old new (reverse xs)
replaced_reverse old new [] = refl
replaced_reverse old new (x ∷ xs) =
    reverse_cons (one_replaced (is_same old x) x new) (replaced old new xs)
    ∙ ap (λ zs. zs ++ one_replaced (is_same old x) x new ∷ []) (replaced_reverse old new xs)
    ∙ sym (ap (replaced old new) (reverse_cons x xs) ∙ replaced_append old new (reverse xs) (x ∷ []))

-- the first k are replaced, the others are as they were
abbrev pub part_replaced : VType → VType → List VType → ℕ → List VType
part_replaced old new xs k = replaced old new (take k xs) ++ drop k xs

pub length_replaced : (old new : VType) (xs : List VType) → length (replaced old new xs) ≡ length xs
length_replaced old new [] = refl
length_replaced old new (x ∷ xs) = omega (arith, length_replaced old new xs)

front_long : (old new : VType) (xs : List VType) (k : ℕ) → k < length xs → length (replaced old new (take k xs)) ≡ k
front_long old new xs k h = omega (arith, length_replaced old new (take k xs), length-take k xs)

pub part_at : (old new : VType) (xs : List VType) (k : ℕ) → k < length xs → get_or (part_replaced old new xs k) k Top ≡ get_or xs k Top
part_at old new xs k h =
    ap (λ ys. get_or (replaced old new (take k xs) ++ ys) k Top) (drop_more xs k Top h)
    ∙ get_or_at (replaced old new (take k xs)) (get_or xs k Top) (drop (k + 1) xs) Top k (front_long old new xs k h)

part_more : (old new : VType) (xs : List VType) (k : ℕ) → k < length xs →
    part_replaced old new xs (k + 1) ≡ replaced old new (take k xs) ++ one_replaced (is_same old (get_or xs k Top)) (get_or xs k Top) new ∷ drop (k + 1) xs
part_more old new xs k h =
    ap (λ ys. replaced old new ys ++ drop (k + 1) xs) (take_more xs k Top h)
    ∙ ap (λ ys. ys ++ drop (k + 1) xs) (replaced_append old new (take k xs) (get_or xs k Top ∷ []))
    ∙ append_assoc (replaced old new (take k xs)) _ (drop (k + 1) xs)

pub part_kept : (old new : VType) (xs : List VType) (k : ℕ) → k < length xs → is_same old (get_or xs k Top) ≡ false → part_replaced old new xs (k + 1) ≡ part_replaced old new xs k
part_kept old new xs k h same =
    part_more old new xs k h ∙ ap (λ b. replaced old new (take k xs) ++ one_replaced b (get_or xs k Top) new ∷ drop (k + 1) xs) same
    ∙ sym (ap (λ ys. replaced old new (take k xs) ++ ys) (drop_more xs k Top h))

pub part_set : (old new : VType) (xs : List VType) (k : ℕ) → k < length xs → is_same old (get_or xs k Top) ≡ true → set (part_replaced old new xs k) k new ≡ part_replaced old new xs (k + 1)
part_set old new xs k h same =
    ap (λ ys. set (replaced old new (take k xs) ++ ys) k new) (drop_more xs k Top h)
    ∙ set_at (replaced old new (take k xs)) (get_or xs k Top) (drop (k + 1) xs) new k (front_long old new xs k h)
    ∙ sym (part_more old new xs k h ∙ ap (λ b. replaced old new (take k xs) ++ one_replaced b (get_or xs k Top) new ∷ drop (k + 1) xs) same)

pub step_set : (old new : VType) (xs ys : List VType) (k : ℕ) → ys ≡ part_replaced old new xs k → k < length xs → is_same old (get_or ys k Top) ≡ true → set ys k new ≡ part_replaced old new xs (k + 1)
step_set old new xs ys k e h same =
    ap (λ zs. set zs k new) e ∙ part_set old new xs k h (ap (is_same old) (sym (ap (λ zs. get_or zs k Top) e ∙ part_at old new xs k h)) ∙ same)

pub step_kept : (old new : VType) (xs ys : List VType) (k : ℕ) → ys ≡ part_replaced old new xs k → k < length xs → is_same old (get_or ys k Top) ≡ false → ys ≡ part_replaced old new xs (k + 1)
step_kept old new xs ys k e h same =
    e ∙ sym (part_kept old new xs k h (ap (is_same old) (sym (ap (λ zs. get_or zs k Top) e ∙ part_at old new xs k h)) ∙ same))

or_false : (a : Bool) → (a || false) ≡ a
or_false true = refl
or_false false = refl

or_swap : (a b : Bool) → (a || b) ≡ (b || a)
or_swap true true = refl
or_swap true false = refl
or_swap false true = refl
or_swap false false = refl

pub any_reverse : {A : Type 0} → (test : A → Bool) (xs : List A) → list_any test (reverse xs) ≡ list_any test xs
any_reverse test [] = refl
any_reverse test (x ∷ xs) =
    ap (list_any test) (reverse_cons x xs) ∙ list_any-append test (reverse xs) (x ∷ [])
    ∙ ap (λ b. b || (test x || false)) (any_reverse test xs) ∙ or_swap (list_any test xs) (test x || false) ∙ ap (λ b. b || list_any test xs) (or_false (test x))

-- ---- locals

pub peek_past : (xs : List VType) (k : ℕ) → length xs ≤ k → peek xs k ≡ Top
peek_past [] k h = refl
peek_past (x ∷ xs) zero h = absurd (omega arith)
peek_past (x ∷ xs) (suc k) h = peek_past xs k (omega arith)

pub peek_at : (xs : List VType) (k : ℕ) (d : VType) → k < length xs → peek xs k ≡ get_or xs k d
peek_at [] k d h = absurd (omega arith)
peek_at (x ∷ xs) zero d h = refl
peek_at (x ∷ xs) (suc k) d h = peek_at xs k d (omega arith)

pub poke_more : (xs : List VType) (k : ℕ) (t : VType) → length xs < k → poke (xs ++ Top ∷ []) k t ≡ poke xs k t
poke_more [] zero t h = absurd (omega arith)
poke_more [] (suc k) t h = refl
poke_more (x ∷ xs) zero t h = absurd (omega arith)
poke_more (x ∷ xs) (suc k) t h = ap (λ zs. x ∷ zs) (poke_more xs k t (omega arith))

pub poke_end : (xs : List VType) (k : ℕ) (t : VType) → k ≡ length xs → poke xs k t ≡ xs ++ t ∷ []
poke_end [] zero t e = refl
poke_end [] (suc k) t e = absurd (omega arith)
poke_end (x ∷ xs) zero t e = absurd (omega arith)
poke_end (x ∷ xs) (suc k) t e = ap (λ zs. x ∷ zs) (poke_end xs k t (omega arith))

pub poke_set : (xs : List VType) (k : ℕ) (t : VType) → k < length xs → poke xs k t ≡ set xs k t
poke_set [] k t h = absurd (omega arith)
poke_set (x ∷ xs) zero t h = refl
poke_set (x ∷ xs) (suc k) t h = ap (λ zs. x ∷ zs) (poke_set xs k t (omega arith))

pub split_before : (xs : List VType) (k : ℕ) → 0 < k → split_long xs k ≡ split_at (is_long (peek xs (k - 1))) xs (k - 1)
split_before xs zero h = absurd (omega arith)
split_before xs (suc k) h = ap (λ n. split_at (is_long (peek xs n)) xs n) (let e : k ≡ suc k - 1 = omega arith in e)

pub split_kept : (xs : List VType) (k : ℕ) → 0 < k → is_long (peek xs (k - 1)) ≡ false → split_long xs k ≡ xs
split_kept xs k h e = split_before xs k h ∙ ap (λ b. split_at b xs (k - 1)) e

pub split_poked : (xs : List VType) (k : ℕ) → 0 < k → is_long (peek xs (k - 1)) ≡ true → split_long xs k ≡ poke xs (k - 1) Top
split_poked xs k h e = split_before xs k h ∙ ap (λ b. split_at b xs (k - 1)) e

pub split_first : (xs : List VType) (k : ℕ) → k ≡ 0 → split_long xs k ≡ xs
split_first xs zero e = refl
split_first xs (suc k) e = absurd (omega arith)

half_split : (t : VType) (xs : List VType) (k : ℕ) → with_half t xs k ≡ split_at (is_long t) xs (k + 1)
half_split Long xs k = ap (λ n. poke xs n Top) (let e : suc k ≡ k + 1 = omega arith in e)
half_split Top xs k = refl
half_split Int xs k = refl
half_split Null xs k = refl
half_split UninitThis xs k = refl
half_split (Uninit at) xs k = refl
half_split (Object ty) xs k = refl

pub half_kept : (t : VType) (xs : List VType) (k : ℕ) → is_long t ≡ false → with_half t xs k ≡ xs
half_kept t xs k e = half_split t xs k ∙ ap (λ b. split_at b xs (k + 1)) e

pub half_poked : (t : VType) (xs : List VType) (k : ℕ) → is_long t ≡ true → with_half t xs k ≡ poke xs (k + 1) Top
half_poked t xs k e = half_split t xs k ∙ ap (λ b. split_at b xs (k + 1)) e

pub part_end : (old new : VType) (xs : List VType) → part_replaced old new xs (length xs) ≡ replaced old new xs
part_end old new xs =
    ap (λ ys. replaced old new ys ++ drop (length xs) xs) (take_all (length xs) xs (omega arith))
    ∙ ap (λ ys. replaced old new xs ++ ys) (drop_all (length xs) xs (omega arith)) ∙ append-nil (replaced old new xs)
