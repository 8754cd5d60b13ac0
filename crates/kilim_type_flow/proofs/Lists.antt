-- Numbers among others, marks, and how many there are not.
use Rattle.std.proofs.Common.{◌≡◌, ◌≢◌, ◌⊎◌, inl, inr, ℕ, zero, suc, ◌+◌, ◌<◌, Bool, true, false, List, [], ◌∷◌, ◌++◌, length, set, replicate, take, slice_get, Some, refl, ap, sym, ◌∙◌, arith}
use Rattle.kilim_type_spec.specs.Typed.{Among}
use Rattle.kilim_type_flow.specs.Marks.{is_marked, unmarked}

pub among_left : (xs ys : List ℕ) (x : ℕ) → Among xs x → Among (xs ++ ys) x
among_left [] ys x h = absurd h
among_left (y ∷ xs) ys x (inl e) = inl e
among_left (y ∷ xs) ys x (inr h) = inr (among_left xs ys x h)

pub among_right : (xs ys : List ℕ) (x : ℕ) → Among ys x → Among (xs ++ ys) x
among_right [] ys x h = h
among_right (y ∷ xs) ys x h = inr (among_right xs ys x h)

pub among_parts : (xs ys : List ℕ) (x : ℕ) → Among (xs ++ ys) x → Among xs x ⊎ Among ys x
among_parts [] ys x h = inr h
among_parts (y ∷ xs) ys x (inl e) = inl (inl e)
among_parts (y ∷ xs) ys x (inr h) = elim (among_parts xs ys x h) [ inl a ↦ inl (inr a) | inr b ↦ inr b ]

pub among_last : (xs : List ℕ) (y x : ℕ) → Among (xs ++ y ∷ []) x → Among xs x ⊎ (x ≡ y)
among_last xs y x h = elim (among_parts xs (y ∷ []) x h) [ inl a ↦ inl a | inr b ↦ elim b [ inl e ↦ inr (sym e) | inr n ↦ absurd n ] ]

pub last_among : (xs : List ℕ) (y : ℕ) → Among (xs ++ y ∷ []) y
last_among xs y = among_right xs (y ∷ []) y (inl refl)

-- numbers are equal or not
pub same_or : (a b : ℕ) → (a ≡ b) ⊎ (a ≢ b)
same_or zero zero = inl refl
same_or zero (suc b) = inr (λ e. omega (arith, e))
same_or (suc a) zero = inr (λ e. omega (arith, e))
same_or (suc a) (suc b) = elim (same_or a b) [ inl e ↦ inl (ap suc e) | inr n ↦ inr (λ e. n (let f : a ≡ b = omega (arith, e) in f)) ]

-- ---- marks

pub marked_within : (marks : List Bool) (x : ℕ) → is_marked marks x ≡ true → x < length marks
marked_within [] x h = absurd (cc)
marked_within (b ∷ marks) zero h = omega arith
marked_within (b ∷ marks) (suc x) h = let r = marked_within marks x h in omega (arith, r)

pub none_marked : (n x : ℕ) → is_marked (replicate n false) x ≡ true → ⊥
none_marked zero x h = cc
none_marked (suc n) zero h = cc
none_marked (suc n) (suc x) h = none_marked n x h

pub set_keeps : (marks : List Bool) (p x : ℕ) → is_marked marks x ≡ true → is_marked (set marks p true) x ≡ true
set_keeps [] p x h = h
set_keeps (b ∷ marks) zero zero h = refl
set_keeps (b ∷ marks) zero (suc x) h = h
set_keeps (b ∷ marks) (suc p) zero h = h
set_keeps (b ∷ marks) (suc p) (suc x) h = set_keeps marks p x h

pub set_marks : (marks : List Bool) (p : ℕ) → p < length marks → is_marked (set marks p true) p ≡ true
set_marks [] p lt = absurd (omega arith)
set_marks (b ∷ marks) zero lt = refl
set_marks (b ∷ marks) (suc p) lt = set_marks marks p (omega arith)

pub set_only : (marks : List Bool) (p x : ℕ) → is_marked (set marks p true) x ≡ true → (is_marked marks x ≡ true) ⊎ (x ≡ p)
set_only [] p x h = inl h
set_only (b ∷ marks) zero zero h = inr refl
set_only (b ∷ marks) zero (suc x) h = inl h
set_only (b ∷ marks) (suc p) zero h = inl h
set_only (b ∷ marks) (suc p) (suc x) h = elim (set_only marks p x h) [ inl a ↦ inl a | inr e ↦ inr (ap suc e) ]

pub one_less : (marks : List Bool) (p : ℕ) → p < length marks → is_marked marks p ≡ false → suc (unmarked (set marks p true)) ≡ unmarked marks
one_less [] p lt h = absurd (omega arith)
one_less (true ∷ marks) zero lt h = absurd (cc)
one_less (false ∷ marks) zero lt h = refl
one_less (true ∷ marks) (suc p) lt h = one_less marks p (omega arith) h
one_less (false ∷ marks) (suc p) lt h = ap suc (one_less marks p (omega arith) h)

next : (xs : List ℕ) (n x : ℕ) → slice_get xs n ≡ Some x → take (suc n) xs ≡ take n xs ++ x ∷ []
next [] n x h = absurd (cc)
next (y ∷ xs) zero x h = ap (λ (z : ℕ). z ∷ []) (let e : y ≡ x = cc in e)
next (y ∷ xs) (suc n) x h = ap (λ (zs : List ℕ). y ∷ zs) (next xs n x h)

pub take_next : (xs : List ℕ) (n x : ℕ) → slice_get xs n ≡ Some x → take (n + 1) xs ≡ take n xs ++ x ∷ []
take_next xs n x h = let one : suc n ≡ n + 1 = omega arith in ap (λ (k : ℕ). take k xs) (sym one) ∙ next xs n x h

pub among_at : (xs : List ℕ) (n x : ℕ) → slice_get xs n ≡ Some x → Among xs x
among_at [] n x h = absurd (cc)
among_at (y ∷ xs) zero x h = inl (let e : y ≡ x = cc in e)
among_at (y ∷ xs) (suc n) x h = inr (among_at xs n x h)

pub one_more : (b : Bool) (n : ℕ) → replicate n b ++ b ∷ [] ≡ replicate (n + 1) b
one_more b zero = refl
one_more b (suc n) = let one : suc (n + 1) ≡ suc n + 1 = omega arith in ap (λ (bs : List Bool). b ∷ bs) (one_more b n) ∙ ap (λ (k : ℕ). replicate k b) one
