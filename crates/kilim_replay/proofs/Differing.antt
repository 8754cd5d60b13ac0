-- Where two lists of entries differ first.
use Rattle.std.proofs.Common.{◌≡◌, ◌≢◌, ◌≤◌, ◌<◌, ℕ, zero, suc, Bool, true, false, IsTrue, ◌↔◌, List, [], ◌∷◌, ◌++◌, Some, None, length, take, drop, get_or, refl, sym, ap, ◌∙◌, arith}
use Rattle.std.specs.Prelude.{slice_get}
use Rattle.kilim_run_journal.specs.declared.entry.Entry.{Entry}
use Rattle.kilim_replay_laws.specs.Verdicts.{DifferAt, first_entry}

split : (es : List Entry) (k : ℕ) → es ≡ take k es ++ drop k es
split es zero = refl
split [] (suc k) = refl
split (x ∷ xs) (suc k) = ap (λ ys. x ∷ ys) (split xs k)

first_of : (es : List Entry) (k : ℕ) → first_entry (drop k es) ≡ slice_get es k
first_of [] zero = refl
first_of [] (suc k) = refl
first_of (x ∷ xs) zero = refl
first_of (x ∷ xs) (suc k) = first_of xs k

taken_length : (es : List Entry) (k : ℕ) → k ≤ length es → length (take k es) ≡ k
taken_length es zero le = refl
taken_length [] (suc k) le = absurd (omega (arith, le))
taken_length (x ∷ xs) (suc k) le = ap suc (taken_length xs k (omega (arith, le)))

pub differ_at : (a b : List Entry) (k : ℕ) → take k a ≡ take k b → k ≤ length a → slice_get a k ≢ slice_get b k → DifferAt a b k
differ_at a b k same le other = record {
  common = take k a;
  mine = drop k a;
  other = drop k b;
  here = split a k;
  there = split b k ∙ ap (λ (xs : List Entry). xs ++ drop k b) (sym same);
  differ = λ e. other (sym (first_of a k) ∙ (e ∙ first_of b k));
  number = sym (taken_length a k le);
}

some_same : {A : Type 0} (m n : A) → Some m ≡ Some n → m ≡ n
some_same m n f = cc

head_same : {A : Type 0} (u v : A) (us vs : List A) → u ∷ us ≡ v ∷ vs → u ≡ v
head_same u v us vs f = cc

tail_same : {A : Type 0} (u v : A) (us vs : List A) → u ∷ us ≡ v ∷ vs → us ≡ vs
tail_same u v us vs f = cc

pub take_on : {A : Type 0} (a b : List A) (k : ℕ) (x y : A) → take k a ≡ take k b → slice_get a k ≡ Some x → slice_get b k ≡ Some y → x ≡ y → take (suc k) a ≡ take (suc k) b
take_on [] b k x y same p q e = absurd (cc)
take_on (c ∷ cs) [] k x y same p q e = absurd (cc)
take_on (c ∷ cs) (d ∷ ds) zero x y same p q e = ap (λ z. z ∷ []) (some_same c x p ∙ (e ∙ sym (some_same d y q)))
take_on (c ∷ cs) (d ∷ ds) (suc k) x y same p q e = λ i. head_same c d (take k cs) (take k ds) same i ∷ take_on cs ds k x y (tail_same c d (take k cs) (take k ds) same) p q e i

whole_take : {A : Type 0} (es : List A) (k : ℕ) → length es ≤ k → take k es ≡ es
whole_take [] zero le = refl
whole_take [] (suc k) le = refl
whole_take (x ∷ xs) zero le = absurd (omega (arith, le))
whole_take (x ∷ xs) (suc k) le = ap (λ ys. x ∷ ys) (whole_take xs k (omega (arith, le)))

pub all_same : {A : Type 0} (a b : List A) (k : ℕ) → take k a ≡ take k b → length a ≤ k → length b ≤ k → a ≡ b
all_same a b k same p q = sym (whole_take a k p) ∙ (same ∙ whole_take b k q)

pub unlike : {A : Type 0} (a b : List A) (k : ℕ) (x y : A) → slice_get a k ≡ Some x → slice_get b k ≡ Some y → (x ≡ y → ⊥) → a ≡ b → ⊥
unlike {A = A} a b k x y p q other e = other (some_same x y (sym p ∙ (ap (λ (es : List A). slice_get es k) e ∙ q)))

got_past : (es : List Entry) (k : ℕ) → length es ≤ k → slice_get es k ≡ None
got_past [] k le = refl
got_past (x ∷ xs) zero le = absurd (omega (arith, le))
got_past (x ∷ xs) (suc k) le = got_past xs k (omega (arith, le))

got_within : (es : List Entry) (k : ℕ) → k < length es → (e : Entry) × (slice_get es k ≡ Some e)
got_within [] k lt = absurd (omega (arith, lt))
got_within (x ∷ xs) zero lt = (x, refl)
got_within (x ∷ xs) (suc k) lt = got_within xs k (omega (arith, lt))

-- the first ends there, the second doesn't, or the other way round
pub ends_first : (a b : List Entry) (k : ℕ) → length a ≤ k → k < length b → slice_get a k ≢ slice_get b k
ends_first a b k le lt e = let there = got_within b k lt in let z = sym (got_past a k le) ∙ (e ∙ there.1) in cc

pub ends_second : (a b : List Entry) (k : ℕ) → length b ≤ k → k < length a → slice_get a k ≢ slice_get b k
ends_second a b k le lt e = let there = got_within a k lt in let z = sym (got_past b k le) ∙ (sym e ∙ there.1) in cc

-- ---- what an answer of yes or no says

pub not_so : (z : Bool) (P : Type 0) → (IsTrue z ↔ P) → z ≡ false → P → ⊥
not_so z P iff e p = let h = sym (iff.1 p) ∙ e in cc

pub is_so : (z : Bool) (P : Type 0) → (IsTrue z ↔ P) → z ≡ true → P
is_so z P iff e = iff.0 e

-- what an index gives
pub got_or : {A : Type 0} (xs : List A) (k : ℕ) (x : A) → k < length xs → x ≡ get_or xs k x → slice_get xs k ≡ Some x
got_or [] k x lt e = absurd (omega (arith, lt))
got_or (y ∷ ys) zero x lt e = ap (λ z. Some z) (sym e)
got_or (y ∷ ys) (suc k) x lt e = got_or ys k x (omega (arith, lt)) e

pub unlike_at : {A : Type 0} (a b : List A) (k : ℕ) (x y : A) → slice_get a k ≡ Some x → slice_get b k ≡ Some y → (x ≡ y → ⊥) → slice_get a k ≡ slice_get b k → ⊥
unlike_at a b k x y p q other e = other (some_same x y (sym p ∙ (e ∙ q)))
