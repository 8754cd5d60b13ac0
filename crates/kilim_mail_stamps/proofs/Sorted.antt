-- A part that rises stands in its order among all, and a list that rises is told by its weights.
use Rattle.std.proofs.Common.{◌≡◌, ◌≢◌, ℕ, zero, suc, ◌+◌, ◌<◌, ◌≤◌, Bool, true, false, ◌==◌, nat_lt, cond, List, [], ◌∷◌, ◌++◌, refl, sym, ap, subst, ◌∙◌, ◌⊎◌, inl, inr, arith}
use Rattle.std.specs.Prelude.{◌&&◌, ◌||◌, if◌then◌else◌, filter, map}
use Rattle.std.proofs.lemmas.Bool.Decides.{nat_tests}
use Rattle.kilim_mail_stamps.specs.declared.stamped.Stamped.{Stamped}
use Rattle.kilim_mail_stamps.specs.Stamps.{is_before, among, in_order, Rises}
use Rattle.kilim_mail_stamps.specs.Merging.{weigh}
use Rattle.kilim_mail_stamps.proofs.Order.{From, Ordered, from_less, not_after, kept, passed}
use Rattle.kilim_mail_stamps.proofs.Weights.{alike, alike_is, alike_self, stamped_coded}

-- all stamps are greater
abbrev pub Above : ℕ → List Stamped → Type 0
Above n [] = Unit {0}
Above n (y ∷ ys) = (n < y.stamp) × Above n ys

above_more : (m n : ℕ) (ys : List Stamped) → m ≤ n → Above n ys → Above m ys
above_more m n [] le a = tt
above_more m n (y ∷ ys) le (h, a) = (omega arith, above_more m n ys le a)

pub rises_above : (x : Stamped) (ys : List Stamped) → Rises (x ∷ ys) → Above x.stamp ys
rises_above x [] r = tt
rises_above x (y ∷ ys) (h, r) = (h, above_more x.stamp y.stamp ys (omega arith) (rises_above y ys r))

pub rises_rest : (x : Stamped) (ys : List Stamped) → Rises (x ∷ ys) → Rises ys
rises_rest x [] r = tt
rises_rest x (y ∷ ys) (h, r) = r

module _ (p : Stamped → Bool) where
  among_skips_at : (b : Bool) (x y : Stamped) (ys zs : List Stamped) → p x ≡ false → filter p zs ≡ filter p ys → filter p (if b then y ∷ zs else x ∷ (y ∷ ys)) ≡ filter p (y ∷ ys)
  among_skips_at true x y ys zs e h = ap (λ (es : List Stamped). cond (p y) (y ∷ es) es) h
  among_skips_at false x y ys zs e h = passed p x (y ∷ ys) e

  among_skips : (x : Stamped) (ys : List Stamped) → p x ≡ false → filter p (among x ys) ≡ filter p ys
  among_skips x [] e = passed p x [] e
  among_skips x (y ∷ ys) e = among_skips_at (is_before y x) x y ys (among x ys) e (among_skips x ys e)

  among_front_at : (b : Bool) (x y : Stamped) (ys zs : List Stamped) → is_before y x ≡ b → p x ≡ true → Above x.stamp (filter p (y ∷ ys)) → (Above x.stamp (filter p ys) → filter p zs ≡ x ∷ filter p ys) →
      filter p (if b then y ∷ zs else x ∷ (y ∷ ys)) ≡ x ∷ filter p (y ∷ ys)
  among_front_at false x y ys zs e is above later = kept p x (y ∷ ys) is
  among_front_at true x y ys zs e is above later = by (p y) refl
    where
      by : (b : Bool) → p y ≡ b → filter p (y ∷ zs) ≡ x ∷ filter p (y ∷ ys)
      by true f = absurd (let a : Above x.stamp (y ∷ filter p ys) = subst (λ (es : List Stamped). Above x.stamp es) (kept p y ys f) above in let lt : x.stamp < y.stamp = a.0 in let le = not_after y x e in omega arith)
      by false f =
          let a : Above x.stamp (filter p ys) = subst (λ (es : List Stamped). Above x.stamp es) (passed p y ys f) above in
          passed p y zs f ∙ (later a ∙ ap (λ (es : List Stamped). x ∷ es) (sym (passed p y ys f)))

  among_front : (x : Stamped) (ys : List Stamped) → p x ≡ true → Above x.stamp (filter p ys) → filter p (among x ys) ≡ x ∷ filter p ys
  among_front x [] e above = kept p x [] e
  among_front x (y ∷ ys) e above = among_front_at (is_before y x) x y ys (among x ys) refl e above (λ a. among_front x ys e a)

  -- what rises stands in its order
  pub filter_in_order : (xs : List Stamped) → Rises (filter p xs) → filter p (in_order xs) ≡ filter p xs
  filter_in_order [] r = refl
  filter_in_order (x ∷ xs) r = by (p x) refl (λ q. filter_in_order xs q)
    where
      by : (b : Bool) → p x ≡ b → (Rises (filter p xs) → filter p (in_order xs) ≡ filter p xs) → filter p (among x (in_order xs)) ≡ filter p (x ∷ xs)
      by true e again =
          let q : Rises (x ∷ filter p xs) = subst (λ (es : List Stamped). Rises es) (kept p x xs e) r in
          let h = again (rises_rest x (filter p xs) q) in
          among_front x (in_order xs) e (subst (λ (es : List Stamped). Above x.stamp es) (sym h) (rises_above x (filter p xs) q)) ∙ (ap (λ (es : List Stamped). x ∷ es) h ∙ sym (kept p x xs e))
      by false e again =
          let q : Rises (filter p xs) = subst (λ (es : List Stamped). Rises es) (passed p x xs e) r in
          among_skips x (in_order xs) e ∙ (again q ∙ sym (passed p x xs e))

  from_filter : (n : ℕ) (xs : List Stamped) → From n xs → From n (filter p xs)
  from_filter n [] f = tt
  from_filter n (x ∷ xs) (h, f) = by (p x) (from_filter n xs f)
    where
      by : (b : Bool) → From n (filter p xs) → From n (cond b (x ∷ filter p xs) (filter p xs))
      by true g = (h, g)
      by false g = g

  pub ordered_filter : (xs : List Stamped) → Ordered xs → Ordered (filter p xs)
  ordered_filter [] o = tt
  ordered_filter (x ∷ xs) (f, o) = by (p x) (ordered_filter xs o)
    where
      by : (b : Bool) → Ordered (filter p xs) → Ordered (cond b (x ∷ filter p xs) (filter p xs))
      by true g = (from_filter x.stamp xs f, g)
      by false g = g

-- ---- told by its weights

-- how often an entry stands in a list
abbrev times : Stamped → List Stamped → ℕ
times x ys = weigh (λ y. cond (alike stamped_coded x y) 1 0) ys

from_times : (n : ℕ) (x : Stamped) (ys : List Stamped) → From n ys → times x ys ≢ 0 → n ≤ x.stamp
from_times n x [] f some = absurd (some refl)
from_times n x (y ∷ ys) (h, f) some = by (alike stamped_coded x y) refl (λ s. from_times n x ys f s)
  where
    by : (b : Bool) → alike stamped_coded x y ≡ b → (times x ys ≢ 0 → n ≤ x.stamp) → n ≤ x.stamp
    by true e later = subst (λ (z : Stamped). n ≤ z.stamp) (sym (alike_is stamped_coded x y e)) h
    by false e later = later (λ none. some (ap (λ (z : Bool). cond z 1 0 + times x ys) e ∙ (let k : 0 + times x ys ≡ 0 = omega arith in k)))

from_above : (n : ℕ) (ys : List Stamped) → Above n ys → From (suc n) ys
from_above n [] a = tt
from_above n (y ∷ ys) (h, a) = (omega arith, from_above n ys a)

-- the first entries are the same
same_first : (x y : Stamped) (xs ys : List Stamped) → Ordered (x ∷ xs) → Rises (y ∷ ys) → ((g : Stamped → ℕ) → weigh g (x ∷ xs) ≡ weigh g (y ∷ ys)) → x ≡ y
same_first x y xs ys (f, o) r same = by (alike stamped_coded x y) refl
  where
    by : (b : Bool) → alike stamped_coded x y ≡ b → x ≡ y
    by true e = alike_is stamped_coded x y e
    by false e =
        let here : times x (x ∷ xs) ≡ times x (y ∷ ys) = same (λ z. cond (alike stamped_coded x z) 1 0) in
        let one : times x (x ∷ xs) ≡ 1 + times x xs = ap (λ (b : Bool). cond b 1 0 + times x xs) (alike_self stamped_coded x) in
        let none : times x (y ∷ ys) ≡ 0 + times x ys = ap (λ (b : Bool). cond b 1 0 + times x ys) e in
        let in_rest : times x ys ≢ 0 = λ z. (let k : 1 + times x xs ≡ 0 = omega arith in absurd (omega arith)) in
        let above : suc y.stamp ≤ x.stamp = from_times (suc y.stamp) x ys (from_above y.stamp ys (rises_above y ys r)) in_rest in
        let there : times y (x ∷ xs) ≡ times y (y ∷ ys) = same (λ z. cond (alike stamped_coded y z) 1 0) in
        let one' : times y (y ∷ ys) ≡ 1 + times y ys = ap (λ (b : Bool). cond b 1 0 + times y ys) (alike_self stamped_coded y) in
        let below : x.stamp ≤ y.stamp = from_times x.stamp y (x ∷ xs) ((let h : x.stamp ≤ x.stamp = omega arith in h), f) (λ z. absurd (let k : 1 + times y ys ≡ 0 = sym one' ∙ (sym there ∙ z) in omega arith)) in
        absurd (omega arith)

-- what is in order and weighs as a list that rises is that list
pub told : (xs ys : List Stamped) → Ordered xs → Rises ys → ((g : Stamped → ℕ) → weigh g xs ≡ weigh g ys) → xs ≡ ys
told [] [] o r same = refl
told [] (y ∷ ys) o r same = absurd (let h : 0 ≡ 1 + weigh (λ z. 1) ys = same (λ z. 1) in omega arith)
told (x ∷ xs) [] o r same = absurd (let h : 1 + weigh (λ z. 1) xs ≡ 0 = same (λ z. 1) in omega arith)
told (x ∷ xs) (y ∷ ys) (f, o) r same =
    let first : x ≡ y = same_first x y xs ys (f, o) r same in
    let rest : xs ≡ ys = told xs ys o (rises_rest y ys r) (λ g. let h : g x + weigh g xs ≡ g y + weigh g ys = same g in let k : g x ≡ g y = ap g first in omega arith) in
    ap (λ (z : Stamped). z ∷ xs) first ∙ ap (λ (zs : List Stamped). y ∷ zs) rest
