-- What lists weigh.
use Rattle.std.proofs.Common.{◌≡◌, ◌≢◌, ℕ, zero, suc, ◌+◌, ◌<◌, ◌≤◌, Bool, true, false, ◌==◌, nat_lt, cond, List, [], ◌∷◌, ◌++◌, refl, sym, ap, subst, ◌∙◌, ◌⊎◌, inl, inr, arith}
use Rattle.std.specs.Prelude.{◌&&◌, if◌then◌else◌, filter, map}
use Rattle.std.proofs.lemmas.Bool.Decides.{nat_tests}
use Rattle.std.specs.Coded.{Coded, codes}
use base.Stored.{Gv, gnil, gnum, gcons}
use Rattle.kilim_mail_stamps.specs.declared.stamped.Stamped.{Stamped}
use Rattle.kilim_mail_stamps.specs.Stamps.{is_before, among, in_order}
use Rattle.kilim_mail_stamps.specs.Merging.{weigh}
use Rattle.kilim_mail_stamps.proofs.Steps.{both_true}

-- ---- equality as a test

eqv : Gv → Gv → Bool
eqv gnil gnil = true
eqv (gnum n) (gnum m) = n == m
eqv (gcons a b) (gcons c d) = eqv a c && eqv b d
eqv a b = false

eqv_is : (a b : Gv) → eqv a b ≡ true → a ≡ b
unfolding eqv
eqv_is gnil gnil e = refl
eqv_is gnil (gnum m) e = absurd (cc)
eqv_is gnil (gcons c d) e = absurd (cc)
eqv_is (gnum n) gnil e = absurd (cc)
eqv_is (gnum n) (gnum m) e = ap gnum (grind (arith, nat_tests))
eqv_is (gnum n) (gcons c d) e = absurd (cc)
eqv_is (gcons a b) gnil e = absurd (cc)
eqv_is (gcons a b) (gnum m) e = absurd (cc)
eqv_is (gcons a b) (gcons c d) e =
    let p = both_true (eqv a c) (eqv b d) e in
    let x = eqv_is a c p.0 in
    let y = eqv_is b d p.1 in
    λ i. gcons (x i) (y i)

eqv_self : (a : Gv) → eqv a a ≡ true
unfolding eqv
eqv_self gnil = refl
eqv_self (gnum n) = grind (arith, nat_tests)
eqv_self (gcons a b) = ap (λ (x : Bool). x && eqv b b) (eqv_self a) ∙ eqv_self b

pub stamped_coded : Coded Stamped
stamped_coded = hlevel codes

module _ {A : Type 0} (coded : Coded A) where
  pub alike : A → A → Bool
  alike x y = eqv (coded.code x) (coded.code y)

  pub alike_is : (x y : A) → alike x y ≡ true → x ≡ y
  unfolding alike
  alike_is x y e = coded.inj x y (eqv_is (coded.code x) (coded.code y) e)

  pub alike_self : (x : A) → alike x x ≡ true
  unfolding alike
  alike_self x = eqv_self (coded.code x)

  -- what weighs the same, whatever the weights, is the same
  pub leibniz : (x y : A) → ((g : A → ℕ) → g x ≡ g y) → x ≡ y
  leibniz x y same = by (alike x y) refl
    where
      by : (b : Bool) → alike x y ≡ b → x ≡ y
      by true e = alike_is x y e
      by false e = absurd (let h : cond (alike x y) 1 0 ≡ cond (alike y y) 1 0 = same (λ z. cond (alike z y) 1 0) in
          let k : 0 ≡ 1 = sym (ap (λ (z : Bool). cond z 1 0) e) ∙ (h ∙ ap (λ (z : Bool). cond z 1 0) (alike_self y)) in omega arith)

-- ---- sums

pub weigh_append : {A : Type 0} (f : A → ℕ) (xs ys : List A) → weigh f (xs ++ ys) ≡ weigh f xs + weigh f ys
weigh_append f [] ys = omega arith
weigh_append f (x ∷ xs) ys = let h = weigh_append f xs ys in omega arith

pub weigh_map : {A B : Type 0} (f : B → ℕ) (g : A → B) (xs : List A) → weigh f (map g xs) ≡ weigh (λ x. f (g x)) xs
weigh_map f g [] = refl
weigh_map f g (x ∷ xs) = ap (λ n. f (g x) + n) (weigh_map f g xs)

pub weigh_each : {A : Type 0} (f g : A → ℕ) → ((x : A) → f x ≡ g x) → (xs : List A) → weigh f xs ≡ weigh g xs
weigh_each f g same [] = refl
weigh_each f g same (x ∷ xs) = let h = same x in let k = weigh_each f g same xs in omega arith

pub weigh_plus : {A : Type 0} (f g : A → ℕ) (xs : List A) → weigh (λ x. f x + g x) xs ≡ weigh f xs + weigh g xs
weigh_plus f g [] = refl
weigh_plus f g (x ∷ xs) = let h = weigh_plus f g xs in omega arith

pub weigh_none : {A : Type 0} (f : A → ℕ) → ((x : A) → f x ≡ 0) → (xs : List A) → weigh f xs ≡ 0
weigh_none f none [] = refl
weigh_none f none (x ∷ xs) = let h = none x in let k = weigh_none f none xs in omega arith

filter_at : {A : Type 0} (f : A → ℕ) (b : Bool) (x : A) (ys : List A) (n : ℕ) → weigh f ys ≡ n → weigh f (cond b (x ∷ ys) ys) ≡ cond b (f x) 0 + n
filter_at f true x ys n e = ap (λ k. f x + k) e
filter_at f false x ys n e = let h = e in omega arith

pub weigh_filter : {A : Type 0} (f : A → ℕ) (p : A → Bool) (xs : List A) → weigh f (filter p xs) ≡ weigh (λ x. cond (p x) (f x) 0) xs
weigh_filter f p [] = refl
weigh_filter f p (x ∷ xs) = filter_at f (p x) x (filter p xs) (weigh (λ y. cond (p y) (f y) 0) xs) (weigh_filter f p xs)

among_at : (f : Stamped → ℕ) (b : Bool) (x y : Stamped) (ys zs : List Stamped) → weigh f zs ≡ f x + weigh f ys → weigh f (if b then y ∷ zs else x ∷ (y ∷ ys)) ≡ f x + (f y + weigh f ys)
among_at f true x y ys zs e = let h = e in omega arith
among_at f false x y ys zs e = refl

weigh_among : (f : Stamped → ℕ) (x : Stamped) (ys : List Stamped) → weigh f (among x ys) ≡ f x + weigh f ys
weigh_among f x [] = refl
weigh_among f x (y ∷ ys) = among_at f (is_before y x) x y ys (among x ys) (weigh_among f x ys)

pub weigh_in_order : (f : Stamped → ℕ) (xs : List Stamped) → weigh f (in_order xs) ≡ weigh f xs
weigh_in_order f [] = refl
weigh_in_order f (x ∷ xs) = let h = weigh_among f x (in_order xs) in let k = weigh_in_order f xs in omega arith
