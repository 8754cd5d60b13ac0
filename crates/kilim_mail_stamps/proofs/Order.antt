-- Lists in the order of their stamps.
use Rattle.std.proofs.Common.{◌≡◌, ℕ, zero, suc, ◌+◌, ◌<◌, ◌≤◌, Bool, true, false, ◌==◌, nat_lt, cond, List, [], ◌∷◌, ◌++◌, Option, Some, None, refl, sym, ap, subst, ◌∙◌, ◌⊎◌, inl, inr, arith}
use Rattle.std.specs.Prelude.{◌||◌, ◌&&◌, if◌then◌else◌, slice_get, filter}
use Rattle.kilim_run_model.specs.declared.deed.Beginning.TheVariants.{Boot, Begun}
use Rattle.std.proofs.lemmas.Bool.Decides.{nat_tests}
use Rattle.kilim_mail_stamps.specs.declared.stamped.Stamped.{Stamped}
use Rattle.kilim_run_journal.specs.declared.entry.Act.{Act}
use Rattle.kilim_run_journal.specs.declared.entry.Act.TheVariants.{Put, Take, Empty, Start, Print, End, Wait, Bound}
use Rattle.kilim_mail_stamps.specs.Stamps.{is_before, among, in_order, starts_in, born_by, Birth}

pub both_ways : (b : Bool) → (b ≡ true) ⊎ (b ≡ false)
both_ways true = inl refl
both_ways false = inr refl

-- no stamp in the list is less than this
abbrev pub From : ℕ → List Stamped → Type 0
From n [] = Unit {0}
From n (x ∷ xs) = (n ≤ x.stamp) × From n xs

-- the stamps don't fall
abbrev pub Ordered : List Stamped → Type 0
Ordered [] = Unit {0}
Ordered (x ∷ xs) = From x.stamp xs × Ordered xs

pub from_less : (m n : ℕ) (xs : List Stamped) → m ≤ n → From n xs → From m xs
from_less m n [] le f = tt
from_less m n (x ∷ xs) le (h, f) = (omega arith, from_less m n xs le f)

pub not_after : (a b : Stamped) → is_before a b ≡ true → a.stamp ≤ b.stamp
not_after a b e = by (nat_lt a.stamp b.stamp) refl (a.stamp == b.stamp) refl
  where
    by : (x : Bool) → nat_lt a.stamp b.stamp ≡ x → (y : Bool) → (a.stamp == b.stamp) ≡ y → a.stamp ≤ b.stamp
    by true ex y ey = grind (arith, nat_tests)
    by false ex true ey = grind (arith, nat_tests)
    by false ex false ey = absurd (let h : false ≡ true = sym (ap (λ (z : Bool). z || (a.stamp == b.stamp && nat_lt a.entry.task b.entry.task)) ex ∙ ap (λ (z : Bool). z && nat_lt a.entry.task b.entry.task) ey) ∙ e in cc)

pub not_before : (a b : Stamped) → is_before a b ≡ false → b.stamp ≤ a.stamp
not_before a b e = by (nat_lt a.stamp b.stamp) refl
  where
    by : (x : Bool) → nat_lt a.stamp b.stamp ≡ x → b.stamp ≤ a.stamp
    by true ex = absurd (let h : true ≡ false = sym (ap (λ (z : Bool). z || (a.stamp == b.stamp && nat_lt a.entry.task b.entry.task)) ex) ∙ e in cc)
    by false ex = grind (arith, nat_tests)

among_from_at : (n : ℕ) (x y : Stamped) (ys zs : List Stamped) (b : Bool) → n ≤ x.stamp → n ≤ y.stamp → From n ys → From n zs → From n (if b then y ∷ zs else x ∷ (y ∷ ys))
among_from_at n x y ys zs true le h f g = (h, g)
among_from_at n x y ys zs false le h f g = (le, (h, f))

among_from : (n : ℕ) (x : Stamped) (ys : List Stamped) → n ≤ x.stamp → From n ys → From n (among x ys)
among_from n x [] le f = (le, tt)
among_from n x (y ∷ ys) le (h, f) = among_from_at n x y ys (among x ys) (is_before y x) le h f (among_from n x ys le f)

among_ordered_at : (x y : Stamped) (ys zs : List Stamped) (b : Bool) → is_before y x ≡ b → Ordered (y ∷ ys) → (y.stamp ≤ x.stamp → From y.stamp zs) → Ordered zs → Ordered (if b then y ∷ zs else x ∷ (y ∷ ys))
among_ordered_at x y ys zs true e (f, o) g h = (g (not_after y x e), h)
among_ordered_at x y ys zs false e (f, o) g h = let le = not_before y x e in ((le, from_less x.stamp y.stamp ys le f), (f, o))

among_ordered : (x : Stamped) (ys : List Stamped) → Ordered ys → Ordered (among x ys)
among_ordered x [] o = (tt, tt)
among_ordered x (y ∷ ys) (f, o) = among_ordered_at x y ys (among x ys) (is_before y x) refl (f, o) (λ le. among_from y.stamp x ys le f) (among_ordered x ys o)

pub in_order_ordered : (xs : List Stamped) → Ordered (in_order xs)
in_order_ordered [] = tt
in_order_ordered (x ∷ xs) = among_ordered x (in_order xs) (in_order_ordered xs)

-- ---- starts in such a list

born_later : (n : ℕ) (stamp : ℕ) (act : Act) (later : List Birth) (i : ℕ) (b : Birth) (m : ℕ) → n ≤ stamp → ((k : ℕ) → slice_get later k ≡ Some b → b.stamp ≡ Some m → n ≤ m) →
    slice_get (born_by stamp act later) i ≡ Some b → b.stamp ≡ Some m → n ≤ m
born_later n stamp (Start k shape) later zero b m le rec is e =
    let same : record { stamp = Some stamp; beginning = Begun shape } ≡ b = cc in
    let s : Some stamp ≡ Some m = ap (λ (x : Birth). x.stamp) same ∙ e in
    let f : stamp ≡ m = cc in subst (λ (k : ℕ). n ≤ k) f le
born_later n stamp (Start k shape) later (suc i) b m le rec is e = rec i is e
born_later n stamp (Put x k shape) later i b m le rec is e = rec i is e
born_later n stamp (Take x k) later i b m le rec is e = rec i is e
born_later n stamp (Empty x) later i b m le rec is e = rec i is e
born_later n stamp (Print shape) later i b m le rec is e = rec i is e
born_later n stamp (End why) later i b m le rec is e = rec i is e
born_later n stamp (Wait x) later i b m le rec is e = rec i is e
born_later n stamp (Bound x k) later i b m le rec is e = rec i is e

-- a start in a list has no lesser stamp than all of the list
pub start_from : (n : ℕ) (xs : List Stamped) (i : ℕ) (b : Birth) (m : ℕ) → From n xs → slice_get (starts_in xs) i ≡ Some b → b.stamp ≡ Some m → n ≤ m
start_from n [] i b m f is e = absurd (cc)
start_from n (x ∷ xs) i b m (h, f) is e = born_later n x.stamp x.entry.act (starts_in xs) i b m h (λ k g. start_from n xs k b m f g) is e

-- ---- filtered

pub kept : {A : Type 0} (p : A → Bool) (x : A) (xs : List A) → p x ≡ true → filter p (x ∷ xs) ≡ x ∷ filter p xs
kept p x xs e = ap (λ (b : Bool). cond b (x ∷ filter p xs) (filter p xs)) e

pub passed : {A : Type 0} (p : A → Bool) (x : A) (xs : List A) → p x ≡ false → filter p (x ∷ xs) ≡ filter p xs
passed p x xs e = ap (λ (b : Bool). cond b (x ∷ filter p xs) (filter p xs)) e
