-- The entries before the first that says who waits.
use Rattle.std.proofs.Common.{◌≡◌, ◌≤◌, ℕ, zero, suc, Bool, true, false, cond, List, [], ◌∷◌, ◌++◌, Some, length, take, drop, refl, sym, ap, ◌∙◌, arith}
use Rattle.std.specs.Prelude.{slice_get}
use Rattle.kilim_run_journal.specs.declared.entry.Entry.{Entry}
use Rattle.kilim_replay_laws.specs.Verdicts.{acts_in, is_wait, waits_in}

drop_at : (es : List Entry) (k : ℕ) (e : Entry) → slice_get es k ≡ Some e → drop k es ≡ e ∷ drop (suc k) es
drop_at [] k e at = absurd (cc)
drop_at (x ∷ xs) zero e at = ap (λ y. y ∷ xs) (same x e at)
  where
    same : (a b : Entry) → Some a ≡ Some b → a ≡ b
    same a b f = cc
drop_at (x ∷ xs) (suc k) e at = drop_at xs k e at

take_at : (es : List Entry) (k : ℕ) (e : Entry) (rest : List Entry) → slice_get es k ≡ Some e → take k es ++ e ∷ rest ≡ take (suc k) es ++ rest
take_at [] k e rest at = absurd (cc)
take_at (x ∷ xs) zero e rest at = ap (λ y. y ∷ rest) (same e x (sym at))
  where
    same : (a b : Entry) → Some a ≡ Some b → a ≡ b
    same a b f = cc
take_at (x ∷ xs) (suc k) e rest at = ap (λ ys. x ∷ ys) (take_at xs k e rest at)

acts_cons : (e : Entry) (es : List Entry) (z : Bool) → is_wait e.act ≡ z → acts_in (e ∷ es) ≡ cond z [] (e ∷ acts_in es)
acts_cons e es z is = ap (λ (b : Bool). cond b [] (e ∷ acts_in es)) is

waits_cons : (e : Entry) (es : List Entry) (z : Bool) → is_wait e.act ≡ z → waits_in (e ∷ es) ≡ cond z (e ∷ es) (waits_in es)
waits_cons e es z is = ap (λ (b : Bool). cond b (e ∷ es) (waits_in es)) is

module _ (es : List Entry) (k : ℕ) (e : Entry) (at : slice_get es k ≡ Some e) (acts : acts_in es ≡ take k es ++ acts_in (drop k es)) (waits : waits_in es ≡ waits_in (drop k es)) where
  pub acts_on : is_wait e.act ≡ false → acts_in es ≡ take (suc k) es ++ acts_in (drop (suc k) es)
  acts_on other = acts ∙ (ap (λ (xs : List Entry). take k es ++ acts_in xs) (drop_at es k e at) ∙ (ap (λ (xs : List Entry). take k es ++ xs) (acts_cons e (drop (suc k) es) false other) ∙ take_at es k e (acts_in (drop (suc k) es)) at))

  pub waits_on : is_wait e.act ≡ false → waits_in es ≡ waits_in (drop (suc k) es)
  waits_on other = waits ∙ (ap waits_in (drop_at es k e at) ∙ waits_cons e (drop (suc k) es) false other)

  nothing : (xs : List Entry) → xs ++ [] ≡ xs
  nothing [] = refl
  nothing (x ∷ xs) = ap (λ ys. x ∷ ys) (nothing xs)

  pub acts_end : is_wait e.act ≡ true → take k es ≡ acts_in es
  acts_end here = sym (acts ∙ (ap (λ (xs : List Entry). take k es ++ acts_in xs) (drop_at es k e at) ∙ (ap (λ (xs : List Entry). take k es ++ xs) (acts_cons e (drop (suc k) es) true here) ∙ nothing (take k es))))

  pub waits_end : is_wait e.act ≡ true → drop k es ≡ waits_in es
  waits_end here = sym (waits ∙ (ap waits_in (drop_at es k e at) ∙ (waits_cons e (drop (suc k) es) true here ∙ sym (drop_at es k e at))))

-- ---- none says so

pub all_taken : (es : List Entry) → take (length es) es ≡ es
all_taken [] = refl
all_taken (x ∷ xs) = ap (λ ys. x ∷ ys) (all_taken xs)

pub all_dropped : (es : List Entry) → drop (length es) es ≡ []
all_dropped [] = refl
all_dropped (x ∷ xs) = all_dropped xs

pub none_behind : (es : List Entry) (k : ℕ) → length es ≤ k → drop k es ≡ []
none_behind [] zero le = refl
none_behind [] (suc k) le = refl
none_behind (x ∷ xs) zero le = absurd (omega (arith, le))
none_behind (x ∷ xs) (suc k) le = none_behind xs k (omega (arith, le))

pub all_before : (es : List Entry) (k : ℕ) → length es ≤ k → take k es ≡ es
all_before [] zero le = refl
all_before [] (suc k) le = refl
all_before (x ∷ xs) zero le = absurd (omega (arith, le))
all_before (x ∷ xs) (suc k) le = ap (λ ys. x ∷ ys) (all_before xs k (omega (arith, le)))

unit_right : (xs : List Entry) → xs ++ [] ≡ xs
unit_right [] = refl
unit_right (x ∷ xs) = ap (λ ys. x ∷ ys) (unit_right xs)

pub acts_all : (es : List Entry) (k : ℕ) → length es ≤ k → acts_in es ≡ take k es ++ acts_in (drop k es) → take (length es) es ≡ acts_in es
acts_all es k le acts = all_taken es ∙ sym (acts ∙ (ap (λ (xs : List Entry). take k es ++ acts_in xs) (none_behind es k le) ∙ (unit_right (take k es) ∙ all_before es k le)))

pub waits_all : (es : List Entry) (k : ℕ) → length es ≤ k → waits_in es ≡ waits_in (drop k es) → drop (length es) es ≡ waits_in es
waits_all es k le waits = all_dropped es ∙ sym (waits ∙ ap waits_in (none_behind es k le))
