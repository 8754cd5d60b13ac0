-- Lists of views after a step, and what a step leaves alone.
use Rattle.std.proofs.Common.{◌≡◌, ℕ, zero, suc, ◌+◌, ◌<◌, ◌≢◌, ◌⊎◌, true, List, [], ◌∷◌, ◌++◌, length, set, sym, refl, ap, ◌∙◌, subst, inl, inr, ⊎_elim, Option, arith, length-set, get_or-set_same}
use mathlib.Core.Option.{some, some-injective, some-ne-none}
use mathlib.Core.Option as maybe
use lib.ListN.{get_elem?}
use Rattle.atomic_table.specs.Seated.{TableId}
use Rattle.atomic_table.proofs.Lists.{at_set}
use Rattle.kilim_run_turn.specs.declared.view.View.{View}
use Rattle.kilim_run_turn.specs.declared.view.Stage.{Stage}
use Rattle.kilim_run_turn.specs.declared.view.Stage.TheVariants.{Fresh, Opening, Outside, Inside, Aside}
use Rattle.kilim_run_turn.specs.Rule.{IsWorker, Facts, Owns, Stands, Fits, Ruled, Holds}

module _ {A : Type 0} where
  pub there : (l : List A) (i : ℕ) (a : A) → get_elem? l i ≡ some a → i < length l
  there [] i a e = absurd (some-ne-none a (sym e))
  there (x ∷ xs) zero a e = omega arith
  there (x ∷ xs) (suc i) a e = let h = there xs i a e in omega arith

  pub set_there : (l : List A) (i : ℕ) (a b : A) → get_elem? l i ≡ some a → get_elem? (set l i b) i ≡ some b
  set_there [] i a b e = absurd (some-ne-none a (sym e))
  set_there (x ∷ xs) zero a b e = refl
  set_there (x ∷ xs) (suc i) a b e = set_there xs i a b e

  pub only : (l : List A) (a : A) (i : ℕ) (b : A) → l ≡ a ∷ [] → get_elem? l i ≡ some b → i ≡ 0
  only l a i b one e = let h = there l i b e in let n : length l ≡ 1 = ap length one in omega arith

  pub same : (l : List A) (i : ℕ) (a b : A) → get_elem? l i ≡ some a → get_elem? l i ≡ some b → a ≡ b
  same l i a b e h = some-injective a b (sym e ∙ h)

  pub at_end : (l : List A) (a b : A) (j : ℕ) → get_elem? (l ++ a ∷ []) j ≡ some b → (get_elem? l j ≡ some b) ⊎ ((j ≡ length l) × (a ≡ b))
  at_end [] a b zero e = inr (refl, some-injective a b e)
  at_end [] a b (suc j) e = absurd (some-ne-none b (sym e))
  at_end (x ∷ xs) a b zero e = inl e
  at_end (x ∷ xs) a b (suc j) e = ⊎_elim (λ t. inl t) (λ t. inr (ap suc t.0, t.1)) (at_end xs a b j e)

  module _ (P : ℕ → A → Type 0) where
    pub each_set : (l : List A) (i : ℕ) (w : A) → P i w → ((j : ℕ) (u : A) → j ≢ i → get_elem? l j ≡ some u → P j u)
        → (j : ℕ) (u : A) → get_elem? (set l i w) j ≡ some u → P j u
    each_set l i w here other j u e = ⊎_elim (λ t. subst (λ (x : ℕ × A). P x.0 x.1) (λ k. (sym t.0 k, t.1 k)) here) (λ t. other j u t.0 t.1) (at_set l i j w u e)

    -- the seat i has the view w, and a new seat the view x
    pub each_split : (l : List A) (i : ℕ) (w x : A) → P i w → P (length l) x → ((j : ℕ) (u : A) → j ≢ i → get_elem? l j ≡ some u → P j u)
        → (j : ℕ) (u : A) → get_elem? (set l i w ++ x ∷ []) j ≡ some u → P j u
    each_split l i w x here new other j u e = ⊎_elim (λ t. each_set l i w here other j u t) (λ t. subst (λ (y : ℕ × A). P y.0 y.1) (λ k. (sym (t.0 ∙ length-set l i w) k, t.1 k)) new) (at_end (set l i w) x u j e)

    -- the seat i has the view w, and the seat o the view x
    pub each_two : (l : List A) (i o : ℕ) (w x : A) → P i w → P o x → ((j : ℕ) (u : A) → j ≢ i → j ≢ o → get_elem? l j ≡ some u → P j u)
        → (j : ℕ) (u : A) → get_elem? (set (set l i w) o x) j ≡ some u → P j u
    each_two l i o w x here gone other j u e = each_set (set l i w) o x gone (λ j' u' no e'. ⊎_elim (λ t. subst (λ (y : ℕ × A). P y.0 y.1) (λ k. (sym t.0 k, t.1 k)) here) (λ t. other j' u' t.0 no t.1) (at_set l i j' w u' e')) j u e

-- what holds of a list's one entry
pub single : {A : Type 0} (a : A) (P : ℕ → Type 0) → P 0 → (k : ℕ) → k < length (a ∷ []) → P k
single a P p zero h = p
single a P p (suc k) h = absurd (omega arith)

module _ (seats word word' : ℕ) (views views' : List View) (f f' : Facts) (v : View) where
  goes_on : (st : Stage) → Stands seats word views f v st → (st ≡ Fresh → ⊥)
      → (st ≡ Opening → v.carries ≡ true → word ≡ seats + 1 → v.made ≡ f.made → (word' ≡ seats + 1) × (v.made ≡ f'.made))
      → (st ≡ Inside → word ≡ v.number + 1 → word' ≡ v.number + 1)
      → Stands seats word' views' f' v st
  goes_on Fresh s fresh opening inside = absurd (fresh refl)
  goes_on Opening s fresh opening inside = let o = opening refl s.2 s.0 s.1 in (o.0, o.1, s.2)
  goes_on Outside s fresh opening inside = tt
  goes_on Inside s fresh opening inside = inside refl s
  goes_on Aside s fresh opening inside = tt

  -- a seat j that a step of the seat id leaves alone still fits
  pub stays : (id j : ℕ) (m : View) → get_elem? views id ≡ some m → get_elem? views j ≡ some v → j ≢ id → Fits seats word views f j v
      → (j ≡ f.bearer → v.list ≡ f.list → (j ≡ f'.bearer) × (v.list ≡ f'.list))
      → (Owns f j v → Owns f' j v)
      → (j ≡ f.bearer → word ≡ seats + 1 → v.made ≡ f.made → (word' ≡ seats + 1) × (v.made ≡ f'.made))
      → (Owns f j v → word ≡ v.number + 1 → word' ≡ v.number + 1)
      → Fits seats word' views' f' j v
  stays id j m mine at ne fit carried owned opening inside = record {
    carried = λ c. let t = fit.carried c in carried t.0 t.1;
    owned = λ w. owned (fit.owned w);
    stands = goes_on v.stage fit.stands
        (λ e. let s : Stands seats word views f v Fresh = subst (Stands seats word views f v) e fit.stands in ne (only views v j v s.0 at ∙ sym (only views v id m s.0 mine)))
        (λ e c. opening (fit.carried c).0)
        (λ e. inside (fit.owned (subst IsWorker (sym e) tt)));
  }

module _ {S : Type 0} (lies : TableId → S → Type 0) (seats : ℕ) where
  -- the rule after a step that writes n
  pub moved : (words : List ℕ) (n : ℕ) (homes : List (maybe.Option (Option S))) (views : List View) → length words ≡ 1 → Ruled lies seats n homes views
      → Holds lies seats (record { words = set words 0 n; homes = homes; views = views })
  moved words n homes views one r = record {
    one = length-set words 0 n ∙ one;
    ruled = subst (λ (x : ℕ). Ruled lies seats x homes views) (sym (get_or-set_same words 0 n 0 (omega arith))) r;
  }
