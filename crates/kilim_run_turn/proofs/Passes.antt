-- Passes, one by one and all together.
use Rattle.std.proofs.Common.{◌≡◌, ◌⊎◌, inl, inr, ℕ, zero, suc, ◌+◌, ◌<◌, List, [], ◌∷◌, ◌++◌, length, map, get_or, take, sym, refl, ap, ◌∙◌, subst, Option, Some, option_to_list, arith, zero-add, zero-le, length-append, append_assoc, append-nil, length-set, get_or-set_other, ext_get_or, slice_set}
use lib.ListN.{length-map, get_or-map}
use lib.Seq.{map-set, take-append_seam}
use Rattle.std.proofs.lemmas.List.{get_or_append_left, get_or_at}
use Rattle.atomic_table.specs.Seated.{TableId}
use Rattle.kilim_run_turn.specs.declared.pass.Pass.{Pass}
use Rattle.kilim_run_turn.specs.Views.{cell_at, no_table, worker, holder, both}
use Rattle.kilim_run_turn.specs.Steps.{Sat, IsInside, IsTold}
use Rattle.kilim_run_turn.specs.Turns.{first_shown, shows, IsOutside, AreAllAt, AreMade, IsMade, KeepsOthers}
use Rattle.kilim_run_turn.proofs.Hands.{heads}

-- a seat has taken over the passes behind those that are left
pub record Gathered {S : Type 0} (z : TableId) (q : ℕ) (all left : List Pass) (t : TableId) (m : Sat S) : Type 0 where
  pub rest : List Pass
  pub split : all ≡ left ++ rest
  pub same : t ≡ z
  pub knows : m ≡ (worker z q (length left) (map shows rest), [])

-- the passes that are left, and those behind them, where one more is behind them
pub behind : (all left rest left' : List Pass) (p : Pass) → all ≡ left ++ rest → left ≡ left' ++ p ∷ [] → all ≡ left' ++ (p ∷ rest)
behind all left rest left' p e e' = e ∙ (ap (λ (l : List Pass). l ++ rest) e' ∙ append_assoc left' (p ∷ []) rest)

-- the last of the passes that are left has their number less one
pub last_of : (z : TableId) (q : ℕ) (all left rest left' : List Pass) (p : Pass) → AreAllAt z q all → all ≡ left ++ rest → left ≡ left' ++ p ∷ [] → IsOutside z q p × (p.number ≡ length left')
last_of z q all left rest left' p are e e' =
    let i : ℕ = length left' in
    let is = behind all left rest left' p e e' in
    let more : i < length all = rw is (omega (arith, length-append left' (p ∷ rest))) in
    let here : get_or all i p ≡ p = ap (λ (l : List Pass). get_or l i p) is ∙ get_or_at left' p rest p i refl in
    (subst (IsOutside z q) here (are.2 i p more), sym (ap (λ (x : Pass). x.number) here) ∙ are.3 i p more)

-- and so has the last of all
pub last_one : (z : TableId) (q : ℕ) (all left : List Pass) (p : Pass) → AreAllAt z q all → all ≡ left ++ p ∷ [] → IsOutside z q p × (p.number ≡ length left)
last_one z q all left p are e = last_of z q all (left ++ p ∷ []) [] left p are (e ∙ sym (append-nil (left ++ p ∷ []))) refl

-- what was popped
pub popped : (old new : List Pass) (r : Option Pass) (p : Pass) → old ≡ new ++ option_to_list r → r ≡ Some p → old ≡ new ++ p ∷ []
popped old new r p e is = e ∙ ap (λ (o : Option Pass). new ++ option_to_list o) is

pub one_less : (left left' : List Pass) (p : Pass) → left ≡ left' ++ p ∷ [] → length left ≡ length left' + 1
one_less left left' p e = ap length e ∙ length-append left' (p ∷ [])

no_pass : Pass
no_pass = record { badge = record { marker = record {}; table_id = no_table; id = 0; views = [] }; number = 0 }

-- the passes as they are made show the cells
pub shown_all : (z : TableId) (q : ℕ) (cells : List (List ℕ)) (passes : List Pass) → length passes ≡ length cells → AreMade 0 z q cells passes → map shows passes ≡ cells
unfolding no_pass
shown_all z q cells passes size made =
    ext_get_or [] (map shows passes) cells (length-map passes shows ∙ size)
    (λ i lt.
    let less : i < length passes = omega (arith, length-map passes shows) in
    get_or-map shows passes i no_pass ∙ ap first_shown (made i no_pass zero-le less).knows)

-- one more pass is made
pub made_next : (first : ℕ) (z : TableId) (q n : ℕ) (cells : List (List ℕ)) (old new : List Pass) (p : Pass) → AreMade first z q cells old → new ≡ old ++ p ∷ [] → length old ≡ n → IsMade z q cells n p → AreMade first z q cells new
made_next first z q n cells old new p made e size one = λ k d least lt.
    let more : k < length old + 1 = let g = ap length e ∙ length-append old (p ∷ []) in omega arith in
    subst (λ (l : List Pass). IsMade z q cells k (get_or l k d)) (sym e) (elim (either k (length old) more) [
      | inl less ↦ subst (λ (x : Pass). IsMade z q cells k x) (sym (get_or_append_left old (p ∷ []) d k less)) (made k d least less)
      | inr same ↦ subst (λ (x : Pass). IsMade z q cells k x) (sym (get_or_at old p [] d k (sym same))) (subst (λ (j : ℕ). IsMade z q cells j p) (sym (same ∙ size)) one)
    ])
  where
    either : (k n : ℕ) → k < n + 1 → (k < n) ⊎ (k ≡ n)
    either zero zero lt = inr refl
    either zero (suc n) lt = inl (omega arith)
    either (suc k) zero lt = absurd (omega arith)
    either (suc k) (suc n) lt = elim (either k n (omega arith)) [ inl less ↦ inl (omega arith) | inr same ↦ inr (ap suc same) ]

module _ {S : Type 0} where
  -- the seat of a pass that is outside
  pub seat_is : (z : TableId) (q n : ℕ) (p : Pass) (m : Sat S) → IsOutside z q p → p.number ≡ n → p.badge.views ≡ m.0 ∷ [] → m.1 ≡ [] → m ≡ (worker z q n (shows p ∷ []), [])
  seat_is z q n p m out is views none =
      let e : m.0 ≡ worker z q p.number (shows p ∷ []) = heads m.0 (worker z q p.number (shows p ∷ [])) [] [] (sym views ∙ out.knows) in
      let e' : m.0 ≡ worker z q n (shows p ∷ []) = e ∙ ap (λ (k : ℕ). worker z q k (shows p ∷ [])) is in
      λ k. (e' k, none k)

  -- a pass has taken over what has taken over all later ones
  pub over_is : (z : TableId) (q n : ℕ) (p : Pass) (rest : List Pass) (k : ℕ) (m m' m'' : Sat S) → m ≡ (worker z q n (shows p ∷ []), []) → m' ≡ (worker z q k (map shows rest), []) → m'' ≡ (both m.0 m'.0, m.1)
      → m'' ≡ (worker z q n (map shows (p ∷ rest)), [])
  over_is z q n p rest k m m' m'' e e' e'' = e'' ∙ ap (λ (t : Sat S × Sat S). (both t.0.0 t.1.0, t.0.1)) (λ i. (e i, e' i))

  -- where a seat with all numbers is told the list, this is what it shows
  pub told_all : (z : TableId) (q : ℕ) (shown list : List (List ℕ)) (c : List (ℕ × Option S)) (m : Sat S) → m ≡ (holder z q 0 shown list, c) → IsTold m.0 → length shown ≡ q → list ≡ shown
  told_all z q shown list c m e told size =
      let t : IsTold (holder z q 0 shown list) = subst (λ (p : Sat S). IsTold p.0) e told in
      ext_get_or [] list shown (t.0 ∙ sym size) (λ i lt. let less : i < length shown = let n = t.0 in omega arith in
      subst (λ (k : ℕ). cell_at list k ≡ cell_at shown i) (zero-add i) (t.1 i less).1)

  -- a seat that is inside shows what it showed
  pub inside_shows : (lies : TableId → S → Type 0) (m m' : Sat S) (z : TableId) (q n : ℕ) (shown : List (List ℕ)) → m ≡ (worker z q n shown, []) → IsInside lies m m' → m'.0.shown ≡ shown
  inside_shows lies m m' z q n shown e t = ap (λ (p : Sat S). p.0.shown) t.2 ∙ ap (λ (p : Sat S). p.0.shown) e

-- where one element changes, one cell does
pub keeps_set : {A : Type 0} (f : A → List ℕ) (l : List A) (n : ℕ) (x : A) → KeepsOthers n (map f l) (map f (slice_set l n x))
keeps_set f l n x = subst (λ (m : List (List ℕ)). KeepsOthers n (map f l) m) (sym (map-set f l n x)) (record {
  seats = length-set (map f l) n (f x);
  others = λ k ne. get_or-set_other (map f l) n k (f x) [] ne;
})

-- passes that were used one by one are all passes still
pub all_stay : (z : TableId) (q : ℕ) (old new : List Pass) → AreAllAt z q old → length new ≡ length old → ((i : ℕ) (d : Pass) → i < length old → IsOutside z q (get_or new i d))
    → ((i : ℕ) (d : Pass) → i < length old → (get_or new i d).number ≡ i) → AreAllAt z q new
all_stay z q old new are size each order =
    let some = are.0 in (omega arith, size ∙ are.1, (λ i d lt. each i d (omega arith)), λ i d lt. order i d (omega arith))

-- what a borrowed slice of a vector leaves in it
pub written_back : (n : ℕ) (new rest : List Pass) → length new ≡ n → take n (new ++ rest) ≡ new
written_back n new rest e = ap (λ (k : ℕ). take k (new ++ rest)) (sym e) ∙ take-append_seam new rest
