-- What a row of calls makes of a seat, over plain variables.
use Rattle.std.proofs.Common.{◌≡◌, ℕ, ◌<◌, List, [], ◌∷◌, length, set, slice_set, sym, ap, ◌∙◌, subst, Option, Some, None, arith, length-set, ext_get_or, get_or-set_same, get_or-set_other}
use mathlib.Core.Logic.{dite}
use native.Mathlib.Decide.{ℕ_discrete}
use Rattle.atomic_table.specs.Table.{rest}
use Rattle.atomic_table.specs.Seated.{TableId}
use Rattle.kilim_run_turn.specs.declared.view.View.{View}
use Rattle.kilim_run_turn.specs.declared.kept.Kept.{Kept}
use Rattle.kilim_run_turn.specs.Rule.{Lies}
use Rattle.kilim_run_turn.specs.Views.{cell_at, worker, holder, note, inside, joined, posted, bare}
use Rattle.kilim_run_turn.specs.Steps.{Sat, IsInside, IsLoaded}
use Rattle.kilim_run_turn.specs.Turns.{KeepsOthers}

head_of : {A : Type 0} → A → List A → A
head_of d [] = d
head_of d (x ∷ xs) = x

-- the first entries of equal lists
pub heads : {A : Type 0} (x y : A) (xs ys : List A) → x ∷ xs ≡ y ∷ ys → x ≡ y
unfolding head_of
heads x y xs ys e = ap (λ l. head_of x l) e

inner : {A : Type 0} → A → Option A → A
inner d None = d
inner d (Some x) = x

pub inners : {A : Type 0} (x y : A) → Some x ≡ Some y → x ≡ y
unfolding inner
inners x y e = ap (λ o. inner x o) e

-- with the new cell written into it, the old list is the new one
pub written : (n : ℕ) (old new : List (List ℕ)) → n < length old → KeepsOthers n old new → slice_set old n (cell_at new n) ≡ new
written n old new below keeps =
    ext_get_or [] (set old n (cell_at new n)) new (length-set old n (cell_at new n) ∙ sym keeps.seats)
    (λ i lt. dite (ℕ_discrete i n)
    (λ e. subst (λ (j : ℕ). cell_at (set old n (cell_at new n)) j ≡ cell_at new j) (sym e) (get_or-set_same old n (cell_at new n) [] below))
    (λ ne. get_or-set_other old n i (cell_at new n) [] ne ∙ sym (keeps.others i ne)))

module _ {S : Type 0} where
  -- the one slot that a seat has
  pub one_slot : (m : Sat S) (v : View) (x : Option S) → m ≡ (v, (0, x) ∷ []) → m.1 ≡ (0, x) ∷ rest m.1
  one_slot m v x e = let h : m.1 ≡ (0, x) ∷ [] = ap (λ (n : Sat S). n.1) e in h ∙ ap (λ (l : List (ℕ × Option S)). (0, x) ∷ l) (sym (ap (λ (l : List (ℕ × Option S)). rest l) h))

  -- what is read of it
  pub read_is : (m : Sat S) (v : View) (x y : Option S) → m ≡ (v, (0, x) ∷ []) → m.1 ≡ (0, y) ∷ rest m.1 → y ≡ x
  read_is m v x y e h = ap (λ (p : ℕ × Option S). p.1) (heads (0, y) (0, x) (rest m.1) [] (sym h ∙ ap (λ (n : Sat S). n.1) e))

  -- the slot is read, and then the note joined
  pub joined_is : (m m' m'' : Sat S) (w : View) (z : TableId) (q n : ℕ) (shown list : List (List ℕ)) (x : Option S) → m ≡ (inside (worker z q n shown), (0, x) ∷ [])
      → m' ≡ (m.0, (0, None) ∷ rest m.1) → w ≡ note list → m'' ≡ (joined m'.0 w, m'.1) → m'' ≡ (holder z q n shown list, (0, None) ∷ [])
  joined_is m m' m'' w z q n shown list x e e' ew e'' =
      e'' ∙ ap (λ (p : Sat S × View). (joined p.0.0 p.1, p.0.1)) (λ k. ((e' ∙ ap (λ (p : Sat S). (p.0, (0, None) ∷ rest p.1)) e) k, ew k))

  -- the note is split off, and then the slot written
  pub filled_is : (m m' m'' : Sat S) (z : TableId) (q n : ℕ) (shown list : List (List ℕ)) (x y : Option S) → m ≡ (holder z q n shown list, (0, x) ∷ [])
      → m' ≡ (bare m.0, m.1) → m'' ≡ (m'.0, (0, y) ∷ rest m'.1) → m'' ≡ (inside (worker z q n shown), (0, y) ∷ [])
  filled_is m m' m'' z q n shown list x y e e' e'' =
      e'' ∙ ap (λ (p : Sat S). (p.0, (0, y) ∷ rest p.1)) (e' ∙ ap (λ (p : Sat S). (bare p.0, p.1)) e)

  -- the turn was taken by a worker that was outside
  pub loaded_is : (lies : TableId → S → Type 0) (m m' : Sat S) (z : TableId) (q n : ℕ) (shown : List (List ℕ)) → m ≡ (worker z q n shown, []) → IsInside lies m m' → IsLoaded lies z q n m'
  loaded_is lies m m' z q n shown e t =
      let y = t.0 in
      let e' : m' ≡ (inside (worker z q n shown), (0, Some y) ∷ []) = t.2 ∙ ap (λ (p : Sat S). (inside p.0, (0, Some y) ∷ p.1)) e in
      let same : shown ≡ m'.0.shown = sym (ap (λ (p : Sat S). p.0.shown) e') in
      (y, subst (λ (p : Sat S). lies p.0.of.table_id y) e t.1, e' ∙ ap (λ (l : List (List ℕ)). (inside (worker z q n l), (0, Some y) ∷ [])) same)

  -- a cell was posted, and with it the list is the cells of the value
  pub posted_is : (m m' : Sat S) (z : TableId) (q n : ℕ) (old : List ℕ) (list new : List (List ℕ)) → n < q → m ≡ (holder z q n (old ∷ []) list, (0, None) ∷ []) → m' ≡ (posted (cell_at new n) m.0, m.1)
      → length list ≡ q → KeepsOthers n list new → m' ≡ (holder z q n (cell_at new n ∷ []) new, (0, None) ∷ [])
  posted_is m m' z q n old list new below e e' size keeps =
      e' ∙ (ap (λ (p : Sat S). (posted (cell_at new n) p.0, p.1)) e ∙ ap (λ (l : List (List ℕ)). (holder z q n (cell_at new n ∷ []) l, (0, None) ∷ [])) (written n list new (omega arith) keeps))

  -- the seat shows what it shows
  pub reshown : (m : Sat S) (z : TableId) (q n : ℕ) (shown list : List (List ℕ)) (c : List (ℕ × Option S)) → m ≡ (holder z q n shown list, c) → m ≡ (holder z q n m.0.shown list, c)
  reshown m z q n shown list c e = e ∙ ap (λ (l : List (List ℕ)). (holder z q n l list, c)) (sym (ap (λ (p : Sat S). p.0.shown) e))

  -- a worker's seat shows what it shows
  pub seen : (m : Sat S) (z : TableId) (q n : ℕ) (shown : List (List ℕ)) → m ≡ (worker z q n shown, []) → m ≡ (worker z q n m.0.shown, [])
  seen m z q n shown e = e ∙ ap (λ (l : List (List ℕ)). (worker z q n l, [])) (sym (ap (λ (p : Sat S). p.0.shown) e))

  -- and has the slots that it has
  pub slots_are : (m : Sat S) (v : View) (c : List (ℕ × Option S)) → m ≡ (v, c) → m ≡ (v, m.1)
  slots_are m v c e = e ∙ ap (λ (l : List (ℕ × Option S)). (v, l)) (sym (ap (λ (p : Sat S). p.1) e))

-- what was found in the slot is the value that fits
pub found_fits : {B : Type 0} (cells : B → List (List ℕ)) (z : TableId) (m : Sat (Kept B)) (v : View) (x : Option (Kept B)) (y k : Kept B) → Lies cells z y → m ≡ (v, (0, Some y) ∷ [])
    → m.1 ≡ (0, x) ∷ rest m.1 → x ≡ Some k → Lies cells z k
found_fits cells z m v x y k fits e h is = subst (λ (p : Kept _). Lies cells z p) (inners y k (sym (read_is m v (Some y) x e h) ∙ is)) fits
