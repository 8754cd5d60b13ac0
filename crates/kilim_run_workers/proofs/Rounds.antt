-- All passes, and all cells.
use Rattle.std.proofs.Common.{◌≡◌, ◌≢◌, ◌<◌, ◌≤◌, ℕ, zero, suc, List, [], ◌∷◌, Option, Some, None, All, refl, ap, ◌∙◌, map, length, arith, ◌⊎◌, inl, inr}
use Rattle.std.specs.Prelude.{replicate}
use Rattle.kilim_run_board.specs.Board.{Board, lent_of}
use Rattle.kilim_run_turn.specs.declared.pass.Pass.{Pass}
use Rattle.kilim_run_turn.specs.Views.{cell_at}
use Rattle.kilim_run_turn.specs.Turns.{shows, KeepsOthers}
use Rattle.kilim_run_workers.specs.Codes.{cell_numbers, cells_of}
use Rattle.kilim_run_model.specs.Moving.{books_from, first_books}

decided : (k n : ℕ) → (k ≡ n) ⊎ (k ≢ n)
decided zero zero = inl refl
decided zero (suc n) = inr (λ e. absurd (omega arith))
decided (suc k) zero = inr (λ e. absurd (omega arith))
decided (suc k) (suc n) = elim (decided k n) [ inl e ↦ inl (ap suc e) | inr ne ↦ inr (λ e. ne (let f = e in omega arith)) ]

abbrev first : List (List ℕ) → List ℕ
first [] = []
first (x ∷ xs) = x

abbrev rest : List (List ℕ) → List (List ℕ)
rest [] = []
rest (x ∷ xs) = xs

pub shows_free : (ps : List Pass) (n : ℕ) → map shows ps ≡ replicate n [] → All (λ p. shows p ≡ []) ps
shows_free [] n e k d lt = absurd (omega arith)
shows_free (p ∷ ps) zero e k d lt = absurd (cc)
shows_free (p ∷ ps) (suc n) e zero d lt = ap first e
shows_free (p ∷ ps) (suc n) e (suc k) d lt = shows_free ps n (ap rest e) k d (omega arith)

pub free_shows : (ps : List Pass) → All (λ p. shows p ≡ []) ps → map shows ps ≡ replicate (length ps) []
free_shows [] all = refl
free_shows (p ∷ ps) all = λ i. all 0 p (omega arith) i ∷ free_shows ps (λ k d lt. all (suc k) d (omega arith)) i

cell_free : (n k : ℕ) → cell_at (replicate n []) k ≡ []
cell_free zero k = refl
cell_free (suc n) zero = refl
cell_free (suc n) (suc k) = cell_free n k

all_free : (zs : List (List ℕ)) (n : ℕ) → length zs ≡ n → ((k : ℕ) → cell_at zs k ≡ []) → zs ≡ replicate n []
all_free [] zero e f = refl
all_free [] (suc n) e f = absurd (omega arith)
all_free (z ∷ zs) zero e f = absurd (omega arith)
all_free (z ∷ zs) (suc n) e f = λ i. f 0 i ∷ all_free zs n (omega arith) (λ k. f (suc k)) i

pub long : (n : ℕ) → length (replicate {A = List ℕ} n []) ≡ n
long zero = refl
long (suc n) = ap suc (long n)

-- the first of so many empty cells
pub first_free : (n : ℕ) (xs : List (List ℕ)) → 1 ≤ n → xs ≡ replicate n [] → (0 < length xs) × (cell_at xs 0 ≡ [])
first_free n xs some e =
    let l : length xs ≡ n = ap length e ∙ long n in
    (omega (arith, l, some), ap (λ (cs : List (List ℕ)). cell_at cs 0) e ∙ cell_free n 0)

-- where one cell was filled and emptied again, all are empty
pub still_free : (n seat : ℕ) (xs ys zs : List (List ℕ)) → xs ≡ replicate n [] → KeepsOthers seat xs ys → KeepsOthers seat ys zs → cell_at zs seat ≡ [] → zs ≡ replicate n []
still_free n seat xs ys zs e p q empty = all_free zs n (q.seats ∙ (p.seats ∙ (ap length e ∙ long n))) (λ k. each k)
  where
    each : (k : ℕ) → cell_at zs k ≡ []
    each k = elim (decided k seat) [
      | inl is ↦ ap (cell_at zs) is ∙ empty
      | inr isnt ↦ q.others k isnt ∙ (p.others k isnt ∙ (ap (λ l. cell_at l k) e ∙ cell_free n k))
    ]

-- where no cell is full, no task is lent
pub none_lent : {F : Type 0} (b : Board F) (n : ℕ) → cells_of b ≡ replicate n [] → lent_of b.cells ≡ []
none_lent b n e = none_of b.cells n e
  where
    none_of : (cells : List (Option ℕ)) (m : ℕ) → map (cell_numbers (books_from first_books b.journal)) cells ≡ replicate m [] → lent_of cells ≡ []
    none_of [] m e = refl
    none_of (None ∷ cells) zero e = absurd (cc)
    none_of (None ∷ cells) (suc m) e = none_of cells m (ap rest e)
    none_of (Some t ∷ cells) zero e = absurd (cc)
    none_of (Some t ∷ cells) (suc m) e = absurd (let h = ap first e in cc)
