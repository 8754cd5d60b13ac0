-- The numbers of a cell tell its task and its course.
use Rattle.std.proofs.Common.{◌≡◌, ℕ, zero, suc, List, [], ◌∷◌, Option, Some, None, refl, sym, ap, ◌∙◌, map, ◌<◌, length, arith}
use Rattle.std.specs.Prelude.{slice_get, slice_index_or}
use base.Stored.{Gv, gnil, gnum, gcons}
use Rattle.kilim_program.specs.Names.{◌>>=◌}
use Rattle.kilim_run_board.specs.Board.{Board}
use Rattle.kilim_run_board.specs.Seen.{CourseAt}
use Rattle.kilim_run_turn.specs.Views.{cell_at}
use Rattle.kilim_run_workers.specs.Codes.{course_coded, read_out, course_numbers, lent_numbers, cell_numbers, cells_of}
use Rattle.kilim_run_model.specs.Course.{Course}
use Rattle.kilim_run_model.specs.Moving.{Books, books_from, first_books}

abbrev first : List ℕ → ℕ
first [] = 0
first (x ∷ xs) = x

abbrev rest : List ℕ → List ℕ
rest [] = []
rest (x ∷ xs) = xs

-- what was read out before the same numbers is the same
pub reads : (a b : Gv) (xs ys : List ℕ) → read_out a xs ≡ read_out b ys → (a ≡ b) × (xs ≡ ys)
reads gnil gnil xs ys e = (refl, ap rest e)
reads (gnum n) (gnum m) xs ys e = (ap gnum (ap (λ l. first (rest l)) e), ap (λ l. rest (rest l)) e)
reads (gcons a b) (gcons c d) xs ys e =
    let p = reads a c (read_out b xs) (read_out d ys) (ap rest e) in
    let q = reads b d xs ys p.1 in
    ((λ i. gcons (p.0 i) (q.0 i)), q.1)
reads gnil (gnum m) xs ys e = absurd (let f : 0 ≡ 1 = ap first e in omega arith)
reads gnil (gcons c d) xs ys e = absurd (let f : 0 ≡ 2 = ap first e in omega arith)
reads (gnum n) gnil xs ys e = absurd (let f : 1 ≡ 0 = ap first e in omega arith)
reads (gnum n) (gcons c d) xs ys e = absurd (let f : 1 ≡ 2 = ap first e in omega arith)
reads (gcons a b) gnil xs ys e = absurd (let f : 2 ≡ 0 = ap first e in omega arith)
reads (gcons a b) (gnum m) xs ys e = absurd (let f : 2 ≡ 1 = ap first e in omega arith)

none_empty : (g : Gv) → read_out g [] ≡ [] → ⊥
none_empty gnil e = absurd (cc)
none_empty (gnum n) e = absurd (cc)
none_empty (gcons a b) e = absurd (cc)

-- courses with the same numbers are equal
pub same_course : (c d : Course) → course_numbers (Some c) ≡ course_numbers (Some d) → c ≡ d
same_course c d e = course_coded.inj c d (reads (course_coded.code c) (course_coded.code d) [] [] e).0

pub same_courses : (o : Option Course) (d : Course) → course_numbers o ≡ course_numbers (Some d) → o ≡ Some d
same_courses None d e = absurd (none_empty (course_coded.code d) (sym e))
same_courses (Some c) d e = ap Some (same_course c d e)

-- what lies at a place
at_map : (f : Option ℕ → List ℕ) (cells : List (Option ℕ)) (k : ℕ) (x : Option ℕ) → slice_get cells k ≡ Some x → slice_index_or (map f cells) k [] ≡ f x
at_map f [] k x e = absurd (cc)
at_map f (y ∷ ys) zero x e = ap f (let g : y ≡ x = cc in g)
at_map f (y ∷ ys) (suc k) x e = at_map f ys k x e

there_map : (f : Option ℕ → List ℕ) (cells : List (Option ℕ)) (k : ℕ) → k < length cells → (x : Option ℕ) × (slice_get cells k ≡ Some x) × (slice_index_or (map f cells) k [] ≡ f x)
there_map f [] k e = absurd (omega arith)
there_map f (y ∷ ys) zero e = (y, refl, refl)
there_map f (y ∷ ys) (suc k) e = there_map f ys k (omega arith)

as_long : (f : Option ℕ → List ℕ) (cells : List (Option ℕ)) → length (map f cells) ≡ length cells
as_long f [] = refl
as_long f (x ∷ xs) = ap suc (as_long f xs)

past_map : (f : Option ℕ → List ℕ) (cells : List (Option ℕ)) (k t : ℕ) (ts : List ℕ) → slice_index_or (map f cells) k [] ≡ t ∷ ts → (x : Option ℕ) × (slice_get cells k ≡ Some x) × (f x ≡ t ∷ ts)
past_map f [] k t ts e = absurd (cc)
past_map f (y ∷ ys) zero t ts e = (y, refl, e)
past_map f (y ∷ ys) (suc k) t ts e = past_map f ys k t ts e

-- what has an element lies inside
pub inside : {A : Type 0} (xs : List A) (k : ℕ) (x : A) → slice_get xs k ≡ Some x → k < length xs
inside [] k x e = absurd (cc)
inside (y ∷ ys) zero x e = omega arith
inside (y ∷ ys) (suc k) x e = let h = inside ys k x e in omega (arith, h)

module _ {F : Type 0} (b : Board F) (k : ℕ) where
  -- an empty cell has no numbers
  pub free_cell : slice_get b.cells k ≡ Some None → cell_at (cells_of b) k ≡ []
  free_cell e = at_map (cell_numbers (books_from first_books b.journal)) b.cells k None e

  pub is_free : k < length b.cells → cell_at (cells_of b) k ≡ [] → slice_get b.cells k ≡ Some None
  is_free lt e = let m = there_map (cell_numbers (books_from first_books b.journal)) b.cells k lt in free_of m.0 m.1 (sym m.2 ∙ e)
    where
      free_of : (x : Option ℕ) → slice_get b.cells k ≡ Some x → cell_numbers (books_from first_books b.journal) x ≡ [] → slice_get b.cells k ≡ Some None
      free_of None at g = at
      free_of (Some t) at g = absurd (cc)

  -- the numbers of a cell are its task and its course
  pub lent_cell : (t : ℕ) (c : Course) → slice_get b.cells k ≡ Some (Some t) → CourseAt b t c → cell_at (cells_of b) k ≡ lent_numbers t c
  lent_cell t c e at =
      at_map (cell_numbers (books_from first_books b.journal)) b.cells k (Some t) e
      ∙ (ap (λ o. t ∷ course_numbers (o >>= λ (x : Books). slice_get x.courses t)) at.1 ∙ ap (λ o. t ∷ course_numbers o) at.2)

  pub is_lent : (t : ℕ) (c : Course) → cell_at (cells_of b) k ≡ lent_numbers t c → (slice_get b.cells k ≡ Some (Some t)) × CourseAt b t c
  is_lent t c e =
      let m = past_map (cell_numbers (books_from first_books b.journal)) b.cells k t (course_numbers (Some c)) e in
      lent_of m.0 m.1 m.2
    where
      course_in : (o : Option Books) → books_from first_books b.journal ≡ o → (o >>= λ (x : Books). slice_get x.courses t) ≡ Some c → CourseAt b t c
      course_in None is g = absurd (let h : None ≡ Some c = g in cc)
      course_in (Some books) is g = (books, is, g)

      lent_of : (x : Option ℕ) → slice_get b.cells k ≡ Some x → cell_numbers (books_from first_books b.journal) x ≡ lent_numbers t c → (slice_get b.cells k ≡ Some (Some t)) × CourseAt b t c
      lent_of None at g = absurd (cc)
      lent_of (Some u) at g =
          let same : u ≡ t = ap first g in
          let course = same_courses (books_from first_books b.journal >>= λ (x : Books). slice_get x.courses u) c (ap rest g) in
          (at ∙ ap (λ n. Some (Some n)) same, course_in (books_from first_books b.journal) refl (ap (λ n. books_from first_books b.journal >>= λ (x : Books). slice_get x.courses n) (sym same) ∙ course))

  pub as_many : k < length (cells_of b) → k < length b.cells
  as_many e = let l = as_long (cell_numbers (books_from first_books b.journal)) b.cells in omega arith
