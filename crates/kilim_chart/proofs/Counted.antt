-- How often marks and arrows stand in a list of shapes.
use Rattle.std.proofs.Common.{◌≡◌, ◌≢◌, ℕ, zero, suc, ◌+◌, ◌<◌, Bool, true, false, ltb, eqb, Option, Some, None, List, [], ◌∷◌, ◌++◌, length, take, slice_get, refl, sym, ap, ◌∙◌, inl, inr, arith, append_assoc, length-append}
use Rattle.std.specs.Prelude.{◌&&◌}
use Rattle.std.proofs.lemmas.Bool.{cases_Bool}
use Rattle.std.proofs.lemmas.Bool.Decides.{nat_tests}
use Rattle.std.proofs.lemmas.List.{append-nil}
use Rattle.kilim_chart.specs.declared.rows.Deed.{Deed}
use Rattle.kilim_chart.specs.declared.rows.Deed.TheVariants as deed
use Rattle.kilim_chart.specs.declared.rows.MessageName.{MessageName}
use Rattle.kilim_chart.specs.declared.rows.Row.{Row}
use Rattle.kilim_chart.specs.declared.shapes.Shape.{Shape}
use Rattle.kilim_chart.specs.Shapes.{put_of, arrow_from, arrows_at, shapes_at, shapes_behind, shapes_of}
use Rattle.kilim_chart.specs.Drawn.{one_if, how_many, is_mark, is_arrow, is_row, takes_from, leads_to, leads}

counted_append : (test : Shape → Bool) (xs ys : List Shape) → how_many test (xs ++ ys) ≡ how_many test xs + how_many test ys
counted_append test [] ys = let e : how_many test ys ≡ 0 + how_many test ys = omega arith in e
counted_append test (x ∷ xs) ys =
    let e : how_many test (xs ++ ys) ≡ how_many test xs + how_many test ys = counted_append test xs ys in
    let f : one_if (test x) + how_many test (xs ++ ys) ≡ one_if (test x) + how_many test xs + how_many test ys = omega arith in
    f

-- ---- what a row has

same_eq : (n : ℕ) → eqb n n ≡ true
same_eq n = grind (arith, nat_tests)

other_eq : (m n : ℕ) → m ≢ n → eqb m n ≡ false
other_eq m n apart = grind (arith, nat_tests)

no_mark : (row : ℕ) (found : Option ℕ) (at : ℕ) → how_many (is_mark row) (arrow_from found at) ≡ 0
no_mark row None at = refl
no_mark row (Some put) at = refl

no_marks : (row : ℕ) (found : MessageName → Option ℕ) (at : ℕ) (d : Deed) → how_many (is_mark row) (arrows_at found at d) ≡ 0
no_marks row found at (deed.Put m) = refl
no_marks row found at (deed.Take m) = no_mark row (found m) at
no_marks row found at (deed.Empty box) = refl
no_marks row found at (deed.Start task) = refl
no_marks row found at deed.Print = refl
no_marks row found at (deed.End cause) = refl
no_marks row found at (deed.Wait box) = refl
no_marks row found at (deed.Bound box) = refl

marks_at : (row : ℕ) (before : List Row) (r : Row) → how_many (is_mark row) (shapes_at before r) ≡ one_if (eqb (length before) row)
marks_at row before r =
    let none : how_many (is_mark row) (arrows_at (λ m. put_of m before) (length before) r.deed) ≡ 0 = no_marks row (λ m. put_of m before) (length before) r.deed in
    let e : one_if (eqb (length before) row) + how_many (is_mark row) (arrows_at (λ m. put_of m before) (length before) r.deed) ≡ one_if (eqb (length before) row) = omega (arith, none) in
    e

-- an arrow to the row at which it is looked for
here_from : (put at : ℕ) (found : Option ℕ) → how_many (is_arrow put at) (arrow_from found at) ≡ one_if (is_row found put)
here_from put at None = refl
here_from put at (Some one) =
    let s : eqb at at ≡ true = same_eq at in
    elim (cases_Bool (eqb one put)) [
      | inl same ↦
          let e : one_if (eqb one put && eqb at at) + 0 ≡ one_if (eqb one put) = rw (same, s) refl in e
      | inr apart_from ↦
          let e : one_if (eqb one put && eqb at at) + 0 ≡ one_if (eqb one put) = rw apart_from refl in e
    ]

here_at : (put : ℕ) (before : List Row) (at : ℕ) (d : Deed) → how_many (is_arrow put at) (arrows_at (λ m. put_of m before) at d) ≡ one_if (takes_from before put d)
here_at put before at (deed.Put m) = refl
here_at put before at (deed.Take m) = here_from put at (put_of m before)
here_at put before at (deed.Empty box) = refl
here_at put before at (deed.Start task) = refl
here_at put before at deed.Print = refl
here_at put before at (deed.End cause) = refl
here_at put before at (deed.Wait box) = refl
here_at put before at (deed.Bound box) = refl

-- an arrow to another row
other_from : (put taken at : ℕ) (found : Option ℕ) → at ≢ taken → how_many (is_arrow put taken) (arrow_from found at) ≡ 0
other_from put taken at None apart = refl
other_from put taken at (Some one) apart =
    let s : eqb at taken ≡ false = other_eq at taken apart in
    elim (cases_Bool (eqb one put)) [
      | inl same ↦
          let e : one_if (eqb one put && eqb at taken) + 0 ≡ 0 = rw (same, s) refl in e
      | inr apart_from ↦
          let e : one_if (eqb one put && eqb at taken) + 0 ≡ 0 = rw apart_from refl in e
    ]

other_at : (put taken : ℕ) (found : MessageName → Option ℕ) (at : ℕ) (d : Deed) → at ≢ taken → how_many (is_arrow put taken) (arrows_at found at d) ≡ 0
other_at put taken found at (deed.Put m) apart = refl
other_at put taken found at (deed.Take m) apart = other_from put taken at (found m) apart
other_at put taken found at (deed.Empty box) apart = refl
other_at put taken found at (deed.Start task) apart = refl
other_at put taken found at deed.Print apart = refl
other_at put taken found at (deed.End cause) apart = refl
other_at put taken found at (deed.Wait box) apart = refl
other_at put taken found at (deed.Bound box) apart = refl

arrows_here : (put : ℕ) (before : List Row) (r : Row) → how_many (is_arrow put (length before)) (shapes_at before r) ≡ one_if (takes_from before put r.deed)
arrows_here put before r =
    let one : how_many (is_arrow put (length before)) (arrows_at (λ m. put_of m before) (length before) r.deed) ≡ one_if (takes_from before put r.deed) = here_at put before (length before) r.deed in
    let e : 0 + how_many (is_arrow put (length before)) (arrows_at (λ m. put_of m before) (length before) r.deed) ≡ one_if (takes_from before put r.deed) = omega (arith, one) in
    e

arrows_elsewhere : (put taken : ℕ) (before : List Row) (r : Row) → length before ≢ taken → how_many (is_arrow put taken) (shapes_at before r) ≡ 0
arrows_elsewhere put taken before r apart =
    let none : how_many (is_arrow put taken) (arrows_at (λ m. put_of m before) (length before) r.deed) ≡ 0 = other_at put taken (λ m. put_of m before) (length before) r.deed apart in
    let e : 0 + how_many (is_arrow put taken) (arrows_at (λ m. put_of m before) (length before) r.deed) ≡ 0 = omega (arith, none) in
    e

-- ---- all rows

one_more : (before : List Row) (r : Row) → length (before ++ r ∷ []) ≡ length before + 1
one_more before r = length-append before (r ∷ [])

-- a row before has no mark among those behind
marks_before : (row : ℕ) (before rest : List Row) → row < length before → how_many (is_mark row) (shapes_behind before rest) ≡ 0
marks_before row before [] lt = refl
marks_before row before (r ∷ rest) lt =
    let n = one_more before r in
    let here : how_many (is_mark row) (shapes_at before r) ≡ one_if (eqb (length before) row) = marks_at row before r in
    let not_here : eqb (length before) row ≡ false = other_eq (length before) row (λ e. absurd (omega (arith, e))) in
    let zero_here : how_many (is_mark row) (shapes_at before r) ≡ 0 = here ∙ ap one_if not_here in
    let later : how_many (is_mark row) (shapes_behind (before ++ r ∷ []) rest) ≡ 0 = marks_before row (before ++ r ∷ []) rest (omega (arith, n)) in
    counted_append (is_mark row) (shapes_at before r) (shapes_behind (before ++ r ∷ []) rest) ∙ (let e : how_many (is_mark row) (shapes_at before r) + how_many (is_mark row) (shapes_behind (before ++ r ∷ []) rest) ≡ 0 = omega (arith, zero_here, later) in e)

marks_behind : (k : ℕ) (before rest : List Row) → how_many (is_mark (length before + k)) (shapes_behind before rest) ≡ one_if (ltb k (length rest))
marks_behind k before [] =
    let e : ltb k 0 ≡ false = grind (arith, nat_tests) in sym (ap one_if e)
marks_behind zero before (r ∷ rest) =
    let n = one_more before r in
    let row : length before + 0 ≡ length before = omega arith in
    let here : how_many (is_mark (length before)) (shapes_at before r) ≡ one_if (eqb (length before) (length before)) = marks_at (length before) before r in
    let one_here : how_many (is_mark (length before)) (shapes_at before r) ≡ 1 = here ∙ ap one_if (same_eq (length before)) in
    let later : how_many (is_mark (length before)) (shapes_behind (before ++ r ∷ []) rest) ≡ 0 = marks_before (length before) (before ++ r ∷ []) rest (omega (arith, n)) in
    let some : ltb 0 (suc (length rest)) ≡ true = grind (arith, nat_tests) in
    ap (λ (m : ℕ). how_many (is_mark m) (shapes_at before r ++ shapes_behind (before ++ r ∷ []) rest)) row
    ∙ (counted_append (is_mark (length before)) (shapes_at before r) (shapes_behind (before ++ r ∷ []) rest)
    ∙ ((let e : how_many (is_mark (length before)) (shapes_at before r) + how_many (is_mark (length before)) (shapes_behind (before ++ r ∷ []) rest) ≡ 1 = omega (arith, one_here, later) in e) ∙ sym (ap one_if some)))
marks_behind (suc k) before (r ∷ rest) =
    let n = one_more before r in
    let row : length before + suc k ≡ length (before ++ r ∷ []) + k = omega (arith, n) in
    let here : how_many (is_mark (length before + suc k)) (shapes_at before r) ≡ one_if (eqb (length before) (length before + suc k)) = marks_at (length before + suc k) before r in
    let not_here : eqb (length before) (length before + suc k) ≡ false = other_eq (length before) (length before + suc k) (λ e. absurd (omega (arith, e))) in
    let zero_here : how_many (is_mark (length before + suc k)) (shapes_at before r) ≡ 0 = here ∙ ap one_if not_here in
    let later : how_many (is_mark (length before + suc k)) (shapes_behind (before ++ r ∷ []) rest) ≡ one_if (ltb k (length rest)) =
    ap (λ (m : ℕ). how_many (is_mark m) (shapes_behind (before ++ r ∷ []) rest)) row ∙ marks_behind k (before ++ r ∷ []) rest in
    let same : ltb (suc k) (suc (length rest)) ≡ ltb k (length rest) = grind (arith, nat_tests) in
    counted_append (is_mark (length before + suc k)) (shapes_at before r) (shapes_behind (before ++ r ∷ []) rest)
    ∙ ((let e : how_many (is_mark (length before + suc k)) (shapes_at before r) + how_many (is_mark (length before + suc k)) (shapes_behind (before ++ r ∷ []) rest) ≡ one_if (ltb k (length rest)) = omega (arith, zero_here, later) in e) ∙ sym (ap one_if same))

arrows_before : (put taken : ℕ) (before rest : List Row) → taken < length before → how_many (is_arrow put taken) (shapes_behind before rest) ≡ 0
arrows_before put taken before [] lt = refl
arrows_before put taken before (r ∷ rest) lt =
    let n = one_more before r in
    let here : how_many (is_arrow put taken) (shapes_at before r) ≡ 0 = arrows_elsewhere put taken before r (λ e. absurd (omega (arith, e))) in
    let later : how_many (is_arrow put taken) (shapes_behind (before ++ r ∷ []) rest) ≡ 0 = arrows_before put taken (before ++ r ∷ []) rest (omega (arith, n)) in
    counted_append (is_arrow put taken) (shapes_at before r) (shapes_behind (before ++ r ∷ []) rest)
    ∙ (let e : how_many (is_arrow put taken) (shapes_at before r) + how_many (is_arrow put taken) (shapes_behind (before ++ r ∷ []) rest) ≡ 0 = omega (arith, here, later) in e)

arrows_behind : (put k : ℕ) (before rest : List Row) → how_many (is_arrow put (length before + k)) (shapes_behind before rest) ≡ one_if (leads_to (before ++ take k rest) put (slice_get rest k))
arrows_behind put k before [] = refl
arrows_behind put zero before (r ∷ rest) =
    let n = one_more before r in
    let row : length before + 0 ≡ length before = omega arith in
    let here : how_many (is_arrow put (length before)) (shapes_at before r) ≡ one_if (takes_from before put r.deed) = arrows_here put before r in
    let later : how_many (is_arrow put (length before)) (shapes_behind (before ++ r ∷ []) rest) ≡ 0 = arrows_before put (length before) (before ++ r ∷ []) rest (omega (arith, n)) in
    ap (λ (m : ℕ). how_many (is_arrow put m) (shapes_at before r ++ shapes_behind (before ++ r ∷ []) rest)) row
    ∙ (counted_append (is_arrow put (length before)) (shapes_at before r) (shapes_behind (before ++ r ∷ []) rest)
    ∙ ((let e : how_many (is_arrow put (length before)) (shapes_at before r) + how_many (is_arrow put (length before)) (shapes_behind (before ++ r ∷ []) rest) ≡ one_if (takes_from before put r.deed) = omega (arith, here, later) in e)
    ∙ ap (λ (xs : List Row). one_if (takes_from xs put r.deed)) (sym (append-nil before))))
arrows_behind put (suc k) before (r ∷ rest) =
    let n = one_more before r in
    let row : length before + suc k ≡ length (before ++ r ∷ []) + k = omega (arith, n) in
    let here : how_many (is_arrow put (length before + suc k)) (shapes_at before r) ≡ 0 = arrows_elsewhere put (length before + suc k) before r (λ e. absurd (omega (arith, e))) in
    let later : how_many (is_arrow put (length before + suc k)) (shapes_behind (before ++ r ∷ []) rest) ≡ one_if (leads_to ((before ++ r ∷ []) ++ take k rest) put (slice_get rest k)) =
    ap (λ (m : ℕ). how_many (is_arrow put m) (shapes_behind (before ++ r ∷ []) rest)) row ∙ arrows_behind put k (before ++ r ∷ []) rest in
    counted_append (is_arrow put (length before + suc k)) (shapes_at before r) (shapes_behind (before ++ r ∷ []) rest)
    ∙ ((let e : how_many (is_arrow put (length before + suc k)) (shapes_at before r) + how_many (is_arrow put (length before + suc k)) (shapes_behind (before ++ r ∷ []) rest) ≡ one_if (leads_to ((before ++ r ∷ []) ++ take k rest) put (slice_get rest k)) = omega (arith, here, later) in e)
    ∙ ap (λ (xs : List Row). one_if (leads_to xs put (slice_get rest k))) (append_assoc before (r ∷ []) (take k rest)))

pub marks_are_drawn : (rows : List Row) (row : ℕ) → how_many (is_mark row) (shapes_of rows) ≡ one_if (ltb row (length rows))
marks_are_drawn rows row =
    let e : row ≡ 0 + row = omega arith in
    ap (λ (m : ℕ). how_many (is_mark m) (shapes_of rows)) e ∙ marks_behind row [] rows

pub arrows_are_drawn : (rows : List Row) (put taken : ℕ) → how_many (is_arrow put taken) (shapes_of rows) ≡ one_if (leads rows put taken)
arrows_are_drawn rows put taken =
    let e : taken ≡ 0 + taken = omega arith in
    ap (λ (m : ℕ). how_many (is_arrow put m) (shapes_of rows)) e ∙ arrows_behind put taken [] rows
