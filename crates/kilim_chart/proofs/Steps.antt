-- One more row: what the loops over entries and over rows keep.
use Rattle.std.proofs.Common.{◌≡◌, ℕ, zero, suc, slice_get, ◌+◌, ◌<◌, Bool, true, false, cond, List, [], ◌∷◌, ◌++◌, length, get_or, take, drop, Option, Some, None, refl, sym, ap, ◌∙◌, arith, append_assoc}
use Rattle.std.proofs.lemmas.List.{length-take-le}
use Rattle.kilim_lemmas.proofs.Lists.{take_at, drop_at}
use Rattle.kilim_run_journal.specs.declared.entry.Entry.{Entry}
use Rattle.kilim_chart.specs.declared.rows.Choice.{Choice}
use Rattle.kilim_chart.specs.declared.rows.Deed.{Deed}
use Rattle.kilim_chart.specs.declared.rows.Deed.TheVariants as deed
use Rattle.kilim_chart.specs.declared.rows.MessageName.{MessageName}
use Rattle.kilim_chart.specs.declared.rows.Row.{Row}
use Rattle.kilim_chart.specs.declared.shapes.Shape.{Shape}
use Rattle.kilim_chart.specs.declared.shapes.Shape.TheVariants.{Mark}
use Rattle.kilim_chart.specs.Rows.{is_chosen, row_of, rows_from}
use Rattle.kilim_chart.specs.Shapes.{is_put_of, last_put, put_of, arrow_from, arrows_at, shapes_at, shapes_behind}

pub got : {A : Type 0} (xs : List A) (n : ℕ) (x : A) → slice_get xs n ≡ Some x → x ≡ get_or xs n x
got [] n x h = absurd (cc)
got (y ∷ xs) zero x h = let e : x ≡ y = cc in e
got (y ∷ xs) (suc n) x h = got xs n x h

-- ---- rows

-- what is behind an entry, whether it is chosen or not
abbrev with_row : Choice → ℕ → Entry → List Row → List Row
with_row choice line e rows = cond (is_chosen choice line e) (row_of line e ∷ rows) rows

next_rows : (choice : Choice) (es : List Entry) (i : ℕ) (e : Entry) → i < length es → e ≡ get_or es i e → rows_from choice (i + 1) (drop i es) ≡ with_row choice (i + 1) e (rows_from choice (i + 1 + 1) (drop (i + 1) es))
next_rows choice es i e lt is =
    let one : suc (i + 1) ≡ i + 1 + 1 = omega arith in
    ap (rows_from choice (i + 1)) (drop_at es i e lt is) ∙ ap (λ (line : ℕ). with_row choice (i + 1) e (rows_from choice line (drop (i + 1) es))) one

pub row_more : (choice : Choice) (es : List Entry) (i : ℕ) (e : Entry) (old new all : List Row) → i < length es → e ≡ get_or es i e → is_chosen choice (i + 1) e ≡ true → new ≡ old ++ row_of (i + 1) e ∷ [] →
    old ++ rows_from choice (i + 1) (drop i es) ≡ all → new ++ rows_from choice (i + 1 + 1) (drop (i + 1) es) ≡ all
row_more choice es i e old new all lt is chosen step inv =
    let rest : List Row = rows_from choice (i + 1 + 1) (drop (i + 1) es) in
    ap (λ (rows : List Row). rows ++ rest) step
    ∙ (append_assoc old (row_of (i + 1) e ∷ []) rest
    ∙ (ap (λ (b : Bool). old ++ cond b (row_of (i + 1) e ∷ rest) rest) (sym chosen)
    ∙ (ap (λ (rows : List Row). old ++ rows) (sym (next_rows choice es i e lt is)) ∙ inv)))

pub row_less : (choice : Choice) (es : List Entry) (i : ℕ) (e : Entry) (old all : List Row) → i < length es → e ≡ get_or es i e → is_chosen choice (i + 1) e ≡ false →
    old ++ rows_from choice (i + 1) (drop i es) ≡ all → old ++ rows_from choice (i + 1 + 1) (drop (i + 1) es) ≡ all
row_less choice es i e old all lt is chosen inv =
    let rest : List Row = rows_from choice (i + 1 + 1) (drop (i + 1) es) in
    ap (λ (b : Bool). old ++ cond b (row_of (i + 1) e ∷ rest) rest) (sym chosen) ∙ (ap (λ (rows : List Row). old ++ rows) (sym (next_rows choice es i e lt is)) ∙ inv)

-- ---- shapes

last_put_more : (m : MessageName) (n : ℕ) (found : Option ℕ) (rows : List Row) (r : Row) → last_put m n found (rows ++ r ∷ []) ≡ cond (is_put_of m r.deed) (Some (n + length rows)) (last_put m n found rows)
last_put_more m n found [] r =
    let same : n ≡ n + 0 = omega arith in
    ap (λ (k : ℕ). cond (is_put_of m r.deed) (Some k) found) same
last_put_more m n found (x ∷ rows) r =
    let now : Option ℕ = cond (is_put_of m x.deed) (Some n) found in
    let same : suc n + length rows ≡ n + suc (length rows) = omega arith in
    last_put_more m (suc n) now rows r ∙ ap (λ (k : ℕ). cond (is_put_of m r.deed) (Some k) (last_put m (suc n) now rows)) same

-- behind one more row a message was put there, or where it was before
pub put_more : (m : MessageName) (rows : List Row) (i : ℕ) (r : Row) → i < length rows → r ≡ get_or rows i r → put_of m (take (i + 1) rows) ≡ cond (is_put_of m r.deed) (Some i) (put_of m (take i rows))
put_more m rows i r lt is =
    let some : length (take i rows) ≡ i = length-take-le i rows (omega arith) in
    let same : 0 + length (take i rows) ≡ i = omega arith in
    ap (put_of m) (take_at rows i r lt is) ∙ (last_put_more m 0 None (take i rows) r ∙ ap (λ (k : ℕ). cond (is_put_of m r.deed) (Some k) (put_of m (take i rows))) same)

arrows_same : (f g : MessageName → Option ℕ) → ((m : MessageName) → f m ≡ g m) → (row : ℕ) (d : Deed) → arrows_at f row d ≡ arrows_at g row d
arrows_same f g same row (deed.Put m) = refl
arrows_same f g same row (deed.Take m) = ap (λ (o : Option ℕ). arrow_from o row) (same m)
arrows_same f g same row (deed.Empty box) = refl
arrows_same f g same row (deed.Start task) = refl
arrows_same f g same row deed.Print = refl
arrows_same f g same row (deed.End cause) = refl
arrows_same f g same row (deed.Wait box) = refl
arrows_same f g same row (deed.Bound box) = refl

pub shapes_more : (rows : List Row) (i : ℕ) (r : Row) (found : MessageName → Option ℕ) (old new all : List Shape) → i < length rows → r ≡ get_or rows i r →
    ((m : MessageName) → found m ≡ put_of m (take i rows)) → new ≡ old ++ (Mark i ∷ arrows_at found i r.deed) →
    old ++ shapes_behind (take i rows) (drop i rows) ≡ all → new ++ shapes_behind (take (i + 1) rows) (drop (i + 1) rows) ≡ all
shapes_more rows i r found old new all lt is same step inv =
    let some : length (take i rows) ≡ i = length-take-le i rows (omega arith) in
    let before : MessageName → Option ℕ = λ m. put_of m (take i rows) in
    let here : Mark i ∷ arrows_at found i r.deed ≡ shapes_at (take i rows) r =
    ap (λ (xs : List Shape). Mark i ∷ xs) (arrows_same found before same i r.deed) ∙ ap (λ (n : ℕ). Mark n ∷ arrows_at before n r.deed) (sym some) in
    let rest : List Shape = shapes_behind (take (i + 1) rows) (drop (i + 1) rows) in
    ap (λ (xs : List Shape). xs ++ rest) step
    ∙ (append_assoc old (Mark i ∷ arrows_at found i r.deed) rest
    ∙ (ap (λ (xs : List Shape). old ++ (xs ++ rest)) here
    ∙ (ap (λ (xs : List Row). old ++ (shapes_at (take i rows) r ++ shapes_behind xs (drop (i + 1) rows))) (take_at rows i r lt is)
    ∙ (ap (λ (xs : List Row). old ++ shapes_behind (take i rows) xs) (sym (drop_at rows i r lt is)) ∙ inv))))
