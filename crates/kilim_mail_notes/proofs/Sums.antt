-- What several workers did under several turns, added up.
use Rattle.std.proofs.Common.{◌≡◌, ℕ, zero, suc, ◌+◌, ◌<◌, ◌≤◌, Bool, true, false, ◌==◌, cond, List, [], ◌∷◌, length, refl, sym, ap, subst, ◌∙◌, arith}
use Rattle.std.specs.Prelude.{filter, map}
use Rattle.std.specs.List.{AllByRecursion}
use Rattle.std.proofs.lemmas.Bool.Decides.{nat_tests}
use Rattle.kilim_mail_stamps.specs.Merging.{weigh}
use Rattle.kilim_mail_ledger.specs.declared.items.Item.{Item}
use Rattle.kilim_mail_notes.specs.Notes.{Move, Moved, move_numbers, is_by, moves_by, moves_in, cells_from, ledger_cells, brings, owes, Balances}
use Rattle.kilim_mail_notes.specs.Sums.{Kept, all_weigh, Even, Left, first_cell, other_cells, AllSpent, Columns, AllBalance, AllEven, held_weigh, made_weigh, hands_weigh, own_weigh, AllIsClosed}
use Rattle.kilim_mail_notes.proofs.Cells.{same_moves}

-- what the moves of so many seats from s on weigh
abbrev seats_weigh : (Move → ℕ) → ℕ → ℕ → List Moved → ℕ
seats_weigh f s zero ms = 0
seats_weigh f s (suc n) ms = weigh f (moves_by s ms) + seats_weigh f (suc s) n ms

move_at : (f : Move → ℕ) (b : Bool) (x : Moved) (xs : List Moved) → weigh f (map (λ (m : Moved). m.move) (cond b (x ∷ xs) xs)) ≡ cond b (f x.move) 0 + weigh f (map (λ (m : Moved). m.move) xs)
move_at f true x xs = refl
move_at f false x xs = omega arith

one_seat : (f : Move → ℕ) (s : ℕ) (x : Moved) (xs : List Moved) → weigh f (moves_by s (x ∷ xs)) ≡ cond (x.seat == s) (f x.move) 0 + weigh f (moves_by s xs)
one_seat f s x xs = move_at f (is_by s x) x (filter (is_by s) xs)

below : (f : Move → ℕ) (s n : ℕ) (x : Moved) (xs : List Moved) → x.seat < s → seats_weigh f s n (x ∷ xs) ≡ seats_weigh f s n xs
below f s zero x xs lt = refl
below f s (suc n) x xs lt =
    let e : (x.seat == s) ≡ false = grind (arith, nat_tests) in
    let c : cond (x.seat == s) (f x.move) 0 ≡ 0 = ap (λ (b : Bool). cond b (f x.move) 0) e in
    let o = one_seat f s x xs in
    let r = below f (suc s) n x xs (omega arith) in
    omega arith

at_seat : (f : Move → ℕ) (s n : ℕ) (x : Moved) (xs : List Moved) → s ≤ x.seat → x.seat < s + n → seats_weigh f s n (x ∷ xs) ≡ f x.move + seats_weigh f s n xs
at_seat f s zero x xs le lt = absurd (omega arith)
at_seat f s (suc n) x xs le lt = by (x.seat == s) refl (λ more. at_seat f (suc s) n x xs more (omega arith))
  where
    by : (b : Bool) → (x.seat == s) ≡ b → (suc s ≤ x.seat → seats_weigh f (suc s) n (x ∷ xs) ≡ f x.move + seats_weigh f (suc s) n xs) → seats_weigh f s (suc n) (x ∷ xs) ≡ f x.move + seats_weigh f s (suc n) xs
    by true e later =
        let lt' : x.seat < suc s = grind (arith, nat_tests) in
        let c : cond (x.seat == s) (f x.move) 0 ≡ f x.move = ap (λ (b : Bool). cond b (f x.move) 0) e in
        let o = one_seat f s x xs in
        let r = below f (suc s) n x xs lt' in
        omega arith
    by false e later =
        let more : suc s ≤ x.seat = grind (arith, nat_tests) in
        let c : cond (x.seat == s) (f x.move) 0 ≡ 0 = ap (λ (b : Bool). cond b (f x.move) 0) e in
        let o = one_seat f s x xs in
        let r = later more in
        omega arith

no_moves : (f : Move → ℕ) (s n : ℕ) → seats_weigh f s n [] ≡ 0
no_moves f s zero = refl
no_moves f s (suc n) = let h = no_moves f (suc s) n in omega arith

-- the moves of all seats are all moves
pub all_seats : (f : Move → ℕ) (n : ℕ) (xs : List Moved) → AllByRecursion (λ (m : Moved). m.seat < n) xs → seats_weigh f 0 n xs ≡ weigh (λ (m : Moved). f m.move) xs
all_seats f n [] a = no_moves f 0 n
all_seats f n (x ∷ xs) (lt, a) = let h = all_seats f n xs a in let o = at_seat f 0 n x xs (omega arith) (omega arith) in omega arith

abbrev head_of : List (List Move) → List Move
head_of [] = []
head_of (ms ∷ mss) = ms

abbrev tail_of : List (List Move) → List (List Move)
tail_of [] = []
tail_of (ms ∷ mss) = mss

abbrev rows_weigh : (Move → ℕ) → List (List (List Move)) → ℕ
rows_weigh f rows = weigh (λ (row : List (List Move)). all_weigh f row) rows

abbrev notes_weigh : (Move → ℕ) → List Kept → ℕ
notes_weigh f ks = weigh (λ (k : Kept). weigh (λ (m : Moved). f m.move) (moves_in k.ledger)) ks

row_split : (f : Move → ℕ) (row : List (List Move)) → all_weigh f row ≡ weigh f (head_of row) + all_weigh f (tail_of row)
row_split f [] = refl
row_split f (ms ∷ mss) = refl

split : (f : Move → ℕ) (rows : List (List (List Move))) → rows_weigh f rows ≡ weigh (λ (row : List (List Move)). weigh f (head_of row)) rows + rows_weigh f (map tail_of rows)
split f [] = refl
split f (row ∷ rows) = let h = split f rows in let k = row_split f row in omega arith

first_of : (x y : List ℕ) (xs ys : List (List ℕ)) → x ∷ xs ≡ y ∷ ys → x ≡ y
first_of x y xs ys e = cc

others_of : (x y : List ℕ) (xs ys : List (List ℕ)) → x ∷ xs ≡ y ∷ ys → xs ≡ ys
others_of x y xs ys e = cc

column : (f : Move → ℕ) (s n : ℕ) (ns : List Moved) (rows : List (List (List Move))) → cells_from s n ns ≡ map (λ (row : List (List Move)). move_numbers (head_of row)) rows →
    seats_weigh f s n ns ≡ weigh (λ (row : List (List Move)). weigh f (head_of row)) rows
column f s zero ns [] e = refl
column f s zero ns (row ∷ rows) e = absurd (cc)
column f s (suc n) ns [] e = absurd (cc)
column f s (suc n) ns (row ∷ rows) e =
    let h = column f (suc s) n ns rows (others_of _ _ _ _ e) in
    let k = ap (weigh f) (same_moves (moves_by s ns) (head_of row) (first_of _ _ _ _ e)) in
    omega arith

-- the rows of cells are those of these moves
abbrev RowsAre : List (List (List Move)) → List (List (List ℕ)) → Type 0
RowsAre [] [] = Unit {0}
RowsAre [] (c ∷ cs) = ⊥
RowsAre (m ∷ ms) [] = ⊥
RowsAre (m ∷ ms) (c ∷ cs) = (c ≡ map move_numbers m) × RowsAre ms cs

spent : (f : Move → ℕ) (ms : List (List (List Move))) (cs : List (List (List ℕ))) → RowsAre ms cs → AllSpent cs → rows_weigh f ms ≡ 0
spent f [] [] are none = refl
spent f [] (c ∷ cs) are none = absurd are
spent f (m ∷ ms) [] are none = absurd are
spent f ([] ∷ ms) (c ∷ cs) (is, are) (e, none) = let h = spent f ms cs are none in omega arith
spent f ((x ∷ xs) ∷ ms) (c ∷ cs) (is, are) (e, none) = absurd (let h : move_numbers x ∷ map move_numbers xs ≡ [] = sym is ∙ e in cc)

abbrev IsSome : List (List ℕ) → Type 0
IsSome row = (c : List ℕ) × (cs : List (List ℕ)) × (row ≡ c ∷ cs)

firsts : (ms : List (List (List Move))) (cs : List (List (List ℕ))) → RowsAre ms cs → AllByRecursion IsSome cs → map first_cell cs ≡ map (λ (row : List (List Move)). move_numbers (head_of row)) ms
firsts [] [] are some = refl
firsts [] (c ∷ cs) are some = absurd are
firsts (m ∷ ms) [] are some = absurd are
firsts ([] ∷ ms) (c ∷ cs) (is, are) (one, some) = absurd (let h : one.0 ∷ one.1 ≡ [] = sym one.2 ∙ is in cc)
firsts ((x ∷ xs) ∷ ms) (c ∷ cs) (is, are) (one, some) = let here = ap first_cell is in let rest = firsts ms cs are some in λ i. here i ∷ rest i

others : (ms : List (List (List Move))) (cs : List (List (List ℕ))) → RowsAre ms cs → RowsAre (map tail_of ms) (map other_cells cs)
others [] [] are = tt
others [] (c ∷ cs) are = absurd are
others (m ∷ ms) [] are = absurd are
others ([] ∷ ms) (c ∷ cs) (is, are) = (ap other_cells is, others ms cs are)
others ((x ∷ xs) ∷ ms) (c ∷ cs) (is, are) = (ap other_cells is, others ms cs are)

-- what all workers did is what was noted in all ledgers
rows_are : (f : Move → ℕ) (ks : List Kept) (ms : List (List (List Move))) (cs : List (List (List ℕ))) → AllBalance ks → Columns ks cs → RowsAre ms cs → rows_weigh f ms ≡ notes_weigh f ks
rows_are f [] ms cs bs cols are = spent f ms cs are cols
rows_are f (k ∷ ks) ms cs (b, bs) (c, some, cols) are =
    let a = all_seats f k.ledger.seats (moves_in k.ledger) b.seats in
    let e = column f 0 k.ledger.seats (moves_in k.ledger) ms (c ∙ firsts ms cs are some) in
    let s = split f ms in
    let r = rows_are f ks (map tail_of ms) (map other_cells cs) bs cols (others ms cs are) in
    omega arith

laws : (h : Item → ℕ) (ks : List Kept) → AllBalance ks → held_weigh h ks + notes_weigh (owes h) ks ≡ notes_weigh (brings h) ks + made_weigh h ks
laws h [] bs = refl
laws h (k ∷ ks) (b, bs) = let x = b.same h in let y = laws h ks bs in omega arith

-- the moves of all workers
moves_of : (ws : List Left) → AllEven ws → List (List (List Move))
moves_of [] even = []
moves_of (w ∷ ws) (e, even) = e.moves ∷ moves_of ws even

moves_are : (ws : List Left) (even : AllEven ws) → RowsAre (moves_of ws even) (map (λ (w : Left). w.cells) ws)
unfolding moves_of
moves_are [] even = tt
moves_are (w ∷ ws) (e, even) = (e.are, moves_are ws even)

workers : (h : Item → ℕ) (ws : List Left) (even : AllEven ws) → hands_weigh h ws + rows_weigh (brings h) (moves_of ws even) ≡ rows_weigh (owes h) (moves_of ws even) + own_weigh h ws
unfolding moves_of
workers h [] even = refl
workers h (w ∷ ws) (e, even) = let x = e.same h in let y = workers h ws even in omega arith

pub all_is_closed : AllIsClosed
all_is_closed ks ws bs even cols h =
    let x = laws h ks bs in
    let y = rows_are (brings h) ks (moves_of ws even) (map (λ (w : Left). w.cells) ws) bs cols (moves_are ws even) in
    let z = rows_are (owes h) ks (moves_of ws even) (map (λ (w : Left). w.cells) ws) bs cols (moves_are ws even) in
    let e = workers h ws even in
    omega arith
