-- The cells of a ledger, and what a note changes.
use Rattle.std.proofs.Common.{◌≡◌, ◌≢◌, ℕ, zero, suc, ◌+◌, ◌<◌, ◌≤◌, Bool, true, false, ◌==◌, nat_lt, cond, List, [], ◌∷◌, ◌++◌, append-nil, length, refl, sym, ap, subst, ◌∙◌, arith}
use Rattle.std.specs.Prelude.{filter, map}
use Rattle.std.specs.List.{AllByRecursion}
use Rattle.std.proofs.lemmas.Bool.Decides.{nat_tests}
use base.Stored.{Gv, gnil, gnum, gcons}
use Rattle.kilim_run_turn.specs.Views.{cell_at}
use Rattle.kilim_run_turn.specs.Turns.{KeepsOthers}
use Rattle.kilim_mail_stamps.specs.Merging.{weigh}
use Rattle.kilim_mail_stamps.proofs.Weights.{weigh_append}
use Rattle.kilim_mail_ledger.specs.declared.items.Item.{Item}
use Rattle.kilim_mail_notes.specs.declared.notes.Ledger.{Ledger}
use Rattle.kilim_mail_notes.specs.Notes.{Move, Named, Moved, moves_coded, read_out, move_numbers, is_by, moves_by, named_from, moves_in, cells_from, ledger_cells, IsNamed, AllNamed, brings, owes, Balances, Accounts}

abbrev first : List ℕ → ℕ
first [] = 0
first (x ∷ xs) = x

abbrev rest : List ℕ → List ℕ
rest [] = []
rest (x ∷ xs) = xs

-- what was read out before the same numbers is the same
reads : (a b : Gv) (xs ys : List ℕ) → read_out a xs ≡ read_out b ys → (a ≡ b) × (xs ≡ ys)
reads gnil gnil xs ys e = (refl, ap rest e)
reads (gnum n) (gnum m) xs ys e = (ap gnum (ap (λ l. first (rest l)) e), ap (λ l. rest (rest l)) e)
reads (gcons a b) (gcons c d) xs ys e =
    let p = reads a c (read_out b xs) (read_out d ys) (ap rest e) in
    let q = reads b d xs ys p.1 in
    ((λ i. gcons (p.0 i) (q.0 i)), q.1)
reads gnil (gnum m) xs ys e = absurd (let f : 0 ≡ 1 = ap first e in omega arith)
reads gnil (gcons c d) xs ys e = absurd (let f : 0 ≡ 2 = ap first e in omega arith)
reads (gnum n) gnil xs ys e = absurd (let f : 1 ≡ 0 = ap first e in omega arith)
reads (gnum n) (gcons c d) xs ys e = absurd (let f : 1 ≡ 2 = ap first e in omega arith)
reads (gcons a b) gnil xs ys e = absurd (let f : 2 ≡ 0 = ap first e in omega arith)
reads (gcons a b) (gnum m) xs ys e = absurd (let f : 2 ≡ 1 = ap first e in omega arith)

-- moves with the same numbers are the same
pub same_moves : (ms ns : List Move) → move_numbers ms ≡ move_numbers ns → ms ≡ ns
same_moves ms ns e = moves_coded.inj ms ns (reads (moves_coded.code ms) (moves_coded.code ns) [] [] e).0

pub length_cells : (s n : ℕ) (ms : List Moved) → length (cells_from s n ms) ≡ n
length_cells s zero ms = refl
length_cells s (suc n) ms = ap suc (length_cells (suc s) n ms)

pub cell_is : (s n k : ℕ) (ms : List Moved) → k < n → cell_at (cells_from s n ms) k ≡ move_numbers (moves_by (s + k) ms)
cell_is s zero k ms lt = absurd (omega arith)
cell_is s (suc n) zero ms lt = let e : s ≡ s + 0 = omega arith in ap (λ i. move_numbers (moves_by i ms)) e
cell_is s (suc n) (suc k) ms lt = let e : suc s + k ≡ s + suc k = omega arith in cell_is (suc s) n k ms (omega arith) ∙ ap (λ i. move_numbers (moves_by i ms)) e

cell_past : (s n k : ℕ) (ms : List Moved) → n ≤ k → cell_at (cells_from s n ms) k ≡ []
cell_past s zero k ms le = refl
cell_past s (suc n) zero ms le = absurd (omega arith)
cell_past s (suc n) (suc k) ms le = cell_past (suc s) n k ms (omega arith)

pub cell_own : (n k : ℕ) (ms : List Moved) → k < n → cell_at (cells_from 0 n ms) k ≡ move_numbers (moves_by k ms)
cell_own n k ms lt = let e : 0 + k ≡ k = omega arith in cell_is 0 n k ms lt ∙ ap (λ i. move_numbers (moves_by i ms)) e

-- ---- one note more

pushed_at : (k : ℕ) (b : Bool) (x : Moved) (xs : List Moved) → map (λ (m : Moved). m.move) (cond b (x ∷ xs) xs) ≡ cond b (x.move ∷ map (λ (m : Moved). m.move) xs) (map (λ (m : Moved). m.move) xs)
pushed_at k true x xs = refl
pushed_at k false x xs = refl

more_at : (b : Bool) (x : Moved) (ls : List Moved) (rs : List Move) → map (λ (m : Moved). m.move) (cond b (x ∷ ls) ls) ++ rs ≡ cond b (x.move ∷ (map (λ (m : Moved). m.move) ls ++ rs)) (map (λ (m : Moved). m.move) ls ++ rs)
more_at true x ls rs = refl
more_at false x ls rs = refl

moves_append : (k : ℕ) (ms ns : List Moved) → moves_by k (ms ++ ns) ≡ moves_by k ms ++ moves_by k ns
moves_append k [] ns = refl
moves_append k (x ∷ ms) ns =
    pushed_at k (is_by k x) x (filter (is_by k) (ms ++ ns))
    ∙ (ap (λ (r : List Move). cond (is_by k x) (x.move ∷ r) r) (moves_append k ms ns) ∙ sym (more_at (is_by k x) x (filter (is_by k) ms) (moves_by k ns)))

note_own : (seat : ℕ) (m : Move) → moves_by seat (record { seat = seat; move = m } ∷ []) ≡ m ∷ []
note_own seat m = let e : (seat == seat) ≡ true = grind (arith, nat_tests) in ap (λ (b : Bool). map (λ (x : Moved). x.move) (cond b (record { seat = seat; move = m } ∷ []) [])) e

note_other : (k seat : ℕ) (m : Move) → k ≢ seat → moves_by k (record { seat = seat; move = m } ∷ []) ≡ []
note_other k seat m ne = by (seat == k) refl
  where
    by : (b : Bool) → (seat == k) ≡ b → map (λ (x : Moved). x.move) (cond (seat == k) (record { seat = seat; move = m } ∷ []) []) ≡ []
    by true e = absurd (ne (let h : k ≡ seat = grind (arith, nat_tests) in h))
    by false e = ap (λ (b : Bool). map (λ (x : Moved). x.move) (cond b (record { seat = seat; move = m } ∷ []) [])) e

module _ (n seat : ℕ) (ms ns : List Moved) (m : Move) (is : ns ≡ ms ++ record { seat = seat; move = m } ∷ []) where
  other_cell : (k : ℕ) → k ≢ seat → (b : Bool) → nat_lt k n ≡ b → cell_at (cells_from 0 n ns) k ≡ cell_at (cells_from 0 n ms) k
  other_cell k ne true lt =
      let l : k < n = grind (arith, nat_tests) in
      cell_own n k ns l
      ∙ (ap move_numbers (ap (moves_by k) is ∙ (moves_append k ms (record { seat = seat; move = m } ∷ []) ∙ (ap (λ (r : List Move). moves_by k ms ++ r) (note_other k seat m ne) ∙ append-nil (moves_by k ms)))) ∙ sym (cell_own n k ms l))
  other_cell k ne false lt = let l : n ≤ k = grind (arith, nat_tests) in cell_past 0 n k ns l ∙ sym (cell_past 0 n k ms l)

  pub keeps : KeepsOthers seat (cells_from 0 n ms) (cells_from 0 n ns)
  keeps = record {
    seats = length_cells 0 n ns ∙ sym (length_cells 0 n ms);
    others = λ k ne. other_cell k ne (nat_lt k n) refl;
  }

  pub accounts : seat < n → (before after : List Item) → ((h : Item → ℕ) → weigh h after + brings h m ≡ weigh h before + owes h m) → Accounts (cell_at (cells_from 0 n ms) seat) (cell_at (cells_from 0 n ns) seat) before after
  accounts lt before after same = record {
    each = λ own e. (
      m ∷ [],
      cell_own n seat ns lt
          ∙ ap move_numbers (ap (moves_by seat) is ∙ (moves_append seat ms (record { seat = seat; move = m } ∷ []) ∙ (ap (λ (r : List Move). moves_by seat ms ++ r) (note_own seat m) ∙ ap (λ (r : List Move). r ++ m ∷ []) (same_moves (moves_by seat ms) own (sym (cell_own n seat ms lt) ∙ e))))),
      λ h. let s = same h in omega arith,
    );
  }

all_pushed : {A : Type 0} (P : A → Type 0) (xs : List A) (y : A) → AllByRecursion P xs → P y → AllByRecursion P (xs ++ y ∷ [])
all_pushed P [] y a p = (p, tt)
all_pushed P (x ∷ xs) y (h, a) p = (h, all_pushed P xs y a p)

-- ---- one note more, in a ledger

module _ (l l' : Ledger) (seat : ℕ) (m : Move) (size : l'.seats ≡ l.seats) (is : moves_in l' ≡ moves_in l ++ record { seat = seat; move = m } ∷ []) where
  pub keeps_in : KeepsOthers seat (ledger_cells l) (ledger_cells l')
  keeps_in = subst (λ (n : ℕ). KeepsOthers seat (ledger_cells l) (cells_from 0 n (moves_in l'))) (sym size) (keeps l.seats seat (moves_in l) (moves_in l') m is)

  pub accounts_in : seat < l.seats → (before after : List Item) → ((h : Item → ℕ) → weigh h after + brings h m ≡ weigh h before + owes h m) → Accounts (cell_at (ledger_cells l) seat) (cell_at (ledger_cells l') seat) before after
  accounts_in lt before after same =
      subst (λ (n : ℕ). Accounts (cell_at (ledger_cells l) seat) (cell_at (cells_from 0 n (moves_in l')) seat) before after) (sym size) (accounts l.seats seat (moves_in l) (moves_in l') m is lt before after same)

  pub balances_in : seat < l.seats → (held made held' made' : List Item) → Balances l held made → ((h : Item → ℕ) → weigh h held' + owes h m + weigh h made ≡ weigh h held + brings h m + weigh h made') → Balances l' held' made'
  balances_in lt held made held' made' b same = record {
    same = λ h.
        let a = b.same h in
        let e = same h in
        let x = ap (weigh (λ (n : Moved). owes h n.move)) is ∙ weigh_append (λ (n : Moved). owes h n.move) (moves_in l) (record { seat = seat; move = m } ∷ []) in
        let y = ap (weigh (λ (n : Moved). brings h n.move)) is ∙ weigh_append (λ (n : Moved). brings h n.move) (moves_in l) (record { seat = seat; move = m } ∷ []) in
        omega arith;
    seats = subst (λ (k : ℕ). AllByRecursion (λ (n : Moved). n.seat < k) (moves_in l')) (sym size)
        (subst (λ (ns : List Moved). AllByRecursion (λ (n : Moved). n.seat < l.seats) ns) (sym is) (all_pushed (λ (n : Moved). n.seat < l.seats) (moves_in l) (record { seat = seat; move = m }) b.seats lt));
  }

pub new_cells : (l : Ledger) (n : ℕ) → l.seats ≡ n → length (ledger_cells l) ≡ n
new_cells l n e = length_cells 0 l.seats (moves_in l) ∙ e

-- ---- of several turns, which one it is

one_at : (k : ℕ) (x : Moved) (xs : List Moved) → moves_by k (x ∷ xs) ≡ cond (is_by k x) (x.move ∷ moves_by k xs) (moves_by k xs)
one_at k x xs = pushed_at k (is_by k x) x (filter (is_by k) xs)

named_before : (k s n number turns : ℕ) → k < s → moves_by k (named_from s n number turns) ≡ []
named_before k s zero number turns lt = refl
named_before k s (suc n) number turns lt =
    let e : (s == k) ≡ false = grind (arith, nat_tests) in
    one_at k (record { seat = s; move = Named number turns }) (named_from (suc s) n number turns)
    ∙ (ap (λ (b : Bool). cond b (Named number turns ∷ moves_by k (named_from (suc s) n number turns)) (moves_by k (named_from (suc s) n number turns))) e
    ∙ named_before k (suc s) n number turns (omega arith))

named_here : (k s n number turns : ℕ) → s ≤ k → k < s + n → moves_by k (named_from s n number turns) ≡ Named number turns ∷ []
named_here k s zero number turns le lt = absurd (omega arith)
named_here k s (suc n) number turns le lt = one_at k (record { seat = s; move = Named number turns }) (named_from (suc s) n number turns) ∙ by (s == k) refl (λ more. named_here k (suc s) n number turns more (omega arith))
  where
    others : List Move
    others = moves_by k (named_from (suc s) n number turns)

    by : (b : Bool) → (s == k) ≡ b → (suc s ≤ k → others ≡ Named number turns ∷ []) → cond (s == k) (Named number turns ∷ others) others ≡ Named number turns ∷ []
    by true e later =
        let less : k < suc s = grind (arith, nat_tests) in
        ap (λ (b : Bool). cond b (Named number turns ∷ others) others) e ∙ ap (λ (ms : List Move). Named number turns ∷ ms) (named_before k (suc s) n number turns less)
    by false e later = let more : suc s ≤ k = grind (arith, nat_tests) in ap (λ (b : Bool). cond b (Named number turns ∷ others) others) e ∙ later more

named_below : (s n m number turns : ℕ) → s + n ≤ m → AllByRecursion (λ (x : Moved). x.seat < m) (named_from s n number turns)
named_below s zero m number turns le = tt
named_below s (suc n) m number turns le = ((let h : s < m = omega arith in h), named_below (suc s) n m number turns (omega arith))

named_weigh : (f : Move → ℕ) (s n number turns : ℕ) → f (Named number turns) ≡ 0 → weigh (λ (x : Moved). f x.move) (named_from s n number turns) ≡ 0
named_weigh f s zero number turns e = refl
named_weigh f s (suc n) number turns e = let r = named_weigh f (suc s) n number turns e in omega arith

module _ (l : Ledger) (number turns : ℕ) (is : moves_in l ≡ named_from 0 l.seats number turns) where
  pub new_named : AllNamed number turns (ledger_cells l)
  new_named s lt =
      let n = length_cells 0 l.seats (moves_in l) in
      let less : s < l.seats = omega arith in
      ([], cell_own l.seats s (moves_in l) less ∙ ap move_numbers (ap (moves_by s) is ∙ named_here s 0 l.seats number turns (omega arith) (omega arith)))

  pub new_balances : Balances l [] []
  new_balances = record {
    same = λ h.
        let a = ap (weigh (λ (m : Moved). owes h m.move)) is in
        let b = ap (weigh (λ (m : Moved). brings h m.move)) is in
        let c = named_weigh (owes h) 0 l.seats number turns refl in
        let d = named_weigh (brings h) 0 l.seats number turns refl in
        omega arith;
    seats = subst (λ (ms : List Moved). AllByRecursion (λ (x : Moved). x.seat < l.seats) ms) (sym is) (named_below 0 l.seats l.seats number turns (omega arith));
  }

abbrev first_move : Move → List Move → Move
first_move d [] = d
first_move d (m ∷ ms) = m

abbrev number_in : Move → ℕ
number_in (Named number turns) = number
number_in m = 0

abbrev turns_in : Move → ℕ
turns_in (Named number turns) = turns
turns_in m = 0

pub named_alike : (number turns number' turns' : ℕ) (cell : List ℕ) → IsNamed number turns cell → IsNamed number' turns' cell → (number ≡ number') × (turns ≡ turns')
named_alike number turns number' turns' cell (ms, e) (ns, f) =
    let s : Named number turns ∷ ms ≡ Named number' turns' ∷ ns = same_moves (Named number turns ∷ ms) (Named number' turns' ∷ ns) (sym e ∙ f) in
    (ap (λ (l : List Move). number_in (first_move (Named 0 0) l)) s, ap (λ (l : List Move). turns_in (first_move (Named 0 0) l)) s)

pub named_on : (number turns : ℕ) (old new : List ℕ) (before after : List Item) → Accounts old new before after → IsNamed number turns old → IsNamed number turns new
named_on number turns old new before after acc (ms, e) = let x = acc.each (Named number turns ∷ ms) e in (ms ++ x.0, x.1)

pub all_named_on : (number turns seat : ℕ) (old new : List (List ℕ)) (before after : List Item) → KeepsOthers seat old new → Accounts (cell_at old seat) (cell_at new seat) before after → AllNamed number turns old → AllNamed number turns new
all_named_on number turns seat old new before after keeps acc all s lt = by (s == seat) refl
  where
    there : s < length old
    there = let e = keeps.seats in omega arith

    by : (b : Bool) → (s == seat) ≡ b → IsNamed number turns (cell_at new s)
    by true e =
        let same : seat ≡ s = grind (arith, nat_tests) in
        subst (λ (k : ℕ). IsNamed number turns (cell_at new k)) same (named_on number turns (cell_at old seat) (cell_at new seat) before after acc (subst (λ (k : ℕ). IsNamed number turns (cell_at old k)) (sym same) (all s there)))
    by false e =
        let ne : s ≢ seat = λ f. absurd (let g : (s == seat) ≡ true = grind (arith, nat_tests) in let h : true ≡ false = sym g ∙ e in cc) in
        subst (λ (c : List ℕ). IsNamed number turns c) (sym (keeps.others s ne)) (all s there)

-- one after the other
pub accounts_then : (a b c : List ℕ) (x y u v before after : List Item) → Accounts a b x y → Accounts b c u v → ((h : Item → ℕ) → weigh h after + (weigh h x + weigh h u) ≡ weigh h before + (weigh h y + weigh h v)) → Accounts a c before after
accounts_then a b c x y u v before after one two same = record {
  each = λ ms e.
      let p = one.each ms e in
      let q = two.each (ms ++ p.0) p.1 in
      (p.0 ++ q.0, q.1 ∙ ap move_numbers (appended ms p.0 q.0), λ h. let i = p.2 h in let j = q.2 h in let k = same h in let l = weigh_append (brings h) p.0 q.0 in let m = weigh_append (owes h) p.0 q.0 in omega arith);
}
  where
    appended : (xs ys zs : List Move) → (xs ++ ys) ++ zs ≡ xs ++ (ys ++ zs)
    appended [] ys zs = refl
    appended (z ∷ xs) ys zs = ap (λ (l : List Move). z ∷ l) (appended xs ys zs)

pub accounts_none : (a b : List ℕ) (before : List Item) → b ≡ a → Accounts a b before before
accounts_none a b before same = record { each = λ ms e. ([], same ∙ (e ∙ ap move_numbers (sym (append-nil ms))), λ h. refl) }

pub keeps_then : (seat : ℕ) (a b c : List (List ℕ)) → KeepsOthers seat a b → KeepsOthers seat b c → KeepsOthers seat a c
keeps_then seat a b c one two = record { seats = two.seats ∙ one.seats; others = λ k ne. two.others k ne ∙ one.others k ne }
