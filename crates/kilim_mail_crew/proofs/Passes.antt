-- A worker's passes of several turns: one of them shows another cell.
use Rattle.std.proofs.Common.{◌≡◌, ◌≢◌, ℕ, zero, suc, ◌+◌, ◌<◌, ◌≤◌, Bool, true, false, ◌==◌, List, [], ◌∷◌, ◌++◌, length, map, refl, sym, ap, subst, ◌∙◌, arith}
use Rattle.std.specs.Prelude.{slice_index_or, slice_set}
use Rattle.std.proofs.lemmas.Bool.Decides.{nat_tests}
use Rattle.kilim_run_turn.specs.declared.pass.Pass.{Pass}
use Rattle.kilim_run_turn.specs.Turns.{seat_of, shows, IsOutside}
use Rattle.kilim_mail_stamps.specs.Merging.{weigh}
use Rattle.kilim_mail_stamps.proofs.Weights.{weigh_append}
use Rattle.kilim_mail_ledger.specs.declared.items.Item.{Item}
use Rattle.kilim_mail_notes.specs.Notes.{Move, move_numbers, brings, owes, Accounts}
use Rattle.kilim_mail_notes.specs.Sums.{all_weigh, Even}
use Rattle.kilim_mail_crew.specs.Crew.{Table, AreOf}
use Rattle.kilim_mail_crew.specs.Passes.{PassesStay, EvenGoesOn, EvenAlone}
use Rattle.kilim_mail_crew.proofs.Deals.{set_there, set_other, set_size, any_default}

are_set : (seat : ℕ) (turns : List (Table)) (passes : List Pass) (k : ℕ) (t : Table) (p d : Pass) → k < length passes → ((e : Table) → slice_index_or turns k e ≡ t) → AreOf seat turns passes → IsOutside t.table t.seats p → seat_of p ≡ seat_of (slice_index_or passes k d) →
    AreOf seat turns (slice_set passes k p)
are_set seat turns passes k t p d lt turn are is same = record {
  size = set_size passes k p ∙ are.size;
  each = λ j a b less. by j a b less (j == k) refl;
  seats = λ j b less. seats j b less (j == k) refl;
}
  where
    at : (b : Pass) → slice_index_or (slice_set passes k p) k b ≡ p
    at b = set_there passes k p b lt

    by : (j : ℕ) (a : Table) (b : Pass) → j < length (slice_set passes k p) → (x : Bool) → (j == k) ≡ x → IsOutside (slice_index_or turns j a).table (slice_index_or turns j a).seats (slice_index_or (slice_set passes k p) j b)
    by j a b less true e =
        let f : k ≡ j = grind (arith, nat_tests) in
        subst (λ (i : ℕ). IsOutside (slice_index_or turns i a).table (slice_index_or turns i a).seats (slice_index_or (slice_set passes k p) i b)) f
        (subst (λ (x : Pass). IsOutside (slice_index_or turns k a).table (slice_index_or turns k a).seats x) (sym (at b)) (subst (λ (x : Table). IsOutside x.table x.seats p) (sym (turn a)) is))
    by j a b less false e =
        let ne : j ≢ k = λ f. absurd (let g : (j == k) ≡ true = grind (arith, nat_tests) in let h : true ≡ false = sym g ∙ e in cc) in
        let l = set_size passes k p in
        subst (λ (x : Pass). IsOutside (slice_index_or turns j a).table (slice_index_or turns j a).seats x) (sym (set_other passes k j p b ne)) (are.each j a b (omega arith))

    seats : (j : ℕ) (b : Pass) → j < length (slice_set passes k p) → (x : Bool) → (j == k) ≡ x → seat_of (slice_index_or (slice_set passes k p) j b) ≡ seat
    seats j b less true e =
        let f : k ≡ j = grind (arith, nat_tests) in
        subst (λ (i : ℕ). seat_of (slice_index_or (slice_set passes k p) i b) ≡ seat) f (ap seat_of (at b) ∙ (same ∙ are.seats k d lt))
    seats j b less false e =
        let ne : j ≢ k = λ f. absurd (let g : (j == k) ≡ true = grind (arith, nat_tests) in let h : true ≡ false = sym g ∙ e in cc) in
        let l = set_size passes k p in
        ap seat_of (set_other passes k j p b ne) ∙ are.seats j b (omega arith)

map_set : (passes : List Pass) (k : ℕ) (p : Pass) → map shows (slice_set passes k p) ≡ slice_set (map shows passes) k (shows p)
map_set [] k p = refl
map_set (x ∷ passes) zero p = refl
map_set (x ∷ passes) (suc k) p = ap (λ cs. shows x ∷ cs) (map_set passes k p)

first_of : (x y : List ℕ) (xs ys : List (List ℕ)) → x ∷ xs ≡ y ∷ ys → x ≡ y
first_of x y xs ys e = cc

rest_of : (x y : List ℕ) (xs ys : List (List ℕ)) → x ∷ xs ≡ y ∷ ys → xs ≡ ys
rest_of x y xs ys e = cc

-- one cell changes
record Changed (k : ℕ) (cells : List (List ℕ)) (new : List ℕ) (moves : List (List Move)) (before after : List Item) : Type 0 where
  now : List (List Move)
  are : slice_set cells k new ≡ map move_numbers now
  same : (h : Item → ℕ) → weigh h after + all_weigh (brings h) now + all_weigh (owes h) moves ≡ weigh h before + all_weigh (owes h) now + all_weigh (brings h) moves

changed : (k : ℕ) (cells : List (List ℕ)) (new d : List ℕ) (moves : List (List Move)) (before after : List Item) → k < length cells → cells ≡ map move_numbers moves → Accounts (slice_index_or cells k d) new before after → Changed k cells new moves before after
changed k [] new d moves before after lt e acc = absurd (omega arith)
changed k (c ∷ cells) new d [] before after lt e acc = absurd (let l = ap length e in omega arith)
changed zero (c ∷ cells) new d (ms ∷ moves) before after lt e acc =
    let x = acc.each ms (first_of c (move_numbers ms) cells (map move_numbers moves) e) in
    record {
      now = (ms ++ x.0) ∷ moves;
      are = ap (λ c'. c' ∷ cells) x.1 ∙ ap (λ cs. move_numbers (ms ++ x.0) ∷ cs) (rest_of c (move_numbers ms) cells (map move_numbers moves) e);
      same = λ h. let p = x.2 h in let q = weigh_append (brings h) ms x.0 in let r = weigh_append (owes h) ms x.0 in omega arith;
    }
changed (suc k) (c ∷ cells) new d (ms ∷ moves) before after lt e acc =
    let r = changed k cells new d moves before after (omega arith) (rest_of c (move_numbers ms) cells (map move_numbers moves) e) acc in
    record {
      now = ms ∷ r.now;
      are = ap (λ c'. c' ∷ slice_set cells k new) (first_of c (move_numbers ms) cells (map move_numbers moves) e) ∙ ap (λ cs. move_numbers ms ∷ cs) r.are;
      same = λ h. let p = r.same h in omega arith;
    }

shown_at : (passes : List Pass) (k : ℕ) (d : Pass) → k < length passes → slice_index_or (map shows passes) k [] ≡ shows (slice_index_or passes k d)
shown_at [] k d lt = absurd (omega arith)
shown_at (p ∷ passes) zero d lt = refl
shown_at (p ∷ passes) (suc k) d lt = shown_at passes k d (omega arith)

shown_size : (passes : List Pass) → length (map shows passes) ≡ length passes
shown_size [] = refl
shown_size (p ∷ passes) = ap suc (shown_size passes)

pub even_goes_on : EvenGoesOn
even_goes_on passes k p d before after own lt e acc =
    let l = shown_size passes in
    let r = changed k (map shows passes) (shows p) [] e.moves before after (omega arith) e.are (subst (λ (c : List ℕ). Accounts c (shows p) before after) (sym (shown_at passes k d lt)) acc) in
    record {
      moves = r.now;
      are = map_set passes k p ∙ r.are;
      same = λ h. let a = e.same h in let b = r.same h in omega arith;
    }

pub even_alone : EvenAlone
even_alone passes hand hand' own own' e more = record { moves = e.moves; are = e.are; same = λ h. let a = e.same h in let b = more h in omega arith }

pub passes_stay : PassesStay
passes_stay seat turns passes k p d turn lt is are out same =
    let l = are.size in
    are_set seat turns passes k turn p d lt (λ e. any_default turns k e turn (omega arith) ∙ sym is) are out same
