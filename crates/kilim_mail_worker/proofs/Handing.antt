-- One of a worker's passes shows another cell.
use Rattle.std.proofs.Common.{◌≡◌, ◌≢◌, ℕ, zero, suc, ◌+◌, ◌<◌, Bool, true, false, ◌==◌, List, [], ◌∷◌, ◌++◌, length, map, refl, sym, ap, subst, ◌∙◌, arith}
use Rattle.std.specs.Prelude.{slice_index_or, slice_set}
use Rattle.std.proofs.lemmas.Bool.Decides.{nat_tests}
use Rattle.kilim_program.specs.declared.names.BoxName.{BoxName}
use Rattle.kilim_run_model.specs.State.{Setting}
use Rattle.kilim_run_turn.specs.declared.lending.Turn.{Turn}
use Rattle.kilim_run_turn.specs.declared.pass.Pass.{Pass}
use Rattle.kilim_run_turn.specs.Turns.{seat_of, shows, IsOutside, IsPassOf}
use Rattle.kilim_mail_stamps.specs.Merging.{weigh}
use Rattle.kilim_mail_stamps.proofs.Weights.{weigh_append}
use Rattle.kilim_mail_ledger.specs.declared.items.Item.{Item}
use Rattle.kilim_mail_ledger.specs.Ledger.{items_of}
use Rattle.kilim_mail_ledger.specs.Mailboxes.{turn_of}
use Rattle.kilim_mail_notes.specs.Histories.{trace_of}
use Rattle.kilim_mail_notes.specs.Notes.{IsNamed, Accounts}
use Rattle.kilim_mail_notes.specs.Sums.{Even}
use Rattle.kilim_mail_notes.proofs.Cells.{named_on, accounts_none}
use Rattle.kilim_mail_crew.specs.declared.crew.Worker.{Worker}
use Rattle.kilim_mail_crew.specs.Crew.{Table, AreOf}
use Rattle.kilim_mail_crew.proofs.Deals.{set_there, set_other}
use Rattle.kilim_mail_crew.proofs.Passes.{passes_stay, even_goes_on, even_alone}
use Rattle.kilim_mail_register.specs.Register.{register_cells}
use Rattle.kilim_mail_ready.specs.declared.body.Body.{Body}
use Rattle.kilim_mail_ready.specs.declared.ready.Lent.{Lent}
use Rattle.kilim_mail_ready.specs.declared.ready.Lent.TheVariants as lent
use Rattle.kilim_mail_ready.specs.Ready.{ready_cells, LentAs}
use Rattle.kilim_mail_group.specs.Group.{group_cells, bodies_items}
use Rattle.kilim_mail_group.specs.declared.boxes.Boxes.{Boxes}
use Rattle.kilim_mail_group.proofs.Serving.{accounts_more}
use Rattle.kilim_mail_worker.specs.declared.own.Own.{Own}
use Rattle.kilim_mail_worker.specs.declared.turns.Turns.{Turns}
use Rattle.kilim_mail_worker.specs.Own.{OwnStands, MadeAlone, own_items, traces_items, buried}
use Rattle.kilim_mail_worker.specs.Turns.{table_of, tables_of, HasPasses, KeepsPasses, Works, GivesAway, lent_items}

-- ---- lists of turns of several kinds

front_at : {A B : Type 0} (f : A → B) (xs : List A) (ys : List B) (k : ℕ) (d : A) (e : B) → k < length xs → slice_index_or (map f xs ++ ys) k e ≡ f (slice_index_or xs k d)
front_at f [] ys k d e lt = absurd (omega arith)
front_at f (x ∷ xs) ys zero d e lt = refl
front_at f (x ∷ xs) ys (suc k) d e lt = front_at f xs ys k d e (omega arith)

back_at : {A B : Type 0} (f : A → B) (xs : List A) (ys : List B) (n k : ℕ) (e : B) → k ≡ length xs + n → slice_index_or (map f xs ++ ys) k e ≡ slice_index_or ys n e
back_at f [] ys n k e is = ap (λ (i : ℕ). slice_index_or ys i e) (let h : k ≡ n = omega arith in h)
back_at f (x ∷ xs) ys n zero e is = absurd (omega arith)
back_at f (x ∷ xs) ys n (suc k) e is = back_at f xs ys n k e (omega arith)

both_size : {A B : Type 0} (f : A → B) (xs : List A) (ys : List B) → length (map f xs ++ ys) ≡ length xs + length ys
both_size f [] ys = omega arith
both_size f (x ∷ xs) ys = let r = both_size f xs ys in omega arith

pub none_left : {F : Type 0} (bs : List (Body F)) → length bs ≡ 0 → bodies_items bs ≡ []
none_left [] e = refl
none_left (b ∷ bs) e = absurd (omega arith)

module _ {F C K : Type 0} (t : Turns F C K) where
  abbrev others : List Table
  others = table_of register_cells t.register ∷ table_of ready_cells t.ready ∷ []

  pub many_passes : (seat : ℕ) (ps : List Pass) → AreOf seat (tables_of t) ps → length ps ≡ length t.groups.items + 2
  many_passes seat ps are = are.size ∙ both_size (λ g. table_of group_cells g) t.groups.items others

  pub group_at : (k : ℕ) (g : Turn (Boxes F)) → k < length t.groups.items → g ≡ slice_index_or t.groups.items k g → slice_index_or (tables_of t) k (table_of group_cells g) ≡ table_of group_cells g
  group_at k g lt is = front_at (λ g. table_of group_cells g) t.groups.items others k g (table_of group_cells g) lt ∙ ap (λ g. table_of group_cells g) (sym is)

  pub register_at : (k : ℕ) → k ≡ length t.groups.items → slice_index_or (tables_of t) k (table_of register_cells t.register) ≡ table_of register_cells t.register
  register_at k is = back_at (λ g. table_of group_cells g) t.groups.items others 0 k (table_of register_cells t.register) (omega arith)

  pub ready_at : (k : ℕ) → k ≡ length t.groups.items + 1 → slice_index_or (tables_of t) k (table_of ready_cells t.ready) ≡ table_of ready_cells t.ready
  ready_at k is = back_at (λ g. table_of group_cells g) t.groups.items others 1 k (table_of ready_cells t.ready) (omega arith)

  -- a pass of a worker, by its place
  pub outside : (seat k : ℕ) (ps : List Pass) (turn : Table) (old : Pass) → AreOf seat (tables_of t) ps → k < length ps → slice_index_or (tables_of t) k turn ≡ turn → old ≡ slice_index_or ps k old → IsOutside turn.table turn.seats old
  outside seat k ps turn old are lt is there =
      subst (λ (x : Table). IsOutside x.table x.seats old) is (subst (λ (p : Pass). IsOutside (slice_index_or (tables_of t) k turn).table (slice_index_or (tables_of t) k turn).seats p) (sym there) (are.each k turn old lt))

  pub has_still : (w w' : Worker Own) → HasPasses t w → KeepsPasses t w w' → HasPasses t w'
  has_still w w' has keeps = record { some = has.some; few = has.few; seat = has.seat; passes = keeps.keep has.seat has.passes }

  pub keeps_same : (w : Worker Own) → KeepsPasses t w w
  keeps_same w = record { keep = λ seat are. are }

  pub keeps_then : (w w' w'' : Worker Own) → KeepsPasses t w w' → KeepsPasses t w' w'' → KeepsPasses t w w''
  keeps_then w w' w'' a b = record { keep = λ seat are. b.keep seat (a.keep seat are) }

  module _ (w : Worker Own) (has : HasPasses t w) (k : ℕ) where
    pub group_below : k < length t.groups.items → k < length w.passes.items
    group_below lt = let m = many_passes has.seat w.passes.items has.passes in omega arith

    pub register_below : k ≡ length t.groups.items → k < length w.passes.items
    register_below is = let m = many_passes has.seat w.passes.items has.passes in omega arith

    pub ready_below : k ≡ length t.groups.items + 1 → k < length w.passes.items
    ready_below is = let m = many_passes has.seat w.passes.items has.passes in omega arith

    pub group_pass : (lt : k < length t.groups.items) (g : Turn (Boxes F)) (old : Pass) → g ≡ slice_index_or t.groups.items k g → old ≡ slice_index_or w.passes.items k old → IsPassOf group_cells g old
    group_pass lt g old is there = outside has.seat k w.passes.items (table_of group_cells g) old has.passes (group_below lt) (group_at k g lt is) there

    pub register_pass : k ≡ length t.groups.items → (old : Pass) → old ≡ slice_index_or w.passes.items k old → IsPassOf register_cells t.register old
    register_pass is old there = outside has.seat k w.passes.items (table_of register_cells t.register) old has.passes (register_below is) (register_at k is) there

    pub ready_pass : k ≡ length t.groups.items + 1 → (old : Pass) → old ≡ slice_index_or w.passes.items k old → IsPassOf ready_cells t.ready old
    ready_pass is old there = outside has.seat k w.passes.items (table_of ready_cells t.ready) old has.passes (ready_below is) (ready_at k is) there

  -- only weights matter
  pub works_as : (Of : Setting → Type 0) (w : Worker Own) (hand hand' : List Item) → ((h : Item → ℕ) → weigh h hand' ≡ weigh h hand) → Works Of t w hand → Works Of t w hand'
  works_as Of w hand hand' same works = record {
    named = works.named;
    even = even_alone w.passes.items (hand ++ traces_items (buried w.own)) (hand' ++ traces_items (buried w.own)) (own_items w.own) (own_items w.own) works.even
        (λ h. let a = weigh_append h hand (traces_items (buried w.own)) in let b = weigh_append h hand' (traces_items (buried w.own)) in let c = same h in omega arith);
    own = works.own;
  }

  -- the pass of a mailbox's turn tells that it is this turn's
  pub mine_at : (Of : Setting → Type 0) (w : Worker Own) (hand : List Item) (k : ℕ) (name : BoxName) (old : Pass) → Works Of t w hand → k < length t.groups.items → k ≡ turn_of (length t.groups.items) name → old ≡ slice_index_or w.passes.items k old →
      (turns : ℕ) × IsNamed (turn_of turns name) turns (shows old)
  mine_at Of w hand k name old works lt is there = (
    length t.groups.items,
    subst (λ (j : ℕ). IsNamed j (length t.groups.items) (shows old)) is (subst (λ (q : Pass). IsNamed k (length t.groups.items) (shows q)) (sym there) (works.named k old lt)),
  )

  -- what it gives away is behind what it keeps
  pub gives_last : (Of : Setting → Type 0) (w w' : Worker Own) (a b : List Item) → GivesAway Of t w w' b → Works Of t w (a ++ b) → Works Of t w' a
  gives_last Of w w' a b gives works = gives.give (a ++ b) a (λ h. let x = weigh_append h a b in omega arith) works

  pub gives_all : (Of : Setting → Type 0) (w w' : Worker Own) (a : List Item) → GivesAway Of t w w' a → Works Of t w a → Works Of t w' []
  gives_all Of w w' a gives works = gives.give a [] (λ h. omega arith) works

  pub works_none : (Of : Setting → Type 0) (w : Worker Own) (a : List Item) → Works Of t w (a ++ []) → Works Of t w a
  works_none Of w a works = works_as Of w (a ++ []) a (λ h. let x = weigh_append h a [] in omega arith) works

  -- ---- several tasks, one after the other

  -- so many were given away, and these are left
  pub record Giving (Of : Setting → Type 0) (w w' : Worker Own) (given left : List Item) : Type 0 where
    pub keeps : KeepsPasses t w w'
    pub works : (hand rest : List Item) → ((h : Item → ℕ) → weigh h hand ≡ weigh h given + weigh h rest) → Works Of t w hand → Works Of t w' (left ++ rest)

  pub giving_first : (Of : Setting → Type 0) (w : Worker Own) (given left : List Item) → given ≡ left → Giving Of w w given left
  giving_first Of w given left same = record {
    keeps = record { keep = λ seat are. are };
    works = λ hand rest splits works. works_as Of w hand (left ++ rest) (λ h. let a = splits h in let b = weigh_append h left rest in let c = ap (λ (is : List Item). weigh h is) same in omega arith) works;
  }

  pub giving_on : (Of : Setting → Type 0) (w w' w'' : Worker Own) (given left one left' : List Item) → Giving Of w w' given left → left ≡ one ++ left' → KeepsPasses t w' w'' → GivesAway Of t w' w'' one → Giving Of w w'' given left'
  giving_on Of w w' w'' given left one left' g is keeps gives = record {
    keeps = keeps_then w w' w'' g.keeps keeps;
    works = λ hand rest splits works. gives.give (left ++ rest) (left' ++ rest)
        (λ h.
        let a = ap (λ (is : List Item). weigh h is) is in
        let b = weigh_append h left rest in
        let c = weigh_append h left' rest in
        let d = weigh_append h one left' in
        omega arith) (g.works hand rest splits works);
  }

  pub giving_last : (Of : Setting → Type 0) (w w' : Worker Own) (given left : List Item) → left ≡ [] → Giving Of w w' given left → GivesAway Of t w w' given
  giving_last Of w w' given left none g = record { give = λ hand rest splits works. subst (λ (is : List Item). Works Of t w' (is ++ rest)) none (g.works hand rest splits works) }

  -- ---- pass k shows another cell

  module _ (w w' : Worker Own) (k : ℕ) (old p : Pass) (lt : k < length w.passes.items) (there : old ≡ slice_index_or w.passes.items k old) (now : w'.passes.items ≡ slice_set w.passes.items k p) where
    pub keeps_at : (turn : Table) → slice_index_or (tables_of t) k turn ≡ turn → IsOutside turn.table turn.seats p → seat_of p ≡ seat_of old → KeepsPasses t w w'
    keeps_at turn is out same = record {
      keep = λ seat are. subst (λ (ps : List Pass). AreOf seat (tables_of t) ps) (sym now) (passes_stay seat (tables_of t) w.passes.items k p old turn lt (sym is) are out (same ∙ ap seat_of there));
    }

    module _ (Of : Setting → Type 0) (own : w'.own ≡ w.own) (hand hand' x y : List Item) (acc : Accounts (shows old) (shows p) x y) (same : (h : Item → ℕ) → weigh h hand' + weigh h x ≡ weigh h hand + weigh h y) (works : Works Of t w hand) where
      abbrev n : ℕ
      n = length t.groups.items

      named : (i : ℕ) (d : Pass) → i < n → (b : Bool) → (i == k) ≡ b → IsNamed i n (shows (slice_index_or (slice_set w.passes.items k p) i d))
      named i d less true e =
          let f : k ≡ i = grind (arith, nat_tests) in
          let at : slice_index_or (slice_set w.passes.items k p) k d ≡ p = set_there w.passes.items k p d lt in
          let was : IsNamed k n (shows old) = subst (λ (q : Pass). IsNamed k n (shows q)) (sym there) (works.named k old (omega arith)) in
          subst (λ (j : ℕ). IsNamed j n (shows (slice_index_or (slice_set w.passes.items k p) j d))) f (subst (λ (q : Pass). IsNamed k n (shows q)) (sym at) (named_on k n (shows old) (shows p) x y acc was))
      named i d less false e =
          let ne : i ≢ k = λ f. absurd (let g : (i == k) ≡ true = grind (arith, nat_tests) in let h : true ≡ false = sym g ∙ e in cc) in
          subst (λ (q : Pass). IsNamed i n (shows q)) (sym (set_other w.passes.items k i p d ne)) (works.named i d less)

      abbrev before : List Item
      before = hand ++ traces_items (buried w.own)

      abbrev after : List Item
      after = hand' ++ traces_items (buried w.own)

      accounts : Accounts (shows (slice_index_or w.passes.items k old)) (shows p) before after
      accounts = subst (λ (q : Pass). Accounts (shows q) (shows p) before after) there
          (accounts_more (shows old) (shows p) x y before after acc
          (λ h. let a = weigh_append h hand (traces_items (buried w.own)) in let b = weigh_append h hand' (traces_items (buried w.own)) in let c = same h in omega arith))

      pub works_at : Works Of t w' hand'
      works_at = record {
        named = λ i d less. subst (λ (ps : List Pass). IsNamed i n (shows (slice_index_or ps i d))) (sym now) (named i d less (i == k) refl);
        even = subst (λ (ps : List Pass). Even (map shows ps) (hand' ++ traces_items (buried w'.own)) (own_items w'.own)) (sym now)
            (subst (λ (o : Own). Even (map shows (slice_set w.passes.items k p)) (hand' ++ traces_items (buried o)) (own_items o)) (sym own)
            (even_goes_on w.passes.items k p old before after (own_items w.own) lt works.even accounts));
        own = subst (λ (o : Own). OwnStands Of o) (sym own) works.own;
      }

    -- all that it has in hand takes part
    pub acts_at : (Of : Setting → Type 0) → w'.own ≡ w.own → (hand hand' : List Item) → Accounts (shows old) (shows p) hand hand' → Works Of t w hand → Works Of t w' hand'
    acts_at Of own hand hand' acc works = works_at Of own hand hand' hand hand' acc (λ h. omega arith) works

    -- it is the same cell
    pub works_same : (Of : Setting → Type 0) → w'.own ≡ w.own → (hand : List Item) → shows p ≡ shows old → Works Of t w hand → Works Of t w' hand
    works_same Of own hand same works = works_at Of own hand hand [] [] (accounts_none (shows old) (shows p) [] same) (λ h. refl) works

    -- it has what was lent
    pub lends_at : (Of : Setting → Type 0) → w'.own ≡ w.own → (l : Lent F) → LentAs (shows old) (shows p) l → Works Of t w [] → Works Of t w' (lent_items l)
    lends_at Of own (lent.Task b) cell works = works_at Of own [] (items_of (trace_of b.history)) [] (items_of (trace_of b.history)) cell (λ h. omega arith) works
    lends_at Of own lent.Idle cell works = works_same Of own [] cell works
    lends_at Of own lent.Quiet cell works = works_same Of own [] cell works
    lends_at Of own lent.Stopped cell works = works_same Of own [] cell works

    -- it gives something away
    pub gives_at : (Of : Setting → Type 0) → w'.own ≡ w.own → (given : List Item) → Accounts (shows old) (shows p) given [] → GivesAway Of t w w' given
    gives_at Of own given acc = record { give = λ hand rest splits works. works_at Of own hand rest given [] acc (λ h. let s = splits h in omega arith) works }

  -- ---- without a turn

  module _ (Of : Setting → Type 0) (w w' : Worker Own) (now : w'.passes.items ≡ w.passes.items) where
    pub keeps_alone : KeepsPasses t w w'
    keeps_alone = record { keep = λ seat are. subst (λ (ps : List Pass). AreOf seat (tables_of t) ps) (sym now) are }

    pub works_alone : (before after : List Item) → MadeAlone Of w.own w'.own before after → Works Of t w before → Works Of t w' after
    works_alone before after made works = record {
      named = λ i d less. subst (λ (ps : List Pass). IsNamed i (length t.groups.items) (shows (slice_index_or ps i d))) (sym now) (works.named i d less);
      even = subst (λ (ps : List Pass). Even (map shows ps) (after ++ traces_items (buried w'.own)) (own_items w'.own)) (sym now)
          (even_alone w.passes.items (before ++ traces_items (buried w.own)) (after ++ traces_items (buried w'.own)) (own_items w.own) (own_items w'.own) works.even
          (λ h.
          let a = weigh_append h before (traces_items (buried w.own)) in
          let b = weigh_append h after (traces_items (buried w'.own)) in
          let c = made.weighs h in
          omega arith));
      own = made.stands works.own;
    }
