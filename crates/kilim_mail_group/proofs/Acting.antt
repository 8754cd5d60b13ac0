-- What acts on a mailbox, and those that are woken, leave.
use Rattle.std.proofs.Common.{◌≡◌, ℕ, suc, ◌+◌, ◌<◌, Bool, true, false, List, [], ◌∷◌, ◌++◌, append-nil, Option, Some, None, length, refl, sym, ap, subst, ◌∙◌, arith}
use Rattle.std.specs.Prelude.{if◌then◌else◌, ◌==◌}
use Rattle.std.specs.List.{AllByRecursion}
use Rattle.std.proofs.lemmas.Bool.Decides.{nat_tests}
use Rattle.kilim_program.specs.declared.names.BoxName.{BoxName}
use Rattle.kilim_run_state.specs.declared.value.Token.{Token}
use Rattle.kilim_run_journal.specs.declared.entry.Act.{Act}
use Rattle.kilim_run_journal.specs.declared.entry.Act.TheVariants as act
use Rattle.kilim_run_state.specs.declared.cause.EndCause.TheVariants as cause
use Rattle.kilim_run_model.specs.State.{Setting, Mailbox, same_box, is_full}
use Rattle.kilim_run_model.specs.Lone.{Lone}
use Rattle.kilim_run_model.specs.Course.{Course}
use Rattle.kilim_run_model.specs.declared.waits.Waits.{Waits}
use Rattle.kilim_run_board.specs.Board.{box_of}
use Rattle.kilim_run_board.specs.Places.{same_wait}
use Rattle.kilim_run_board.specs.declared.waiting.parked.Waiter.{Waiter}
use Rattle.kilim_run_board.specs.waiting.Parked.{StandsBehind}
use Rattle.kilim_run_board.proofs.waiting.Names.{same_name}
use Rattle.kilim_run_turn.specs.Views.{cell_at}
use Rattle.kilim_run_turn.specs.Turns.{KeepsOthers}
use Rattle.kilim_mail_stamps.specs.declared.stamped.Stamped.{Stamped}
use Rattle.kilim_mail_stamps.specs.Stamps.{box_in, is_that, is_on, is_registered, mail_empty, mail_after, deed_in}
use Rattle.kilim_mail_stamps.specs.Merging.{weigh}
use Rattle.kilim_mail_stamps.proofs.Weights.{weigh_append}
use Rattle.kilim_mail_ledger.specs.declared.items.Dated.{Dated}
use Rattle.kilim_mail_ledger.specs.declared.items.Item.{Item}
use Rattle.kilim_mail_ledger.specs.Ledger.{items_of}
use Rattle.kilim_mail_ledger.specs.Closing.{HasToWait}
use Rattle.kilim_mail_ledger.specs.Mailboxes.{Box, with_box, turn_of, BoxStands, AllStand}
use Rattle.kilim_mail_ledger.proofs.Mailboxes.{acts_are_noted}
use Rattle.kilim_mail_notes.specs.declared.notes.Ledger.{Ledger}
use Rattle.kilim_mail_notes.specs.Histories.{trace_of}
use Rattle.kilim_mail_notes.specs.Notes.{ledger_cells, AllNamed, Accounts, Balances}
use Rattle.kilim_mail_notes.proofs.Cells.{all_named_on, accounts_then, accounts_none}
use Rattle.kilim_mail_register.specs.Register.{told_by}
use Rattle.kilim_mail_ready.specs.declared.body.Body.{Body}
use Rattle.kilim_mail_posts.specs.declared.posts.Posts.{Posts}
use Rattle.kilim_mail_posts.specs.Posts.{box_at, SameBoxes, AllMessages, Writes, Marks}
use Rattle.kilim_mail_group.specs.declared.boxes.Boxes.{Boxes}
use Rattle.kilim_mail_group.specs.declared.boxes.Sleeper.{Sleeper}
use Rattle.kilim_mail_group.specs.Group.{held, SleeperAsks, WaitsRightly, AllWait, OthersWait, BoxesStand, GroupStands, bodies_items}
use Rattle.kilim_mail_group.specs.Steps.{IsDeed, IsNoted, Acts, Wakes, IsSame}
use Rattle.kilim_mail_group.proofs.Waiters.{is_taken, all_behind, held_behind, length_behind}
use Rattle.kilim_mail_group.proofs.Entries.{told_then}

all_more : {A : Type 0} (P : A → Type 0) (xs : List A) (y : A) → AllByRecursion P xs → P y → AllByRecursion P (xs ++ y ∷ [])
all_more P [] y all p = (p, tt)
all_more P (x ∷ xs) y (h, all) p = (h, all_more P xs y all p)

pub all_on : {A : Type 0} (P Q : A → Type 0) (xs : List A) → ((x : A) → P x → Q x) → AllByRecursion P xs → AllByRecursion Q xs
all_on P Q [] f all = tt
all_on P Q (x ∷ xs) f (h, all) = (f x h, all_on P Q xs f all)

-- ---- the mailboxes

-- what is written to mailboxes that are as they were
pub writes_same : (m r p : Posts) (name : BoxName) (a : Act) (stamp : ℕ) → SameBoxes (box_at m) (box_at r) → Writes r name a stamp p → Writes m name a stamp p
writes_same m r p name a stamp same w = record {
  next = w.next;
  allowed = ap (λ (b : Box). mail_after b.mail a) (sym (same name)) ∙ w.allowed;
  boxes = λ box. w.boxes box ∙ ap (λ (x : Box). if same_box box name then record { mail = w.next; clock = stamp } else x) (same box);
}

-- an entry that leaves its mailbox as it is
pub marks_write : (m r p : Posts) (name : BoxName) (a : Act) (stamp : ℕ) → SameBoxes (box_at m) (box_at r) → mail_after (box_at m name).mail a ≡ Some (box_at m name).mail → Marks r name stamp p → Writes m name a stamp p
marks_write m r p name a stamp same allowed marks = record {
  next = (box_at m name).mail;
  allowed = allowed;
  boxes = λ box. marks box ∙ (ap (λ (x : Box). if same_box box name then record { mail = x.mail; clock = stamp } else box_at r box) (same name) ∙ ap (λ (x : Box). if same_box box name then record { mail = (box_at m name).mail; clock = stamp } else x) (same box));
}

none_zero : (n : ℕ) → (suc n == 0) ≡ true → ⊥
none_zero n e = let h : suc n ≡ 0 = grind (arith, nat_tests) in absurd (omega arith)

pub empty_allowed : (m : Mailbox (List Token)) (name : BoxName) → (length m.queue == 0) ≡ true → mail_after m (act.Empty name) ≡ Some m
empty_allowed m name e = by m.queue e
  where
    by : (qs : List (ℕ × List Token)) → (length qs == 0) ≡ true → mail_empty m qs ≡ Some m
    by [] f = refl
    by (q ∷ qs) f = absurd (none_zero (length qs) f)

pub full_allowed : (m : Mailbox (List Token)) → is_full m ≡ true → mail_after m (act.End cause.Full) ≡ Some m
full_allowed m e = ap (λ (b : Bool). if b then Some m else None) e

pub none_left : {A : Type 0} (qs : List A) → (length qs == 0) ≡ false → qs ≡ [] → ⊥
none_left qs e is = let h : true ≡ false = sym (ap (λ l. length l == 0) is) ∙ e in cc

pub queue_none : {A : Type 0} (qs : List A) → (length qs == 0) ≡ true → qs ≡ []
queue_none [] e = refl
queue_none (q ∷ qs) e = absurd (none_zero (length qs) e)

-- ---- what lies under the turn

module _ {F : Type 0} (task : F → ℕ) (course : F → Course) (asked : Setting → F → Lone → Type 0) (Of : Setting → Type 0) where
  abbrev Waiting : Type 0
  Waiting = Waiter (Sleeper F)

  abbrev Stands : Boxes F → Type 0
  Stands b = BoxesStand task course asked Of b

  renumber : (P : ℕ → ℕ → Type 0) (b b' : Boxes F) → b'.number ≡ b.number → b'.turns ≡ b.turns → P b.number b.turns → P b'.number b'.turns
  renumber P b b' e f x = subst (λ (n : ℕ). P n b'.turns) (sym e) (subst (λ (t : ℕ). P b.number t) (sym f) x)

  abbrev IsHere : ℕ → ℕ → Stamped → Type 0
  IsHere n t s = (box : BoxName) → is_on box s ≡ true → turn_of t box ≡ n

  -- ---- an act, noted

  module _ (seat : ℕ) (name : BoxName) (b b' : Boxes F) (p : Posts) (old new : Body F) (d : Dated) (a : Act) (st : Stands b) (mine : turn_of b.turns name ≡ b.number)
      (boxed : box_in d.full a ≡ Some name) (w : Writes b.posts name a d.stamp p) (later : (box_at b.posts name).clock < d.stamp) (messages : (set : Setting) → Of set → AllMessages set.program p)
      (n : IsNoted seat (record b { posts = p }) b' old new d a) (deed : IsDeed d a) (same : deed_in (b.log.items ++ record { stamp = d.stamp; full = d.full; entry = record { task = old.history.task; act = a } } ∷ []) a ≡ d.deed) where
    abbrev entry : Stamped
    entry = record { stamp = d.stamp; full = d.full; entry = record { task = old.history.task; act = a } }

    abbrev log' : List Stamped
    log' = b.log.items ++ entry ∷ []

    now_at : (x : BoxName) → box_at b'.posts x ≡ with_box (box_at b.posts) name (record { mail = w.next; clock = d.stamp }) x
    now_at x = ap (λ (q : Posts). box_at q x) n.posts ∙ w.boxes x

    here : (box : BoxName) → is_on box entry ≡ true → turn_of b.turns box ≡ b.number
    here box on = ap (turn_of b.turns) (same_name box name (sym (ap (is_that box) boxed) ∙ on)) ∙ mine

    noted_stands : AllStand log' (with_box (box_at b.posts) name (record { mail = w.next; clock = d.stamp }))
    noted_stands = acts_are_noted b.log.items (box_at b.posts) name entry w.next st.boxes boxed w.allowed later

    elsewhere : (x : BoxName) → same_box x name ≡ false → box_at b'.posts x ≡ box_at b.posts x
    elsewhere x e = now_at x ∙ ap (λ (y : Bool). if y then record { mail = w.next; clock = d.stamp } else box_at b.posts x) e

    pub stands_on : Stands b'
    stands_on = record {
      named = renumber (λ k t. AllNamed k t (ledger_cells b'.ledger)) b b' n.number n.turns (all_named_on b.number b.turns seat (ledger_cells b.ledger) (ledger_cells b'.ledger) (items_of (trace_of old.history)) (items_of (trace_of new.history)) n.others n.accounts st.named);
      here = renumber (λ k t. AllByRecursion (IsHere k t) b'.log.items) b b' n.number n.turns (subst (λ (ss : List Stamped). AllByRecursion (IsHere b.number b.turns) ss) (sym n.log) (all_more (IsHere b.number b.turns) b.log.items entry st.here here));
      acts = subst (λ (ss : List Stamped). AllByRecursion (λ (s : Stamped). is_registered s ≡ false) ss) (sym n.log) (all_more (λ (s : Stamped). is_registered s ≡ false) b.log.items entry st.acts deed.plain);
      boxes = λ x. subst (λ (ss : List Stamped). BoxStands x ss (box_at b'.posts x)) (sym n.log) (subst (λ (y : Box). BoxStands x log' y) (sym (now_at x)) (noted_stands x));
      balances = subst (λ (ws : List Waiting). Balances b'.ledger (held ws) (told_by b'.log.items b'.log.items)) (sym n.parked)
          (subst (λ (ss : List Stamped). Balances b'.ledger (held b.parked.items) (told_by ss ss)) (sym n.log)
          (n.balances (held b.parked.items) (told_by b.log.items b.log.items) (told_by log' log') st.balances (told_then b.log.items (box_at b.posts) st.boxes old.history.task d a same deed.act-is deed.plain)));
      messages = λ set is. subst (λ (q : Posts). AllMessages set.program q) (sym n.posts) (messages set is);
      asks = λ set is. subst (λ (ws : List Waiting). AllByRecursion (λ (x : Waiting). SleeperAsks task course asked set x.waits x.fiber) ws) (sym n.parked) (st.asks set is);
      waits = renumber (λ k t. AllByRecursion (λ (x : Waiting). turn_of t (box_of x.waits) ≡ k) b'.parked.items) b b' n.number n.turns (subst (λ (ws : List Waiting). AllByRecursion (λ (x : Waiting). turn_of b.turns (box_of x.waits) ≡ b.number) ws) (sym n.parked) st.waits);
      many = n.many ∙ (st.many ∙ ap length (sym n.parked));
    }

    pub acts_on : Acts task course asked Of seat name b b' (items_of (trace_of old.history)) (items_of (trace_of new.history))
    acts_on = record {
      number = n.number;
      turns = n.turns;
      seats = n.seats;
      many = let e = n.many in omega arith;
      stands = stands_on;
      accounts = n.accounts;
      rest = λ all. subst (λ (ws : List Waiting). OthersWait name (box_at b'.posts) ws) (sym n.parked)
          (all_on (λ (x : Waiting). same_box (box_of x.waits) name ≡ false → WaitsRightly (box_at b.posts) x) (λ (x : Waiting). same_box (box_of x.waits) name ≡ false → WaitsRightly (box_at b'.posts) x) b.parked.items
          (λ x right e. subst (λ (y : Box). HasToWait x.waits y.mail) (sym (elsewhere (box_of x.waits) e)) (right e)) all);
    }

  -- ---- one after the other

  pub acts_then : (seat : ℕ) (name : BoxName) (b m b' : Boxes F) (x y u v before after : List Item) → Acts task course asked Of seat name b m x y → Acts task course asked Of seat name m b' u v → ((h : Item → ℕ) → weigh h after + (weigh h x + weigh h u) ≡ weigh h before + (weigh h y + weigh h v)) → Acts task course asked Of seat name b b' before after
  acts_then seat name b m b' x y u v before after one two same = record {
    number = two.number ∙ one.number;
    turns = two.turns ∙ one.turns;
    seats = two.seats ∙ one.seats;
    many = let e = one.many in let f = two.many in omega arith;
    stands = two.stands;
    accounts = accounts_then (cell_at (ledger_cells b.ledger) seat) (cell_at (ledger_cells m.ledger) seat) (cell_at (ledger_cells b'.ledger) seat) x y u v before after one.accounts two.accounts same;
    rest = λ all. two.rest (one.rest all);
  }

  pub acts_none : (seat : ℕ) (name : BoxName) (b : Boxes F) → Stands b → Acts task course asked Of seat name b b [] []
  acts_none seat name b st = record { number = refl; turns = refl; seats = refl; many = omega arith; stands = st; accounts = accounts_none (cell_at (ledger_cells b.ledger) seat) (cell_at (ledger_cells b.ledger) seat) [] refl; rest = λ all. all }

  -- ---- the same

  module _ (b b' : Boxes F) (is : IsSame b b') where
    pub same_stands : Stands b → Stands b'
    same_stands st = record {
      named = renumber (λ k t. AllNamed k t (ledger_cells b'.ledger)) b b' is.number is.turns (subst (λ (l : Ledger). AllNamed b.number b.turns (ledger_cells l)) (sym is.ledger) st.named);
      here = renumber (λ k t. AllByRecursion (IsHere k t) b'.log.items) b b' is.number is.turns (subst (λ (ss : List Stamped). AllByRecursion (IsHere b.number b.turns) ss) (sym is.log) st.here);
      acts = subst (λ (ss : List Stamped). AllByRecursion (λ (s : Stamped). is_registered s ≡ false) ss) (sym is.log) st.acts;
      boxes = λ x. subst (λ (ss : List Stamped). BoxStands x ss (box_at b'.posts x)) (sym is.log) (subst (λ (q : Posts). BoxStands x b.log.items (box_at q x)) (sym is.posts) (st.boxes x));
      balances = subst (λ (ws : List Waiting). Balances b'.ledger (held ws) (told_by b'.log.items b'.log.items)) (sym is.parked)
          (subst (λ (ss : List Stamped). Balances b'.ledger (held b.parked.items) (told_by ss ss)) (sym is.log) (subst (λ (l : Ledger). Balances l (held b.parked.items) (told_by b.log.items b.log.items)) (sym is.ledger) st.balances));
      messages = λ set of. subst (λ (q : Posts). AllMessages set.program q) (sym is.posts) (st.messages set of);
      asks = λ set of. subst (λ (ws : List Waiting). AllByRecursion (λ (x : Waiting). SleeperAsks task course asked set x.waits x.fiber) ws) (sym is.parked) (st.asks set of);
      waits = renumber (λ k t. AllByRecursion (λ (x : Waiting). turn_of t (box_of x.waits) ≡ k) b'.parked.items) b b' is.number is.turns (subst (λ (ws : List Waiting). AllByRecursion (λ (x : Waiting). turn_of b.turns (box_of x.waits) ≡ b.number) ws) (sym is.parked) st.waits);
      many = is.many ∙ (st.many ∙ ap length (sym is.parked));
    }

    pub same_rest : (name : BoxName) → OthersWait name (box_at b.posts) b.parked.items → OthersWait name (box_at b'.posts) b'.parked.items
    same_rest name all = subst (λ (ws : List Waiting). OthersWait name (box_at b'.posts) ws) (sym is.parked) (subst (λ (q : Posts). OthersWait name (box_at q) b.parked.items) (sym is.posts) all)

    pub same_acts : (seat : ℕ) (name : BoxName) (c : Boxes F) (before after : List Item) → Acts task course asked Of seat name b' c before after → Acts task course asked Of seat name b c before after
    same_acts seat name c before after acts = record {
      number = acts.number ∙ is.number;
      turns = acts.turns ∙ is.turns;
      seats = acts.seats ∙ ap (λ (l : Ledger). l.seats) is.ledger;
      many = let e = acts.many in let f = is.many in omega arith;
      stands = acts.stands;
      accounts = subst (λ (l : Ledger). Accounts (cell_at (ledger_cells l) seat) (cell_at (ledger_cells c.ledger) seat) before after) is.ledger acts.accounts;
      rest = λ all. acts.rest (same_rest name all);
    }

  pub same_then : (b m c : Boxes F) → IsSame b m → IsSame m c → IsSame b c
  same_then b m c one two = record { number = two.number ∙ one.number; turns = two.turns ∙ one.turns; ledger = two.ledger ∙ one.ledger; log = two.log ∙ one.log; posts = two.posts ∙ one.posts; parked = two.parked ∙ one.parked; many = two.many ∙ one.many }

  -- ---- one that waits is woken

  module _ (seat : ℕ) (b m : Boxes F) (v : Waits) (x : Waiting) (k : Wakes seat b m v x) where
    gone : (P : Waiting → Type 0) → AllByRecursion P b.parked.items → AllByRecursion P m.parked.items
    gone P all = (is_taken v P b.parked.items (x, m.parked.items) k.parked).others all

    pub was : (P : Waiting → Type 0) → AllByRecursion P b.parked.items → P x
    was P all = (is_taken v P b.parked.items (x, m.parked.items) k.parked).one all

    pub woken_for : v ≡ x.waits
    woken_for = (is_taken v (λ w. Unit {0}) b.parked.items (x, m.parked.items) k.parked).at

    pub woken_stands : Stands b → Stands m
    woken_stands st = record {
      named = renumber (λ i t. AllNamed i t (ledger_cells m.ledger)) b m k.number k.turns (all_named_on b.number b.turns seat (ledger_cells b.ledger) (ledger_cells m.ledger) [] (items_of (trace_of x.fiber.body.history)) k.others k.accounts st.named);
      here = renumber (λ i t. AllByRecursion (IsHere i t) m.log.items) b m k.number k.turns (subst (λ (ss : List Stamped). AllByRecursion (IsHere b.number b.turns) ss) (sym k.log) st.here);
      acts = subst (λ (ss : List Stamped). AllByRecursion (λ (s : Stamped). is_registered s ≡ false) ss) (sym k.log) st.acts;
      boxes = λ y. subst (λ (ss : List Stamped). BoxStands y ss (box_at m.posts y)) (sym k.log) (subst (λ (q : Posts). BoxStands y b.log.items (box_at q y)) (sym k.posts) (st.boxes y));
      balances = subst (λ (ss : List Stamped). Balances m.ledger (held m.parked.items) (told_by ss ss)) (sym k.log)
          (k.balances (held b.parked.items) (held m.parked.items) (told_by b.log.items b.log.items) st.balances (is_taken v (λ w. Unit {0}) b.parked.items (x, m.parked.items) k.parked).weighs);
      messages = λ set of. subst (λ (q : Posts). AllMessages set.program q) (sym k.posts) (st.messages set of);
      asks = λ set of. gone (λ (w : Waiting). SleeperAsks task course asked set w.waits w.fiber) (st.asks set of);
      waits = renumber (λ i t. AllByRecursion (λ (w : Waiting). turn_of t (box_of w.waits) ≡ i) m.parked.items) b m k.number k.turns (gone (λ (w : Waiting). turn_of b.turns (box_of w.waits) ≡ b.number) st.waits);
      many = let e = k.many in let f = st.many in let g = (is_taken v (λ w. Unit {0}) b.parked.items (x, m.parked.items) k.parked).many in omega arith;
    }

    pub woken_then : (name : BoxName) (c : Boxes F) (after : List Item) → Acts task course asked Of seat name m c (items_of (trace_of x.fiber.body.history)) after → Acts task course asked Of seat name b c [] after
    woken_then name c after acts = record {
      number = acts.number ∙ k.number;
      turns = acts.turns ∙ k.turns;
      seats = acts.seats ∙ k.seats;
      many = let e = acts.many in let f = k.many in omega arith;
      stands = acts.stands;
      accounts = accounts_then (cell_at (ledger_cells b.ledger) seat) (cell_at (ledger_cells m.ledger) seat) (cell_at (ledger_cells c.ledger) seat) [] (items_of (trace_of x.fiber.body.history)) (items_of (trace_of x.fiber.body.history)) after [] after k.accounts acts.accounts (λ h. omega arith);
      rest = λ all. acts.rest (subst (λ (q : Posts). OthersWait name (box_at q) m.parked.items) (sym k.posts) (gone (λ (w : Waiting). same_box (box_of w.waits) name ≡ false → WaitsRightly (box_at b.posts) w) all));
    }
