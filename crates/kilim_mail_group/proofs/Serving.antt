-- Who waits at a mailbox is served, or waits on.
use Rattle.std.proofs.Common.{◌≡◌, ℕ, suc, ◌+◌, ◌<◌, ◌≤◌, Bool, true, false, List, [], ◌∷◌, ◌++◌, append-nil, Option, Some, None, length, refl, sym, ap, subst, ◌∙◌, arith}
use Rattle.std.specs.Prelude.{Result, Ok, Err, IfOk, if◌then◌else◌}
use Rattle.std.specs.List.{AllByRecursion}
use Rattle.kilim_program.specs.declared.names.BoxName.{BoxName}
use Rattle.kilim_run_state.specs.declared.value.Object.{Object}
use Rattle.kilim_run_state.specs.declared.value.Token.{Token}
use Rattle.kilim_run_model.specs.State.{Setting, Mailbox, same_box, is_full}
use Rattle.kilim_run_model.specs.Lone.{Lone}
use Rattle.kilim_run_model.specs.Course.{Course}
use Rattle.kilim_run_model.specs.declared.waits.Waits.{Waits}
use Rattle.kilim_run_model.specs.declared.waits.Waits.TheVariants as wait
use Rattle.kilim_run_board.specs.Board.{box_of}
use Rattle.kilim_run_board.specs.Places.{same_wait}
use Rattle.kilim_run_board.specs.declared.waiting.parked.Waiter.{Waiter}
use Rattle.kilim_run_board.specs.waiting.Parked.{StandsBehind, woken}
use Rattle.kilim_run_board.specs.fibers.Wishes.{IsMessage, ToPutWait, ToTake}
use Rattle.kilim_run_board.proofs.waiting.Names.{same_name, box_itself}
use Rattle.kilim_run_turn.specs.Views.{cell_at}
use Rattle.kilim_run_turn.specs.Turns.{KeepsOthers}
use Rattle.kilim_mail_stamps.specs.declared.stamped.Stamped.{Stamped}
use Rattle.kilim_mail_stamps.specs.Stamps.{is_on, is_registered}
use Rattle.kilim_mail_stamps.specs.Merging.{weigh}
use Rattle.kilim_mail_stamps.proofs.Weights.{weigh_append}
use Rattle.kilim_mail_ledger.specs.declared.items.Item.{Item}
use Rattle.kilim_mail_ledger.specs.Ledger.{items_of}
use Rattle.kilim_mail_ledger.specs.Closing.{HasToWait}
use Rattle.kilim_mail_ledger.specs.Mailboxes.{Box, turn_of, BoxStands}
use Rattle.kilim_mail_notes.specs.declared.notes.Ledger.{Ledger}
use Rattle.kilim_mail_notes.specs.Histories.{trace_of}
use Rattle.kilim_mail_notes.specs.Notes.{ledger_cells, IsNamed, AllNamed, Accounts, Balances, brings, owes}
use Rattle.kilim_mail_notes.proofs.Cells.{new_cells, named_alike, all_named_on, keeps_then}
use Rattle.kilim_mail_register.specs.Register.{told_by}
use Rattle.kilim_mail_ready.specs.declared.body.Body.{Body}
use Rattle.kilim_mail_ready.specs.Ready.{BodyStands}
use Rattle.kilim_mail_posts.specs.declared.posts.Posts.{Posts}
use Rattle.kilim_mail_posts.specs.Posts.{box_at, SameBoxes, Marks, AllMessages}
use Rattle.kilim_mail_group.specs.declared.boxes.Boxes.{Boxes}
use Rattle.kilim_mail_group.specs.declared.boxes.Sleeper.{Sleeper}
use Rattle.kilim_mail_group.specs.Group.{group_cells, held, PutterAsks, SleeperAsks, WaitsRightly, AllWait, OthersWait, BoxesStand, GroupStands, bodies_items}
use Rattle.kilim_mail_group.specs.Steps.{MayPut, MayTake, Acts, Wakes, IsSame, ServedFor, ServedOf, ServedAt}
use Rattle.kilim_mail_group.proofs.Waiters.{Waiting, nobody, all_behind, held_behind, length_behind}
use Rattle.kilim_mail_group.proofs.Acting.{all_on, acts_then, acts_none, same_stands, same_rest, same_acts, same_then, queue_none}

pub if_ok_map : {T E : Type 0} (r : Result T E) (P Q : T → Type 0) → ((x : T) → P x → Q x) → IfOk r P → IfOk r Q
if_ok_map (Ok x) P Q f p = f x p
if_ok_map (Err e) P Q f p = tt

pub accounts_more : (a b : List ℕ) (x y before after : List Item) → Accounts a b x y → ((h : Item → ℕ) → weigh h after + weigh h x ≡ weigh h before + weigh h y) → Accounts a b before after
accounts_more a b x y before after acc same = record { each = λ ms e. let p = acc.each ms e in (p.0, p.1, λ h. let i = p.2 h in let j = same h in omega arith) }

-- an entry that leaves its mailbox as it is leaves what all hold
pub marked_mail : (m r p : Posts) (name : BoxName) (stamp : ℕ) → SameBoxes (box_at m) (box_at r) → Marks r name stamp p → (x : BoxName) → (box_at p x).mail ≡ (box_at m x).mail
marked_mail m r p name stamp same marks x = ap (λ (b : Box). b.mail) (marks x) ∙ (by (same_box x name) refl ∙ ap (λ (b : Box). b.mail) (same x))
  where
    by : (b : Bool) → same_box x name ≡ b → (if b then record { mail = (box_at r name).mail; clock = stamp } else box_at r x).mail ≡ (box_at r x).mail
    by true e = ap (λ (n : BoxName). (box_at r n).mail) (sym (same_name x name e))
    by false e = refl

pub all_wait_on : {F : Type 0} (boxes boxes' : BoxName → Box) (ws ws' : List (Waiting F)) → ((x : BoxName) → (boxes' x).mail ≡ (boxes x).mail) → ws' ≡ ws → AllWait boxes ws → AllWait boxes' ws'
all_wait_on {F} boxes boxes' ws ws' same e all = subst (λ (xs : List (Waiting F)). AllWait boxes' xs) (sym e)
    (all_on (λ (w : Waiting F). WaitsRightly boxes w) (λ (w : Waiting F). WaitsRightly boxes' w) ws (λ w right. subst (λ (m : Mailbox (List Token)). HasToWait w.waits m) (sym (same (box_of w.waits))) right) all)

pub others_of : {F : Type 0} (name : BoxName) (boxes : BoxName → Box) (ws : List (Waiting F)) → AllWait boxes ws → OthersWait name boxes ws
others_of {F} name boxes ws all = all_on (λ (w : Waiting F). WaitsRightly boxes w) (λ (w : Waiting F). same_box (box_of w.waits) name ≡ false → WaitsRightly boxes w) ws (λ w right e. right) all

-- ---- from the value as callers see it

pub there_now : {F : Type 0} (p q : Boxes F) (seat : ℕ) → p ≡ q → seat < length (group_cells q) → seat < p.ledger.seats
there_now {F} p q seat e lt = let h : seat < length (group_cells p) = subst (λ (x : Boxes F). seat < length (group_cells x)) (sym e) lt in let k = new_cells p.ledger p.ledger.seats refl in omega arith

pub mine_now : {F : Type 0} (p q : Boxes F) (seat : ℕ) (name : BoxName) → p ≡ q → seat < length (group_cells q) → AllNamed p.number p.turns (group_cells p) → (t : ℕ) × IsNamed (turn_of t name) t (cell_at (group_cells q) seat) → turn_of p.turns name ≡ p.number
mine_now {F} p q seat name e lt all (t, is) =
    let h : seat < length (group_cells p) = subst (λ (x : Boxes F). seat < length (group_cells x)) (sym e) lt in
    let a = named_alike (turn_of t name) t p.number p.turns (cell_at (group_cells p) seat) (subst (λ (x : Boxes F). IsNamed (turn_of t name) t (cell_at (group_cells x) seat)) (sym e) is) (all seat h) in
    ap (λ (k : ℕ). turn_of k name) (sym a.1) ∙ a.0

-- ---- where a task waits at that mailbox, or at another

at_wait : {X : Type 0} (name : BoxName) (v : Waits) → (same_wait (wait.Take name) v ≡ true → X) → (same_wait (wait.Put name) v ≡ true → X) → (same_box (box_of v) name ≡ false → X) → X
at_wait {X} name (wait.Take box) take put other = by (same_box box name) refl
  where
    by : (b : Bool) → same_box box name ≡ b → X
    by true e = take (subst (λ (n : BoxName). same_box name n ≡ true) (sym (same_name box name e)) (box_itself name))
    by false e = other e
at_wait {X} name (wait.Put box) take put other = by (same_box box name) refl
  where
    by : (b : Bool) → same_box box name ≡ b → X
    by true e = put (subst (λ (n : BoxName). same_box name n ≡ true) (sym (same_name box name e)) (box_itself name))
    by false e = other e

all_three : {A : Type 0} (P Q R S : A → Type 0) (xs : List A) → ((x : A) → P x → Q x → R x → S x) → AllByRecursion P xs → AllByRecursion Q xs → AllByRecursion R xs → AllByRecursion S xs
all_three P Q R S [] f p q r = tt
all_three P Q R S (x ∷ xs) f (p, ps) (q, qs) (r, rs) = (f x p q r, all_three P Q R S xs f ps qs rs)

module _ {F : Type 0} (task : F → ℕ) (course : F → Course) (asked : Setting → F → Lone → Type 0) where
  -- ---- what one that is woken may do

  pub taker_may : (set : Setting) (name : BoxName) (v : Waits) (s : Sleeper F) → wait.Take name ≡ v → SleeperAsks task course asked set v s → MayTake task course asked set name s.body
  taker_may set name v s e asks = record {
    wish = ToTake name;
    asks = subst (λ (w : Waits). SleeperAsks task course asked set w s) (sym e) asks;
    fits = λ tree n shape is. (shape, is, refl);
  }

  putter_asks : (set : Setting) (name : BoxName) (v : Waits) (s : Sleeper F) (m : Option (List Object × List Token)) → wait.Put name ≡ v → s.message ≡ m → SleeperAsks task course asked set v s → PutterAsks task course asked set name s.body m
  putter_asks set name v s m e is asks = subst (λ (o : Option (List Object × List Token)). PutterAsks task course asked set name s.body o) is (subst (λ (w : Waits). SleeperAsks task course asked set w s) (sym e) asks)

  pub putter_may : (set : Setting) (name : BoxName) (v : Waits) (s : Sleeper F) (tree : List Object) (shape : List Token) → wait.Put name ≡ v → s.message ≡ Some (tree, shape) → SleeperAsks task course asked set v s → MayPut task course asked set name s.body tree shape
  putter_may set name v s tree shape e is asks =
      let p = putter_asks set name v s (Some (tree, shape)) e is asks in
      record { wish = ToPutWait name shape; asks = p.0; fits = λ n. refl; message = p.1 }

  pub putter_none : (set : Setting) (name : BoxName) (v : Waits) (s : Sleeper F) → wait.Put name ≡ v → s.message ≡ None → SleeperAsks task course asked set v s → ⊥
  putter_none set name v s e is asks = putter_asks set name v s None e is asks

  module _ (Of : Setting → Type 0) where
    -- ---- who is served

    pub served_of : (seat : ℕ) (name : BoxName) (v : Waits) (b b' : Boxes F) (o : Option (Body F)) → ServedFor task course asked Of seat name v b b' o → ServedOf task course asked Of seat name v b b' o
    served_of seat name v b b' (Some x) s = s
    served_of seat name v b b' None s = (s.0, nobody v (λ (w : Waiting F). WaitsRightly (box_at b.posts) w) b.parked.items s.1)

    pub served_at : (seat : ℕ) (name : BoxName) (b m b' : Boxes F) → IsSame b m → AllByRecursion (λ (w : Waiting F). same_wait (wait.Take name) w.waits ≡ true → WaitsRightly (box_at b.posts) w) b.parked.items → (o : Option (Body F)) → ServedOf task course asked Of seat name (wait.Put name) m b' o → ServedAt task course asked Of seat name b b' o
    served_at seat name b m b' is takers (Some x) s = (same_acts task course asked Of b m is seat name b' [] (items_of (trace_of x.history)) s.0, let e = s.1 in let f = is.many in omega arith)
    served_at seat name b m b' is takers None s = (same_then task course asked Of b m b' is s.0, λ others. now others)
      where
        putters : AllByRecursion (λ (w : Waiting F). same_wait (wait.Put name) w.waits ≡ true → WaitsRightly (box_at b.posts) w) b.parked.items
        putters = subst (λ (ws : List (Waiting F)). AllByRecursion (λ (w : Waiting F). same_wait (wait.Put name) w.waits ≡ true → WaitsRightly (box_at b.posts) w) ws) is.parked
            (subst (λ (q : Posts). AllByRecursion (λ (w : Waiting F). same_wait (wait.Put name) w.waits ≡ true → WaitsRightly (box_at q) w) m.parked.items) is.posts s.1)

        now : OthersWait name (box_at b.posts) b.parked.items → AllWait (box_at b'.posts) b'.parked.items
        now others =
            let both = same_then task course asked Of b m b' is s.0 in
            subst (λ (ws : List (Waiting F)). AllWait (box_at b'.posts) ws) (sym both.parked) (subst (λ (q : Posts). AllWait (box_at q) b.parked.items) (sym both.posts)
            (all_three (λ (w : Waiting F). same_wait (wait.Take name) w.waits ≡ true → WaitsRightly (box_at b.posts) w) (λ (w : Waiting F). same_wait (wait.Put name) w.waits ≡ true → WaitsRightly (box_at b.posts) w) (λ (w : Waiting F). same_box (box_of w.waits) name ≡ false → WaitsRightly (box_at b.posts) w) (λ (w : Waiting F). WaitsRightly (box_at b.posts) w)
            b.parked.items (λ w p q r. at_wait name w.waits p q r) takers putters others))

    -- nobody needs to be asked where it is empty, or full
    pub all_takers : (name : BoxName) (boxes : BoxName → Box) (ws : List (Waiting F)) → (boxes name).mail.queue ≡ [] → AllByRecursion (λ (w : Waiting F). same_wait (wait.Take name) w.waits ≡ true → WaitsRightly boxes w) ws
    all_takers name boxes [] e = tt
    all_takers name boxes (w ∷ ws) e = ((λ is. right w.waits is), all_takers name boxes ws e)
      where
        right : (v : Waits) → same_wait (wait.Take name) v ≡ true → HasToWait v (boxes (box_of v)).mail
        right (wait.Take box) is = subst (λ (n : BoxName). (boxes n).mail.queue ≡ []) (same_name name box is) e
        right (wait.Put box) is = absurd (let h : false ≡ true = is in cc)

    pub all_putters : (name : BoxName) (boxes : BoxName → Box) (ws : List (Waiting F)) → is_full (boxes name).mail ≡ true → AllByRecursion (λ (w : Waiting F). same_wait (wait.Put name) w.waits ≡ true → WaitsRightly boxes w) ws
    all_putters name boxes [] e = tt
    all_putters name boxes (w ∷ ws) e = ((λ is. right w.waits is), all_putters name boxes ws e)
      where
        right : (v : Waits) → same_wait (wait.Put name) v ≡ true → HasToWait v (boxes (box_of v)).mail
        right (wait.Put box) is = subst (λ (n : BoxName). is_full (boxes n).mail ≡ true) (same_name name box is) e
        right (wait.Take box) is = absurd (let h : false ≡ true = is in cc)

    pub acts_same : (seat : ℕ) (name : BoxName) (b m c : Boxes F) (before after : List Item) → Acts task course asked Of seat name b m before after → IsSame m c → Acts task course asked Of seat name b c before after
    acts_same seat name b m c before after acts is = record {
      number = is.number ∙ acts.number;
      turns = is.turns ∙ acts.turns;
      seats = ap (λ (l : Ledger). l.seats) is.ledger ∙ acts.seats;
      many = let e = acts.many in let f = is.many in omega arith;
      stands = same_stands task course asked Of m c is acts.stands;
      accounts = subst (λ (l : Ledger). Accounts (cell_at (ledger_cells b.ledger) seat) (cell_at (ledger_cells l) seat) before after) (sym is.ledger) acts.accounts;
      rest = λ all. same_rest task course asked Of m c is name (acts.rest all);
    }

    -- ---- one after the other

    pub record Serving (holds : Setting → F → Lone → Type 0) (seat : ℕ) (name : BoxName) (b0 b : Boxes F) (ws : List (Body F)) : Type 0 where
      pub acts : Acts task course asked Of seat name b0 b [] (bodies_items ws)
      pub others : KeepsOthers seat (ledger_cells b0.ledger) (ledger_cells b.ledger)
      pub bodies : (set : Setting) → Of set → AllByRecursion (BodyStands task course holds asked set) ws
      pub mine : turn_of b.turns name ≡ b.number
      pub there : seat < b.ledger.seats

    pub serving_first : (holds : Setting → F → Lone → Type 0) (seat : ℕ) (name : BoxName) (b : Boxes F) (ws : List (Body F)) → ws ≡ [] → BoxesStand task course asked Of b → turn_of b.turns name ≡ b.number → seat < b.ledger.seats → Serving holds seat name b b ws
    serving_first holds seat name b ws e st mine there = subst (λ (xs : List (Body F)). Serving holds seat name b b xs) (sym e) (record {
      acts = acts_none task course asked Of seat name b st;
      others = record { seats = refl; others = λ k ne. refl };
      bodies = λ set is. tt;
      mine = mine;
      there = there;
    })

    items_pushed : (h : Item → ℕ) (ws : List (Body F)) (x : Body F) → weigh h (bodies_items (ws ++ x ∷ [])) ≡ weigh h (bodies_items ws) + weigh h (items_of (trace_of x.history))
    items_pushed h [] x = let a = weigh_append h (items_of (trace_of x.history)) [] in omega arith
    items_pushed h (w ∷ ws) x =
        let r = items_pushed h ws x in
        let a = weigh_append h (items_of (trace_of w.history)) (bodies_items (ws ++ x ∷ [])) in
        let b = weigh_append h (items_of (trace_of w.history)) (bodies_items ws) in
        omega arith

    all_pushed : {A : Type 0} (P : A → Type 0) (xs : List A) (y : A) → AllByRecursion P xs → P y → AllByRecursion P (xs ++ y ∷ [])
    all_pushed P [] y all p = (p, tt)
    all_pushed P (x ∷ xs) y (h, all) p = (h, all_pushed P xs y all p)

    pub serving_on : (holds : Setting → F → Lone → Type 0) (seat : ℕ) (name : BoxName) (b0 b b' : Boxes F) (ws ws' : List (Body F)) (x : Body F) → Serving holds seat name b0 b ws → Acts task course asked Of seat name b b' [] (items_of (trace_of x.history)) → KeepsOthers seat (ledger_cells b.ledger) (ledger_cells b'.ledger) →
        ((set : Setting) → Of set → BodyStands task course holds asked set x) → ws' ≡ ws ++ x ∷ [] → Serving holds seat name b0 b' ws'
    serving_on holds seat name b0 b b' ws ws' x s acts keeps stands e = subst (λ (xs : List (Body F)). Serving holds seat name b0 b' xs) (sym e) (record {
      acts = acts_then task course asked Of seat name b0 b b' [] (bodies_items ws) [] (items_of (trace_of x.history)) [] (bodies_items (ws ++ x ∷ [])) s.acts acts (λ h. let a = items_pushed h ws x in omega arith);
      others = keeps_then seat (ledger_cells b0.ledger) (ledger_cells b.ledger) (ledger_cells b'.ledger) s.others keeps;
      bodies = λ set is. all_pushed (BodyStands task course holds asked set) ws x (s.bodies set is) (stands set is);
      mine = ap (λ (t : ℕ). turn_of t name) acts.turns ∙ (s.mine ∙ sym acts.number);
      there = let h = s.there in let f = acts.seats in omega arith;
    })

    -- ---- one more waits

    module _ (seat : ℕ) (b b' : Boxes F) (v : Waits) (s : Sleeper F) (number : b'.number ≡ b.number) (turns : b'.turns ≡ b.turns) (log : b'.log.items ≡ b.log.items) (posts : b'.posts ≡ b.posts) (many : b'.many ≡ suc b.many)
        (behind : StandsBehind (record { waits = v; fiber = s }) b.parked.items b'.parked.items) (keeps : KeepsOthers seat (ledger_cells b.ledger) (ledger_cells b'.ledger)) (accounts : Accounts (cell_at (ledger_cells b.ledger) seat) (cell_at (ledger_cells b'.ledger) seat) (items_of (trace_of s.body.history)) [])
        (balances : (old new made : List Item) → Balances b.ledger old made → ((h : Item → ℕ) → weigh h new ≡ weigh h old + weigh h (items_of (trace_of s.body.history))) → Balances b'.ledger new made)
        (mine : turn_of b.turns (box_of v) ≡ b.number) (asks : (set : Setting) → Of set → SleeperAsks task course asked set v s) (has : HasToWait v (box_at b.posts (box_of v)).mail) where
      abbrev one : Waiting F
      one = record { waits = v; fiber = s }

      renumber : (P : ℕ → ℕ → Type 0) → P b.number b.turns → P b'.number b'.turns
      renumber P x = subst (λ (n : ℕ). P n b'.turns) (sym number) (subst (λ (t : ℕ). P b.number t) (sym turns) x)

      pub waits_on : GroupStands task course asked Of b → GroupStands task course asked Of b'
      waits_on g =
          let st = g.stands in
          record {
            stands = record {
              named = renumber (λ k t. AllNamed k t (ledger_cells b'.ledger)) (all_named_on b.number b.turns seat (ledger_cells b.ledger) (ledger_cells b'.ledger) (items_of (trace_of s.body.history)) [] keeps accounts st.named);
              here = renumber (λ k t. AllByRecursion (λ (x : Stamped). (box : BoxName) → is_on box x ≡ true → turn_of t box ≡ k) b'.log.items) (subst (λ (ss : List Stamped). AllByRecursion (λ (x : Stamped). (box : BoxName) → is_on box x ≡ true → turn_of b.turns box ≡ b.number) ss) (sym log) st.here);
              acts = subst (λ (ss : List Stamped). AllByRecursion (λ (x : Stamped). is_registered x ≡ false) ss) (sym log) st.acts;
              boxes = λ x. subst (λ (ss : List Stamped). BoxStands x ss (box_at b'.posts x)) (sym log) (subst (λ (q : Posts). BoxStands x b.log.items (box_at q x)) (sym posts) (st.boxes x));
              balances = subst (λ (ss : List Stamped). Balances b'.ledger (held b'.parked.items) (told_by ss ss)) (sym log)
                  (balances (held b.parked.items) (held b'.parked.items) (told_by b.log.items b.log.items) st.balances (λ h. held_behind h one b.parked.items b'.parked.items behind));
              messages = λ set is. subst (λ (q : Posts). AllMessages set.program q) (sym posts) (st.messages set is);
              asks = λ set is. all_behind (λ (w : Waiting F). SleeperAsks task course asked set w.waits w.fiber) one b.parked.items b'.parked.items behind (st.asks set is) (asks set is);
              waits = renumber (λ k t. AllByRecursion (λ (w : Waiting F). turn_of t (box_of w.waits) ≡ k) b'.parked.items) (all_behind (λ (w : Waiting F). turn_of b.turns (box_of w.waits) ≡ b.number) one b.parked.items b'.parked.items behind st.waits mine);
              many = let e = st.many in let l = length_behind one b.parked.items b'.parked.items behind in let m = many in omega arith;
            };
            rest = subst (λ (q : Posts). AllWait (box_at q) b'.parked.items) (sym posts) (all_behind (λ (w : Waiting F). WaitsRightly (box_at b.posts) w) one b.parked.items b'.parked.items behind g.rest has);
          }
