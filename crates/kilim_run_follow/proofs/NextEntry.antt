-- Behind the same entries a task makes one entry; none where it has ended, or has to wait.
use Rattle.std.proofs.Common.{◌≡◌, ℕ, zero, suc, Bool, true, false, cond, List, [], ◌∷◌, ◌++◌, Option, Some, None, ◌⊎◌, inl, inr, length, refl, sym, ap, subst, ◌∙◌, arith}
use Rattle.std.specs.Prelude.{◌&&◌, not, ◌==◌, nat_lt, slice_get}
use Rattle.std.proofs.lemmas.Bool.{and_parts, eqb-true, not-true}
use Rattle.kilim_lemmas.proofs.Lists.{get_left, set_there}
use Rattle.kilim_program.specs.Program.{Program}
use Rattle.kilim_program.specs.Names.{◌>>=◌}
use Rattle.kilim_run_state.specs.declared.cause.EndCause.TheVariants as cause
use Rattle.kilim_run_state.specs.declared.value.Object.{Object}
use Rattle.kilim_run_state.specs.declared.value.Token.{Token}
use Rattle.kilim_run_state.specs.Trees.{OfMessage, built}
use Rattle.kilim_program.specs.declared.names.BoxName.{BoxName}
use Rattle.kilim_run_journal.specs.declared.entry.Act.{Act}
use Rattle.kilim_run_journal.specs.declared.entry.Act.TheVariants.{Put, Take, Empty, Start, Print, End, Wait, Bound}
use Rattle.kilim_run_journal.specs.declared.entry.Entry.{Entry}
use Rattle.kilim_run_model.specs.declared.deed.Beginning.TheVariants.{Begun}
use Rattle.kilim_run_model.specs.State.{Setting, is_full, with_mailbox, with_message, with_queue}
use Rattle.kilim_run_model.specs.Lone.{Lone, Next, Goes, Puts, PutWaits, Bounds, Gets, Probes, Starts, Prints, Ends, Stands}
use Rattle.kilim_run_model.specs.Turn.{task_limit}
use Rattle.kilim_run_model.specs.declared.deed.Deed.{Deed}
use Rattle.kilim_run_model.specs.Course.{Course, Done, did, done_by, fills_deed, Follows, IsLone, next_action, plain, probes_deed, puts_deed, starts_deed, takes_deed, tree_came}
use Rattle.kilim_run_model.specs.Moving.{Books, FullHere, FullSaid, Moving, MovedReplay, books_after, books_by, books_empty, books_from, books_taken, first_books, further, is_tasks, with_deed}
use Rattle.kilim_run_model.proofs.Alone.{one_lone}

some_same : {A : Type 0} (x y : A) → Some x ≡ Some y → x ≡ y
some_same x y e = cc

-- ---- the books before the last entry

pub record BooksBefore (b last : Books) (es : List Entry) (e : Entry) : Type 0 where
  pub mid : Books
  pub front : books_from b es ≡ Some mid
  pub after : books_after mid e ≡ Some last

books_last : (b last : Books) (es : List Entry) (e : Entry) → books_from b (es ++ e ∷ []) ≡ Some last → BooksBefore b last es e
books_last b last [] e is = record { mid = b; front = refl; after = by (books_after b e) is }
  where
    by : (o : Option Books) → (o >>= λ (mid : Books). Some mid) ≡ Some last → o ≡ Some last
    by None is = absurd (cc)
    by (Some x) is = is
books_last b last (x ∷ es) e is = by (books_after b x) refl is (λ next r. books_last next last es e r)
  where
    by : (o : Option Books) → books_after b x ≡ o → (o >>= λ (mid : Books). books_from mid (es ++ e ∷ [])) ≡ Some last → ((next : Books) → books_from next (es ++ e ∷ []) ≡ Some last → BooksBefore next last es e) → BooksBefore b last (x ∷ es) e
    by None at is again = absurd (cc)
    by (Some next) at is again = let r = again next is in record { mid = r.mid; front = ap (λ (o : Option Books). o >>= λ (m : Books). books_from m es) at ∙ r.front; after = r.after }

-- what the last entry says of a full mailbox
full_last : (set : Setting) (es : List Entry) (e : Entry) (b mid : Books) → FullSaid set b (es ++ e ∷ []) → books_from b es ≡ Some mid → FullHere set mid e
full_last set [] e b mid full is = subst (λ (x : Books). FullHere set x e) (some_same b mid is) full.0
full_last set (x ∷ es) e b mid full is = by (books_after b x) refl is (λ next at rest. full_last set es e next mid (full.1 next at) rest)
  where
    by : (o : Option Books) → books_after b x ≡ o → (o >>= λ (m : Books). books_from m es) ≡ Some mid → ((next : Books) → books_after b x ≡ Some next → books_from next es ≡ Some mid → FullHere set mid e) → FullHere set mid e
    by None at is again = absurd (cc)
    by (Some next) at is again = again next at is

-- ---- what others decided of an act

abbrev pub Allows : Books → Act → Type 0
Allows b (Put box n shape) = (n ≡ (b.mailboxes box).puts) × (is_full (b.mailboxes box) ≡ false)
Allows b (Take box n) = (shape : List Token) × (rest : List (ℕ × List Token)) × ((b.mailboxes box).queue ≡ (n, shape) ∷ rest)
Allows b (Empty box) = (b.mailboxes box).queue ≡ []
Allows b (Start n shape) = (n ≡ length b.courses) × (nat_lt n task_limit ≡ true)
Allows b (End why) = is_tasks why ≡ true → length b.courses ≡ task_limit
Allows b act = Unit {0}

record Booked (b last : Books) (t : ℕ) (act : Act) : Type 0 where
  c : Course
  at : slice_get b.courses t ≡ Some c
  d : Deed
  is : d.act ≡ act
  after : slice_get last.courses t ≡ Some (further c d)
  allows : Allows b act

module _ (b last : Books) (t : ℕ) (c : Course) (at : slice_get b.courses t ≡ Some c) where
  deed_there : (d : Deed) → slice_get (with_deed b.courses t c d) t ≡ Some (further c d)
  deed_there d = set_there b.courses t c (further c d) at

  booked : (act : Act) (d : Deed) (after : Books) → d.act ≡ act → Some after ≡ Some last → after.courses ≡ with_deed b.courses t c d → Allows b act → Booked b last t act
  booked act d after is e courses allows = record {
    c = c;
    at = at;
    d = d;
    is = is;
    after = subst (λ (x : Books). slice_get x.courses t ≡ Some (further c d)) (some_same after last e) (ap (λ (cs : List Course). slice_get cs t) courses ∙ deed_there d);
    allows = allows;
  }

  taken_booked : (box : BoxName) (n : ℕ) (q : List (ℕ × List Token)) → (b.mailboxes box).queue ≡ q → books_taken b t c box n q ≡ Some last → Booked b last t (Take box n)
  taken_booked box n [] at-queue e = absurd (cc)
  taken_booked box n (first ∷ rest) at-queue e = by (first.0 == n) refl e
    where
      by : (z : Bool) → (first.0 == n) ≡ z → cond z (Some (record { courses = with_deed b.courses t c (record { act = Take box n; taken = first.1 }); mailboxes = with_mailbox b.mailboxes box (with_queue (b.mailboxes box) rest) })) None ≡ Some last → Booked b last t (Take box n)
      by false z e = absurd (cc)
      by true z e = booked (Take box n) (record { act = Take box n; taken = first.1 }) _ refl e refl (first.1, rest, at-queue ∙ ap (λ (k : ℕ). (k, first.1) ∷ rest) (eqb-true first.0 n z))

  empty_booked : (box : BoxName) (q : List (ℕ × List Token)) → (b.mailboxes box).queue ≡ q → books_empty b t c box q ≡ Some last → Booked b last t (Empty box)
  empty_booked box [] at-queue e = booked (Empty box) (plain (Empty box)) _ refl e refl at-queue
  empty_booked box (first ∷ rest) at-queue e = absurd (cc)

  by_booked : (act : Act) → books_by b t c act ≡ Some last → Booked b last t act
  by_booked (Put box n shape) e = by (n == (b.mailboxes box).puts && not (is_full (b.mailboxes box))) refl e
    where
      by : (z : Bool) → (n == (b.mailboxes box).puts && not (is_full (b.mailboxes box))) ≡ z → cond z (Some (record { courses = with_deed b.courses t c (plain (Put box n shape)); mailboxes = with_mailbox b.mailboxes box (with_message (b.mailboxes box) shape) })) None ≡ Some last → Booked b last t (Put box n shape)
      by false z e = absurd (cc)
      by true z e =
          let parts = and_parts (n == (b.mailboxes box).puts) (not (is_full (b.mailboxes box))) z in
          booked (Put box n shape) (plain (Put box n shape)) _ refl e refl (eqb-true n (b.mailboxes box).puts parts.0, not-true (is_full (b.mailboxes box)) parts.1)
  by_booked (Take box n) e = taken_booked box n (b.mailboxes box).queue refl e
  by_booked (Empty box) e = empty_booked box (b.mailboxes box).queue refl e
  by_booked (Start n shape) e = by (n == length b.courses && nat_lt n task_limit) refl e
    where
      by : (z : Bool) → (n == length b.courses && nat_lt n task_limit) ≡ z → cond z (Some (record b { courses = with_deed b.courses t c (plain (Start n shape)) ++ record { beginning = Begun shape; deeds = [] } ∷ [] })) None ≡ Some last → Booked b last t (Start n shape)
      by false z e = absurd (cc)
      by true z e =
          let parts = and_parts (n == length b.courses) (nat_lt n task_limit) z in
          record {
            c = c;
            at = at;
            d = plain (Start n shape);
            is = refl;
            after = subst (λ (x : Books). slice_get x.courses t ≡ Some (further c (plain (Start n shape)))) (some_same _ last e) (get_left (with_deed b.courses t c (plain (Start n shape))) _ t _ (deed_there (plain (Start n shape))));
            allows = (eqb-true n (length b.courses) parts.0, parts.1);
          }
  by_booked (Print shape) e = booked (Print shape) (plain (Print shape)) _ refl e refl tt
  by_booked (End why) e = by (is_tasks why) (length b.courses == task_limit) refl refl e
    where
      by : (y z : Bool) → is_tasks why ≡ y → (length b.courses == task_limit) ≡ z → cond (y && not z) None (Some (record b { courses = with_deed b.courses t c (plain (End why)) })) ≡ Some last → Booked b last t (End why)
      by false z f g e = booked (End why) (plain (End why)) _ refl e refl (λ w. absurd (let x : false ≡ true = sym f ∙ w in cc))
      by true false f g e = absurd (cc)
      by true true f g e = booked (End why) (plain (End why)) _ refl e refl (λ w. eqb-true (length b.courses) task_limit g)
  by_booked (Wait box) e = absurd (cc)
  by_booked (Bound box n) e = booked (Bound box n) (plain (Bound box n)) _ refl e refl tt

after_booked : (b last : Books) (e : Entry) → books_after b e ≡ Some last → Booked b last e.task e.act
after_booked b last e is = by (slice_get b.courses e.task) refl is
  where
    by : (o : Option Course) → slice_get b.courses e.task ≡ o → (o >>= λ (c : Course). books_by b e.task c e.act) ≡ Some last → Booked b last e.task e.act
    by None at is = absurd (cc)
    by (Some c) at is = by_booked b last e.task c at e.act is

-- ---- the thread before its last deed

unfollow : (set : Setting) (t : ℕ) (l last : Lone) (ds : List Deed) (d : Deed) → Follows set t l (ds ++ d ∷ []) last → (mid : Lone) × Follows set t l ds mid × (done_by set (next_action set t mid) d ≡ Some (record { act = d.act; after = last }))
unfollow set t l last [] d (mid, does, rest) = (l, refl, subst (λ (x : Lone). done_by set (next_action set t l) d ≡ Some (record { act = d.act; after = x })) rest does)
unfollow set t l last (x ∷ ds) d (mid, does, rest) = let r = unfollow set t mid last ds d rest in (r.0, (mid, does, r.1), r.2)

pub record Before (set : Setting) (t : ℕ) (c : Course) (d : Deed) : Type 0 where
  pub lone : Lone
  pub is : IsLone set t c lone
  pub after : Lone
  pub does : done_by set (next_action set t lone) d ≡ Some (record { act = d.act; after = after })

before : (set : Setting) (t : ℕ) (c : Course) (d : Deed) (last : Lone) → IsLone set t (further c d) last → Before set t c d
before set t c d last l =
    let r = unfollow set t l.first last c.deeds d l.follows in
    record { lone = r.0; is = record { first = l.first; begins = l.begins; follows = r.1 }; after = last; does = r.2 }

some_of : {A B : Type 0} (xs : List A) (ys : List B) (t : ℕ) (x : A) → length ys ≡ length xs → slice_get xs t ≡ Some x → (y : B) × (slice_get ys t ≡ Some y)
some_of [] ys t x e f = absurd (cc)
some_of (x ∷ xs) [] t z e f = absurd (omega (arith, e))
some_of (x ∷ xs) (y ∷ ys) zero z e f = (y, refl)
some_of (x ∷ xs) (y ∷ ys) (suc t) z e f = some_of xs ys t z (let k : length ys ≡ length xs = omega (arith, e) in k) f

-- ---- the last entry

pub record LastDeed (set : Setting) (b : Books) (e : Entry) : Type 0 where
  pub c : Course
  pub at : slice_get b.courses e.task ≡ Some c
  pub d : Deed
  pub is : d.act ≡ e.act
  pub allows : Allows b e.act
  pub full : FullHere set b e
  pub thread : Before set e.task c d

pub record LastEntry (set : Setting) (es : List Entry) (e : Entry) : Type 0 where
  pub books : Books
  pub front : books_from first_books es ≡ Some books
  pub deed : LastDeed set books e

pub last_entry : (set : Setting) (es : List Entry) (e : Entry) (v : Moving) → MovedReplay set (es ++ e ∷ []) v → LastEntry set es e
last_entry set es e v r =
    let l = books_last first_books v.books es e r.books in
    let k = after_booked l.mid v.books e l.after in
    let o = some_of v.books.courses v.lones e.task (further k.c k.d) r.each k.after in
    record {
      books = l.mid;
      front = l.front;
      deed = record {
        c = k.c;
        at = k.at;
        d = k.d;
        is = k.is;
        allows = k.allows;
        full = full_last set es e first_books l.mid r.full l.front;
        thread = before set e.task k.c k.d o.0 (r.lones e.task (further k.c k.d) o.0 k.after o.1);
      };
    }

-- ---- two deeds of one thread

abbrev first_of : List (ℕ × List Token) → Option (ℕ × List Token)
first_of [] = None
first_of (x ∷ xs) = Some x

abbrev number_of : Option (ℕ × List Token) → ℕ
number_of None = 0
number_of (Some x) = x.0

abbrev pub Is : Option Done → Act → Type 0
Is o a = (after : Lone) × (o ≡ Some (record { act = a; after = after }))

act_is : (x a : Act) (l : Lone) → Is (did x l) a → x ≡ a
act_is x a l (after, e) = ap (λ (y : Done). y.act) (some_same _ _ e)

module _ (p : Program) where
  pub put_is : (box : BoxName) (root : ℕ) (shape : List Token) (l : Lone) (a : Act) → Is (puts_deed p box root shape l a) a → (n : ℕ) × (a ≡ Put box n shape)
  put_is box root shape l (Put c n s) e = (n, sym (act_is (Put box n shape) (Put c n s) _ e))
  put_is box root shape l (Take c n) e = absurd (let z = e.1 in cc)
  put_is box root shape l (Empty c) e = absurd (let z = e.1 in cc)
  put_is box root shape l (Start n s) e = absurd (let z = e.1 in cc)
  put_is box root shape l (Print s) e = absurd (let z = e.1 in cc)
  put_is box root shape l (End why) e = absurd (let z = e.1 in cc)
  put_is box root shape l (Wait c) e = absurd (let z = e.1 in cc)
  put_is box root shape l (Bound c n) e = absurd (let z = e.1 in cc)

  fill_is : (box : BoxName) (root : ℕ) (shape : List Token) (l : Lone) (a : Act) → Is (fills_deed p box root shape l a) a → ((n : ℕ) × (a ≡ Put box n shape)) ⊎ (a ≡ End cause.Full)
  fill_is box root shape l (Put c n s) e = inl (n, sym (act_is (Put box n shape) (Put c n s) _ e))
  fill_is box root shape l (End why) e = inr (sym (act_is (End cause.Full) (End why) _ e))
  fill_is box root shape l (Take c n) e = absurd (let z = e.1 in cc)
  fill_is box root shape l (Empty c) e = absurd (let z = e.1 in cc)
  fill_is box root shape l (Start n s) e = absurd (let z = e.1 in cc)
  fill_is box root shape l (Print s) e = absurd (let z = e.1 in cc)
  fill_is box root shape l (Wait c) e = absurd (let z = e.1 in cc)
  fill_is box root shape l (Bound c n) e = absurd (let z = e.1 in cc)

  came_is : (box : BoxName) (n : ℕ) (l : Lone) (o : Option (List Object)) (a : Act) → Is (tree_came box n l o) a → a ≡ Take box n
  came_is box n l None a e = absurd (let z = e.1 in cc)
  came_is box n l (Some os) a e = sym (act_is (Take box n) a _ e)

  pub take_is : (box : BoxName) (l : Lone) (d : Deed) (a : Act) → Is (takes_deed p box l d a) a → (n : ℕ) × (a ≡ Take box n)
  take_is box l d (Take c n) e = (n, came_is box n l (built p OfMessage l.next d.taken) (Take c n) e)
  take_is box l d (Put c n s) e = absurd (let z = e.1 in cc)
  take_is box l d (Empty c) e = absurd (let z = e.1 in cc)
  take_is box l d (Start n s) e = absurd (let z = e.1 in cc)
  take_is box l d (Print s) e = absurd (let z = e.1 in cc)
  take_is box l d (End why) e = absurd (let z = e.1 in cc)
  take_is box l d (Wait c) e = absurd (let z = e.1 in cc)
  take_is box l d (Bound c n) e = absurd (let z = e.1 in cc)

  probe_is : (box : BoxName) (l : Lone) (d : Deed) (a : Act) → Is (probes_deed p box l d a) a → ((n : ℕ) × (a ≡ Take box n)) ⊎ (a ≡ Empty box)
  probe_is box l d (Empty c) e = inr (sym (act_is (Empty box) (Empty c) _ e))
  probe_is box l d (Take c n) e = inl (take_is box l d (Take c n) e)
  probe_is box l d (Put c n s) e = absurd (let z = e.1 in cc)
  probe_is box l d (Start n s) e = absurd (let z = e.1 in cc)
  probe_is box l d (Print s) e = absurd (let z = e.1 in cc)
  probe_is box l d (End why) e = absurd (let z = e.1 in cc)
  probe_is box l d (Wait c) e = absurd (let z = e.1 in cc)
  probe_is box l d (Bound c n) e = absurd (let z = e.1 in cc)

  start_is : (root : ℕ) (shape : List Token) (l : Lone) (a : Act) → Is (starts_deed p root shape l a) a → ((n : ℕ) × (a ≡ Start n shape)) ⊎ (a ≡ End cause.Tasks)
  start_is root shape l (Start n s) e = inl (n, sym (act_is (Start n shape) (Start n s) _ e))
  start_is root shape l (End why) e = inr (sym (act_is (End cause.Tasks) (End why) _ e))
  start_is root shape l (Put c n s) e = absurd (let z = e.1 in cc)
  start_is root shape l (Take c n) e = absurd (let z = e.1 in cc)
  start_is root shape l (Empty c) e = absurd (let z = e.1 in cc)
  start_is root shape l (Print s) e = absurd (let z = e.1 in cc)
  start_is root shape l (Wait c) e = absurd (let z = e.1 in cc)
  start_is root shape l (Bound c n) e = absurd (let z = e.1 in cc)

module _ (b : Books) where
  same_put : (box : BoxName) (shape : List Token) (a f : Act) (n m : ℕ) → a ≡ Put box n shape → f ≡ Put box m shape → Allows b a → Allows b f → a ≡ f
  same_put box shape a f n m e g p1 p2 =
      let k : n ≡ m = (subst (Allows b) e p1).0 ∙ sym (subst (Allows b) g p2).0 in
      e ∙ (ap (λ (j : ℕ). Put box j shape) k ∙ sym g)

  same_take : (box : BoxName) (a f : Act) (n m : ℕ) → a ≡ Take box n → f ≡ Take box m → Allows b a → Allows b f → a ≡ f
  same_take box a f n m e g p1 p2 =
      let x = subst (Allows b) e p1 in
      let y = subst (Allows b) g p2 in
      let z : (n, x.0) ∷ x.1 ≡ (m, y.0) ∷ y.1 = sym x.2 ∙ y.2 in
      let k : n ≡ m = ap (λ (o : Option (ℕ × List Token)). number_of o) (ap first_of z) in
      e ∙ (ap (λ (j : ℕ). Take box j) k ∙ sym g)

  take_empty : (box : BoxName) (a f : Act) (n : ℕ) → a ≡ Take box n → f ≡ Empty box → Allows b a → Allows b f → ⊥
  take_empty box a f n e g p1 p2 =
      let x = subst (Allows b) e p1 in
      let y = subst (Allows b) g p2 in
      let z : (n, x.0) ∷ x.1 ≡ [] = sym x.2 ∙ y in
      cc

  start_end : (shape : List Token) (a f : Act) (n : ℕ) → a ≡ Start n shape → f ≡ End cause.Tasks → Allows b a → Allows b f → ⊥
  start_end shape a f n e g p1 p2 =
      let x = subst (Allows b) e p1 in
      let y = (subst (Allows b) g p2) refl in
      let z : nat_lt task_limit task_limit ≡ true = subst (λ (k : ℕ). nat_lt k task_limit ≡ true) (x.0 ∙ y) x.1 in
      cc

  -- a put isn't at a full mailbox, and an end for full is
  put_full : (box : BoxName) (shape : List Token) (a : Act) (n : ℕ) → a ≡ Put box n shape → Allows b a → is_full (b.mailboxes box) ≡ true → ⊥
  put_full box shape a n e p1 full = let x : false ≡ true = sym (subst (Allows b) e p1).1 ∙ full in cc

  -- an end for full at this action is at a full mailbox
  abbrev FullBy : Next → Act → Type 0
  FullBy x a = a ≡ End cause.Full → (box : BoxName) (root : ℕ) (shape : List Token) (after : Lone) → x ≡ Puts box root shape after → is_full (b.mailboxes box) ≡ true

  same_act : (set : Setting) (x : Next) (d f : Deed) → Is (done_by set x d) d.act → Is (done_by set x f) f.act → Allows b d.act → Allows b f.act → FullBy x d.act → FullBy x f.act → d.act ≡ f.act
  same_act set (Goes l) d f e g p1 p2 q1 q2 = absurd (let z = e.1 in cc)
  same_act set Stands d f e g p1 p2 q1 q2 = absurd (let z = e.1 in cc)
  same_act set (Puts box root shape l) d f e g p1 p2 q1 q2 =
      elim (fill_is set.program box root shape l d.act e) [
        | inl u ↦ elim (fill_is set.program box root shape l f.act g) [
          | inl v ↦ same_put box shape d.act f.act u.0 v.0 u.1 v.1 p1 p2
          | inr v ↦ absurd (put_full box shape d.act u.0 u.1 p1 (q2 v box root shape l refl))
        ]
        | inr u ↦ elim (fill_is set.program box root shape l f.act g) [
          | inl v ↦ absurd (put_full box shape f.act v.0 v.1 p2 (q1 u box root shape l refl))
          | inr v ↦ u ∙ sym v
        ]
      ]
  same_act set (PutWaits box root shape l) d f e g p1 p2 q1 q2 =
      let x = put_is set.program box root shape l d.act e in
      let y = put_is set.program box root shape l f.act g in
      same_put box shape d.act f.act x.0 y.0 x.1 y.1 p1 p2
  same_act set (Bounds box most l) d f e g p1 p2 q1 q2 = sym (act_is _ d.act l e) ∙ act_is _ f.act l g
  same_act set (Gets box l) d f e g p1 p2 q1 q2 =
      let x = take_is set.program box l d d.act e in
      let y = take_is set.program box l f f.act g in
      same_take box d.act f.act x.0 y.0 x.1 y.1 p1 p2
  same_act set (Probes box l) d f e g p1 p2 q1 q2 =
      elim (probe_is set.program box l d d.act e) [
        | inl u ↦ elim (probe_is set.program box l f f.act g) [ inl v ↦ same_take box d.act f.act u.0 v.0 u.1 v.1 p1 p2 | inr v ↦ absurd (take_empty box d.act f.act u.0 u.1 v p1 p2) ]
        | inr u ↦ elim (probe_is set.program box l f f.act g) [ inl v ↦ absurd (take_empty box f.act d.act v.0 v.1 u p2 p1) | inr v ↦ u ∙ sym v ]
      ]
  same_act set (Starts root shape l) d f e g p1 p2 q1 q2 =
      elim (start_is set.program root shape l d.act e) [
        | inl u ↦ elim (start_is set.program root shape l f.act g) [
          | inl v ↦ let n : u.0 ≡ v.0 = (subst (Allows b) u.1 p1).0 ∙ sym (subst (Allows b) v.1 p2).0 in u.1 ∙ (ap (λ (k : ℕ). Start k shape) n ∙ sym v.1)
          | inr v ↦ absurd (start_end shape d.act f.act u.0 u.1 v p1 p2)
        ]
        | inr u ↦ elim (start_is set.program root shape l f.act g) [ inl v ↦ absurd (start_end shape f.act d.act v.0 v.1 u p2 p1) | inr v ↦ u ∙ sym v ]
      ]
  same_act set (Prints token l) d f e g p1 p2 q1 q2 = sym (act_is _ d.act l e) ∙ act_is _ f.act l g
  same_act set (Ends why l) d f e g p1 p2 q1 q2 = sym (act_is _ d.act l e) ∙ act_is _ f.act l g

-- ---- the law

same_entry : (a b : Entry) → a.task ≡ b.task → a.act ≡ b.act → a ≡ b
same_entry a b p q = subst (λ (t : ℕ). a ≡ record { task = t; act = b.act }) p (subst (λ (x : Act). a ≡ record { task = a.task; act = x }) q refl)

-- the thread of that course stands right before the deed
pub at_thread : (set : Setting) (b : Books) (e : Entry) (x : LastDeed set b e) (c : Course) (l : Lone) → slice_get b.courses e.task ≡ Some c → IsLone set e.task c l → Is (done_by set (next_action set e.task l) x.d) x.d.act
at_thread set b e x c l at is =
    let course : x.c ≡ c = some_same x.c c (sym x.at ∙ at) in
    let before : Before set e.task c x.d = subst (λ (k : Course). Before set e.task k x.d) course x.thread in
    let lone : before.lone ≡ l = one_lone set e.task c before.lone l before.is is in
    (before.after, subst (λ (k : Lone). done_by set (next_action set e.task k) x.d ≡ Some (record { act = x.d.act; after = before.after })) lone before.does)

full_by : (set : Setting) (b : Books) (e : Entry) (x : LastDeed set b e) (c : Course) (l : Lone) → slice_get b.courses e.task ≡ Some c → IsLone set e.task c l → FullBy b (next_action set e.task l) x.d.act
full_by set b e x c l at is why box root shape after next = x.full (sym x.is ∙ why) c at l is box root shape after next

one_of : (set : Setting) (b : Books) (e f : Entry) → e.task ≡ f.task → LastDeed set b e → LastDeed set b f → e ≡ f
one_of set b e f tasks x y =
    let c = x.c in
    let l = x.thread.lone in
    let at-f : slice_get b.courses f.task ≡ Some c = ap (slice_get b.courses) (sym tasks) ∙ x.at in
    let is-f : IsLone set f.task c l = subst (λ (t : ℕ). IsLone set t c l) tasks x.thread.is in
    let next : next_action set e.task l ≡ next_action set f.task l = ap (λ (t : ℕ). next_action set t l) tasks in
    let mine : Is (done_by set (next_action set f.task l) x.d) x.d.act = subst (λ (n : Next). Is (done_by set n x.d) x.d.act) next (at_thread set b e x c l x.at x.thread.is) in
    let full : FullBy b (next_action set f.task l) x.d.act = subst (λ (n : Next). FullBy b n x.d.act) next (full_by set b e x c l x.at x.thread.is) in
    let acts = same_act b set (next_action set f.task l) x.d y.d mine (at_thread set b f y c l at-f is-f) (subst (Allows b) (sym x.is) x.allows) (subst (Allows b) (sym y.is) y.allows) full (full_by set b f y c l at-f is-f) in
    same_entry e f tasks (sym x.is ∙ (acts ∙ y.is))

-- behind the same entries a task makes one entry
pub one_next_entry : (set : Setting) (es : List Entry) (e f : Entry) (v w : Moving) → MovedReplay set (es ++ e ∷ []) v → MovedReplay set (es ++ f ∷ []) w → e.task ≡ f.task → e ≡ f
one_next_entry set es e f v w p q tasks =
    let x = last_entry set es e v p in
    let y = last_entry set es f w q in
    let books : y.books ≡ x.books = some_same y.books x.books (sym y.front ∙ x.front) in
    one_of set x.books e f tasks x.deed (subst (λ (b : Books). LastDeed set b f) books y.deed)
