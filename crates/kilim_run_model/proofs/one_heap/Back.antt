-- What the books and the courses say is a replay over many heaps.
use Rattle.std.proofs.Common.{◌≡◌, ◌≢◌, ℕ, zero, suc, ◌==◌, Bool, true, false, not, cond, List, [], ◌∷◌, ◌++◌, length, Option, Some, None, refl, sym, ap, subst, ◌∙◌, inl, inr, arith}
use Rattle.std.specs.Prelude.{◌&&◌, slice_get, nat_lt}
use Rattle.std.proofs.lemmas.Bool.Decides.{eqb_tells}
use Rattle.std.proofs.lemmas.Bool.{eqb-true}
use Rattle.std.proofs.lemmas.List.{append_assoc, append-nil}
use Rattle.std.proofs.lemmas.Option.{same_Some, none-some, slice_get_within}
use Rattle.kilim_lemmas.proofs.Lists.{get_last, get_left, get_some, set_there, set_other, set_length}
use Rattle.kilim_program.specs.declared.names.BoxName.{BoxName}
use Rattle.kilim_program.specs.Names.{◌>>=◌}
use Rattle.kilim_run_state.specs.declared.cause.EndCause.{EndCause}
use Rattle.kilim_run_state.specs.declared.cause.EndCause.TheVariants as cause
use Rattle.kilim_run_state.specs.declared.value.Object.{Object}
use Rattle.kilim_run_state.specs.declared.value.Token.{Token}
use Rattle.kilim_run_state.specs.Trees.{OfMessage, built}
use Rattle.kilim_run_journal.specs.declared.entry.Act.{Act}
use Rattle.kilim_run_journal.specs.declared.entry.Act.TheVariants.{Put, Take, Empty, Start, Print, End, Wait, Bound}
use Rattle.kilim_run_journal.specs.declared.entry.Entry.{Entry}
use Rattle.kilim_run_model.specs.State.{Setting, Mailbox, is_full}
use Rattle.kilim_run_model.specs.Lone.{Lone, Next, Goes, Puts, PutWaits, Bounds, Gets, Probes, Starts, Prints, Ends, Stands, ended, next_move}
use Rattle.kilim_run_model.specs.Turn.{task_limit}
use Rattle.kilim_run_model.specs.Course.{Course, Done, did, plain, tree_left, lone_begun, next_action, tree_came, done_by, Follows, IsLone, Quiet, Moves}
use Rattle.kilim_run_model.specs.Moving.{Books, Moving, MovedReplay, further, with_deed, is_tasks, books_taken, books_empty, books_by, books_from, FullSaid}
use Rattle.kilim_run_model.specs.declared.deed.Deed.{Deed}
use Rattle.kilim_run_model.specs.declared.deed.Beginning.TheVariants.{Begun}
use Rattle.kilim_run_model.proofs.Alone.{AreLeft, all_left, one_lone}
use Rattle.kilim_run_model.specs.one_heap.Parted.{Parted, Parting, by_next, parts, PartedReplays}
use Rattle.kilim_run_model.specs.one_heap.Parted as parted
use Rattle.kilim_run_model.specs.one_heap.Booked.{Booked}
use Rattle.kilim_run_model.specs.one_heap.Laws.{KeepsBooks}
use Rattle.kilim_run_model.proofs.one_heap.Booking.{is_act, action_is, step_booked}
use Rattle.kilim_run_model.proofs.one_heap.OwnEnds.{no_own_tasks}
use Rattle.kilim_run_model.proofs.one_heap.Beside.{booked_noted}
use Rattle.kilim_run_model.proofs.one_heap.Settled.{parts_by, tells, left_after, none_after}

-- ---- the deed that an act is, by the books

abbrev pub first_shape : List (ℕ × List Token) → List Token
first_shape [] = []
first_shape (first ∷ rest) = first.1

abbrev pub deed_of : Books → Act → Deed
deed_of b (Put box n shape) = plain (Put box n shape)
deed_of b (Take box n) = record { act = Take box n; taken = first_shape (b.mailboxes box).queue }
deed_of b (Empty box) = plain (Empty box)
deed_of b (Start n shape) = plain (Start n shape)
deed_of b (Print shape) = plain (Print shape)
deed_of b (End why) = plain (End why)
deed_of b (Wait box) = plain (Wait box)
deed_of b (Bound box n) = plain (Bound box n)

deed_act : (b : Books) (a : Act) → (deed_of b a).act ≡ a
deed_act b (Put box n shape) = refl
deed_act b (Take box n) = refl
deed_act b (Empty box) = refl
deed_act b (Start n shape) = refl
deed_act b (Print shape) = refl
deed_act b (End why) = refl
deed_act b (Wait box) = refl
deed_act b (Bound box n) = refl

cond_some : {A : Type 0} (c : Bool) (x y : A) → cond c (Some x) None ≡ Some y → (c ≡ true) × (x ≡ y)
cond_some true x y e = (refl, same_Some _ _ e)
cond_some false x y e = absurd (none-some y e)

cond_none : {A : Type 0} (c : Bool) (x y : A) → cond c None (Some x) ≡ Some y → (c ≡ false) × (x ≡ y)
cond_none true x y e = absurd (none-some y e)
cond_none false x y e = (refl, same_Some _ _ e)

both_true : (a c : Bool) → (a && c) ≡ true → (a ≡ true) × (c ≡ true)
both_true true c e = (refl, e)
both_true false c e = absurd (cc)

taken_first : (b : Books) (t : ℕ) (c : Course) (box : BoxName) (n : ℕ) (q : List (ℕ × List Token)) (later : Books) → books_taken b t c box n q ≡ Some later →
    (first : ℕ × List Token) × (rest : List (ℕ × List Token)) × (q ≡ first ∷ rest) × (first.0 ≡ n) × (later.courses ≡ with_deed b.courses t c (record { act = Take box n; taken = first.1 }))
taken_first b t c box n [] later e = absurd (none-some later e)
taken_first b t c box n (first ∷ rest) later e =
    let w = cond_some (first.0 == n) _ later e in
    (first, rest, refl, eqb-true first.0 n w.0, ap (λ (z : Books). z.courses) (sym w.1))

empty_first : (b : Books) (t : ℕ) (c : Course) (box : BoxName) (q : List (ℕ × List Token)) (later : Books) → books_empty b t c box q ≡ Some later → (q ≡ []) × (later.courses ≡ with_deed b.courses t c (plain (Empty box)))
empty_first b t c box [] later e = (refl, ap (λ (z : Books). z.courses) (sym (same_Some _ _ e)))
empty_first b t c box (first ∷ rest) later e = absurd (none-some later e)

-- ---- the courses grow

pub record Grown (b : Books) (t : ℕ) (c : Course) (a : Act) (later : Books) : Type 0 where
  pub there : slice_get later.courses t ≡ Some (further c (deed_of b a))
  pub others : (u : ℕ) (x : Course) → u ≢ t → slice_get b.courses u ≡ Some x → slice_get later.courses u ≡ Some x
  pub begins : (n : ℕ) (shape : List Token) → a ≡ Start n shape → slice_get later.courses (length b.courses) ≡ Some (record { beginning = Begun shape; deeds = [] })

is_start : Act → Bool
is_start (Start n shape) = true
is_start a = false

shape_of_start : Act → List Token
shape_of_start (Start n shape) = shape
shape_of_start a = []

module _ (b : Books) (t : ℕ) (c : Course) (is : slice_get b.courses t ≡ Some c) where
  set_grown : (a : Act) (later : Books) → later.courses ≡ with_deed b.courses t c (deed_of b a) → is_start a ≡ false → Grown b t c a later
  unfolding is_start
  set_grown a later e other = record {
    there = ap (λ (z : List Course). slice_get z t) e ∙ set_there b.courses t c (further c (deed_of b a)) is;
    others = λ u x n is_x. ap (λ (z : List Course). slice_get z u) e ∙ (set_other b.courses t u (further c (deed_of b a)) n ∙ is_x);
    begins = λ n shape q. absurd (let w : true ≡ false = sym (ap is_start q) ∙ other in cc);
  }

  start_grown : (n : ℕ) (shape : List Token) (later : Books) → later.courses ≡ with_deed b.courses t c (plain (Start n shape)) ++ record { beginning = Begun shape; deeds = [] } ∷ [] → Grown b t c (Start n shape) later
  unfolding shape_of_start
  start_grown n shape later e =
      let cs = with_deed b.courses t c (plain (Start n shape)) in
      let new : Course = record { beginning = Begun shape; deeds = [] } in
      record {
        there = ap (λ (z : List Course). slice_get z t) e ∙ get_left cs (new ∷ []) t (further c (plain (Start n shape))) (set_there b.courses t c (further c (plain (Start n shape))) is);
        others = λ u x d is_x. ap (λ (z : List Course). slice_get z u) e ∙ get_left cs (new ∷ []) u x (set_other b.courses t u (further c (plain (Start n shape))) d ∙ is_x);
        begins = λ k other q.
            ap (λ (z : List Course). slice_get z (length b.courses)) e
            ∙ (ap (slice_get (cs ++ new ∷ [])) (sym (set_length b.courses t (further c (plain (Start n shape)))))
            ∙ (get_last cs new ∙ ap (λ (z : Act). Some (record { beginning = Begun (shape_of_start z); deeds = [] })) q));
      }

  pub grown : (a : Act) (later : Books) → books_by b t c a ≡ Some later → Grown b t c a later
  unfolding is_start
  grown (Put box n shape) later e = set_grown (Put box n shape) later (ap (λ (z : Books). z.courses) (sym (cond_some (n == (b.mailboxes box).puts && not (is_full (b.mailboxes box))) _ later e).1)) refl
  grown (Take box n) later e =
      let w = taken_first b t c box n (b.mailboxes box).queue later e in
      set_grown (Take box n) later (w.4 ∙ ap (λ (q : List (ℕ × List Token)). with_deed b.courses t c (record { act = Take box n; taken = first_shape q })) (sym w.2)) refl
  grown (Empty box) later e = set_grown (Empty box) later (empty_first b t c box (b.mailboxes box).queue later e).1 refl
  grown (Start n shape) later e = start_grown n shape later (ap (λ (z : Books). z.courses) (sym (cond_some (n == length b.courses && nat_lt n task_limit) _ later e).1))
  grown (Print shape) later e = set_grown (Print shape) later (ap (λ (z : Books). z.courses) (sym (same_Some _ _ e))) refl
  grown (End why) later e = set_grown (End why) later (ap (λ (z : Books). z.courses) (sym (cond_none (is_tasks why && not (length b.courses == task_limit)) _ later e).1)) refl
  grown (Wait box) later e = absurd (none-some later e)
  grown (Bound box n) later e = set_grown (Bound box n) later (ap (λ (z : Books). z.courses) (sym (same_Some _ _ e))) refl

pub record Extends (bf : Books) (t : ℕ) (c : Course) : Type 0 where
  pub course : Course
  pub more : List Deed
  pub is : slice_get bf.courses t ≡ Some course
  pub begins : course.beginning ≡ c.beginning
  pub deeds : course.deeds ≡ c.deeds ++ more

-- what one entry is in the books
pub record Entered (b : Books) (e : Entry) (es : List Entry) (bf : Books) : Type 0 where
  pub course : Course
  pub is : slice_get b.courses e.task ≡ Some course
  pub later : Books
  pub by : books_by b e.task course e.act ≡ Some later
  pub rest : books_from later es ≡ Some bf

entered_by : (b : Books) (e : Entry) (es : List Entry) (bf : Books) (c : Course) → slice_get b.courses e.task ≡ Some c → (o : Option Books) → books_by b e.task c e.act ≡ o → (o >>= λ (z : Books). books_from z es) ≡ Some bf → Entered b e es bf
entered_by b e es bf c is None says rest = absurd (none-some bf rest)
entered_by b e es bf c is (Some later) says rest = record { course = c; is = is; later = later; by = says; rest = rest }

entered_at : (b : Books) (e : Entry) (es : List Entry) (bf : Books) (o : Option Course) → slice_get b.courses e.task ≡ o → ((o >>= λ (c : Course). books_by b e.task c e.act) >>= λ (z : Books). books_from z es) ≡ Some bf → Entered b e es bf
entered_at b e es bf None is says = absurd (none-some bf says)
entered_at b e es bf (Some c) is says = entered_by b e es bf c is (books_by b e.task c e.act) refl says

entered : (b : Books) (e : Entry) (es : List Entry) (bf : Books) → books_from b (e ∷ es) ≡ Some bf → Entered b e es bf
entered b e es bf says = entered_at b e es bf (slice_get b.courses e.task) refl says

grows : (es : List Entry) (b bf : Books) → books_from b es ≡ Some bf → (t : ℕ) (c : Course) → slice_get b.courses t ≡ Some c → Extends bf t c
grows [] b bf says t c is = record { course = c; more = []; is = ap (λ (z : Books). slice_get z.courses t) (sym (same_Some _ _ says)) ∙ is; begins = refl; deeds = sym (append-nil c.deeds) }
grows (e ∷ es) b bf says t c is =
    let w = entered b e es bf says in
    let g = grown b e.task w.course w.is e.act w.later w.by in
    elim (eqb_tells t e.task) [
      | inl d ↦
          let same : w.course ≡ c = same_Some _ _ (sym w.is ∙ (ap (slice_get b.courses) (sym d.1) ∙ is)) in
          let r = grows es w.later bf w.rest t (further w.course (deed_of b e.act)) (ap (slice_get w.later.courses) d.1 ∙ g.there) in
          record {
            course = r.course;
            more = deed_of b e.act ∷ r.more;
            is = r.is;
            begins = r.begins ∙ ap (λ (z : Course). z.beginning) same;
            deeds = r.deeds ∙ (append_assoc w.course.deeds (deed_of b e.act ∷ []) r.more ∙ ap (λ (z : Course). z.deeds ++ deed_of b e.act ∷ r.more) same);
          }
      | inr d ↦ grows es w.later bf w.rest t c (g.others t c d.1 is)
    ]

-- ---- a course, up to a deed

abbrev UpTo : Setting → ℕ → Lone → List Deed → Deed → Type 0
UpTo set t first ds d = (mid : Lone) × Follows set t first ds mid × (after : Lone) × (done_by set (next_action set t mid) d ≡ Some (record { act = d.act; after = after }))

up_to : (set : Setting) (t : ℕ) (first last : Lone) (ds : List Deed) (d : Deed) (more : List Deed) → Follows set t first (ds ++ d ∷ more) last → UpTo set t first ds d
up_to set t first last [] d more (mid, does, rest) = (first, refl, mid, does)
up_to set t first last (x ∷ ds) d more (mid, does, rest) =
    let w = up_to set t mid last ds d more rest in
    (w.0, (mid, does, w.1), w.2, w.3)

-- ---- a thread that does that deed

did_act : (a : Act) (l k : Lone) (act : Act) → did a l ≡ Some (record { act = act; after = k }) → a ≡ act
did_act a l k act e = ap (λ (z : Done). z.act) (same_Some _ _ e)

box_of : Act → Option BoxName
box_of (Put box n shape) = Some box
box_of (Take box n) = Some box
box_of (Empty box) = Some box
box_of a = None

came : (box : BoxName) (n : ℕ) (l : Lone) (o : Option (List Object)) (act : Act) (k : Lone) → tree_came box n l o ≡ Some (record { act = act; after = k }) → (os : List Object) × (o ≡ Some os) × (Take box n ≡ act)
came box n l None act k e = absurd (none-some _ e)
came box n l (Some os) act k e = (os, refl, did_act _ _ k act e)

-- a `put` that ends its task does so at a full mailbox
abbrev Filling : Books → Next → Act → Type 0
Filling b x a = (box : BoxName) (root : ℕ) (shape : List Token) (l : Lone) → x ≡ Puts box root shape l → a ≡ End cause.Full → is_full (b.mailboxes box) ≡ true

module _ (set : Setting) (m : Parted) (b : Books) (booked : Booked set m b) (t : ℕ) (c : Course) (later : Books) where
  put_now : (box : BoxName) (root : ℕ) (shape : List Token) (l : Lone) (bx : BoxName) (n : ℕ) (s : List Token) → Put box n shape ≡ Put bx n s → books_by b t c (Put bx n s) ≡ Some later →
      ((parted.puts (parted.with_lone m t (tree_left set.program root l)) box shape).act ≡ Some (Put bx n s)) × (is_full (m.mailboxes box) ≡ false)
  unfolding box_of
  put_now box root shape l bx n s q says =
      let same : box ≡ bx = same_Some _ _ (ap box_of q) in
      let w = both_true (n == (b.mailboxes bx).puts) (not (is_full (b.mailboxes bx))) (cond_some (n == (b.mailboxes bx).puts && not (is_full (b.mailboxes bx))) _ later says).0 in
      let count : n ≡ (b.mailboxes bx).puts = eqb-true n (b.mailboxes bx).puts w.0 in
      let mail : m.mailboxes box ≡ b.mailboxes bx = booked.mail box ∙ ap (λ (z : BoxName). b.mailboxes z) same in (
        ap (λ (z : ℕ). Some (Put box z shape)) (ap (λ (z : Mailbox (List Token)). z.puts) mail ∙ sym count) ∙ ap Some q,
        ap (λ (z : Mailbox (List Token)). is_full z) mail ∙ not_true (is_full (b.mailboxes bx)) w.1,
      )
    where
      not_true : (z : Bool) → not z ≡ true → z ≡ false
      not_true true e = absurd (cc)
      not_true false e = refl

  -- a `put` that a full mailbox ends
  filled_now : (box : BoxName) (root : ℕ) (shape : List Token) (l : Lone) (why : EndCause) → End cause.Full ≡ End why → is_full (b.mailboxes box) ≡ true → (by_next set m t (Puts box root shape l)).act ≡ Some (End why)
  filled_now box root shape l why q full =
      ap (λ (z : Bool). (cond z (parted.acted (parted.with_lone m t (ended l cause.Full)) (End cause.Full)) (parted.puts (parted.with_lone m t (tree_left set.program root l)) box shape)).act) (ap (λ (z : Mailbox (List Token)). is_full z) (booked.mail box) ∙ full)
      ∙ ap Some q

  take_now : (box bx : BoxName) (n : ℕ) (l : Lone) (os : List Object) → box ≡ bx → (first : ℕ × List Token) (rest : List (ℕ × List Token)) → first.0 ≡ n → built set.program OfMessage l.next first.1 ≡ Some os →
      (parted.takes set m t box l first rest).act ≡ Some (Take bx n)
  take_now box bx n l os same first rest e is =
      ap (λ (o : Option (List Object)). (parted.takes_built m t box first.0 rest l o).act) is ∙ (ap (λ (z : ℕ). Some (Take box z)) e ∙ ap (λ (z : BoxName). Some (Take z n)) same)

  queue_is : (box bx : BoxName) (q : List (ℕ × List Token)) → box ≡ bx → (b.mailboxes bx).queue ≡ q → (m.mailboxes box).queue ≡ q
  queue_is box bx q same e = ap (λ (z : Mailbox (List Token)). z.queue) (booked.mail box) ∙ (ap (λ (z : BoxName). (b.mailboxes z).queue) same ∙ e)

  get_now : (box bx : BoxName) (n : ℕ) (l k : Lone) → tree_came box n l (built set.program OfMessage l.next (first_shape (b.mailboxes bx).queue)) ≡ Some (record { act = Take bx n; after = k }) → books_by b t c (Take bx n) ≡ Some later →
      ((parted.gets set m t box l (m.mailboxes box).queue).act ≡ Some (Take bx n)) × ((parted.probes set m t box l (m.mailboxes box).queue).act ≡ Some (Take bx n))
  unfolding box_of
  get_now box bx n l k e says =
      let w = came box n l (built set.program OfMessage l.next (first_shape (b.mailboxes bx).queue)) (Take bx n) k e in
      let same : box ≡ bx = same_Some _ _ (ap box_of w.2) in
      let f = taken_first b t c bx n (b.mailboxes bx).queue later says in
      let queue = queue_is box bx (f.0 ∷ f.1) same f.2 in
      let now = take_now box bx n l w.0 same f.0 f.1 f.3 (ap (λ (q : List (ℕ × List Token)). built set.program OfMessage l.next (first_shape q)) (sym f.2) ∙ w.1) in (
        ap (λ (q : List (ℕ × List Token)). (parted.gets set m t box l q).act) queue ∙ now,
        ap (λ (q : List (ℕ × List Token)). (parted.probes set m t box l q).act) queue ∙ now,
      )

  empty_now : (box bx : BoxName) (l : Lone) → Empty box ≡ Empty bx → books_by b t c (Empty bx) ≡ Some later → (parted.probes set m t box l (m.mailboxes box).queue).act ≡ Some (Empty bx)
  unfolding box_of
  empty_now box bx l q says =
      let same : box ≡ bx = same_Some _ _ (ap box_of q) in
      ap (λ (z : List (ℕ × List Token)). (parted.probes set m t box l z).act) (queue_is box bx [] same (empty_first b t c bx (b.mailboxes bx).queue later says).0) ∙ ap Some q

  start_now : (root : ℕ) (shape : List Token) (l : Lone) (n : ℕ) (s : List Token) → Start n shape ≡ Start n s → books_by b t c (Start n s) ≡ Some later → (new : Lone) → lone_begun set (Begun s) ≡ Some new →
      (parted.starts set m t root shape l).act ≡ Some (Start n s)
  unfolding shape_of_start
  start_now root shape l n s q says new begins =
      let same : shape ≡ s = ap shape_of_start q in
      let w = both_true (n == length b.courses) (nat_lt n task_limit) (cond_some (n == length b.courses && nat_lt n task_limit) _ later says).0 in
      let count : length m.lones ≡ n = booked.count ∙ sym (eqb-true n (length b.courses) w.0) in
      ap (λ (z : Bool). (cond z (parted.starts_with m (parted.with_lone m t (tree_left set.program root l)) shape (lone_begun set (Begun shape))) (parted.acted (parted.with_lone m t (ended l cause.Tasks)) (End cause.Tasks))).act)
      (ap (λ (z : ℕ). nat_lt z task_limit) count ∙ w.1)
      ∙ (ap (λ (o : Option Lone). (parted.starts_with m (parted.with_lone m t (tree_left set.program root l)) shape o).act) (ap (λ (z : List Token). lone_begun set (Begun z)) same ∙ begins)
      ∙ (ap (λ (z : ℕ). Some (Start z shape)) count ∙ ap Some q))

  full_now : (root : ℕ) (shape : List Token) (l : Lone) (why : EndCause) → End cause.Tasks ≡ End why → books_by b t c (End why) ≡ Some later → (parted.starts set m t root shape l).act ≡ Some (End why)
  full_now root shape l why q says =
      let w = (cond_none (is_tasks why && not (length b.courses == task_limit)) _ later says).0 in
      let tasks : is_tasks why ≡ true = ap tasks_of (sym q) in
      let full : (length b.courses == task_limit) ≡ true = not_false (length b.courses == task_limit) (ap (λ (z : Bool). z && not (length b.courses == task_limit)) (sym tasks) ∙ w) in
      let count : length m.lones ≡ task_limit = booked.count ∙ eqb-true (length b.courses) task_limit full in
      ap (λ (z : ℕ). (cond (nat_lt z task_limit) (parted.starts_with m (parted.with_lone m t (tree_left set.program root l)) shape (lone_begun set (Begun shape))) (parted.acted (parted.with_lone m t (ended l cause.Tasks)) (End cause.Tasks))).act) count
      ∙ ap Some q
    where
      tasks_of : Act → Bool
      tasks_of (End why) = is_tasks why
      tasks_of a = true

      not_false : (z : Bool) → not z ≡ false → z ≡ true
      not_false true e = refl
      not_false false e = absurd (cc)

  abbrev Starting : Act → Type 0
  Starting a = (n : ℕ) (shape : List Token) → a ≡ Start n shape → (new : Lone) × (lone_begun set (Begun shape) ≡ Some new)

  acts_now : (x : Next) (a : Act) (k : Lone) → Filling b x a → done_by set x (deed_of b a) ≡ Some (record { act = (deed_of b a).act; after = k }) → books_by b t c a ≡ Some later → Starting a → (by_next set m t x).act ≡ Some a
  acts_now (Goes l) a k fills e says starts = absurd (none-some _ e)
  acts_now (Puts box root shape l) (Put bx n s) k fills e says starts =
      let w = put_now box root shape l bx n s (did_act _ _ k _ e) says in
      ap (λ (z : Bool). (cond z (parted.acted (parted.with_lone m t (ended l cause.Full)) (End cause.Full)) (parted.puts (parted.with_lone m t (tree_left set.program root l)) box shape)).act) w.1 ∙ w.0
  acts_now (Puts box root shape l) (End why) k fills e says starts = filled_now box root shape l why (did_act _ _ k _ e) (fills box root shape l refl (sym (did_act _ _ k _ e)))
  acts_now (PutWaits box root shape l) (Put bx n s) k fills e says starts =
      let w = put_now box root shape l bx n s (did_act _ _ k _ e) says in
      ap (λ (z : Bool). (cond z (parted.quiet m) (parted.puts (parted.with_lone m t (tree_left set.program root l)) box shape)).act) w.1 ∙ w.0
  acts_now (PutWaits box root shape l) _ k fills e says starts = absurd (none-some _ e)
  acts_now (Bounds box most l) a k fills e says starts = ap Some (did_act _ _ k _ e ∙ deed_act b a)
  acts_now (Puts box root shape l) _ k fills e says starts = absurd (none-some _ e)
  acts_now (Gets box l) (Take bx n) k fills e says starts = (get_now box bx n l k e says).0
  acts_now (Gets box l) _ k fills e says starts = absurd (none-some _ e)
  acts_now (Probes box l) (Take bx n) k fills e says starts = (get_now box bx n l k e says).1
  acts_now (Probes box l) (Empty bx) k fills e says starts = empty_now box bx l (did_act _ _ k _ e) says
  acts_now (Probes box l) _ k fills e says starts = absurd (none-some _ e)
  acts_now (Starts root shape l) (Start n s) k fills e says starts = let w = starts n s refl in start_now root shape l n s (did_act _ _ k _ e) says w.0 w.1
  acts_now (Starts root shape l) (End why) k fills e says starts = full_now root shape l why (did_act _ _ k _ e) says
  acts_now (Starts root shape l) _ k fills e says starts = absurd (none-some _ e)
  acts_now (Prints token l) a k fills e says starts = ap Some (did_act _ _ k _ e ∙ deed_act b a)
  acts_now (Ends why l) a k fills e says starts = ap Some (did_act _ _ k _ e ∙ deed_act b a)
  acts_now Stands a k fills e says starts = absurd (none-some _ e)

-- ---- up to that deed

module _ (set : Setting) where
  -- one more act than moves without one
  pub record Acts (m : Parted) (t : ℕ) (a : Act) (n : ℕ) (later : Books) : Type 0 where
    pub mid : Parted
    pub acts : parted.acted_within set n m t ≡ Some (a, mid)
    pub booked : Booked set mid later

  goes_acts : (m : Parted) (t : ℕ) (l after : Lone) (a : Act) (n : ℕ) (later : Books) → slice_get m.lones t ≡ Some l → next_move set t l ≡ Goes after → Acts (parted.with_lone m t after) t a n later → Acts m t a (suc n) later
  unfolding parted.acted_within
  goes_acts m t l after a n later is e w = record {
    mid = w.mid;
    acts = ap (λ (p : Parting). parted.acted_or p.state t p.act (parted.acted_within set n p.state t)) (parts_by set m t l (Goes after) is e) ∙ w.acts;
    booked = w.booked;
  }

  now_acts : (m : Parted) (t : ℕ) (a : Act) (n : ℕ) (b later : Books) (c : Course) → slice_get b.courses t ≡ Some c → books_by b t c a ≡ Some later → KeepsBooks set b t (parts set m t).state (parts set m t).act → (parts set m t).act ≡ Some a → Acts m t a (suc n) later
  unfolding parted.acted_within
  now_acts m t a n b later c is_c says keeps e =
      let w = subst (λ (o : Option Act). KeepsBooks set b t (parts set m t).state o) e keeps in
      let same : w.0 ≡ later = same_Some _ _ (sym w.1 ∙ (ap (λ (o : Option Course). o >>= λ (z : Course). books_by b t z a) is_c ∙ says)) in
      record {
        mid = parted.noted (parts set m t).state t a;
        acts = ap (λ (o : Option Act). parted.acted_or (parts set m t).state t o (parted.acted_within set n (parts set m t).state t)) e;
        booked = booked_noted set (parts set m t).state t a later (subst (λ (z : Books). Booked set (parts set m t).state z) same w.2);
      }

  went_booked : (m : Parted) (b : Books) (t : ℕ) (l after : Lone) → slice_get m.lones t ≡ Some l → next_move set t l ≡ Goes after → Booked set m b → Booked set (parted.with_lone m t after) b
  went_booked m b t l after is e booked = subst (λ (p : Parting). KeepsBooks set b t p.state p.act) (parts_by set m t l (Goes after) is e) (step_booked set (no_own_tasks set) m b t booked)

  module _ (b later : Books) (t : ℕ) (c : Course) (is_c : slice_get b.courses t ≡ Some c) (a : Act) (says : books_by b t c a ≡ Some later) (last k : Lone)
      (does : done_by set (next_action set t last) (deed_of b a) ≡ Some (record { act = (deed_of b a).act; after = k })) (starts : (n : ℕ) (shape : List Token) → a ≡ Start n shape → (new : Lone) × (lone_begun set (Begun shape) ≡ Some new))
      (fills : Filling b (next_action set t last) a) where
    act_here : (m : Parted) (n : ℕ) (l : Lone) → Booked set m b → slice_get m.lones t ≡ Some l → Quiet set t last l → is_act (next_move set t l) ≡ true → Acts m t a (suc n) later
    act_here m n l booked is q act =
        let x = next_move set t l in
        let now = acts_now set m b booked t c later x a k (λ box root shape after is f. fills box root shape after (action_is set t last l x q refl act ∙ is) f) (ap (λ (y : Next). done_by set y (deed_of b a)) (sym (action_is set t last l x q refl act)) ∙ does) says starts in
        now_acts m t a n b later c is_c says (step_booked set (no_own_tasks set) m b t booked) (ap (λ (p : Parting). p.act) (parts_by set m t l x is refl) ∙ now)

    act_comes : (n : ℕ) (m : Parted) (l : Lone) → Booked set m b → slice_get m.lones t ≡ Some l → AreLeft set.limits.steps n l.thread → Quiet set t last l → Acts m t a (suc n) later
    act_comes zero m l booked is left q = elim (tells set t l) [
      | inl e ↦ absurd (none_after set t l e.0 left e.1)
      | inr e ↦ act_here m 0 l booked is q e
    ]
    act_comes (suc n) m l booked is left q = elim (tells set t l) [
      | inl e ↦ goes_acts m t l e.0 a (suc n) later is e.1
          (act_comes n (parted.with_lone m t e.0) e.0 (went_booked m b t l e.0 is e.1 booked) (set_there m.lones t l e.0 is) (left_after set t l e.0 n left e.1) (Moves l q e.1))
      | inr e ↦ act_here m (suc n) l booked is q e
    ]

  -- ---- all of a journal

  module _ (journal : List Entry) (v : Moving) (moved : MovedReplay set journal v) where
    lone_of_course : (t : ℕ) (cf : Course) → slice_get v.books.courses t ≡ Some cf → (k : Lone) × IsLone set t cf k
    lone_of_course t cf is =
        let k = get_some v.lones t (let lt = slice_get_within v.books.courses t cf is in let each = moved.each in omega (arith, lt, each)) in
        (k.0, moved.lones t cf k.0 is k.1)

    does_next : (b : Books) (t : ℕ) (c : Course) (last : Lone) → IsLone set t c last → (d : Deed) → Extends v.books t (further c d) → (k : Lone) × (done_by set (next_action set t last) d ≡ Some (record { act = d.act; after = k }))
    does_next b t c last is d w =
        let k = lone_of_course t w.course w.is in
        let e : w.course.deeds ≡ c.deeds ++ d ∷ w.more = w.deeds ∙ append_assoc c.deeds (d ∷ []) w.more in
        let u = up_to set t k.1.first k.0 c.deeds d w.more (subst (λ (ds : List Deed). Follows set t k.1.first ds k.0) e k.1.follows) in
        let mine : IsLone set t c u.0 = record { first = k.1.first; begins = ap (lone_begun set) (sym w.begins) ∙ k.1.begins; follows = u.1 } in
        (u.2, ap (λ (z : Lone). done_by set (next_action set t z) d) (one_lone set t c last u.0 is mine) ∙ u.3)

    begins_next : (b later : Books) (t : ℕ) (c : Course) (a : Act) (es : List Entry) → Grown b t c a later → books_from later es ≡ Some v.books → (n : ℕ) (shape : List Token) → a ≡ Start n shape → (new : Lone) × (lone_begun set (Begun shape) ≡ Some new)
    begins_next b later t c a es g rest n shape e =
        let w = grows es later v.books rest (length b.courses) (record { beginning = Begun shape; deeds = [] }) (g.begins n shape e) in
        let k = lone_of_course (length b.courses) w.course w.is in
        (k.1.first, ap (lone_begun set) (sym w.begins) ∙ k.1.begins)

    pub back : (es : List Entry) (m : Parted) (b : Books) → Booked set m b → FullSaid set b es → books_from b es ≡ Some v.books → (apart : Parted) × PartedReplays set m es apart
    back [] m b booked full says = (m, refl)
    back (e ∷ es) m b booked full says =
        let w = entered b e es v.books says in
        let g = grown b e.task w.course w.is e.act w.later w.by in
        let l = get_some m.lones e.task (let lt = slice_get_within b.courses e.task w.course w.is in let count = booked.count in omega (arith, lt, count)) in
        let of = booked.each e.task l.0 w.course l.1 w.is in
        let ext = grows es w.later v.books w.rest e.task (further w.course (deed_of b e.act)) g.there in
        let does = does_next b e.task w.course of.last of.is (deed_of b e.act) ext in
        let acts = act_comes b w.later e.task w.course w.is e.act w.by of.last does.0 does.1 (begins_next b w.later e.task w.course e.act es g w.rest) (λ box root shape after is act. full.0 act w.course w.is of.last of.is box root shape after is) set.limits.steps m l.0 booked l.1 (all_left set.limits.steps l.0.thread) of.quiet in
        let r = back es acts.mid w.later acts.booked (full.1 w.later (ap (λ (o : Option Course). o >>= λ (z : Course). books_by b e.task z e.act) w.is ∙ w.by)) w.rest in
        (r.0, (suc set.limits.steps, acts.mid, acts.acts, r.1))
