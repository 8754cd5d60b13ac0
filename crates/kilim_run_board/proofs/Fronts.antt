-- The front of a journal that can be replayed can be replayed; and a mailbox that gets a bound there is new.
use Rattle.std.proofs.Common.{◌≡◌, ℕ, zero, suc, ◌<◌, ◌&&◌, not, ◌==◌, nat_lt, List, [], ◌∷◌, ◌++◌, Option, Some, refl, sym, ap, subst, ◌∙◌, inl, inr, arith, length, append_assoc}
use Rattle.std.specs.Prelude.{slice_get}
use Rattle.std.proofs.lemmas.Bool.Decides.{nat_tests}
use Rattle.std.proofs.lemmas.List.{append-nil}
use Rattle.kilim_lemmas.proofs.Lists.{set_there, get_front}
use Rattle.kilim_program.specs.declared.names.BoxName.{BoxName}
use Rattle.kilim_program.specs.Names.{◌>>=◌}
use Rattle.kilim_run_state.specs.declared.value.Token.{Token}
use Rattle.kilim_run_journal.specs.declared.entry.Act.{Act}
use Rattle.kilim_run_journal.specs.declared.entry.Act.TheVariants.{Put, Take, Empty, Start, Print, End, Wait, Bound}
use Rattle.kilim_run_journal.specs.declared.entry.Entry.{Entry}
use Rattle.kilim_run_model.specs.State.{Setting, with_message, with_queue, with_mailbox, bounded, is_full}
use Rattle.kilim_run_model.specs.Lone.{Lone, Next, Goes, Puts, PutWaits, Bounds, Gets, Probes, Starts, Prints, Ends, Stands}
use Rattle.kilim_run_model.specs.Course.{Course, Done, IsLone, Follows, done_by, next_action, plain}
use Rattle.kilim_run_model.specs.Turn.{task_limit}
use Rattle.kilim_run_model.specs.declared.deed.Deed.{Deed}
use Rattle.kilim_run_model.specs.declared.deed.Beginning.TheVariants.{Begun}
use Rattle.kilim_run_model.specs.Moving.{Books, Moving, MovedReplay, FullSaid, further, with_deed, is_tasks, books_taken, books_empty, books_by, books_after, books_from, first_books}
use Rattle.kilim_run_board.specs.NewBounds.{IsNowhere, BoundsAreNew}
use Rattle.kilim_run_board.proofs.Queues.{if_some, if_none, bind_some}
use Rattle.kilim_run_board.proofs.Replays.{some_injective}
use Rattle.kilim_run_board.proofs.waiting.Lists.{get_set_other, got_within}
use Rattle.kilim_run_board.proofs.waiting.Names.{both_ways}

-- ---- a course that goes on

abbrev Grows : Course → Course → Type 0
Grows c c' = (more : List Deed) × (c' ≡ record { beginning = c.beginning; deeds = c.deeds ++ more })

grows_not : (c : Course) → Grows c c
grows_not c = ([], ap (λ ds. record { beginning = c.beginning; deeds = ds }) (sym (append-nil c.deeds)))

grows_twice : (a b c : Course) → Grows a b → Grows b c → Grows a c
grows_twice a b c f g =
    (f.0 ++ g.0, g.1 ∙ (ap (λ (x : Course). record { beginning = x.beginning; deeds = x.deeds ++ g.0 }) f.1 ∙ ap (λ ds. record { beginning = a.beginning; deeds = ds }) (append_assoc a.deeds f.0 g.0)))

-- what an entry adds to the course of its task
pub record Adds (b last : Books) (t : ℕ) (c : Course) (a : Act) : Type 0 where
  pub deed : Deed
  pub act : deed.act ≡ a
  pub there : (u : ℕ) (x : Course) → slice_get (with_deed b.courses t c deed) u ≡ Some x → slice_get last.courses u ≡ Some x

module _ (b last : Books) (t : ℕ) (c : Course) where
  abbrev In : Deed → Books → Type 0
  In d y = (u : ℕ) (x : Course) → slice_get (with_deed b.courses t c d) u ≡ Some x → slice_get y.courses u ≡ Some x

  adds_is : (a : Act) (d : Deed) (y : Books) → d.act ≡ a → In d y → y ≡ last → Adds b last t c a
  adds_is a d y same in-y e = record { deed = d; act = same; there = subst (In d) e in-y }

  some_is : (x y : Books) → Some x ≡ Some y → x ≡ y
  some_is x y e = cc

  take_adds : (box : BoxName) (n : ℕ) (q : List (ℕ × List Token)) → books_taken b t c box n q ≡ Some last → Adds b last t c (Take box n)
  take_adds box n [] e = absurd (cc)
  take_adds box n (first ∷ rest) e =
      let d : Deed = record { act = Take box n; taken = first.1 } in
      let y : Books = record { courses = with_deed b.courses t c d; mailboxes = with_mailbox b.mailboxes box (with_queue (b.mailboxes box) rest) } in
      adds_is (Take box n) d y refl (λ u x g. g) (if_some (first.0 == n) y last e).1

  empty_adds : (box : BoxName) (q : List (ℕ × List Token)) → books_empty b t c box q ≡ Some last → Adds b last t c (Empty box)
  empty_adds box [] e = let y : Books = record { courses = with_deed b.courses t c (plain (Empty box)); mailboxes = b.mailboxes } in adds_is (Empty box) (plain (Empty box)) y refl (λ u x g. g) (some_is y last e)
  empty_adds box (first ∷ rest) e = absurd (cc)

  adds : (a : Act) → books_by b t c a ≡ Some last → Adds b last t c a
  adds (Put box n shape) e =
      let y : Books = record { courses = with_deed b.courses t c (plain (Put box n shape)); mailboxes = with_mailbox b.mailboxes box (with_message (b.mailboxes box) shape) } in
      adds_is (Put box n shape) (plain (Put box n shape)) y refl (λ u x g. g) (if_some (n == (b.mailboxes box).puts && not (is_full (b.mailboxes box))) y last e).1
  adds (Take box n) e = take_adds box n (b.mailboxes box).queue e
  adds (Empty box) e = empty_adds box (b.mailboxes box).queue e
  adds (Start n shape) e =
      let new : Course = record { beginning = Begun shape; deeds = [] } in
      let y : Books = record { courses = with_deed b.courses t c (plain (Start n shape)) ++ new ∷ []; mailboxes = b.mailboxes } in
      adds_is (Start n shape) (plain (Start n shape)) y refl (λ u x g. get_front (with_deed b.courses t c (plain (Start n shape))) (new ∷ []) u (got_within (with_deed b.courses t c (plain (Start n shape))) u x g) ∙ g)
      (if_some (n == length b.courses && nat_lt n task_limit) y last e).1
  adds (Print shape) e = let y : Books = record { courses = with_deed b.courses t c (plain (Print shape)); mailboxes = b.mailboxes } in adds_is (Print shape) (plain (Print shape)) y refl (λ u x g. g) (some_is y last e)
  adds (End why) e =
      let y : Books = record { courses = with_deed b.courses t c (plain (End why)); mailboxes = b.mailboxes } in
      adds_is (End why) (plain (End why)) y refl (λ u x g. g) (if_none (is_tasks why && not (length b.courses == task_limit)) y last e)
  adds (Wait box) e = absurd (cc)
  adds (Bound box n) e =
      let y : Books = record { courses = with_deed b.courses t c (plain (Bound box n)); mailboxes = with_mailbox b.mailboxes box (bounded (b.mailboxes box) n) } in adds_is (Bound box n) (plain (Bound box n)) y refl (λ u x g. g) (some_is y last e)

abbrev GrowsIn : Books → ℕ → Course → Type 0
GrowsIn last u x = (y : Course) × (slice_get last.courses u ≡ Some y) × Grows x y

entry_grows : (b last : Books) (t : ℕ) (c : Course) (a : Act) → slice_get b.courses t ≡ Some c → Adds b last t c a → (u : ℕ) (x : Course) → slice_get b.courses u ≡ Some x → GrowsIn last u x
entry_grows b last t c a there-c add u x there-x = elim (both_ways (u == t)) [
  | inl is ↦
      let same : u ≡ t = grind (arith, nat_tests) in
      let same-c : c ≡ x = some_injective c x (sym there-c ∙ (ap (slice_get b.courses) (sym same) ∙ there-x)) in
      let now : slice_get last.courses u ≡ Some (further c add.deed) = add.there u (further c add.deed) (ap (slice_get (with_deed b.courses t c add.deed)) same ∙ set_there b.courses t c (further c add.deed) there-c) in
      (further c add.deed, now, subst (λ (z : Course). Grows z (further c add.deed)) same-c (add.deed ∷ [], refl))
  | inr isnt ↦ (x, add.there u x (get_set_other b.courses t u (further c add.deed) isnt ∙ there-x), grows_not x)
]

all_grow : (es : List Entry) (b last : Books) → books_from b es ≡ Some last → (u : ℕ) (x : Course) → slice_get b.courses u ≡ Some x → GrowsIn last u x
all_grow [] b last e u x there = (x, ap (λ (z : Books). slice_get z.courses u) (sym (some_injective b last e)) ∙ there, grows_not x)
all_grow (entry ∷ es) b last e u x there =
    let first = bind_some (books_after b entry) (λ (mid : Books). books_from mid es) last e in
    let course = bind_some (slice_get b.courses entry.task) (λ (z : Course). books_by b entry.task z entry.act) first.0 first.1 in
    let g : GrowsIn first.0 u x = entry_grows b first.0 entry.task course.0 entry.act course.1 (adds b first.0 entry.task course.0 entry.act course.2) u x there in
    let h : GrowsIn last u g.0 = all_grow es first.0 last first.2 u g.0 g.1 in
    (h.0, h.1, grows_twice x g.0 h.0 g.2 h.2)

-- ---- its thread before

record Split (set : Setting) (t : ℕ) (l last : Lone) (ds more : List Deed) : Type 0 where
  mid : Lone
  front : Follows set t l ds mid
  rest : Follows set t mid more last

follows_front : (set : Setting) (t : ℕ) (l last : Lone) (ds more : List Deed) → Follows set t l (ds ++ more) last → Split set t l last ds more
follows_front set t l last [] more f = record { mid = l; front = refl; rest = f }
follows_front set t l last (d ∷ ds) more (next, done, rest) = let r = follows_front set t next last ds more rest in record { mid = r.mid; front = (next, done, r.front); rest = r.rest }

record Before (set : Setting) (t : ℕ) (c : Course) (more : List Deed) (last : Lone) : Type 0 where
  lone : Lone
  is : IsLone set t c lone
  rest : Follows set t lone more last

lone_before : (set : Setting) (t : ℕ) (c : Course) (more : List Deed) (l : Lone) → IsLone set t (record { beginning = c.beginning; deeds = c.deeds ++ more }) l → Before set t c more l
lone_before set t c more l is = let r = follows_front set t is.first l c.deeds more is.follows in record { lone = r.mid; is = record { first = is.first; begins = is.begins; follows = r.front }; rest = r.rest }

-- the deed that comes next
next_deed : (set : Setting) (t : ℕ) (l last : Lone) (d : Deed) → Follows set t l (d ∷ []) last → (mid : Lone) × (done_by set (next_action set t l) d ≡ Some (record { act = d.act; after = mid }))
next_deed set t l last d (mid, done, rest) = (mid, done)

abbrev AreEach : (ℕ → Course → Lone → Type 0) → List Course → List Lone → Type 0
AreEach P cs ls = (u : ℕ) (c : Course) (l : Lone) → slice_get cs u ≡ Some c → slice_get ls u ≡ Some l → P u c l

each_more : (P : ℕ → Course → Lone → Type 0) (c : Course) (cs : List Course) (l : Lone) (ls : List Lone) → P 0 c l → AreEach (λ u. P (suc u)) cs ls → AreEach P (c ∷ cs) (l ∷ ls)
each_more P c cs l ls p all zero x y e g = subst (λ z. P 0 z y) (some_injective c x e) (subst (λ z. P 0 c z) (some_injective l y g) p)
each_more P c cs l ls p all (suc u) x y e g = all u x y e g

lones_of : (P : ℕ → Course → Lone → Type 0) (cs : List Course) → ((u : ℕ) (c : Course) → slice_get cs u ≡ Some c → (l : Lone) × P u c l) → (ls : List Lone) × (length ls ≡ length cs) × AreEach P cs ls
lones_of P [] each = ([], refl, λ u c l e g. absurd (cc))
lones_of P (c ∷ cs) each =
    let first = each 0 c refl in
    let rest = lones_of (λ u. P (suc u)) cs (λ u x e. each (suc u) x e) in
    (first.0 ∷ rest.0, ap suc rest.1, each_more P c cs first.0 rest.0 first.1 rest.2)

pub full_front : (set : Setting) (es more : List Entry) (b : Books) → FullSaid set b (es ++ more) → FullSaid set b es
full_front set [] more b full = tt
full_front set (e ∷ es) more b full = (full.0, λ mid goes. full_front set es more mid (full.1 mid goes))

-- ---- the state to which the front of a journal leads

module _ (set : Setting) (before : List Entry) (mid : Books) (more : List Entry) (s : Moving) (front : books_from first_books before ≡ Some mid) (rest : books_from mid more ≡ Some s.books) (full : FullSaid set first_books before)
    (each : length s.lones ≡ length s.books.courses) (lones : (t : ℕ) (c : Course) (l : Lone) → slice_get s.books.courses t ≡ Some c → slice_get s.lones t ≡ Some l → IsLone set t c l) where
  -- the thread of a course at the end
  last_lone : (u : ℕ) (y : Course) → slice_get s.books.courses u ≡ Some y → (l : Lone) × IsLone set u y l
  last_lone u y there =
      let within = got_within s.books.courses u y there in
      let l = some_lone s.lones u (omega (arith, within, each)) in
      (l.0, lones u y l.0 there l.1)
    where
      some_lone : (ls : List Lone) (k : ℕ) → k < length ls → (l : Lone) × (slice_get ls k ≡ Some l)
      some_lone [] k lt = absurd (omega arith)
      some_lone (x ∷ ls) zero lt = (x, refl)
      some_lone (x ∷ ls) (suc k) lt = some_lone ls k (omega arith)

  front_lone : (u : ℕ) (c : Course) → slice_get mid.courses u ≡ Some c → (l : Lone) × IsLone set u c l
  front_lone u c there =
      let g : GrowsIn s.books u c = all_grow more mid s.books rest u c there in
      let l = last_lone u g.0 g.1 in
      let m = lone_before set u c g.2.0 l.0 (subst (λ (z : Course). IsLone set u z l.0) g.2.1 l.1) in
      (m.lone, m.is)

  front_replay : (m : Moving) × (m.books ≡ mid) × MovedReplay set before m
  front_replay =
      let ls = lones_of (λ u c l. IsLone set u c l) mid.courses front_lone in
      (record { books = mid; lones = ls.0 }, refl, record { books = front; full = full; each = ls.1; lones = ls.2 })

books_apart : (es more : List Entry) (b last : Books) → books_from b (es ++ more) ≡ Some last → (mid : Books) × (books_from b es ≡ Some mid) × (books_from mid more ≡ Some last)
books_apart [] more b last e = (b, refl, e)
books_apart (entry ∷ es) more b last e =
    let first = bind_some (books_after b entry) (λ (mid : Books). books_from mid (es ++ more)) last e in
    let r = books_apart es more first.0 last first.2 in
    (r.0, ap (λ (o : Option Books). o >>= λ (mid : Books). books_from mid es) first.1 ∙ r.1, r.2)

-- what is replayed is so of each front too
pub front_replays : (set : Setting) (es more : List Entry) (v : Moving) → MovedReplay set (es ++ more) v → (m : Moving) × MovedReplay set es m
front_replays set es more v r =
    let a = books_apart es more first_books v.books r.books in
    let f = front_replay set es a.0 more v a.1 a.2 (full_front set es more first_books r.full) r.each r.lones in
    (f.0, f.2)

-- ---- a bound

abbrev act_box : BoxName → Act → BoxName
act_box other (Bound box n) = box
act_box other a = other

abbrev act_most : ℕ → Act → ℕ
act_most other (Bound box n) = n
act_most other a = other

bound_next : (set : Setting) (x : Next) (box : BoxName) (n : ℕ) (taken : List Token) (after : Lone) → done_by set x (record { act = Bound box n; taken = taken }) ≡ Some (record { act = Bound box n; after = after }) → (l : Lone) × (x ≡ Bounds box n l)
bound_next set (Goes l) box n taken after e = absurd (cc)
bound_next set (Puts other root shape l) box n taken after e = absurd (cc)
bound_next set (PutWaits other root shape l) box n taken after e = absurd (cc)
bound_next set (Bounds other most l) box n taken after e =
    let same : Bound other most ≡ Bound box n = ap (λ (x : Done). x.act) (some_injective (record { act = Bound other most; after = l }) (record { act = Bound box n; after = after }) e) in
    (l, ap (λ z. Bounds z most l) (ap (act_box other) same) ∙ ap (λ z. Bounds box z l) (ap (act_most most) same))
bound_next set (Gets other l) box n taken after e = absurd (cc)
bound_next set (Probes other l) box n taken after e = absurd (cc)
bound_next set (Starts root shape l) box n taken after e = absurd (cc)
bound_next set (Prints token l) box n taken after e = absurd (let h = ap (λ (x : Done). x.act) (some_injective (record { act = Print (token ∷ []); after = l }) (record { act = Bound box n; after = after }) e) in cc)
bound_next set (Ends why l) box n taken after e = absurd (let h = ap (λ (x : Done). x.act) (some_injective (record { act = End why; after = l }) (record { act = Bound box n; after = after }) e) in cc)
bound_next set Stands box n taken after e = absurd (cc)

module _ (set : Setting) (new : BoundsAreNew set) (before : List Entry) (e : Entry) (after : List Entry) (mid : Books) (s : Moving) (front : books_from first_books before ≡ Some mid) (rest : books_from mid (e ∷ after) ≡ Some s.books) (full : FullSaid set first_books before) (each : length s.lones ≡ length s.books.courses)
    (lones : (t : ℕ) (c : Course) (l : Lone) → slice_get s.books.courses t ≡ Some c → slice_get s.lones t ≡ Some l → IsLone set t c l) where
  pub first_bound : (box : BoxName) (n : ℕ) → e.act ≡ Bound box n → IsNowhere box before
  first_bound box n is =
      let first = bind_some (books_after mid e) (λ (z : Books). books_from z after) s.books rest in
      let course = bind_some (slice_get mid.courses e.task) (λ (z : Course). books_by mid e.task z e.act) first.0 first.1 in
      let c = course.0 in
      let add = adds mid first.0 e.task c e.act course.2 in
      let d : Deed = record { act = Bound box n; taken = add.deed.taken } in
      let is-d : add.deed ≡ d = λ i. record { act = (add.act ∙ is) i; taken = add.deed.taken } in
      let there : slice_get first.0.courses e.task ≡ Some (further c add.deed) = add.there e.task (further c add.deed) (set_there mid.courses e.task c (further c add.deed) course.1) in
      let g : GrowsIn s.books e.task (further c add.deed) = all_grow after first.0 s.books first.2 e.task (further c add.deed) there in
      let l = last_lone set before mid (e ∷ after) s front rest full each lones e.task g.0 g.1 in
      let m = lone_before set e.task (further c add.deed) g.2.0 l.0 (subst (λ (z : Course). IsLone set e.task z l.0) g.2.1 l.1) in
      let k = lone_before set e.task c (add.deed ∷ []) m.lone m.is in
      let next = next_deed set e.task k.lone m.lone add.deed k.rest in
      let done : done_by set (next_action set e.task k.lone) d ≡ Some (record { act = Bound box n; after = next.0 }) = subst (λ (z : Deed). done_by set (next_action set e.task k.lone) z ≡ Some (record { act = z.act; after = next.0 })) is-d next.1 in
      let x = bound_next set (next_action set e.task k.lone) box n add.deed.taken next.0 done in
      let r = front_replay set before mid (e ∷ after) s front rest full each lones in
      (new before r.0 r.2 e.task c k.lone (ap (λ (z : Books). slice_get z.courses e.task) r.1 ∙ course.1) k.is box n x.0 x.1).0
