-- The books of a merged list of entries, entry by entry.
use Rattle.std.proofs.Common.{◌≡◌, ◌≢◌, ℕ, zero, suc, ◌+◌, ◌-◌, ◌<◌, ◌≤◌, Bool, true, false, ◌==◌, nat_lt, cond, List, [], ◌∷◌, ◌++◌, append-nil, append_assoc, Option, Some, None, refl, sym, ap, subst, ◌∙◌, ◌⊎◌, inl, inr, arith}
use Rattle.std.specs.Prelude.{◌||◌, ◌&&◌, not, if◌then◌else◌, length, slice_get, slice_set, map, filter}
use Rattle.std.proofs.lemmas.Bool.Decides.{nat_tests}
use Rattle.kilim_run_state.specs.declared.cause.EndCause.{EndCause}
use Rattle.kilim_run_state.specs.declared.cause.EndCause.TheVariants as cause
use Rattle.kilim_program.specs.declared.names.BoxName.{BoxName}
use Rattle.kilim_run_state.specs.declared.value.Object.{Object}
use Rattle.kilim_run_state.specs.declared.value.Token.{Token}
use Rattle.kilim_program.specs.Program.{Program}
use Rattle.kilim_program.specs.Names.{◌>>=◌}
use Rattle.kilim_run_state.specs.Trees.{OfMessage, built}
use Rattle.kilim_run_journal.specs.declared.entry.Act.{Act}
use Rattle.kilim_run_journal.specs.declared.entry.Act.TheVariants.{Put, Take, Empty, Start, Print, End, Wait, Bound}
use Rattle.kilim_run_journal.specs.declared.entry.Entry.{Entry}
use Rattle.kilim_lemmas.proofs.Lists.{set_there, set_other, set_length, get_front, get_last, get_some}
use Rattle.kilim_run_model.specs.State.{Setting, Mailbox, empty_mailbox, with_message, with_queue, with_mailbox, bounded, is_full, same_box}
use Rattle.kilim_run_model.specs.Lone.{Lone, Next, Goes, Puts, PutWaits, Bounds, Gets, Probes, Starts, Prints, Ends, Stands}
use Rattle.kilim_run_model.specs.Turn.{task_limit}
use Rattle.kilim_run_model.specs.Course.{Course, plain, IsLone, Follows, next_action, done_by, Done, puts_deed, fills_deed, takes_deed, probes_deed, starts_deed, tree_came}
use Rattle.kilim_run_model.specs.declared.deed.Deed.{Deed}
use Rattle.kilim_run_model.specs.declared.deed.Beginning.{Beginning}
use Rattle.kilim_run_model.specs.declared.deed.Beginning.TheVariants.{Boot, Begun}
use Rattle.kilim_run_model.specs.Moving.{Books, Moving, MovedReplay, first_books, further, with_deed, books_put, books_taken, books_empty, books_by, books_after, books_from, is_tasks, FullHere, FullSaid}
use Rattle.kilim_mail_stamps.specs.declared.stamped.Stamped.{Stamped}
use Rattle.kilim_mail_stamps.specs.Stamps.{is_of, is_full_end, box_in, is_that, is_on, is_starting, is_registered, mail_put, mail_taken, mail_empty, mail_after, MailFrom, Registers, RegisterFrom, Birth, born_by, starts_in, births_in, put_shape, shape_put, deed_in, deeds_in, course_in, Tells, TellsAll, IsLater}
use Rattle.kilim_mail_stamps.specs.Leading.{RunsTo}
use Rattle.kilim_mail_stamps.proofs.Order.{both_ways, From, Ordered, start_from, kept, passed}

pub some_is : {A : Type 0} (x y : A) → Some x ≡ Some y → x ≡ y
some_is x y e = cc

pub both_true : (a b : Bool) → (a && b) ≡ true → (a ≡ true) × (b ≡ true)
both_true true b e = (refl, e)
both_true false b e = absurd (cc)

named : ℕ → ℕ → BoxName
named t n = record { task = t; number = n }

pub same_name : (a b : BoxName) → same_box a b ≡ true → a ≡ b
unfolding named
same_name a b e = by (a.task == b.task) refl (a.number == b.number) refl
  where
    by : (x : Bool) → (a.task == b.task) ≡ x → (y : Bool) → (a.number == b.number) ≡ y → a ≡ b
    by true ex true ey =
        let s : a.task ≡ b.task = grind (arith, nat_tests) in
        let n : a.number ≡ b.number = grind (arith, nat_tests) in
        ap (λ (k : ℕ). named k a.number) s ∙ ap (λ (k : ℕ). named b.task k) n
    by true ex false ey = absurd (let h : false ≡ true = sym (ap (λ (z : Bool). z && (a.number == b.number)) ex ∙ ey) ∙ e in cc)
    by false ex y ey = absurd (let h : false ≡ true = sym (ap (λ (z : Bool). z && (a.number == b.number)) ex) ∙ e in cc)

pub same_self : (a : BoxName) → same_box a a ≡ true
same_self a = let t : (a.task == a.task) ≡ true = grind (arith, nat_tests) in let n : (a.number == a.number) ≡ true = grind (arith, nat_tests) in ap (λ (z : Bool). z && (a.number == a.number)) t ∙ n

-- ---- no thread makes an entry of these kinds

abbrev AnAct : Act → Type 0
AnAct (Wait box) = ⊥
AnAct act = Unit {0}

module _ (p : Program) where
  came_acts : (box : BoxName) (n : ℕ) (l : Lone) (o : Option (List Object)) (x : Done) → tree_came box n l o ≡ Some x → AnAct x.act
  came_acts box n l None x e = absurd (cc)
  came_acts box n l (Some objects) x e = subst (λ (y : Done). AnAct y.act) (some_is _ x e) tt

  takes_acts : (box : BoxName) (l : Lone) (d : Deed) (act : Act) (x : Done) → takes_deed p box l d act ≡ Some x → AnAct x.act
  takes_acts box l d (Take b n) x e = came_acts box n l (built p OfMessage l.next d.taken) x e
  takes_acts box l d act x e = absurd (cc)

  probes_acts : (box : BoxName) (l : Lone) (d : Deed) (act : Act) (x : Done) → probes_deed p box l d act ≡ Some x → AnAct x.act
  probes_acts box l d (Empty b) x e = subst (λ (y : Done). AnAct y.act) (some_is _ x e) tt
  probes_acts box l d (Take b n) x e = takes_acts box l d (Take b n) x e
  probes_acts box l d act x e = absurd (cc)

  puts_acts : (box : BoxName) (root : ℕ) (shape : List Token) (l : Lone) (act : Act) (x : Done) → puts_deed p box root shape l act ≡ Some x → AnAct x.act
  puts_acts box root shape l (Put b n s) x e = subst (λ (y : Done). AnAct y.act) (some_is _ x e) tt
  puts_acts box root shape l act x e = absurd (cc)

  fills_acts : (box : BoxName) (root : ℕ) (shape : List Token) (l : Lone) (act : Act) (x : Done) → fills_deed p box root shape l act ≡ Some x → AnAct x.act
  fills_acts box root shape l (Put b n s) x e = subst (λ (y : Done). AnAct y.act) (some_is _ x e) tt
  fills_acts box root shape l (End why) x e = subst (λ (y : Done). AnAct y.act) (some_is _ x e) tt
  fills_acts box root shape l act x e = absurd (cc)

  starts_acts : (root : ℕ) (shape : List Token) (l : Lone) (act : Act) (x : Done) → starts_deed p root shape l act ≡ Some x → AnAct x.act
  starts_acts root shape l (Start n s) x e = subst (λ (y : Done). AnAct y.act) (some_is _ x e) tt
  starts_acts root shape l (End why) x e = subst (λ (y : Done). AnAct y.act) (some_is _ x e) tt
  starts_acts root shape l act x e = absurd (cc)

done_acts : (set : Setting) (n : Next) (d : Deed) (x : Done) → done_by set n d ≡ Some x → AnAct x.act
done_acts set (Goes l) d x e = absurd (cc)
done_acts set (Puts box root shape l) d x e = fills_acts set.program box root shape l d.act x e
done_acts set (PutWaits box root shape l) d x e = puts_acts set.program box root shape l d.act x e
done_acts set (Bounds box most l) d x e = subst (λ (y : Done). AnAct y.act) (some_is _ x e) tt
done_acts set (Gets box l) d x e = takes_acts set.program box l d d.act x e
done_acts set (Probes box l) d x e = probes_acts set.program box l d d.act x e
done_acts set (Starts root shape l) d x e = starts_acts set.program root shape l d.act x e
done_acts set (Prints token l) d x e = subst (λ (y : Done). AnAct y.act) (some_is _ x e) tt
done_acts set (Ends why l) d x e = subst (λ (y : Done). AnAct y.act) (some_is _ x e) tt
done_acts set Stands d x e = absurd (cc)

-- each deed of a course is one of a thread
follow_acts : (set : Setting) (t : ℕ) (l last : Lone) (ds : List Deed) (d : Deed) (es : List Deed) → Follows set t l (ds ++ d ∷ es) last → AnAct d.act
follow_acts set t l last [] d es (mid, done, rest) = done_acts set (next_action set t l) d _ done
follow_acts set t l last (x ∷ ds) d es (mid, done, rest) = follow_acts set t mid last ds d es rest

-- ---- the books with what is to come

module _ (all : List Stamped) where
  -- the waiting messages have the shapes that were put
  abbrev pub Known : BoxName → List (ℕ × List Token) → Type 0
  Known box [] = Unit {0}
  Known box (q ∷ qs) = (shape_put box q.0 all ≡ q.1) × Known box qs

  abbrev pub KnownPut : Act → Type 0
  KnownPut (Put box n shape) = shape_put box n all ≡ shape
  KnownPut act = Unit {0}

  abbrev pub KnownPuts : List Stamped → Type 0
  KnownPuts [] = Unit {0}
  KnownPuts (s ∷ ss) = KnownPut s.entry.act × KnownPuts ss

  pub known_pushed : (box : BoxName) (qs : List (ℕ × List Token)) (n : ℕ) (shape : List Token) → Known box qs → shape_put box n all ≡ shape → Known box (qs ++ (n, shape) ∷ [])
  known_pushed box [] n shape k e = (e, tt)
  known_pushed box (q ∷ qs) n shape (h, k) e = (h, known_pushed box qs n shape k e)

-- `fin` are the courses, `last` the mailboxes and `tasks` the number of tasks at the end.
module _ (set : Setting) (all : List Stamped) (fin : ℕ → Course) (last : BoxName → Mailbox (List Token)) (tasks : ℕ) where
  -- the course is that of a thread, and the one at the end
  abbrev pub LeadsBy : ℕ → Course → Type 0
  LeadsBy t c = (l : Lone) × IsLone set t c l × (c ≡ fin t)

  -- the same of the course with what the task does in the rest
  abbrev pub Leads : ℕ → Course → List Stamped → Type 0
  Leads t c rest = LeadsBy t (record { beginning = c.beginning; deeds = c.deeds ++ deeds_in all t rest })

  abbrev pub RunAt : BoxName → Mailbox (List Token) → List Stamped → Type 0
  RunAt box m es = RunsTo m es (last box)

  pub record Going (b : Books) (rest : List Stamped) : Type 0 where
    pub ordered : Ordered rest
    pub boxes : (box : BoxName) → RunAt box (b.mailboxes box) (filter (is_on box) rest)
    pub known : (box : BoxName) → Known all box (b.mailboxes box).queue
    pub puts : KnownPuts all rest
    pub register : RegisterFrom (length b.courses) (filter is_registered rest)
    pub many : length b.courses + length (starts_in rest) ≡ tasks
    pub born : (t : ℕ) (c : Course) → slice_get b.courses t ≡ Some c → Leads t c rest
    pub unborn : (i t : ℕ) (x : Birth) → t ≡ length b.courses + i → slice_get (starts_in rest) i ≡ Some x →
        Leads t (record { beginning = x.beginning; deeds = [] }) rest × IsLater x.stamp (filter (is_of t) rest) × ((n : ℕ) × (x.stamp ≡ Some n))
    pub told : (t : ℕ) (c : Course) → slice_get b.courses t ≡ Some c → TellsAll set all t c (filter (is_of t) rest)
    pub tells : (i t : ℕ) (x : Birth) → t ≡ length b.courses + i → slice_get (starts_in rest) i ≡ Some x → TellsAll set all t (record { beginning = x.beginning; deeds = [] }) (filter (is_of t) rest)
    pub others : (i t : ℕ) → t ≡ length b.courses + i → slice_get (starts_in rest) i ≡ None → filter (is_of t) rest ≡ []

  -- one mailbox is another, and the others are as they were
  with_at : (P : BoxName → Mailbox (List Token) → Type 0) (ms : BoxName → Mailbox (List Token)) (box : BoxName) (m : Mailbox (List Token)) → P box m → ((b : BoxName) → same_box b box ≡ false → P b (ms b)) →
      (b : BoxName) → P b (with_mailbox ms box m b)
  with_at P ms box m here there b = by (same_box b box) refl
    where
      by : (x : Bool) → same_box b box ≡ x → P b (with_mailbox ms box m b)
      by true e = subst (λ (x : Bool). P b (if x then m else ms b)) (sym e) (subst (λ (y : BoxName). P y m) (sym (same_name b box e)) here)
      by false e = subst (λ (x : Bool). P b (if x then m else ms b)) (sym e) (there b e)

  abbrev stamped_as : ℕ → Option BoxName → ℕ → Act → Stamped
  stamped_as s full t act = record { stamp = s; full = full; entry = record { task = t; act = act } }

  module _ (s : ℕ) (full : Option BoxName) (t : ℕ) (act : Act) (rest : List Stamped) where
    -- another task does nothing here
    skips : (u : ℕ) → u ≢ t → filter (is_of u) (stamped_as s full t act ∷ rest) ≡ filter (is_of u) rest
    skips u ne = passed (is_of u) (stamped_as s full t act) rest (by (t == u) refl)
      where
        by : (x : Bool) → (t == u) ≡ x → (t == u) ≡ false
        by true e = absurd (ne (let h : u ≡ t = grind (arith, nat_tests) in h))
        by false e = e

    leads_past : (u : ℕ) (c : Course) → u ≢ t → Leads u c (stamped_as s full t act ∷ rest) → Leads u c rest
    leads_past u c ne lead = subst (λ (es : List Stamped). LeadsBy u (record { beginning = c.beginning; deeds = c.deeds ++ map (λ (x : Stamped). deed_in all x.entry.act) es })) (skips u ne) lead

    here : filter (is_of t) (stamped_as s full t act ∷ rest) ≡ stamped_as s full t act ∷ filter (is_of t) rest
    here = kept (is_of t) (stamped_as s full t act) rest (let h : (t == t) ≡ true = grind (arith, nat_tests) in h)

    leads_here : (c : Course) → Leads t c (stamped_as s full t act ∷ rest) → Leads t (further c (deed_in all act)) rest
    leads_here c lead =
        let e : c.deeds ++ deeds_in all t (stamped_as s full t act ∷ rest) ≡ c.deeds ++ (deed_in all act ∷ deeds_in all t rest) = ap (λ (es : List Stamped). c.deeds ++ map (λ (x : Stamped). deed_in all x.entry.act) es) here in
        subst (λ (ds : List Deed). LeadsBy t (record { beginning = c.beginning; deeds = ds })) (e ∙ sym (append_assoc c.deeds (deed_in all act ∷ []) (deeds_in all t rest))) lead

    module _ (b : Books) (going : Going b (stamped_as s full t act ∷ rest)) where
      -- its task has begun
      task_below : t < length b.courses
      task_below = by (nat_lt t (length b.courses)) refl
        where
          at : (i : ℕ) → t ≡ length b.courses + i → (o : Option Birth) → slice_get (starts_in (stamped_as s full t act ∷ rest)) i ≡ o → ⊥
          at i e None is = let h : stamped_as s full t act ∷ filter (is_of t) rest ≡ [] = sym here ∙ going.others i t e is in absurd (cc)
          at i e (Some x) is =
              let u = going.unborn i t x e is in
              let n = u.2 in
              let later : IsLater (Some n.0) (stamped_as s full t act ∷ filter (is_of t) rest) = subst (λ (es : List Stamped). IsLater (Some n.0) es) here (subst (λ (o : Option ℕ). IsLater o (filter (is_of t) (stamped_as s full t act ∷ rest))) n.1 u.1) in
              let le : s ≤ n.0 = start_from s (stamped_as s full t act ∷ rest) i x n.0 ((let h : s ≤ s = omega arith in h), going.ordered.0) is n.1 in
              let lt : n.0 < s = later in
              omega arith

          by : (x : Bool) → nat_lt t (length b.courses) ≡ x → t < length b.courses
          by true e = grind (arith, nat_tests)
          by false e =
              let le : length b.courses ≤ t = grind (arith, nat_tests) in
              let i : (i : ℕ) × (t ≡ length b.courses + i) = (t - length b.courses, omega arith) in
              absurd (at i.0 i.1 (slice_get (starts_in (stamped_as s full t act ∷ rest)) i.0) refl)

      module _ (c : Course) (there : slice_get b.courses t ≡ Some c) where
        born_set : (u : ℕ) (c' : Course) → slice_get (with_deed b.courses t c (deed_in all act)) u ≡ Some c' → Leads u c' rest
        born_set u c' is = by (u == t) refl
          where
            by : (x : Bool) → (u == t) ≡ x → Leads u c' rest
            by true e =
                let same : u ≡ t = grind (arith, nat_tests) in
                let f : slice_get (with_deed b.courses t c (deed_in all act)) t ≡ Some c' = ap (slice_get (with_deed b.courses t c (deed_in all act))) (sym same) ∙ is in
                let g : further c (deed_in all act) ≡ c' = some_is (further c (deed_in all act)) c' (sym (set_there b.courses t c (further c (deed_in all act)) there) ∙ f) in
                subst (λ (n : ℕ). Leads n c' rest) (sym same) (subst (λ (x : Course). Leads t x rest) g (leads_here c (going.born t c there)))
            by false e =
                let ne : u ≢ t = λ same. absurd (let h : (u == t) ≡ true = grind (arith, nat_tests) in let k : true ≡ false = sym h ∙ e in cc) in
                leads_past u c' ne (going.born u c' (sym (set_other b.courses t u (further c (deed_in all act)) ne) ∙ is))

        told_set : (u : ℕ) (c' : Course) → slice_get (with_deed b.courses t c (deed_in all act)) u ≡ Some c' → TellsAll set all u c' (filter (is_of u) rest)
        told_set u c' is = by (u == t) refl
          where
            by : (x : Bool) → (u == t) ≡ x → TellsAll set all u c' (filter (is_of u) rest)
            by true e =
                let same : u ≡ t = grind (arith, nat_tests) in
                let f : slice_get (with_deed b.courses t c (deed_in all act)) t ≡ Some c' = ap (slice_get (with_deed b.courses t c (deed_in all act))) (sym same) ∙ is in
                let g : further c (deed_in all act) ≡ c' = some_is (further c (deed_in all act)) c' (sym (set_there b.courses t c (further c (deed_in all act)) there) ∙ f) in
                let told : Tells set t c full act × TellsAll set all t (further c (deed_in all act)) (filter (is_of t) rest) = subst (λ (es : List Stamped). TellsAll set all t c es) here (going.told t c there) in
                subst (λ (n : ℕ). TellsAll set all n c' (filter (is_of n) rest)) (sym same) (subst (λ (x : Course). TellsAll set all t x (filter (is_of t) rest)) g told.1)
            by false e =
                let ne : u ≢ t = λ same. absurd (let h : (u == t) ≡ true = grind (arith, nat_tests) in let k : true ≡ false = sym h ∙ e in cc) in
                subst (λ (es : List Stamped). TellsAll set all u c' es) (skips u ne) (going.told u c' (sym (set_other b.courses t u (further c (deed_in all act)) ne) ∙ is))

        tells_past : (n i u : ℕ) (x : Birth) → n ≡ length b.courses → u ≡ n + i → slice_get (starts_in (stamped_as s full t act ∷ rest)) i ≡ Some x → TellsAll set all u (record { beginning = x.beginning; deeds = [] }) (filter (is_of u) rest)
        tells_past n i u x same e is =
            let lt = task_below in
            let ne : u ≢ t = λ h. absurd (omega arith) in
            let f : u ≡ length b.courses + i = omega arith in
            subst (λ (es : List Stamped). TellsAll set all u (record { beginning = x.beginning; deeds = [] }) es) (skips u ne) (going.tells i u x f is)

        same_length : length (with_deed b.courses t c (deed_in all act)) ≡ length b.courses
        same_length = set_length b.courses t (further c (deed_in all act))

        -- tasks that begin later do nothing here
        unborn_past : (n i u : ℕ) (x : Birth) → n ≡ length b.courses → u ≡ n + i → slice_get (starts_in (stamped_as s full t act ∷ rest)) i ≡ Some x →
            Leads u (record { beginning = x.beginning; deeds = [] }) rest × IsLater x.stamp (filter (is_of u) rest) × ((k : ℕ) × (x.stamp ≡ Some k))
        unborn_past n i u x same e is =
            let lt = task_below in
            let ne : u ≢ t = λ h. absurd (omega arith) in
            let f : u ≡ length b.courses + i = omega arith in
            let o = going.unborn i u x f is in
            (leads_past u (record { beginning = x.beginning; deeds = [] }) ne o.0, subst (λ (es : List Stamped). IsLater x.stamp es) (skips u ne) o.1, o.2)

        others_past : (n i u : ℕ) → n ≡ length b.courses → u ≡ n + i → slice_get (starts_in (stamped_as s full t act ∷ rest)) i ≡ None → filter (is_of u) rest ≡ []
        others_past n i u same e is =
            let lt = task_below in
            let ne : u ≢ t = λ h. absurd (omega arith) in
            let f : u ≡ length b.courses + i = omega arith in
            sym (skips u ne) ∙ going.others i u f is

        -- an act that starts isnt task and isn't the register's
        abbrev Same : Type 0
        Same = (starts_in (stamped_as s full t act ∷ rest) ≡ starts_in rest)

        -- the books after an act that starts isnt task, with these mailboxes
        going_on : (ms : BoxName → Mailbox (List Token)) → starts_in (stamped_as s full t act ∷ rest) ≡ starts_in rest → RegisterFrom (length b.courses) (filter is_registered rest) →
            ((box : BoxName) → RunAt box (ms box) (filter (is_on box) rest)) → ((box : BoxName) → Known all box (ms box).queue) →
            Going (record { courses = with_deed b.courses t c (deed_in all act); mailboxes = ms }) rest
        going_on ms starts register boxes known = record {
          ordered = going.ordered.1;
          boxes = boxes;
          known = known;
          puts = going.puts.1;
          register = subst (λ (n : ℕ). RegisterFrom n (filter is_registered rest)) (sym same_length) register;
          many = (let m = going.many in let l = same_length in let e : length (starts_in (stamped_as s full t act ∷ rest)) ≡ length (starts_in rest) = ap length starts in omega arith);
          born = born_set;
          unborn = λ i u x e is. unborn_past (length (with_deed b.courses t c (deed_in all act))) i u x same_length e (ap (λ (xs : List Birth). slice_get xs i) starts ∙ is);
          told = told_set;
          tells = λ i u x e is. tells_past (length (with_deed b.courses t c (deed_in all act))) i u x same_length e (ap (λ (xs : List Birth). slice_get xs i) starts ∙ is);
          others = λ i u e is. others_past (length (with_deed b.courses t c (deed_in all act))) i u same_length e (ap (λ (xs : List Birth). slice_get xs i) starts ∙ is);
        }

        -- an act that names isnt mailbox
        boxes_past : ((box : BoxName) → is_on box (stamped_as s full t act) ≡ false) → (box : BoxName) → RunAt box (b.mailboxes box) (filter (is_on box) rest)
        boxes_past none box = subst (λ (es : List Stamped). RunAt box (b.mailboxes box) es) (passed (is_on box) (stamped_as s full t act) rest (none box)) (going.boxes box)

        register_past : is_starting act ≡ false → RegisterFrom (length b.courses) (filter is_registered rest)
        register_past isnt = subst (λ (es : List Stamped). RegisterFrom (length b.courses) es) (passed is_registered (stamped_as s full t act) rest isnt) going.register

        module _ (box : BoxName) (on : (x : BoxName) → is_on x (stamped_as s full t act) ≡ same_box x box) where
          -- what the act makes of its mailbox
          at_box : (m : Mailbox (List Token)) × (mail_after (b.mailboxes box) act ≡ Some m) × RunAt box m (filter (is_on box) rest)
          at_box = subst (λ (es : List Stamped). RunAt box (b.mailboxes box) es) (kept (is_on box) (stamped_as s full t act) rest (on box ∙ same_self box)) (going.boxes box)

          elsewhere : (x : BoxName) → same_box x box ≡ false → RunAt x (b.mailboxes x) (filter (is_on x) rest)
          elsewhere x isnt = subst (λ (es : List Stamped). RunAt x (b.mailboxes x) es) (passed (is_on x) (stamped_as s full t act) rest (on x ∙ isnt)) (going.boxes x)

          boxes_with : (m : Mailbox (List Token)) → mail_after (b.mailboxes box) act ≡ Some m → (x : BoxName) → RunAt x (with_mailbox b.mailboxes box m x) (filter (is_on x) rest)
          boxes_with m e = with_at (λ x y. RunAt x y (filter (is_on x) rest)) b.mailboxes box m (subst (λ (y : Mailbox (List Token)). RunAt box y (filter (is_on box) rest)) (some_is at_box.0 m (sym at_box.1 ∙ e)) at_box.2) elsewhere

          boxes_same : mail_after (b.mailboxes box) act ≡ Some (b.mailboxes box) → (x : BoxName) → RunAt x (b.mailboxes x) (filter (is_on x) rest)
          boxes_same e x = by (same_box x box) refl
            where
              by : (y : Bool) → same_box x box ≡ y → RunAt x (b.mailboxes x) (filter (is_on x) rest)
              by true same = subst (λ (z : BoxName). RunAt z (b.mailboxes z) (filter (is_on z) rest)) (sym (same_name x box same)) (subst (λ (y : Mailbox (List Token)). RunAt box y (filter (is_on box) rest)) (some_is at_box.0 (b.mailboxes box) (sym at_box.1 ∙ e)) at_box.2)
              by false isnt = elsewhere x isnt

  -- the books go on by an entry
  abbrev NextBooks : Books → Stamped → List Stamped → Type 0
  NextBooks b x rest = (after : Books) × (books_after b x.entry ≡ Some after) × Going after rest

  module _ (s : ℕ) (full : Option BoxName) (t : ℕ) (rest : List Stamped) (b : Books) (c : Course) (there : slice_get b.courses t ≡ Some c) where
    by_course : (act : Act) (after : Books) → books_by b t c act ≡ Some after → books_after b (record { task = t; act = act }) ≡ Some after
    by_course act after e = ap (λ (o : Option Course). o >>= λ (x : Course). books_by b t x act) there ∙ e

    put_goes : (box : BoxName) (n : ℕ) (shape : List Token) → Going b (stamped_as s full t (Put box n shape) ∷ rest) → NextBooks b (stamped_as s full t (Put box n shape)) rest
    put_goes box n shape going = by (n == (b.mailboxes box).puts && not (is_full (b.mailboxes box))) refl
      where
        m : (m : Mailbox (List Token)) × (mail_after (b.mailboxes box) (Put box n shape) ≡ Some m) × RunAt box m (filter (is_on box) rest)
        m = at_box s full t (Put box n shape) rest b going c there box (λ x. refl)

        by : (x : Bool) → (n == (b.mailboxes box).puts && not (is_full (b.mailboxes box))) ≡ x → NextBooks b (stamped_as s full t (Put box n shape)) rest
        by true e =
            let front : (n == (b.mailboxes box).puts) ≡ true = (both_true (n == (b.mailboxes box).puts) (not (is_full (b.mailboxes box))) e).0 in
            let same : n ≡ (b.mailboxes box).puts = grind (arith, nat_tests) in
            let now : mail_after (b.mailboxes box) (Put box n shape) ≡ Some (with_message (b.mailboxes box) shape) = ap (λ (x : Bool). if x then Some (with_message (b.mailboxes box) shape) else None) e in
            let is : books_by b t c (Put box n shape) ≡ Some (record { courses = with_deed b.courses t c (plain (Put box n shape)); mailboxes = with_mailbox b.mailboxes box (with_message (b.mailboxes box) shape) }) =
            ap (λ (x : Bool). if x then Some (record { courses = with_deed b.courses t c (plain (Put box n shape)); mailboxes = with_mailbox b.mailboxes box (with_message (b.mailboxes box) shape) }) else None) e in
            let shown : shape_put box (b.mailboxes box).puts all ≡ shape = ap (λ (k : ℕ). shape_put box k all) (sym same) ∙ going.puts.0 in (
              _,
              by_course (Put box n shape) _ is,
              going_on s full t (Put box n shape) rest b going c there (with_mailbox b.mailboxes box (with_message (b.mailboxes box) shape)) refl (register_past s full t (Put box n shape) rest b going c there refl)
                  (boxes_with s full t (Put box n shape) rest b going c there box (λ x. refl) (with_message (b.mailboxes box) shape) now)
                  (with_at (λ x y. Known all x y.queue) b.mailboxes box (with_message (b.mailboxes box) shape) (known_pushed all box (b.mailboxes box).queue (b.mailboxes box).puts shape (going.known box) shown) (λ x isnt. going.known x)),
            )
        by false e = absurd (let h : None ≡ Some m.0 = sym (ap (λ (x : Bool). if x then Some (with_message (b.mailboxes box) shape) else None) e) ∙ m.1 in cc)

    bound_goes : (box : BoxName) (n : ℕ) → Going b (stamped_as s full t (Bound box n) ∷ rest) → NextBooks b (stamped_as s full t (Bound box n)) rest
    bound_goes box n going = (
      _,
      by_course (Bound box n) _ refl,
      going_on s full t (Bound box n) rest b going c there (with_mailbox b.mailboxes box (bounded (b.mailboxes box) n)) refl (register_past s full t (Bound box n) rest b going c there refl)
          (boxes_with s full t (Bound box n) rest b going c there box (λ x. refl) (bounded (b.mailboxes box) n) refl)
          (with_at (λ x y. Known all x y.queue) b.mailboxes box (bounded (b.mailboxes box) n) (going.known box) (λ x isnt. going.known x)),
    )

    take_goes : (box : BoxName) (n : ℕ) → Going b (stamped_as s full t (Take box n) ∷ rest) → NextBooks b (stamped_as s full t (Take box n)) rest
    take_goes box n going = by_queue (b.mailboxes box).queue refl
      where
        m : (m : Mailbox (List Token)) × (mail_after (b.mailboxes box) (Take box n) ≡ Some m) × RunAt box m (filter (is_on box) rest)
        m = at_box s full t (Take box n) rest b going c there box (λ x. refl)

        by : (first : ℕ × List Token) (left : List (ℕ × List Token)) → (b.mailboxes box).queue ≡ first ∷ left → (x : Bool) → (first.0 == n) ≡ x → NextBooks b (stamped_as s full t (Take box n)) rest
        by first left q true e =
            let same : first.0 ≡ n = grind (arith, nat_tests) in
            let now : mail_after (b.mailboxes box) (Take box n) ≡ Some (with_queue (b.mailboxes box) left) =
            ap (mail_taken (b.mailboxes box) n) q ∙ ap (λ (x : Bool). if x then Some (with_queue (b.mailboxes box) left) else None) e in
            let known : Known all box (first ∷ left) = subst (λ (qs : List (ℕ × List Token)). Known all box qs) q (going.known box) in
            let shown : first.1 ≡ shape_put box n all = sym (ap (λ (k : ℕ). shape_put box k all) (sym same) ∙ known.0) in
            let is : books_by b t c (Take box n) ≡ Some (record { courses = with_deed b.courses t c (record { act = Take box n; taken = first.1 }); mailboxes = with_mailbox b.mailboxes box (with_queue (b.mailboxes box) left) }) =
            ap (books_taken b t c box n) q ∙ ap (λ (x : Bool). if x then Some (record { courses = with_deed b.courses t c (record { act = Take box n; taken = first.1 }); mailboxes = with_mailbox b.mailboxes box (with_queue (b.mailboxes box) left) }) else None) e in
            let is' : books_by b t c (Take box n) ≡ Some (record { courses = with_deed b.courses t c (deed_in all (Take box n)); mailboxes = with_mailbox b.mailboxes box (with_queue (b.mailboxes box) left) }) =
            is ∙ ap (λ (shape : List Token). Some (record { courses = with_deed b.courses t c (record { act = Take box n; taken = shape }); mailboxes = with_mailbox b.mailboxes box (with_queue (b.mailboxes box) left) })) shown in (
              _,
              by_course (Take box n) _ is',
              going_on s full t (Take box n) rest b going c there (with_mailbox b.mailboxes box (with_queue (b.mailboxes box) left)) refl (register_past s full t (Take box n) rest b going c there refl)
                  (boxes_with s full t (Take box n) rest b going c there box (λ x. refl) (with_queue (b.mailboxes box) left) now)
                  (with_at (λ x y. Known all x y.queue) b.mailboxes box (with_queue (b.mailboxes box) left) known.1 (λ x isnt. going.known x)),
            )
        by first left q false e = absurd (let h : None ≡ Some m.0 = sym (ap (mail_taken (b.mailboxes box) n) q ∙ ap (λ (x : Bool). if x then Some (with_queue (b.mailboxes box) left) else None) e) ∙ m.1 in cc)

        by_queue : (qs : List (ℕ × List Token)) → (b.mailboxes box).queue ≡ qs → NextBooks b (stamped_as s full t (Take box n)) rest
        by_queue [] q = absurd (let h : None ≡ Some m.0 = sym (ap (mail_taken (b.mailboxes box) n) q) ∙ m.1 in cc)
        by_queue (first ∷ left) q = by first left q (first.0 == n) refl

    empty_goes : (box : BoxName) → Going b (stamped_as s full t (Empty box) ∷ rest) → NextBooks b (stamped_as s full t (Empty box)) rest
    empty_goes box going = by_queue (b.mailboxes box).queue refl
      where
        m : (m : Mailbox (List Token)) × (mail_after (b.mailboxes box) (Empty box) ≡ Some m) × RunAt box m (filter (is_on box) rest)
        m = at_box s full t (Empty box) rest b going c there box (λ x. refl)

        by_queue : (qs : List (ℕ × List Token)) → (b.mailboxes box).queue ≡ qs → NextBooks b (stamped_as s full t (Empty box)) rest
        by_queue [] q = (
          _,
          by_course (Empty box) _ (ap (books_empty b t c box) q),
          going_on s full t (Empty box) rest b going c there b.mailboxes refl (register_past s full t (Empty box) rest b going c there refl)
              (boxes_same s full t (Empty box) rest b going c there box (λ x. refl) (ap (mail_empty (b.mailboxes box)) q)) going.known,
        )
        by_queue (first ∷ left) q = absurd (let h : None ≡ Some m.0 = sym (ap (mail_empty (b.mailboxes box)) q) ∙ m.1 in cc)

    print_goes : (shape : List Token) → Going b (stamped_as s full t (Print shape) ∷ rest) → NextBooks b (stamped_as s full t (Print shape)) rest
    print_goes shape going = (
      _,
      by_course (Print shape) _ refl,
      going_on s full t (Print shape) rest b going c there b.mailboxes refl (register_past s full t (Print shape) rest b going c there refl) (boxes_past s full t (Print shape) rest b going c there (λ x. refl)) going.known,
    )

    -- an end leaves the mailboxes as they are, also that of an end at a full one
    end_boxes : (why : EndCause) (going : Going b (stamped_as s full t (End why) ∷ rest)) → (o : Option BoxName) → box_in full (End why) ≡ o → (x : BoxName) → RunAt x (b.mailboxes x) (filter (is_on x) rest)
    end_boxes why going None e = boxes_past s full t (End why) rest b going c there (λ x. ap (is_that x) e)
    end_boxes why going (Some box) e = boxes_same s full t (End why) rest b going c there box on (by (is_full (b.mailboxes box)) refl)
      where
        on : (x : BoxName) → is_on x (stamped_as s full t (End why)) ≡ same_box x box
        on x = ap (is_that x) e

        m : (m : Mailbox (List Token)) × (mail_after (b.mailboxes box) (End why) ≡ Some m) × RunAt box m (filter (is_on box) rest)
        m = at_box s full t (End why) rest b going c there box on

        by : (x : Bool) → is_full (b.mailboxes box) ≡ x → mail_after (b.mailboxes box) (End why) ≡ Some (b.mailboxes box)
        by true f = ap (λ (x : Bool). if x then Some (b.mailboxes box) else None) f
        by false f = absurd (let h : None ≡ Some m.0 = sym (ap (λ (x : Bool). if x then Some (b.mailboxes box) else None) f) ∙ m.1 in cc)

    end_goes : (why : EndCause) → Going b (stamped_as s full t (End why) ∷ rest) → NextBooks b (stamped_as s full t (End why)) rest
    end_goes why going = by (is_tasks why) refl
      where
        boxes : (x : BoxName) → RunAt x (b.mailboxes x) (filter (is_on x) rest)
        boxes = end_boxes why going (box_in full (End why)) refl

        by : (x : Bool) → is_tasks why ≡ x → NextBooks b (stamped_as s full t (End why)) rest
        by true e =
            let r : Registers (length b.courses) (End why) (λ n. RegisterFrom n (filter is_registered rest)) = subst (λ (es : List Stamped). RegisterFrom (length b.courses) es) (kept is_registered (stamped_as s full t (End why)) rest e) going.register in
            let many : (length b.courses == task_limit) ≡ true = (let h : length b.courses ≡ task_limit = r.0 in grind (arith, nat_tests)) in
            let is : books_by b t c (End why) ≡ Some (record b { courses = with_deed b.courses t c (plain (End why)) }) =
            ap (λ (x : Bool). if x && not (length b.courses == task_limit) then None else Some (record b { courses = with_deed b.courses t c (plain (End why)) })) e
            ∙ ap (λ (x : Bool). if not x then None else Some (record b { courses = with_deed b.courses t c (plain (End why)) })) many in
            (_, by_course (End why) _ is, going_on s full t (End why) rest b going c there b.mailboxes refl r.1 boxes going.known)
        by false e =
            let is : books_by b t c (End why) ≡ Some (record b { courses = with_deed b.courses t c (plain (End why)) }) =
            ap (λ (x : Bool). if x && not (length b.courses == task_limit) then None else Some (record b { courses = with_deed b.courses t c (plain (End why)) })) e in
            (_, by_course (End why) _ is, going_on s full t (End why) rest b going c there b.mailboxes refl (register_past s full t (End why) rest b going c there e) boxes going.known)

    -- an end at a full mailbox comes at one
    full_here : (act : Act) (going : Going b (stamped_as s full t act ∷ rest)) → FullHere set b (record { task = t; act = act })
    full_here act going e c' got l is box root shape after next =
        let same : c ≡ c' = some_is c c' (sym there ∙ got) in
        let told : Tells set t c full act × TellsAll set all t (further c (deed_in all act)) (filter (is_of t) rest) = subst (λ (es : List Stamped). TellsAll set all t c es) (here s full t act rest) (going.told t c there) in
        let f : full ≡ Some box = told.0 e l (subst (λ (x : Course). IsLone set t x l) (sym same) is) box root shape after next in
        let on : (x : BoxName) → is_on x (stamped_as s full t act) ≡ same_box x box = λ x. ap (λ (a : Act). is_that x (box_in full a)) e ∙ ap (is_that x) f in
        let m = at_box s full t act rest b going c there box on in
        by m.0 (sym (ap (mail_after (b.mailboxes box)) e) ∙ m.1) (is_full (b.mailboxes box)) refl
      where
        by : (m : Mailbox (List Token)) → mail_after (b.mailboxes box) (End cause.Full) ≡ Some m → (x : Bool) → is_full (b.mailboxes box) ≡ x → is_full (b.mailboxes box) ≡ true
        by m after true f = f
        by m after false f = absurd (let h : None ≡ Some m = sym (ap (λ (x : Bool). if x then Some (b.mailboxes box) else None) f) ∙ after in cc)

    length_more : {A : Type 0} (xs : List A) (y : A) → length (xs ++ y ∷ []) ≡ suc (length xs)
    length_more [] y = refl
    length_more (x ∷ xs) y = ap suc (length_more xs y)

    within : {A : Type 0} (xs : List A) (k : ℕ) (x : A) → slice_get xs k ≡ Some x → k < length xs
    within [] k x e = absurd (cc)
    within (z ∷ zs) zero x e = omega arith
    within (z ∷ zs) (suc k) x e = let h = within zs k x e in omega arith

    start_goes : (n : ℕ) (shape : List Token) → Going b (stamped_as s full t (Start n shape) ∷ rest) → NextBooks b (stamped_as s full t (Start n shape)) rest
    start_goes n shape going = (
      _,
      by_course (Start n shape) _ is,
      record {
        ordered = going.ordered.1;
        boxes = boxes_past s full t (Start n shape) rest b going c there (λ x. refl);
        known = going.known;
        puts = going.puts.1;
        register = subst (λ (k : ℕ). RegisterFrom k (filter is_registered rest)) (sym long) r.2;
        many = (let m : length b.courses + suc (length (starts_in rest)) ≡ tasks = going.many in let l = long in omega arith);
        born = born;
        unborn = λ i u x e got. unborn_past s full t (Start n shape) rest b going c there (length b.courses) (suc i) u x refl (let l = long in let h : u ≡ length b.courses + suc i = omega arith in h) got;
        told = told;
        tells = λ i u x e got. tells_past s full t (Start n shape) rest b going c there (length b.courses) (suc i) u x refl (let l = long in let h : u ≡ length b.courses + suc i = omega arith in h) got;
        others = λ i u e got. others_past s full t (Start n shape) rest b going c there (length b.courses) (suc i) u refl (let l = long in let h : u ≡ length b.courses + suc i = omega arith in h) got;
      },
    )
      where
        r : (n ≡ length b.courses) × (length b.courses < task_limit) × RegisterFrom (suc (length b.courses)) (filter is_registered rest)
        r = going.register

        old : List Course
        old = with_deed b.courses t c (plain (Start n shape))

        new : Course
        new = record { beginning = Begun shape; deeds = [] }

        is : books_by b t c (Start n shape) ≡ Some (record b { courses = with_deed b.courses t c (plain (Start n shape)) ++ record { beginning = Begun shape; deeds = [] } ∷ [] })
        is =
            let x : (n == length b.courses) ≡ true = (let h = r.0 in grind (arith, nat_tests)) in
            let same : n ≡ length b.courses = r.0 in
            let y : nat_lt n task_limit ≡ true = (let h : length b.courses < task_limit = r.1 in grind (arith, nat_tests)) in
            ap (λ (z : Bool). if z && nat_lt n task_limit then Some (record b { courses = with_deed b.courses t c (plain (Start n shape)) ++ record { beginning = Begun shape; deeds = [] } ∷ [] }) else None) x
            ∙ ap (λ (z : Bool). if z then Some (record b { courses = with_deed b.courses t c (plain (Start n shape)) ++ record { beginning = Begun shape; deeds = [] } ∷ [] }) else None) y

        old_length : length (with_deed b.courses t c (plain (Start n shape))) ≡ length b.courses
        old_length = same_length s full t (Start n shape) rest b going c there

        long : length (with_deed b.courses t c (plain (Start n shape)) ++ record { beginning = Begun shape; deeds = [] } ∷ []) ≡ suc (length b.courses)
        long = length_more (with_deed b.courses t c (plain (Start n shape))) (record { beginning = Begun shape; deeds = [] }) ∙ ap suc old_length

        born : (u : ℕ) (c' : Course) → slice_get (with_deed b.courses t c (plain (Start n shape)) ++ record { beginning = Begun shape; deeds = [] } ∷ []) u ≡ Some c' → Leads u c' rest
        born u c' got = by (nat_lt u (length b.courses)) refl
          where
            by : (x : Bool) → nat_lt u (length b.courses) ≡ x → Leads u c' rest
            by true e =
                let lt : u < length b.courses = grind (arith, nat_tests) in
                let l = old_length in
                born_set s full t (Start n shape) rest b going c there u c' (sym (get_front (with_deed b.courses t c (plain (Start n shape))) (record { beginning = Begun shape; deeds = [] } ∷ []) u (omega arith)) ∙ got)
            by false e =
                let le : length b.courses ≤ u = grind (arith, nat_tests) in
                let w = within (with_deed b.courses t c (plain (Start n shape)) ++ record { beginning = Begun shape; deeds = [] } ∷ []) u c' got in
                let l = long in
                let k = old_length in
                let at : u ≡ length (with_deed b.courses t c (plain (Start n shape))) = omega arith in
                let at' : u ≡ length b.courses + 0 = omega arith in
                let f : record { beginning = Begun shape; deeds = [] } ≡ c' = some_is _ c' (sym (get_last (with_deed b.courses t c (plain (Start n shape))) (record { beginning = Begun shape; deeds = [] })) ∙ (ap (slice_get (with_deed b.courses t c (plain (Start n shape)) ++ record { beginning = Begun shape; deeds = [] } ∷ [])) (sym at) ∙ got)) in
                subst (λ (x : Course). Leads u x rest) f
                (unborn_past s full t (Start n shape) rest b going c there (length b.courses) 0 u (record { stamp = Some s; beginning = Begun shape }) refl at' refl).0

        told : (u : ℕ) (c' : Course) → slice_get (with_deed b.courses t c (plain (Start n shape)) ++ record { beginning = Begun shape; deeds = [] } ∷ []) u ≡ Some c' → TellsAll set all u c' (filter (is_of u) rest)
        told u c' got = by (nat_lt u (length b.courses)) refl
          where
            by : (x : Bool) → nat_lt u (length b.courses) ≡ x → TellsAll set all u c' (filter (is_of u) rest)
            by true e =
                let lt : u < length b.courses = grind (arith, nat_tests) in
                let l = old_length in
                told_set s full t (Start n shape) rest b going c there u c' (sym (get_front (with_deed b.courses t c (plain (Start n shape))) (record { beginning = Begun shape; deeds = [] } ∷ []) u (omega arith)) ∙ got)
            by false e =
                let le : length b.courses ≤ u = grind (arith, nat_tests) in
                let w = within (with_deed b.courses t c (plain (Start n shape)) ++ record { beginning = Begun shape; deeds = [] } ∷ []) u c' got in
                let l = long in
                let k = old_length in
                let at : u ≡ length (with_deed b.courses t c (plain (Start n shape))) = omega arith in
                let at' : u ≡ length b.courses + 0 = omega arith in
                let f : record { beginning = Begun shape; deeds = [] } ≡ c' = some_is _ c' (sym (get_last (with_deed b.courses t c (plain (Start n shape))) (record { beginning = Begun shape; deeds = [] })) ∙ (ap (slice_get (with_deed b.courses t c (plain (Start n shape)) ++ record { beginning = Begun shape; deeds = [] } ∷ [])) (sym at) ∙ got)) in
                subst (λ (x : Course). TellsAll set all u x (filter (is_of u) rest)) f
                (tells_past s full t (Start n shape) rest b going c there (length b.courses) 0 u (record { stamp = Some s; beginning = Begun shape }) refl at' refl)

    step_by : (act : Act) → AnAct (deed_in all act).act → Going b (stamped_as s full t act ∷ rest) → NextBooks b (stamped_as s full t act) rest
    step_by (Put box n shape) is going = put_goes box n shape going
    step_by (Take box n) is going = take_goes box n going
    step_by (Empty box) is going = empty_goes box going
    step_by (Start n shape) is going = start_goes n shape going
    step_by (Print shape) is going = print_goes shape going
    step_by (End why) is going = end_goes why going
    step_by (Wait box) is going = absurd is
    step_by (Bound box n) is going = bound_goes box n going

  -- what a thread does is an act
  is_act : (s : ℕ) (full : Option BoxName) (t : ℕ) (act : Act) (rest : List Stamped) (c : Course) → Leads t c (stamped_as s full t act ∷ rest) → AnAct (deed_in all act).act
  is_act s full t act rest c (l, is, same) =
      follow_acts set t is.first l c.deeds (deed_in all act) (deeds_in all t rest)
      (subst (λ (es : List Stamped). Follows set t is.first (c.deeds ++ map (λ (x : Stamped). deed_in all x.entry.act) es) l) (here s full t act rest) is.follows)

  step : (b : Books) (x : Stamped) (rest : List Stamped) → Going b (x ∷ rest) → NextBooks b x rest × FullHere set b x.entry
  step b x rest going =
      let lt = task_below x.stamp x.full x.entry.task x.entry.act rest b going in
      let c = get_some b.courses x.entry.task lt in (
        step_by x.stamp x.full x.entry.task rest b c.0 c.1 x.entry.act (is_act x.stamp x.full x.entry.task x.entry.act rest c.0 (going.born x.entry.task c.0 c.1)) going,
        full_here x.stamp x.full x.entry.task rest b c.0 c.1 x.entry.act going,
      )

  pub goes : (b : Books) (rest : List Stamped) → Going b rest → (last : Books) × (books_from b (map (λ (x : Stamped). x.entry) rest) ≡ Some last) × Going last [] × FullSaid set b (map (λ (x : Stamped). x.entry) rest)
  goes b [] going = (b, refl, going, tt)
  goes b (x ∷ rest) going =
      let both = step b x rest going in
      let n = both.0 in
      let l = goes n.0 rest n.2 in (
        l.0,
        ap (λ (o : Option Books). o >>= λ (mid : Books). books_from mid (map (λ (y : Stamped). y.entry) rest)) n.1 ∙ l.1,
        l.2,
        (both.1, λ mid is. subst (λ (y : Books). FullSaid set y (map (λ (z : Stamped). z.entry) rest)) (some_is n.0 mid (sym n.1 ∙ is)) l.3),
      )

  -- a thread for each course
  abbrev AreLones : ℕ → List Course → List Lone → Type 0
  AreLones n cs ls = (i t : ℕ) (c : Course) (l : Lone) → t ≡ n + i → slice_get cs i ≡ Some c → slice_get ls i ≡ Some l → IsLone set t c l

  lones_for : (n : ℕ) (cs : List Course) → ((i t : ℕ) (c : Course) → t ≡ n + i → slice_get cs i ≡ Some c → (l : Lone) × IsLone set t c l) → (ls : List Lone) × (length ls ≡ length cs) × AreLones n cs ls
  lones_for n [] each = ([], refl, λ i t c l e got lone. absurd (cc))
  lones_for n (c ∷ cs) each =
      let first = each 0 n c (omega arith) refl in
      let more = lones_for (suc n) cs (λ i t c' e got. each (suc i) t c' (omega arith) got) in
      (first.0 ∷ more.0, ap suc more.1, by first.0 first.1 more.0 more.2)
    where
      by : (l : Lone) → IsLone set n c l → (ls : List Lone) → AreLones (suc n) cs ls → AreLones n (c ∷ cs) (l ∷ ls)
      by l is ls later zero t c' l' e got lone =
          let same : n ≡ t = omega arith in
          subst (λ (k : ℕ). IsLone set k c' l') same (subst (λ (y : Lone). IsLone set n c' y) (some_is l l' lone) (subst (λ (y : Course). IsLone set n y l) (some_is c c' got) is))
      by l is ls later (suc i) t c' l' e got lone = later i t c' l' (omega arith) got lone

  -- what the journal leads to
  pub record Replayed (journal : List Entry) : Type 0 where
    pub state : Moving
    pub replay : MovedReplay set journal state
    pub many : length state.books.courses ≡ tasks
    pub courses : (t : ℕ) (c : Course) → slice_get state.books.courses t ≡ Some c → c ≡ fin t
    pub mailboxes : (box : BoxName) → state.books.mailboxes box ≡ last box

  pub replays : (journal : List Entry) → journal ≡ map (λ (x : Stamped). x.entry) all → Going first_books all → Replayed journal
  replays journal same going =
      let l = goes first_books all going in
      let ls = lones_for 0 (l.0).courses (λ i t c e got.
      let f : i ≡ t = omega arith in
      let lead = (l.2).born i c got in
      (lead.0, subst (λ (k : ℕ). IsLone set k c lead.0) f (subst (λ (ds : List Deed). IsLone set i (record { beginning = c.beginning; deeds = ds }) lead.0) (append-nil c.deeds) lead.1))) in
      record {
        state = record { books = l.0; lones = ls.0 };
        replay = record {
          books = subst (λ (es : List Entry). books_from first_books es ≡ Some l.0) (sym same) l.1;
          full = subst (λ (es : List Entry). FullSaid set first_books es) (sym same) l.3;
          each = ls.1;
          lones = λ t c x got lone. ls.2 t t c x (omega arith) got lone;
        };
        many = (let m : length (l.0).courses + 0 ≡ tasks = (l.2).many in omega arith);
        courses = λ t c got. ap (λ (ds : List Deed). record { beginning = c.beginning; deeds = ds }) (sym (append-nil c.deeds)) ∙ ((l.2).born t c got).2;
        mailboxes = λ box. (l.2).boxes box;
      }
