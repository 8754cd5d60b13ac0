-- A move of the parted machine, and the books.
use Rattle.std.proofs.Common.{◌≡◌, ◌≢◌, ℕ, zero, suc, ◌+◌, ◌<◌, ◌≤◌, Bool, true, false, not, cond, List, [], ◌∷◌, ◌++◌, length, Option, Some, None, refl, sym, ap, subst, ◌∙◌, inl, inr, arith, ◌==◌}
use Rattle.std.specs.Prelude.{◌&&◌, slice_get, slice_set, nat_lt}
use Rattle.std.proofs.lemmas.Bool.Decides.{eqb_tells}
use Rattle.std.proofs.lemmas.Bool.{eq-eqb, cases_Bool, ltb-true, ltb-false}
use Rattle.std.proofs.lemmas.Option.{same_Some, none-some, slice_get_within}
use Rattle.kilim_lemmas.proofs.Lists.{set_there, set_other, set_length, get_last, get_some}
use Rattle.kilim_program.specs.declared.names.BoxName.{BoxName}
use Rattle.kilim_program.specs.Names.{◌>>=◌}
use Rattle.kilim_program.specs.declared.value.Value.TheVariants.{Null}
use Rattle.kilim_run_state.specs.declared.cause.EndCause.{EndCause}
use Rattle.kilim_run_state.specs.declared.cause.EndCause.TheVariants as cause
use Rattle.kilim_run_state.specs.declared.value.Object.{Object}
use Rattle.kilim_run_state.specs.declared.value.Token.{Token}
use Rattle.kilim_run_state.specs.Trees.{built, OfMessage}
use Rattle.kilim_run_journal.specs.declared.entry.Act.{Act}
use Rattle.kilim_run_journal.specs.declared.entry.Act.TheVariants.{Put, Take, Empty, Start, Print, End, Bound}
use Rattle.kilim_run_model.specs.State.{Setting, Mailbox, same_box, with_message, with_queue, with_mailbox, is_full, bounded}
use Rattle.kilim_run_model.specs.Lone.{Lone, Next, Goes, Puts, PutWaits, Bounds, Gets, Probes, Starts, Prints, Ends, Stands, pushed, ended, next_move}
use Rattle.kilim_run_model.specs.Turn.{task_limit}
use Rattle.kilim_run_model.specs.Course.{Course, plain, received, tree_left, lone_begun, next_or, next_within, next_action, done_by, tree_came, takes_deed, probes_deed, Follows, Quiet, Stays, Moves}
use Rattle.kilim_run_model.specs.Moving.{Books, further, with_deed, is_tasks, books_taken, books_empty, books_by}
use Rattle.kilim_run_model.specs.declared.deed.Deed.{Deed}
use Rattle.kilim_run_model.specs.declared.deed.Beginning.TheVariants.{Begun}
use Rattle.kilim_run_model.proofs.Alone.{next_comes}
use Rattle.kilim_run_model.specs.one_heap.Parted.{Parted, Parting, by_next, lone_parts, parts}
use Rattle.kilim_run_model.specs.one_heap.Parted as parted
use Rattle.kilim_run_model.specs.one_heap.Booked.{IsOf, Booked}
use Rattle.kilim_run_model.specs.one_heap.Laws.{KeepsBooks}

-- ---- the next action of a thread that has moved quietly

abbrev pub is_act : Next → Bool
is_act (Goes after) = false
is_act x = true

-- so many moves come first
moves_in : (set : Setting) (t : ℕ) (a l : Lone) → Quiet set t a l → (k : ℕ) × ((n : ℕ) → next_within set t (k + n) a ≡ next_within set t n l)
moves_in set t a l (Stays e) = (0, λ n. ap (λ (z : ℕ). next_within set t z a) (let z : 0 + n ≡ n = omega arith in z) ∙ ap (next_within set t n) e)
moves_in set t a l (Moves b q e) =
    let w = moves_in set t a b q in (
      suc w.0,
      λ n.
          ap (λ (z : ℕ). next_within set t z a) (let z : suc w.0 + n ≡ w.0 + suc n = omega arith in z)
          ∙ (w.1 (suc n) ∙ ap (λ (x : Next). next_or x (next_within set t n)) e),
    )

or_act : (x : Next) (go : Lone → Next) → is_act x ≡ true → next_or x go ≡ x
or_act (Goes after) go e = absurd (cc)
or_act (Puts box root shape after) go e = refl
or_act (PutWaits box root shape after) go e = refl
or_act (Bounds box most after) go e = refl
or_act (Gets box after) go e = refl
or_act (Probes box after) go e = refl
or_act (Starts root shape after) go e = refl
or_act (Prints token after) go e = refl
or_act (Ends why after) go e = refl
or_act Stands go e = refl

pub action_is : (set : Setting) (t : ℕ) (a l : Lone) (x : Next) → Quiet set t a l → next_move set t l ≡ x → is_act x ≡ true → next_action set t a ≡ x
action_is set t a l x q e act =
    let w = moves_in set t a l q in
    let enough : set.limits.steps < w.0 + suc set.limits.steps = omega arith in
    sym (next_comes set t (w.0 + suc set.limits.steps) a enough)
    ∙ (w.1 (suc set.limits.steps)
    ∙ (ap (λ (y : Next). next_or y (next_within set t set.limits.steps)) e ∙ or_act x (next_within set t set.limits.steps) act))

-- what the books say of an act of a task with that course, and that the state after it is booked so
abbrev AfterOf : Setting → Books → ℕ → Course → Parted → Option Act → Type 0
AfterOf set b t c after None = Booked set after b
AfterOf set b t c after (Some act) = (later : Books) × (books_by b t c act ≡ Some later) × Booked set after later

-- ---- one more deed

follows_on : (set : Setting) (t : ℕ) (a last l : Lone) (ds : List Deed) (d : Deed) → Follows set t a ds last → done_by set (next_action set t last) d ≡ Some (record { act = d.act; after = l }) → Follows set t a (ds ++ d ∷ []) l
follows_on set t a last l [] d e does = (l, subst (λ (z : Lone). done_by set (next_action set t z) d ≡ Some (record { act = d.act; after = l })) (sym e) does, refl)
follows_on set t a last l (x ∷ ds) d e does = (e.0, e.1, follows_on set t e.0 last l ds d e.2 does)

module _ (set : Setting) where
  pub went_on : (t : ℕ) (c : Course) (a l : Lone) → IsOf set t c a → next_move set t a ≡ Goes l → IsOf set t c l
  went_on t c a l of e = record { last = of.last; is = of.is; quiet = Moves a of.quiet e }

  pub did_so : (t : ℕ) (c : Course) (a l : Lone) (d : Deed) (x : Next) → IsOf set t c a → next_move set t a ≡ x → is_act x ≡ true → done_by set x d ≡ Some (record { act = d.act; after = l }) → IsOf set t (further c d) l
  did_so t c a l d x of e act does = record {
    last = l;
    is = record {
      first = of.is.first;
      begins = of.is.begins;
      follows = follows_on set t of.is.first of.last l c.deeds d of.is.follows (ap (λ (y : Next). done_by set y d) (action_is set t of.last a x of.quiet e act) ∙ does);
    };
    quiet = Stays refl;
  }

  -- ---- the books after a move of one thread

  module _ (m : Parted) (b : Books) (booked : Booked set m b) (t : ℕ) (a : Lone) (c : Course) (is_a : slice_get m.lones t ≡ Some a) (is_c : slice_get b.courses t ≡ Some c) where
    mine : IsOf set t c a
    mine = booked.each t a c is_a is_c

    -- the thread and its course are set
    set_each : (l : Lone) (d : Course) → IsOf set t d l → (u : ℕ) (k : Lone) (e : Course) → slice_get (slice_set m.lones t l) u ≡ Some k → slice_get (slice_set b.courses t d) u ≡ Some e → IsOf set u e k
    set_each l d of u k e is_k is_e = elim (eqb_tells u t) [
      | inl z ↦
          subst (λ (v : ℕ). IsOf set v e k) (sym z.1)
          (subst (λ (v : Lone). IsOf set t e v) (same_Some _ _ (sym (set_there m.lones t a l is_a) ∙ (ap (slice_get (slice_set m.lones t l)) (sym z.1) ∙ is_k)))
          (subst (λ (v : Course). IsOf set t v l) (same_Some _ _ (sym (set_there b.courses t c d is_c) ∙ (ap (slice_get (slice_set b.courses t d)) (sym z.1) ∙ is_e))) of))
      | inr z ↦ booked.each u k e (sym (set_other m.lones t u l z.1) ∙ is_k) (sym (set_other b.courses t u d z.1) ∙ is_e)
    ]

    -- it goes on, with the same course
    pub goes_booked : (l : Lone) → IsOf set t c l → Booked set (parted.with_lone m t l) b
    goes_booked l of = record {
      count = set_length m.lones t l ∙ booked.count;
      few = booked.few;
      each = λ u k e is_k is_e. elim (eqb_tells u t) [
        | inl z ↦
            subst (λ (v : ℕ). IsOf set v e k) (sym z.1)
            (subst (λ (v : Lone). IsOf set t e v) (same_Some _ _ (sym (set_there m.lones t a l is_a) ∙ (ap (slice_get (slice_set m.lones t l)) (sym z.1) ∙ is_k)))
            (subst (λ (v : Course). IsOf set t v l) (same_Some _ _ (sym is_c ∙ (ap (slice_get b.courses) (sym z.1) ∙ is_e))) of))
        | inr z ↦ booked.each u k e (sym (set_other m.lones t u l z.1) ∙ is_k) is_e
      ];
      mail = booked.mail;
    }

    -- it has done a deed, and mailboxes are these
    did_booked : (l : Lone) (d : Deed) (letters : BoxName → Mailbox (List Token)) (mail : BoxName → Mailbox (List Token)) → IsOf set t (further c d) l → ((box : BoxName) → letters box ≡ mail box) →
        Booked set (record (parted.with_lone m t l) { mailboxes = letters }) (record { courses = with_deed b.courses t c d; mailboxes = mail })
    did_booked l d letters mail of same = record {
      count = set_length m.lones t l ∙ (booked.count ∙ sym (set_length b.courses t (further c d)));
      few = subst (λ (n : ℕ). n ≤ task_limit) (sym (set_length b.courses t (further c d))) booked.few;
      each = set_each l (further c d) of;
      mail = same;
    }

    one_changed : (box : BoxName) (x y : Mailbox (List Token)) → x ≡ y → (other : BoxName) → with_mailbox m.mailboxes box x other ≡ with_mailbox b.mailboxes box y other
    one_changed box x y e other = elim (same_box other box) as (λ (z : Bool). cond z x (m.mailboxes other) ≡ cond z y (b.mailboxes other)) [ true ↦ e | false ↦ booked.mail other ]

    -- what the books say of an act, and that the state after it is booked so
    abbrev After : Parted → Option Act → Type 0
    After after o = AfterOf set b t c after o

    put_booked : (x : Next) (box : BoxName) (root : ℕ) (shape : List Token) (after : Lone) → next_move set t a ≡ x → is_act x ≡ true → ((n : ℕ) → done_by set x (plain (Put box n shape)) ≡ Some (record { act = Put box n shape; after = tree_left set.program root after })) → is_full (m.mailboxes box) ≡ false →
        After (parted.puts (parted.with_lone m t (tree_left set.program root after)) box shape).state (parted.puts (parted.with_lone m t (tree_left set.program root after)) box shape).act
    put_booked x box root shape after e act does free =
        let d = plain (Put box (m.mailboxes box).puts shape) in
        let later : Books = record { courses = with_deed b.courses t c d; mailboxes = with_mailbox b.mailboxes box (with_message (b.mailboxes box) shape) } in
        let same = booked.mail box in (
          later,
          ap (λ (z : Bool). cond (z && not (is_full (b.mailboxes box))) (Some later) None) (eq-eqb (m.mailboxes box).puts (b.mailboxes box).puts (ap (λ (z : Mailbox (List Token)). z.puts) same))
              ∙ ap (λ (z : Bool). cond (not z) (Some later) None) (ap (λ (z : Mailbox (List Token)). is_full z) (sym same) ∙ free),
          did_booked (tree_left set.program root after) d _ _ (did_so t c a (tree_left set.program root after) d x mine e act (does (m.mailboxes box).puts))
              (one_changed box _ _ (ap (λ (z : Mailbox (List Token)). with_message z shape) same)),
        )

    taken_booked : (x : Next) (box : BoxName) (after : Lone) (first : ℕ × List Token) (rest : List (ℕ × List Token)) → next_move set t a ≡ x → is_act x ≡ true →
        ((d : Deed) → d.act ≡ Take box first.0 → done_by set x d ≡ tree_came box first.0 after (built set.program OfMessage after.next d.taken)) → (m.mailboxes box).queue ≡ first ∷ rest →
        (o : Option (List Object)) → built set.program OfMessage after.next first.1 ≡ o → After (parted.takes_built m t box first.0 rest after o).state (parted.takes_built m t box first.0 rest after o).act
    taken_booked x box after first rest e act does queue None is = booked
    taken_booked x box after first rest e act does queue (Some os) is =
        let d : Deed = record { act = Take box first.0; taken = first.1 } in
        let later : Books = record { courses = with_deed b.courses t c d; mailboxes = with_mailbox b.mailboxes box (with_queue (b.mailboxes box) rest) } in (
          later,
          ap (λ (q : List (ℕ × List Token)). books_taken b t c box first.0 q) (ap (λ (z : Mailbox (List Token)). z.queue) (sym (booked.mail box)) ∙ queue)
              ∙ ap (λ (z : Bool). cond z (Some later) None) (eq-eqb first.0 first.0 refl),
          did_booked (received after os) d _ _
              (did_so t c a (received after os) d x mine e act (does d refl ∙ ap (tree_came box first.0 after) is))
              (one_changed box _ _ (ap (λ (z : Mailbox (List Token)). with_queue z rest) (booked.mail box))),
        )

    get_booked : (box : BoxName) (after : Lone) → next_move set t a ≡ Gets box after → (q : List (ℕ × List Token)) → (m.mailboxes box).queue ≡ q → After (parted.gets set m t box after q).state (parted.gets set m t box after q).act
    get_booked box after e [] is = booked
    get_booked box after e (first ∷ rest) is =
        taken_booked (Gets box after) box after first rest e refl (λ d z. ap (λ (y : Act). takes_deed set.program box after d y) z) is (built set.program OfMessage after.next first.1) refl

    probe_booked : (box : BoxName) (after : Lone) → next_move set t a ≡ Probes box after → (q : List (ℕ × List Token)) → (m.mailboxes box).queue ≡ q → After (parted.probes set m t box after q).state (parted.probes set m t box after q).act
    probe_booked box after e [] is =
        let d = plain (Empty box) in
        let later : Books = record b { courses = with_deed b.courses t c d } in (
          later,
          ap (books_empty b t c box) (ap (λ (z : Mailbox (List Token)). z.queue) (sym (booked.mail box)) ∙ is),
          did_booked (pushed Null after) d _ _ (did_so t c a (pushed Null after) d (Probes box after) mine e refl refl) booked.mail,
        )
    probe_booked box after e (first ∷ rest) is =
        taken_booked (Probes box after) box after first rest e refl (λ d z. ap (λ (y : Act). probes_deed set.program box after d y) z) is (built set.program OfMessage after.next first.1) refl

    -- ---- starts

    started_each : (l : Lone) (d : Course) (new : Lone) (shape : List Token) → lone_begun set (Begun shape) ≡ Some new → IsOf set t d l →
        (u : ℕ) (k : Lone) (e : Course) → slice_get (slice_set m.lones t l ++ new ∷ []) u ≡ Some k → slice_get (slice_set b.courses t d ++ record { beginning = Begun shape; deeds = [] } ∷ []) u ≡ Some e → IsOf set u e k
    started_each l d new shape begins of u k e is_k is_e =
        let ls = slice_set m.lones t l in
        let cs = slice_set b.courses t d in
        let same : length ls ≡ length cs = set_length m.lones t l ∙ (booked.count ∙ sym (set_length b.courses t d)) in
        elim (eqb_tells u (length ls)) [
          | inl z ↦
              let one : new ≡ k = same_Some _ _ (sym (get_last ls new) ∙ (ap (slice_get (ls ++ new ∷ [])) (sym z.1) ∙ is_k)) in
              let first : Course = record { beginning = Begun shape; deeds = [] } in
              let two : first ≡ e = same_Some _ _ (sym (get_last cs first) ∙ (ap (slice_get (cs ++ first ∷ [])) (sym (z.1 ∙ same)) ∙ is_e)) in
              subst (λ (v : Lone). IsOf set u e v) one (subst (λ (v : Course). IsOf set u v new) two (record { last = new; is = record { first = new; begins = begins; follows = refl }; quiet = Stays refl }))
          | inr z ↦ set_each l d of u k e (sym (end_other ls new u z.1) ∙ is_k) (sym (end_other cs (record { beginning = Begun shape; deeds = [] }) u (λ w. z.1 (w ∙ sym same))) ∙ is_e)
        ]
      where
        end_other : {A : Type 0} (xs : List A) (y : A) (j : ℕ) → j ≢ length xs → slice_get (xs ++ y ∷ []) j ≡ slice_get xs j
        end_other [] y zero n = absurd (n refl)
        end_other [] y (suc j) n = refl
        end_other (z ∷ xs) y zero n = refl
        end_other (z ∷ xs) y (suc j) n = end_other xs y j (λ w. n (ap suc w))

    longer : {A : Type 0} (xs : List A) (y : A) → length (xs ++ y ∷ []) ≡ suc (length xs)
    longer [] y = refl
    longer (z ∷ xs) y = ap suc (longer xs y)

    start_with : (root : ℕ) (shape : List Token) (after : Lone) → next_move set t a ≡ Starts root shape after → length m.lones < task_limit → nat_lt (length m.lones) task_limit ≡ true →
        (o : Option Lone) → lone_begun set (Begun shape) ≡ o →
        After (parted.starts_with m (parted.with_lone m t (tree_left set.program root after)) shape o).state (parted.starts_with m (parted.with_lone m t (tree_left set.program root after)) shape o).act
    start_with root shape after e lt test None is = booked
    start_with root shape after e lt test (Some new) is =
        let l = tree_left set.program root after in
        let d = plain (Start (length m.lones) shape) in
        let first : Course = record { beginning = Begun shape; deeds = [] } in
        let later : Books = record b { courses = with_deed b.courses t c d ++ first ∷ [] } in (
          later,
          ap (λ (z : Bool). cond (z && nat_lt (length m.lones) task_limit) (Some later) None) (eq-eqb (length m.lones) (length b.courses) booked.count) ∙ ap (λ (z : Bool). cond z (Some later) None) test,
          record {
            count = longer (slice_set m.lones t l) new ∙ (ap suc (set_length m.lones t l ∙ (booked.count ∙ sym (set_length b.courses t (further c d)))) ∙ sym (longer (with_deed b.courses t c d) first));
            few = subst (λ (n : ℕ). n ≤ task_limit) (sym (longer (with_deed b.courses t c d) first ∙ ap suc (set_length b.courses t (further c d) ∙ sym booked.count))) lt;
            each = started_each l (further c d) new shape is (did_so t c a l d (Starts root shape after) mine e refl refl);
            mail = booked.mail;
          },
        )

    none_start : (root : ℕ) (shape : List Token) (after : Lone) → next_move set t a ≡ Starts root shape after → task_limit ≤ length m.lones → After (parted.with_lone m t (ended after cause.Tasks)) (Some (End cause.Tasks))
    none_start root shape after e le =
        let d = plain (End cause.Tasks) in
        let later : Books = record b { courses = with_deed b.courses t c d } in
        let full : length b.courses ≡ task_limit = let few = booked.few in let count = booked.count in omega (arith, few, count, le) in (
          later,
          ap (λ (z : Bool). cond (not z) None (Some later)) (eq-eqb (length b.courses) task_limit full),
          did_booked (ended after cause.Tasks) d _ _ (did_so t c a (ended after cause.Tasks) d (Starts root shape after) mine e refl refl) booked.mail,
        )

    start_booked : (root : ℕ) (shape : List Token) (after : Lone) → next_move set t a ≡ Starts root shape after → After (parted.starts set m t root shape after).state (parted.starts set m t root shape after).act
    start_booked root shape after e =
        let At : Bool → Type 0 = λ z.
        let p = cond z (parted.starts_with m (parted.with_lone m t (tree_left set.program root after)) shape (lone_begun set (Begun shape))) (parted.acted (parted.with_lone m t (ended after cause.Tasks)) (End cause.Tasks)) in
        After p.state p.act in
        elim (cases_Bool (nat_lt (length m.lones) task_limit)) [
          | inl w ↦ subst At (sym w) (start_with root shape after e (ltb-true _ _ w) w (lone_begun set (Begun shape)) refl)
          | inr w ↦ subst At (sym w) (none_start root shape after e (ltb-false _ _ w))
        ]

    plain_booked : (x : Next) (act : Act) (after : Lone) → next_move set t a ≡ x → is_act x ≡ true → done_by set x (plain act) ≡ Some (record { act = act; after = after }) →
        books_by b t c act ≡ Some (record b { courses = with_deed b.courses t c (plain act) }) → After (parted.with_lone m t after) (Some act)
    plain_booked x act after e is does says = (record b { courses = with_deed b.courses t c (plain act) }, says, did_booked after (plain act) _ _ (did_so t c a after (plain act) x mine e is does) booked.mail)

    end_says : (why : EndCause) → is_tasks why ≡ false → books_by b t c (End why) ≡ Some (record b { courses = with_deed b.courses t c (plain (End why)) })
    end_says why e = ap (λ (z : Bool). cond (z && not (length b.courses == task_limit)) None (Some (record b { courses = with_deed b.courses t c (plain (End why)) }))) e

    puts_booked : (box : BoxName) (root : ℕ) (shape : List Token) (after : Lone) → next_move set t a ≡ Puts box root shape after → After (by_next set m t (Puts box root shape after)).state (by_next set m t (Puts box root shape after)).act
    puts_booked box root shape after e =
        let At : Bool → Type 0 = λ z.
        let p = cond z (parted.acted (parted.with_lone m t (ended after cause.Full)) (End cause.Full)) (parted.puts (parted.with_lone m t (tree_left set.program root after)) box shape) in
        After p.state p.act in
        elim (cases_Bool (is_full (m.mailboxes box))) [
          | inl w ↦ subst At (sym w) (plain_booked (Puts box root shape after) (End cause.Full) (ended after cause.Full) e refl refl (end_says cause.Full refl))
          | inr w ↦ subst At (sym w) (put_booked (Puts box root shape after) box root shape after e refl (λ n. refl) w)
        ]

    wait_booked : (box : BoxName) (root : ℕ) (shape : List Token) (after : Lone) → next_move set t a ≡ PutWaits box root shape after → After (by_next set m t (PutWaits box root shape after)).state (by_next set m t (PutWaits box root shape after)).act
    wait_booked box root shape after e =
        let At : Bool → Type 0 = λ z.
        let p = cond z (parted.quiet m) (parted.puts (parted.with_lone m t (tree_left set.program root after)) box shape) in
        After p.state p.act in
        elim (cases_Bool (is_full (m.mailboxes box))) [
          | inl w ↦ subst At (sym w) booked
          | inr w ↦ subst At (sym w) (put_booked (PutWaits box root shape after) box root shape after e refl (λ n. refl) w)
        ]

    bound_booked : (box : BoxName) (most : ℕ) (after : Lone) → next_move set t a ≡ Bounds box most after → After (by_next set m t (Bounds box most after)).state (by_next set m t (Bounds box most after)).act
    bound_booked box most after e =
        let d = plain (Bound box most) in (
          record { courses = with_deed b.courses t c d; mailboxes = with_mailbox b.mailboxes box (bounded (b.mailboxes box) most) },
          refl,
          did_booked after d _ _ (did_so t c a after d (Bounds box most after) mine e refl refl) (one_changed box _ _ (ap (λ (z : Mailbox (List Token)). bounded z most) (booked.mail box))),
        )

    next_booked : ((why : EndCause) (after : Lone) → next_move set t a ≡ Ends why after → is_tasks why ≡ false) → (x : Next) → next_move set t a ≡ x → After (by_next set m t x).state (by_next set m t x).act
    next_booked own (Goes after) e = goes_booked after (went_on t c a after mine e)
    next_booked own (Puts box root shape after) e = puts_booked box root shape after e
    next_booked own (PutWaits box root shape after) e = wait_booked box root shape after e
    next_booked own (Bounds box most after) e = bound_booked box most after e
    next_booked own (Gets box after) e = get_booked box after e (m.mailboxes box).queue refl
    next_booked own (Probes box after) e = probe_booked box after e (m.mailboxes box).queue refl
    next_booked own (Starts root shape after) e = start_booked root shape after e
    next_booked own (Prints token after) e = plain_booked (Prints token after) (Print (token ∷ [])) after e refl refl refl
    next_booked own (Ends why after) e = plain_booked (Ends why after) (End why) after e refl refl (end_says why (own why after e))
    next_booked own Stands e = booked

module _ (set : Setting) (own : (t : ℕ) (l : Lone) (why : EndCause) (after : Lone) → next_move set t l ≡ Ends why after → is_tasks why ≡ false) where
  with_course : (b : Books) (t : ℕ) (c : Course) → slice_get b.courses t ≡ Some c → (after : Parted) (o : Option Act) → AfterOf set b t c after o → KeepsBooks set b t after o
  with_course b t c is_c after None w = w
  with_course b t c is_c after (Some act) w = (w.0, ap (λ (o : Option Course). o >>= λ (c : Course). books_by b t c act) is_c ∙ w.1, w.2)

  option_booked : (m : Parted) (b : Books) (t : ℕ) → Booked set m b → (a : Option Lone) (c : Option Course) → slice_get m.lones t ≡ a → slice_get b.courses t ≡ c → KeepsBooks set b t (lone_parts set m t a).state (lone_parts set m t a).act
  option_booked m b t booked None c is_a is_c = booked
  option_booked m b t booked (Some a) None is_a is_c =
      let lt = slice_get_within m.lones t a is_a in
      let there = get_some b.courses t (let count = booked.count in omega (arith, count, lt)) in
      absurd (none-some there.0 (sym is_c ∙ there.1))
  option_booked m b t booked (Some a) (Some c) is_a is_c =
      let p = by_next set m t (next_move set t a) in
      with_course b t c is_c p.state p.act (next_booked set m b booked t a c is_a is_c (own t a) (next_move set t a) refl)

  pub step_booked : (m : Parted) (b : Books) (t : ℕ) → Booked set m b → KeepsBooks set b t (parts set m t).state (parts set m t).act
  unfolding parts
  step_booked m b t booked = option_booked m b t booked (slice_get m.lones t) (slice_get b.courses t) refl refl
