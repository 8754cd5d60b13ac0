-- Where histories and entries are the same items, the parts are those of a stamped run.
use Rattle.std.proofs.Common.{◌≡◌, ◌≢◌, ℕ, zero, suc, ◌+◌, ◌<◌, ◌≤◌, Bool, true, false, ◌==◌, nat_lt, cond, List, [], ◌∷◌, ◌++◌, Option, Some, None, refl, sym, ap, subst, ◌∙◌, ◌⊎◌, inl, inr, arith}
use Rattle.std.specs.Prelude.{◌&&◌, if◌then◌else◌, filter, map, slice_get}
use Rattle.std.specs.List.{AllByRecursion}
use Rattle.std.proofs.lemmas.Bool.Decides.{nat_tests}
use Rattle.std.specs.Coded.{Coded, codes}
use Rattle.kilim_run_state.specs.declared.cause.EndCause.{EndCause}
use Rattle.kilim_program.specs.declared.names.BoxName.{BoxName}
use Rattle.kilim_run_state.specs.declared.value.Token.{Token}
use Rattle.kilim_run_journal.specs.declared.entry.Act.{Act}
use Rattle.kilim_run_journal.specs.declared.entry.Act.TheVariants.{Put, Take, Empty, Start, Print, End, Wait, Bound}
use Rattle.kilim_run_journal.specs.declared.entry.Entry.{Entry}
use Rattle.kilim_run_model.specs.State.{Setting, same_box, empty_mailbox}
use Rattle.kilim_run_model.specs.Lone.{Lone}
use Rattle.kilim_run_model.specs.Turn.{task_limit}
use Rattle.kilim_run_model.specs.Course.{Course, IsLone, plain}
use Rattle.kilim_run_model.specs.Moving.{further}
use Rattle.kilim_run_model.specs.declared.deed.Deed.{Deed}
use Rattle.kilim_run_model.specs.declared.deed.Beginning.{Beginning}
use Rattle.kilim_run_model.specs.declared.deed.Beginning.TheVariants.{Boot, Begun}
use Rattle.kilim_mail_stamps.specs.declared.stamped.Stamped.{Stamped}
use Rattle.kilim_mail_ledger.specs.declared.items.Dated.{Dated}
use Rattle.kilim_mail_ledger.specs.declared.items.Item.{Item}
use Rattle.kilim_mail_ledger.specs.declared.items.Item.TheVariants.{Born, Did}
use Rattle.kilim_mail_stamps.specs.Stamps.{in_order, joined, entries_of, is_of, box_in, is_that, is_on, is_starting, is_registered, Rises, MailFrom, Registers, RegisterFrom, Birth, born_by, starts_in, births_in, put_shape, shape_put, deed_in, deeds_in, course_in, TellsAll, IsLater, StampedRun}
use Rattle.kilim_mail_stamps.specs.Merging.{weigh}
use Rattle.kilim_mail_ledger.specs.Ledger.{Trace, did_items, items_of, born_items, dated_in, entry_items, RisesFrom, deeds_of, TellsPast, IsTrace, Balanced, BalancedRuns}
use Rattle.kilim_mail_stamps.proofs.Order.{in_order_ordered, kept, passed}
use Rattle.kilim_mail_stamps.proofs.Steps.{some_is}
use Rattle.kilim_mail_stamps.proofs.Begins.{starts_stamped}
use Rattle.kilim_mail_stamps.proofs.Sorted.{filter_in_order, ordered_filter, told}
use Rattle.kilim_mail_stamps.proofs.Weights.{alike, alike_is, alike_self, leibniz, weigh_append, weigh_map, weigh_each, weigh_plus, weigh_none, weigh_filter, weigh_in_order}

-- ---- the shape under a number, among a mailbox's own entries

put_here : (box : BoxName) (n : ℕ) (b : BoxName) (k : ℕ) (shape : List Token) (x : Stamped) (xs : List Stamped) → (q : Bool) → x.entry.act ≡ Put b k shape → same_box box b ≡ q → (later : List Token) → shape_put box n (filter (is_on box) xs) ≡ later →
    shape_put box n (cond q (x ∷ filter (is_on box) xs) (filter (is_on box) xs)) ≡ (if q && n == k then shape else later)
put_here box n b k shape x xs true is e later rec =
    ap (λ (act : Act). put_shape box n act (shape_put box n (filter (is_on box) xs))) is
    ∙ (ap (λ (q : Bool). if q && n == k then shape else shape_put box n (filter (is_on box) xs)) e ∙ ap (λ (ts : List Token). if n == k then shape else ts) rec)
put_here box n b k shape x xs false is e later rec = rec

other_here : (box : BoxName) (n : ℕ) (x : Stamped) (xs : List Stamped) → (q : Bool) → ((later : List Token) → put_shape box n x.entry.act later ≡ later) → (later : List Token) → shape_put box n (filter (is_on box) xs) ≡ later →
    shape_put box n (cond q (x ∷ filter (is_on box) xs) (filter (is_on box) xs)) ≡ later
other_here box n x xs true nothing later rec = nothing (shape_put box n (filter (is_on box) xs)) ∙ rec
other_here box n x xs false nothing later rec = rec

shape_here : (box : BoxName) (n : ℕ) (x : Stamped) (xs : List Stamped) (act : Act) → x.entry.act ≡ act → (later : List Token) → shape_put box n (filter (is_on box) xs) ≡ later →
    shape_put box n (filter (is_on box) (x ∷ xs)) ≡ put_shape box n act later
shape_here box n x xs (Put b k shape) is later rec =
    ap (λ (act : Act). shape_put box n (cond (is_that box (box_in x.full act)) (x ∷ filter (is_on box) xs) (filter (is_on box) xs))) is ∙ put_here box n b k shape x xs (same_box box b) is refl later rec
shape_here box n x xs (Take b k) is later rec = other_here box n x xs (is_on box x) (λ later. ap (λ (act : Act). put_shape box n act later) is) later rec
shape_here box n x xs (Empty b) is later rec = other_here box n x xs (is_on box x) (λ later. ap (λ (act : Act). put_shape box n act later) is) later rec
shape_here box n x xs (Start k shape) is later rec = other_here box n x xs (is_on box x) (λ later. ap (λ (act : Act). put_shape box n act later) is) later rec
shape_here box n x xs (Print shape) is later rec = other_here box n x xs (is_on box x) (λ later. ap (λ (act : Act). put_shape box n act later) is) later rec
shape_here box n x xs (End why) is later rec = other_here box n x xs (is_on box x) (λ later. ap (λ (act : Act). put_shape box n act later) is) later rec
shape_here box n x xs (Wait b) is later rec = other_here box n x xs (is_on box x) (λ later. ap (λ (act : Act). put_shape box n act later) is) later rec
shape_here box n x xs (Bound b k) is later rec = other_here box n x xs (is_on box x) (λ later. ap (λ (act : Act). put_shape box n act later) is) later rec

pub shape_among : (box : BoxName) (n : ℕ) (xs : List Stamped) → shape_put box n (filter (is_on box) xs) ≡ shape_put box n xs
shape_among box n [] = refl
shape_among box n (x ∷ xs) = shape_here box n x xs x.entry.act refl (shape_put box n xs) (shape_among box n xs)

-- ---- starts, among the register's own entries

start_here : (x : Stamped) (xs : List Stamped) (act : Act) → x.entry.act ≡ act → (later : List Birth) → starts_in (filter is_registered xs) ≡ later → starts_in (filter is_registered (x ∷ xs)) ≡ born_by x.stamp act later
start_here x xs act is later rec = ap (λ (a : Act). starts_in (cond (is_starting a) (x ∷ filter is_registered xs) (filter is_registered xs))) is ∙ by act is
  where
    at : (b : Bool) (act : Act) → x.entry.act ≡ act → ((ls : List Birth) → born_by x.stamp act ls ≡ ls) → starts_in (cond b (x ∷ filter is_registered xs) (filter is_registered xs)) ≡ later
    at true act is nothing = ap (λ (a : Act). born_by x.stamp a (starts_in (filter is_registered xs))) is ∙ (nothing (starts_in (filter is_registered xs)) ∙ rec)
    at false act is nothing = rec

    by : (act : Act) → x.entry.act ≡ act → starts_in (cond (is_starting act) (x ∷ filter is_registered xs) (filter is_registered xs)) ≡ born_by x.stamp act later
    by (Start n shape) is = ap (λ (a : Act). born_by x.stamp a (starts_in (filter is_registered xs))) is ∙ ap (λ (ls : List Birth). record { stamp = Some x.stamp; beginning = Begun shape } ∷ ls) rec
    by (End why) is = at (is_starting (End why)) (End why) is (λ ls. refl)
    by (Put b k shape) is = rec
    by (Take b k) is = rec
    by (Empty b) is = rec
    by (Print shape) is = rec
    by (Wait b) is = rec
    by (Bound b k) is = rec

starts_among : (xs : List Stamped) → starts_in (filter is_registered xs) ≡ starts_in xs
starts_among [] = refl
starts_among (x ∷ xs) = start_here x xs x.entry.act refl (starts_in xs) (starts_among xs)

-- ---- weights that see one task alone

-- what it did
abbrev did_weight : (Dated → ℕ) → ℕ → Item → ℕ
did_weight g t (Born u s b) = 0
did_weight g t (Did u x) = cond (u == t) (g x) 0

-- what it began with
abbrev born_weight : (ℕ → Beginning → ℕ) → ℕ → Item → ℕ
born_weight g t (Born u s b) = cond (u == t) (g s b) 0
born_weight g t (Did u x) = 0

abbrev pub has_task : ℕ → Trace → Bool
has_task t trace = trace.task == t

cond_weigh : {A : Type 0} (f : A → ℕ) (b : Bool) (xs : List A) → weigh (λ x. cond b (f x) 0) xs ≡ cond b (weigh f xs) 0
cond_weigh f true xs = refl
cond_weigh f false xs = weigh_none (λ x. 0) (λ x. refl) xs

trace_did : (g : Dated → ℕ) (t : ℕ) (trace : Trace) → weigh (did_weight g t) (items_of trace) ≡ cond (has_task t trace) (weigh g trace.past) 0
trace_did g t trace =
    let h : weigh (did_weight g t) (did_items trace.task trace.past) ≡ weigh (λ (p : Dated). cond (has_task t trace) (g p) 0) trace.past = weigh_map (did_weight g t) (λ (p : Dated). Did trace.task p) trace.past in
    let k = cond_weigh g (has_task t trace) trace.past in
    let z : 0 + weigh (did_weight g t) (did_items trace.task trace.past) ≡ weigh (did_weight g t) (did_items trace.task trace.past) = omega arith in
    z ∙ (h ∙ k)

trace_born : (g : ℕ → Beginning → ℕ) (t : ℕ) (trace : Trace) → weigh (born_weight g t) (items_of trace) ≡ cond (has_task t trace) (g trace.stamp trace.beginning) 0
trace_born g t trace =
    let h : weigh (born_weight g t) (did_items trace.task trace.past) ≡ weigh (λ (p : Dated). 0) trace.past = weigh_map (born_weight g t) (λ (p : Dated). Did trace.task p) trace.past in
    let k : weigh (λ (p : Dated). 0) trace.past ≡ 0 = weigh_none (λ (p : Dated). 0) (λ p. refl) trace.past in
    let n : ℕ = cond (has_task t trace) (g trace.stamp trace.beginning) 0 in
    let z : n + weigh (born_weight g t) (did_items trace.task trace.past) ≡ n = omega arith in z

entry_did : (g : Dated → ℕ) (t : ℕ) (all : List Stamped) (s : Stamped) → weigh (did_weight g t) (entry_items all s) ≡ cond (is_of t s) (g (dated_in all s)) 0
entry_did g t all s = by s.entry.act
  where
    n : ℕ
    n = cond (is_of t s) (g (dated_in all s)) 0

    by : (act : Act) → cond (is_of t s) (g (dated_in all s)) 0 + weigh (did_weight g t) (born_items s.stamp act) ≡ cond (is_of t s) (g (dated_in all s)) 0
    by (Start k shape) = omega arith
    by (Put b k shape) = omega arith
    by (Take b k) = omega arith
    by (Empty b) = omega arith
    by (Print shape) = omega arith
    by (End why) = omega arith
    by (Wait b) = omega arith
    by (Bound b k) = omega arith

entry_born : (g : ℕ → Beginning → ℕ) (t : ℕ) (all : List Stamped) (s : Stamped) → weigh (born_weight g t) (entry_items all s) ≡ cond (is_registered s) (weigh (born_weight g t) (born_items s.stamp s.entry.act)) 0
entry_born g t all s = (let z : 0 + weigh (born_weight g t) (born_items s.stamp s.entry.act) ≡ weigh (born_weight g t) (born_items s.stamp s.entry.act) = omega arith in z) ∙ by s.entry.act
  where
    at : (b : Bool) → ◌≡◌ {A = ℕ} 0 (cond b 0 0)
    at true = refl
    at false = refl

    by : (act : Act) → weigh (born_weight g t) (born_items s.stamp act) ≡ cond (is_starting act) (weigh (born_weight g t) (born_items s.stamp act)) 0
    by (Start k shape) = refl
    by (Put b k shape) = refl
    by (Take b k) = refl
    by (Empty b) = refl
    by (Print shape) = refl
    by (End why) = at (is_starting (End why))
    by (Wait b) = refl
    by (Bound b k) = refl

-- ---- the register begins each task once

abbrev stamp_weight : (ℕ → Beginning → ℕ) → Option ℕ → Beginning → ℕ
stamp_weight g None b = 0
stamp_weight g (Some s) b = g s b

abbrev birth_weight : (ℕ → Beginning → ℕ) → Option Birth → ℕ
birth_weight g None = 0
birth_weight g (Some b) = stamp_weight g b.stamp b.beginning

module _ (g : ℕ → Beginning → ℕ) (t : ℕ) where
  abbrev starts_weight : List Stamped → ℕ
  starts_weight ss = weigh (λ (s : Stamped). weigh (born_weight g t) (born_items s.stamp s.entry.act)) ss

  another : (n : ℕ) (stamp : ℕ) (shape : List Token) → n ≢ t → weigh (born_weight g t) (Born n stamp (Begun shape) ∷ []) ≡ 0
  another n stamp shape ne = by (n == t) refl
    where
      by : (b : Bool) → (n == t) ≡ b → cond (n == t) (g stamp (Begun shape)) 0 + 0 ≡ 0
      by true e = absurd (ne (grind (arith, nat_tests)))
      by false e = ap (λ (b : Bool). cond b (g stamp (Begun shape)) 0 + 0) e

  before_at : (n stamp : ℕ) (act : Act) (ss : List Stamped) → Registers n act (λ k. RegisterFrom k ss) → t < n → ((k : ℕ) → n ≤ k → RegisterFrom k ss → starts_weight ss ≡ 0) → weigh (born_weight g t) (born_items stamp act) + starts_weight ss ≡ 0
  before_at n stamp (Start k shape) ss r lt later =
      let same : k ≡ n = r.0 in
      let ne : k ≢ t = λ e. absurd (omega arith) in
      let a = another k stamp shape ne in
      let w = later (suc n) (omega arith) r.2 in omega arith
  before_at n stamp (End why) ss r lt later = let w = later n (omega arith) r.1 in omega arith
  before_at n stamp (Put b k shape) ss r lt later = absurd r
  before_at n stamp (Take b k) ss r lt later = absurd r
  before_at n stamp (Empty b) ss r lt later = absurd r
  before_at n stamp (Print shape) ss r lt later = absurd r
  before_at n stamp (Wait b) ss r lt later = absurd r
  before_at n stamp (Bound b k) ss r lt later = absurd r

  starts_before : (n : ℕ) (ss : List Stamped) → RegisterFrom n ss → t < n → starts_weight ss ≡ 0
  starts_before n [] r lt = refl
  starts_before n (s ∷ ss) r lt = before_at n s.stamp s.entry.act ss r lt (λ k le q. starts_before k ss q (omega arith))

  from_at : (n i stamp : ℕ) (act : Act) (ss : List Stamped) → Registers n act (λ k. RegisterFrom k ss) → t ≡ n + i →
      ((k j : ℕ) → RegisterFrom k ss → t ≡ k + j → starts_weight ss ≡ birth_weight g (slice_get (starts_in ss) j)) →
      weigh (born_weight g t) (born_items stamp act) + starts_weight ss ≡ birth_weight g (slice_get (born_by stamp act (starts_in ss)) i)
  from_at n zero stamp (Start k shape) ss r is later =
      let same : k ≡ n = r.0 in
      let here : (k == t) ≡ true = (let e : k ≡ t = omega arith in grind (arith, nat_tests)) in
      let w = starts_before (suc n) ss r.2 (omega arith) in
      let v : cond (k == t) (g stamp (Begun shape)) 0 ≡ g stamp (Begun shape) = ap (λ (b : Bool). cond b (g stamp (Begun shape)) 0) here in
      omega arith
  from_at n (suc i) stamp (Start k shape) ss r is later =
      let same : k ≡ n = r.0 in
      let ne : k ≢ t = λ e. absurd (omega arith) in
      let a = another k stamp shape ne in
      let w = later (suc n) i r.2 (omega arith) in omega arith
  from_at n i stamp (End why) ss r is later = let w = later n i r.1 is in omega arith
  from_at n i stamp (Put b k shape) ss r is later = absurd r
  from_at n i stamp (Take b k) ss r is later = absurd r
  from_at n i stamp (Empty b) ss r is later = absurd r
  from_at n i stamp (Print shape) ss r is later = absurd r
  from_at n i stamp (Wait b) ss r is later = absurd r
  from_at n i stamp (Bound b k) ss r is later = absurd r

  starts_from : (n i : ℕ) (ss : List Stamped) → RegisterFrom n ss → t ≡ n + i → starts_weight ss ≡ birth_weight g (slice_get (starts_in ss) i)
  starts_from n i [] r is = refl
  starts_from n i (s ∷ ss) r is = from_at n i s.stamp s.entry.act ss r is (λ k j q e. starts_from k j ss q e)

-- ---- one history

beginning_coded : Coded Beginning
beginning_coded = hlevel codes

-- what weighs as one beginning is one history that began so
one_trace : (ts : List Trace) (s : ℕ) (b : Beginning) → ((g : ℕ → Beginning → ℕ) → weigh (λ (trace : Trace). g trace.stamp trace.beginning) ts ≡ g s b) → (trace : Trace) × (ts ≡ trace ∷ []) × (trace.stamp ≡ s) × (trace.beginning ≡ b)
one_trace [] s b same = absurd (let h : 0 ≡ 1 = same (λ x y. 1) in omega arith)
one_trace (x ∷ y ∷ ts) s b same = absurd (let h : 1 + (1 + weigh (λ (trace : Trace). 1) ts) ≡ 1 = same (λ x y. 1) in omega arith)
one_trace (x ∷ []) s b same =
    (x, refl, (let h : x.stamp + 0 ≡ s = same (λ n c. n) in omega arith), leibniz beginning_coded x.beginning b (λ f. let h : f x.beginning + 0 ≡ f b = same (λ n c. f c) in omega arith))

no_trace : (ts : List Trace) → weigh (λ (trace : Trace). 1) ts ≡ 0 → ts ≡ []
no_trace [] e = refl
no_trace (x ∷ ts) e = absurd (omega arith)

pub all_filter : {A : Type 0} (P : A → Type 0) (p : A → Bool) (xs : List A) → AllByRecursion P xs → AllByRecursion (λ x. P x × (p x ≡ true)) (filter p xs)
all_filter P p [] a = tt
all_filter P p (x ∷ xs) (h, a) = by (p x) refl (all_filter P p xs a)
  where
    by : (b : Bool) → p x ≡ b → AllByRecursion (λ x. P x × (p x ≡ true)) (filter p xs) → AllByRecursion (λ x. P x × (p x ≡ true)) (cond b (x ∷ filter p xs) (filter p xs))
    by true e l = ((h, e), l)
    by false e l = l

deed_coded : Coded Deed
deed_coded = hlevel codes

abbrev miss : Bool → ℕ
miss true = 0
miss false = 1

-- where nothing of the past weighs anything, each deed of it is as it should be
abbrev AsShould : (Deed → Deed) → List Dated → Type 0
AsShould f [] = Unit {0}
AsShould f (p ∷ past) = (f p.deed ≡ p.deed) × AsShould f past

past_good : (f : Deed → Deed) (past : List Dated) → weigh (λ (p : Dated). miss (alike deed_coded p.deed (f p.deed))) past ≡ 0 → AsShould f past
past_good f [] e = tt
past_good f (p ∷ past) e = by (alike deed_coded p.deed (f p.deed)) refl (λ z. past_good f past z)
  where
    by : (b : Bool) → alike deed_coded p.deed (f p.deed) ≡ b → (weigh (λ (q : Dated). miss (alike deed_coded q.deed (f q.deed))) past ≡ 0 → AsShould f past) → AsShould f (p ∷ past)
    by true is later =
        let same : p.deed ≡ f p.deed = alike_is deed_coded p.deed (f p.deed) is in
        (sym same, later (let h : miss (alike deed_coded p.deed (f p.deed)) ≡ 0 = ap miss is in omega arith))
    by false is later = absurd (let h : miss (alike deed_coded p.deed (f p.deed)) ≡ 1 = ap miss is in omega arith)

good_deeds : (f : Deed → Deed) (past : List Dated) → AsShould f past → map (λ (p : Dated). f p.deed) past ≡ deeds_of past
good_deeds f [] good = refl
good_deeds f (p ∷ past) (h, good) = let rest = good_deeds f past good in λ i. h i ∷ rest i

should_each : (f g : Deed → Deed) → ((d : Deed) → f d ≡ g d) → (past : List Dated) → AsShould f past → AsShould g past
should_each f g same [] good = tt
should_each f g same (p ∷ past) (h, good) = (sym (same p.deed) ∙ h, should_each f g same past good)

abbrev strip : ℕ → Dated → Stamped
strip t p = record { stamp = p.stamp; full = p.full; entry = record { task = t; act = p.deed.act } }

rises_strip : (t n : ℕ) (past : List Dated) → RisesFrom n past → Rises (map (strip t) past)
rises_strip t n [] r = tt
rises_strip t n (x ∷ []) r = tt
rises_strip t n (x ∷ y ∷ past) (h, (k, r)) = (k, rises_strip t x.stamp (y ∷ past) (k, r))

later_strip : (t n : ℕ) (past : List Dated) → RisesFrom n past → IsLater (Some n) (map (strip t) past)
later_strip t n [] r = tt
later_strip t n (x ∷ past) (h, r) = h

-- what the past tells, its entries tell
tells_strip : (set : Setting) (all : List Stamped) (t : ℕ) (c : Course) (past : List Dated) → AsShould (λ d. deed_in all d.act) past → TellsPast set t c past → TellsAll set all t c (map (strip t) past)
tells_strip set all t c [] good told = tt
tells_strip set all t c (x ∷ past) (h, good) (here, told) =
    (here, subst (λ (d : Deed). TellsAll set all t (further c d) (map (strip t) past)) (sym h) (tells_strip set all t (further c x.deed) past good told))

deed_act : (all : List Stamped) (act : Act) → (deed_in all act).act ≡ act
deed_act all (Put b k shape) = refl
deed_act all (Take b k) = refl
deed_act all (Empty b) = refl
deed_act all (Start k shape) = refl
deed_act all (Print shape) = refl
deed_act all (End why) = refl
deed_act all (Wait b) = refl
deed_act all (Bound b k) = refl

map_map : {A B C : Type 0} (f : B → C) (g : A → B) (xs : List A) → map f (map g xs) ≡ map (λ x. f (g x)) xs
map_map f g [] = refl
map_map f g (x ∷ xs) = ap (λ ys. f (g x) ∷ ys) (map_map f g xs)

empty_weight : {A : Type 0} (xs : List A) → weigh (λ x. 1) xs ≡ 0 → xs ≡ []
empty_weight [] e = refl
empty_weight (x ∷ xs) e = absurd (omega arith)

module _ (set : Setting) (parts : List (List Stamped)) (traces : List Trace) (bal : Balanced set parts traces) where
  did_law : (g : Dated → ℕ) (t : ℕ) → weigh (λ (trace : Trace). weigh g trace.past) (filter (has_task t) traces) ≡ weigh (λ (s : Stamped). g (dated_in (joined parts) s)) (filter (is_of t) (joined parts))
  did_law g t =
      let a = weigh_filter (λ (trace : Trace). weigh g trace.past) (has_task t) traces in
      let b = weigh_each (λ (trace : Trace). weigh (did_weight g t) (items_of trace)) (λ (trace : Trace). cond (has_task t trace) (weigh g trace.past) 0) (trace_did g t) traces in
      let c : weigh (λ (trace : Trace). weigh (did_weight g t) (items_of trace)) traces ≡ 0 + weigh (λ (s : Stamped). weigh (did_weight g t) (entry_items (joined parts) s)) (joined parts) = bal.same (did_weight g t) in
      let d = weigh_each (λ (s : Stamped). weigh (did_weight g t) (entry_items (joined parts) s)) (λ (s : Stamped). cond (is_of t s) (g (dated_in (joined parts) s)) 0) (entry_did g t (joined parts)) (joined parts) in
      let e = weigh_filter (λ (s : Stamped). g (dated_in (joined parts) s)) (is_of t) (joined parts) in
      omega arith

  born_law : (g : ℕ → Beginning → ℕ) (t : ℕ) → weigh (λ (trace : Trace). g trace.stamp trace.beginning) (filter (has_task t) traces) ≡ born_weight g t (Born 0 0 Boot) + starts_weight g t (filter is_registered (joined parts))
  born_law g t =
      let a = weigh_filter (λ (trace : Trace). g trace.stamp trace.beginning) (has_task t) traces in
      let b = weigh_each (λ (trace : Trace). weigh (born_weight g t) (items_of trace)) (λ (trace : Trace). cond (has_task t trace) (g trace.stamp trace.beginning) 0) (trace_born g t) traces in
      let c : weigh (λ (trace : Trace). weigh (born_weight g t) (items_of trace)) traces ≡ born_weight g t (Born 0 0 Boot) + weigh (λ (s : Stamped). weigh (born_weight g t) (entry_items (joined parts) s)) (joined parts) = bal.same (born_weight g t) in
      let d = weigh_each (λ (s : Stamped). weigh (born_weight g t) (entry_items (joined parts) s)) (λ (s : Stamped). cond (is_registered s) (weigh (born_weight g t) (born_items s.stamp s.entry.act)) 0) (entry_born g t (joined parts)) (joined parts) in
      let e = weigh_filter (λ (s : Stamped). weigh (born_weight g t) (born_items s.stamp s.entry.act)) is_registered (joined parts) in
      omega arith

  abbrev whole : List Stamped
  whole = in_order (joined parts)

  pub box_whole : (box : BoxName) → filter (is_on box) (in_order (joined parts)) ≡ filter (is_on box) (joined parts)
  box_whole box = filter_in_order (is_on box) (joined parts) (bal.boxes_rise box)

  register_whole : filter is_registered (in_order (joined parts)) ≡ filter is_registered (joined parts)
  register_whole = filter_in_order is_registered (joined parts) bal.register_rises

  starts_whole : starts_in (in_order (joined parts)) ≡ starts_in (filter is_registered (joined parts))
  starts_whole = sym (starts_among (in_order (joined parts))) ∙ ap starts_in register_whole

  shape_whole : (box : BoxName) (n : ℕ) → shape_put box n (in_order (joined parts)) ≡ shape_put box n (joined parts)
  shape_whole box n = sym (shape_among box n (in_order (joined parts))) ∙ (ap (shape_put box n) (box_whole box) ∙ shape_among box n (joined parts))

  deed_whole : (act : Act) → deed_in (in_order (joined parts)) act ≡ deed_in (joined parts) act
  deed_whole (Take b k) = ap (λ (shape : List Token). record { act = Take b k; taken = shape }) (shape_whole b k)
  deed_whole (Put b k shape) = refl
  deed_whole (Empty b) = refl
  deed_whole (Start k shape) = refl
  deed_whole (Print shape) = refl
  deed_whole (End why) = refl
  deed_whole (Wait b) = refl
  deed_whole (Bound b k) = refl

  -- what began with that number
  total : (g : ℕ → Beginning → ℕ) → ℕ → ℕ
  total g zero = g 0 Boot
  total g (suc i) = birth_weight g (slice_get (starts_in (filter is_registered (joined parts))) i)

  born_total : (g : ℕ → Beginning → ℕ) (t : ℕ) → weigh (λ (trace : Trace). g trace.stamp trace.beginning) (filter (has_task t) traces) ≡ total g t
  unfolding total
  born_total g zero =
      let a = born_law g 0 in
      let b = starts_before g 0 1 (filter is_registered (joined parts)) bal.register (let h : 0 < 1 = omega arith in h) in
      let c : born_weight g 0 (Born 0 0 Boot) ≡ g 0 Boot = refl in
      omega arith
  born_total g (suc i) =
      let a = born_law g (suc i) in
      let b = starts_from g (suc i) 1 i (filter is_registered (joined parts)) bal.register (let h : suc i ≡ 1 + i = omega arith in h) in
      let n : (0 == suc i) ≡ false = grind (arith, nat_tests) in
      let c : born_weight g (suc i) (Born 0 0 Boot) ≡ 0 = ap (λ (b : Bool). cond b (g 0 Boot) 0) n in
      omega arith

  -- a task that has begun: its entries are its history
  pub record History (t s : ℕ) (b : Beginning) : Type 0 where
    pub trace : Trace
    pub only : filter (has_task t) traces ≡ trace ∷ []
    pub good : IsTrace set trace
    pub task : trace.task ≡ t
    pub stamp : trace.stamp ≡ s
    pub beginning : trace.beginning ≡ b
    pub entries : filter (is_of t) (in_order (joined parts)) ≡ map (strip t) trace.past
    pub deeds : deeds_in (in_order (joined parts)) t (in_order (joined parts)) ≡ deeds_of trace.past
    pub should : AsShould (λ d. deed_in (in_order (joined parts)) d.act) trace.past

  history : (t s : ℕ) (b : Beginning) → ((g : ℕ → Beginning → ℕ) → total g t ≡ g s b) → History t s b
  history t s b is = record {
    trace = tr;
    only = one.1;
    good = fact.0;
    task = (let h = fact.1 in grind (arith, nat_tests));
    stamp = one.2;
    beginning = one.3;
    entries = entries;
    deeds = deeds;
    should = should;
  }
    where
      one : (trace : Trace) × (filter (has_task t) traces ≡ trace ∷ []) × (trace.stamp ≡ s) × (trace.beginning ≡ b)
      one = one_trace (filter (has_task t) traces) s b (λ g. born_total g t ∙ is g)

      tr : Trace
      tr = one.0

      fact : IsTrace set one.0 × (has_task t one.0 ≡ true)
      fact =
          let l : AllByRecursion (λ x. IsTrace set x × (has_task t x ≡ true)) (one.0 ∷ []) = subst (λ (ts : List Trace). AllByRecursion (λ x. IsTrace set x × (has_task t x ≡ true)) ts) one.1 (all_filter (IsTrace set) (has_task t) traces bal.each) in
          l.0

      past_law : (g : Dated → ℕ) → weigh g one.0.past ≡ weigh (λ (s : Stamped). g (dated_in (joined parts) s)) (filter (is_of t) (joined parts))
      past_law g =
          let a = did_law g t in
          let b : weigh (λ (trace : Trace). weigh g trace.past) (filter (has_task t) traces) ≡ weigh g one.0.past + 0 = ap (weigh (λ (trace : Trace). weigh g trace.past)) one.1 in
          omega arith

      same_entry : (g : Stamped → ℕ) (x : Stamped) → cond (is_of t x) (g (record { stamp = x.stamp; full = x.full; entry = record { task = t; act = (deed_in (joined parts) x.entry.act).act } })) 0 ≡ cond (is_of t x) (g x) 0
      same_entry g x = by (is_of t x) refl
        where
          by : (b : Bool) → is_of t x ≡ b → cond b (g (record { stamp = x.stamp; full = x.full; entry = record { task = t; act = (deed_in (joined parts) x.entry.act).act } })) 0 ≡ cond b (g x) 0
          by false e = refl
          by true e =
              let u : x.entry.task ≡ t = grind (arith, nat_tests) in
              let a : (deed_in (joined parts) x.entry.act).act ≡ x.entry.act = deed_act (joined parts) x.entry.act in
              ap (λ (act : Act). g (record { stamp = x.stamp; full = x.full; entry = record { task = t; act = act } })) a ∙ ap (λ (k : ℕ). g (record { stamp = x.stamp; full = x.full; entry = record { task = k; act = x.entry.act } })) (sym u)

      entries : filter (is_of t) (in_order (joined parts)) ≡ map (strip t) one.0.past
      entries = told (filter (is_of t) (in_order (joined parts))) (map (strip t) one.0.past) (ordered_filter (is_of t) (in_order (joined parts)) (in_order_ordered (joined parts))) (rises_strip t one.0.stamp one.0.past fact.0.rises)
          (λ g.
          let a = weigh_filter g (is_of t) (in_order (joined parts)) in
          let b = weigh_in_order (λ x. cond (is_of t x) (g x) 0) (joined parts) in
          let c = weigh_each (λ x. cond (is_of t x) (g (record { stamp = x.stamp; full = x.full; entry = record { task = t; act = (deed_in (joined parts) x.entry.act).act } })) 0) (λ x. cond (is_of t x) (g x) 0) (same_entry g) (joined parts) in
          let d = weigh_filter (λ x. g (record { stamp = x.stamp; full = x.full; entry = record { task = t; act = (deed_in (joined parts) x.entry.act).act } })) (is_of t) (joined parts) in
          let e = past_law (λ p. g (strip t p)) in
          let f = weigh_map g (strip t) one.0.past in
          omega arith)

      deed_same : (act : Act) → miss (alike deed_coded (deed_in (joined parts) act) (deed_in (joined parts) (deed_in (joined parts) act).act)) ≡ 0
      deed_same act =
          ap (λ (a : Act). miss (alike deed_coded (deed_in (joined parts) act) (deed_in (joined parts) a))) (deed_act (joined parts) act)
          ∙ ap miss (alike_self deed_coded (deed_in (joined parts) act))

      should : AsShould (λ d. deed_in (in_order (joined parts)) d.act) one.0.past
      should =
          let none : weigh (λ (p : Dated). miss (alike deed_coded p.deed (deed_in (joined parts) p.deed.act))) one.0.past ≡ 0 =
          past_law (λ p. miss (alike deed_coded p.deed (deed_in (joined parts) p.deed.act)))
          ∙ weigh_none (λ (x : Stamped). miss (alike deed_coded (deed_in (joined parts) x.entry.act) (deed_in (joined parts) (deed_in (joined parts) x.entry.act).act))) (λ x. deed_same x.entry.act) (filter (is_of t) (joined parts)) in
          should_each (λ d. deed_in (joined parts) d.act) (λ d. deed_in (in_order (joined parts)) d.act) (λ d. sym (deed_whole d.act)) one.0.past (past_good (λ d. deed_in (joined parts) d.act) one.0.past none)

      deeds : deeds_in (in_order (joined parts)) t (in_order (joined parts)) ≡ deeds_of one.0.past
      deeds =
          ap (map (λ (x : Stamped). deed_in (in_order (joined parts)) x.entry.act)) entries
          ∙ (map_map (λ (x : Stamped). deed_in (in_order (joined parts)) x.entry.act) (strip t) one.0.past
          ∙ good_deeds (λ d. deed_in (in_order (joined parts)) d.act) one.0.past should)

  -- a task that has not begun has no entries
  unbegun : (t : ℕ) → ((g : ℕ → Beginning → ℕ) → total g t ≡ 0) → filter (is_of t) (in_order (joined parts)) ≡ []
  unbegun t is =
      let none : filter (has_task t) traces ≡ [] = no_trace (filter (has_task t) traces) (born_total (λ n b. 1) t ∙ is (λ n b. 1)) in
      let a = did_law (λ p. 1) t in
      let b : weigh (λ (trace : Trace). weigh (λ (p : Dated). 1) trace.past) (filter (has_task t) traces) ≡ 0 = ap (weigh (λ (trace : Trace). weigh (λ (p : Dated). 1) trace.past)) none in
      let c = weigh_filter (λ (x : Stamped). 1) (is_of t) (joined parts) in
      let d = weigh_in_order (λ x. cond (is_of t x) 1 0) (joined parts) in
      let e = weigh_filter (λ (x : Stamped). 1) (is_of t) (in_order (joined parts)) in
      empty_weight (filter (is_of t) (in_order (joined parts))) (omega arith)

  -- what a task begins with, among all entries
  Begins : ℕ → Birth → Type 0
  Begins t b = (s : ℕ) × ((g : ℕ → Beginning → ℕ) → total g t ≡ g s b.beginning) × ((b.stamp ≡ None) ⊎ (b.stamp ≡ Some s))

  begins : (t : ℕ) (b : Birth) → slice_get (births_in (in_order (joined parts))) t ≡ Some b → Begins t b
  unfolding total Begins
  begins zero b is = (0, (λ g. ap (g 0) (ap (λ (x : Birth). x.beginning) (some_is _ b is))), inl (sym (ap (λ (x : Birth). x.stamp) (some_is _ b is))))
  begins (suc i) b is =
      let at : slice_get (starts_in (filter is_registered (joined parts))) i ≡ Some b = ap (λ (bs : List Birth). slice_get bs i) (sym starts_whole) ∙ is in
      let s = starts_stamped (filter is_registered (joined parts)) i b at in
      (s.0, (λ g. ap (birth_weight g) at ∙ ap (λ (o : Option ℕ). stamp_weight g o b.beginning) s.1), inr s.1)

  unbegins : (t : ℕ) → slice_get (births_in (in_order (joined parts))) t ≡ None → (g : ℕ → Beginning → ℕ) → total g t ≡ 0
  unfolding total
  unbegins zero is g = absurd (cc)
  unbegins (suc i) is g = ap (birth_weight g) (ap (λ (bs : List Birth). slice_get bs i) (sym starts_whole) ∙ is)

  pub history_at : (t : ℕ) (b : Birth) → slice_get (births_in (in_order (joined parts))) t ≡ Some b → (s : ℕ) × History t s b.beginning × ((b.stamp ≡ None) ⊎ (b.stamp ≡ Some s))
  unfolding Begins
  history_at t b is = let x = begins t b is in (x.0, history t x.0 b.beginning x.1, x.2)

  rise_at : (t : ℕ) (o : Option Birth) → slice_get (births_in (in_order (joined parts))) t ≡ o → Rises (filter (is_of t) (in_order (joined parts)))
  rise_at t None is = subst (λ (es : List Stamped). Rises es) (sym (unbegun t (unbegins t is))) tt
  rise_at t (Some b) is =
      let h = (history_at t b is).1 in
      subst (λ (es : List Stamped). Rises es) (sym h.entries) (rises_strip t h.trace.stamp h.trace.past h.good.rises)

  lone_at : (t : ℕ) (b : Birth) → slice_get (births_in (in_order (joined parts))) t ≡ Some b → (l : Lone) × IsLone set t (course_in (in_order (joined parts)) t b) l
  lone_at t b is =
      let h = (history_at t b is).1 in (
        h.good.lone,
        subst (λ (ds : List Deed). IsLone set t (record { beginning = b.beginning; deeds = ds }) h.good.lone) (sym h.deeds)
            (subst (λ (x : Beginning). IsLone set t (record { beginning = x; deeds = deeds_of h.trace.past }) h.good.lone) h.beginning
            (subst (λ (n : ℕ). IsLone set n (record { beginning = h.trace.beginning; deeds = deeds_of h.trace.past }) h.good.lone) h.task h.good.is)),
      )

  told_at : (t : ℕ) (b : Birth) → slice_get (births_in (in_order (joined parts))) t ≡ Some b → TellsAll set (in_order (joined parts)) t (record { beginning = b.beginning; deeds = [] }) (filter (is_of t) (in_order (joined parts)))
  told_at t b is =
      let h = (history_at t b is).1 in
      let past : TellsPast set t (record { beginning = b.beginning; deeds = [] }) h.trace.past =
      subst (λ (x : Beginning). TellsPast set t (record { beginning = x; deeds = [] }) h.trace.past) h.beginning
      (subst (λ (n : ℕ). TellsPast set n (record { beginning = h.trace.beginning; deeds = [] }) h.trace.past) h.task h.good.told) in
      subst (λ (es : List Stamped). TellsAll set (in_order (joined parts)) t (record { beginning = b.beginning; deeds = [] }) es) (sym h.entries)
      (tells_strip set (in_order (joined parts)) t (record { beginning = b.beginning; deeds = [] }) h.trace.past h.should past)

  is_later : (o : Option ℕ) (s : ℕ) (es : List Stamped) → (o ≡ None) ⊎ (o ≡ Some s) → IsLater (Some s) es → IsLater o es
  is_later o s es (inl e) later = subst (λ (x : Option ℕ). IsLater x es) (sym e) (none es)
    where
      none : (xs : List Stamped) → IsLater None xs
      none [] = tt
      none (x ∷ xs) = tt
  is_later o s es (inr e) later = subst (λ (x : Option ℕ). IsLater x es) (sym e) later

  later_at : (t : ℕ) (b : Birth) → slice_get (births_in (in_order (joined parts))) t ≡ Some b → IsLater b.stamp (filter (is_of t) (in_order (joined parts)))
  later_at t b is =
      let x = history_at t b is in
      let h = x.1 in
      is_later b.stamp x.0 (filter (is_of t) (in_order (joined parts))) x.2
      (subst (λ (es : List Stamped). IsLater (Some x.0) es) (sym h.entries) (subst (λ (n : ℕ). IsLater (Some n) (map (strip t) h.trace.past)) h.stamp (later_strip t h.trace.stamp h.trace.past h.good.rises)))

  pub balanced : StampedRun set parts
  balanced = record {
    tasks_rise = λ t. rise_at t (slice_get (births_in (in_order (joined parts))) t) refl;
    boxes_rise = λ box. subst (λ (es : List Stamped). Rises es) (sym (box_whole box)) (bal.boxes_rise box);
    register_rises = subst (λ (es : List Stamped). Rises es) (sym register_whole) bal.register_rises;
    lones = lone_at;
    told = told_at;
    boxes = λ box. subst (λ (es : List Stamped). MailFrom empty_mailbox es) (sym (box_whole box)) (bal.boxes box);
    register = subst (λ (es : List Stamped). RegisterFrom 1 es) (sym register_whole) bal.register;
    started = λ t is. unbegun t (unbegins t is);
    later = later_at;
  }

pub balanced_runs : BalancedRuns
balanced_runs set parts traces bal = balanced set parts traces bal
