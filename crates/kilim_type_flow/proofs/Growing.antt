-- How marks grow.
use Rattle.std.proofs.Common.{if◌then◌else◌, ◌≡◌, ◌⊎◌, inl, inr, ℕ, zero, suc, ◌+◌, ◌<◌, ◌≤◌, Bool, true, false, List, [], ◌∷◌, ◌++◌, length, get_or, set, take, drop, replicate, slice_get, Option, Some, refl, ap, sym, ◌∙◌, subst, arith, length-append}
use Rattle.std.proofs.lemmas.List.{length-set}
use Rattle.std.proofs.lemmas.Option.{slice_get_within}
use Rattle.kilim_program.specs.declared.class.Method.{Method}
use Rattle.kilim_program.specs.declared.instr.Instr.{Instr}
use Rattle.kilim_program.specs.Lengths.{fetched, first_place}
use Rattle.kilim_program.specs.lookups.Places.{Rising}
use Rattle.kilim_type_spec.specs.Typed.{Among, Catches, GoesOn, IsLive, Live, ReadsIt, reads, writes}
use Rattle.kilim_type_flow.specs.Marks.{AreBefore, AreColumns, EachBelow, EachReadBelow, EachUpTo, Goes, Grown, IsColumn, Marks, NoneReads, Opens, Passes, ReadMarked, ReadsMarked, Tos, caught_tos, flow_tos, is_marked}
use Rattle.kilim_type_flow.specs.Table.{live_in}
use Rattle.kilim_type_flow.proofs.FlowEdges.{entry_fetched, entry_of, found_here, same_entry}
use Rattle.kilim_type_flow.proofs.Lists.{among_last, among_left, take_next, last_among, marked_within, none_marked, one_less, same_or, set_keeps, set_marks, set_only}

pub both_ways : (b : Bool) → b ≡ true → b ≡ false → ⊥
both_ways b p q = cc

lt_or_le : (a b : ℕ) → (a < b) ⊎ (b ≤ a)
lt_or_le a zero = inr (omega arith)
lt_or_le zero (suc b) = inl (omega arith)
lt_or_le (suc a) (suc b) = elim (lt_or_le a b) [ inl h ↦ inl (omega arith) | inr h ↦ inr (omega arith) ]

pub no_growth : (P : ℕ → Type 0) (marks : List Bool) (work : List ℕ) → Grown P marks work marks work
no_growth P marks work = record {
  same = refl;
  keeps = λ x h. h;
  only = λ x h. inl h;
  stays = λ x h. h;
  waits = λ x h. inl h;
  news = λ x h. inl h;
  count = refl;
}

pub grown_more : (P Q R : ℕ → Type 0) (a : List Bool) (b : List ℕ) (c : List Bool) (d : List ℕ) (e : List Bool) (f : List ℕ)
    → ((x : ℕ) → P x → R x) → ((x : ℕ) → Q x → R x) → Grown P a b c d → Grown Q c d e f → Grown R a b e f
grown_more P Q R a b c d e f p q g h = record {
  same = h.same ∙ g.same;
  keeps = λ x m. h.keeps x (g.keeps x m);
  only = λ x m. elim (h.only x m) [ inl n ↦ elim (g.only x n) [ inl o ↦ inl o | inr o ↦ inr (p x o) ] | inr n ↦ inr (q x n) ];
  stays = λ x m. h.stays x (g.stays x m);
  waits = λ x m. elim (h.waits x m) [ inl n ↦ elim (g.waits x n) [ inl o ↦ inl o | inr o ↦ inr (h.keeps x o) ] | inr n ↦ inr n ];
  news = λ x m. elim (h.news x m) [ inl n ↦ elim (g.news x n) [ inl o ↦ inl o | inr o ↦ inr (h.stays x o) ] | inr n ↦ inr n ];
  count = h.count ∙ g.count;
}

pub grown_as : (P Q : ℕ → Type 0) (a : List Bool) (b : List ℕ) (c : List Bool) (d : List ℕ) → ((x : ℕ) → P x → Q x) → Grown P a b c d → Grown Q a b c d
grown_as P Q a b c d p g = record {
  same = g.same;
  keeps = g.keeps;
  only = λ x m. elim (g.only x m) [ inl o ↦ inl o | inr o ↦ inr (p x o) ];
  stays = g.stays;
  waits = g.waits;
  news = g.news;
  count = g.count;
}

-- one place is marked, and waits
pub one_grown : (marks : List Bool) (work : List ℕ) (p : ℕ) → p < length marks → is_marked marks p ≡ false → Grown (λ x. x ≡ p) marks work (set marks p true) (work ++ p ∷ [])
one_grown marks work p lt free = record {
  same = length-set marks p true;
  keeps = λ x h. set_keeps marks p x h;
  only = λ x h. set_only marks p x h;
  stays = λ x h. among_left work (p ∷ []) x h;
  waits = λ x h. elim (among_last work p x h) [ inl a ↦ inl a | inr e ↦ inr (subst (λ (n : ℕ). is_marked (set marks p true) n ≡ true) (sym e) (set_marks marks p lt)) ];
  news = λ x h. elim (set_only marks p x h) [ inl a ↦ inl a | inr e ↦ inr (subst (λ (n : ℕ). Among (work ++ p ∷ []) n) (sym e) (last_among work p)) ];
  count = let l = one_less marks p lt free in let a = length-append work (p ∷ []) in omega (arith, l, a);
}

-- ---- what the marks mean

pub no_marks : (m : Method) (k size : ℕ) → Marks m k (replicate size false) []
no_marks m k size = record {
  sound = λ p h. absurd (none_marked size p h);
  waits = λ p h. absurd h;
  closed = λ p q g o h. absurd (none_marked size q h);
  caught = λ p q g h. absurd (none_marked size q h);
}

-- live places come
pub marks_grow : (m : Method) (k : ℕ) (P : ℕ → Type 0) (a : List Bool) (b : List ℕ) (c : List Bool) (d : List ℕ) → ((x : ℕ) → P x → Live m k x) → Grown P a b c d → Marks m k a b → Marks m k c d
marks_grow m k P a b c d live g s = record {
  sound = λ p h. elim (g.only p h) [ inl o ↦ s.sound p o | inr o ↦ live p o ];
  waits = λ p h. elim (g.waits p h) [ inl o ↦ g.keeps p (s.waits p o) | inr o ↦ o ];
  closed = λ p q goes passes h. elim (g.news q h) [
    | inl o ↦ elim (s.closed p q goes passes o) [ inl a ↦ inl (g.keeps p a) | inr w ↦ inr (g.stays q w) ]
    | inr w ↦ inr w
  ];
  caught = λ p q goes h. elim (g.news q h) [
    | inl o ↦ elim (s.caught p q goes o) [ inl a ↦ inl (g.keeps p a) | inr w ↦ inr (g.stays q w) ]
    | inr w ↦ inr w
  ];
}

there_once : (m : Method) (p : ℕ) (i j : Instr) (to u : ℕ) → fetched m.code m.code_length p ≡ Some (i, to) → fetched m.code m.code_length p ≡ Some (j, u) → i ≡ j
there_once m p i j to u a b = let e : (let x : Option (Instr × ℕ) = Some (i, to) in x) ≡ Some (j, u) = sym a ∙ b in ap (λ (x : Instr × ℕ). x.0) (found_here (i, to) (j, u) e)

-- a place whose instruction doesn't write the local is marked as such
opened : (m : Method) (k : ℕ) (passing : List Bool) → Opens m k (length m.code) passing → (p : ℕ) → Passes m k p → is_marked passing p ≡ true
opened m k passing opens p o =
    let e = entry_of m.code m.code_length p o.instr o.to o.there in
    opens.each e.at (p, o.instr) (slice_get_within m.code e.at _ e.there) e.there o.not_written

goes_on : (m : Method) (k p q : ℕ) → Goes flow_tos m p q → Passes m k p → Live m k q → Live m k p
goes_on m k p q g o l =
    let same = there_once m p g.instr o.instr g.to o.to g.there o.there in
    GoesOn p g.to q g.instr g.there (ap (λ (i : Instr). writes i k) same ∙ o.not_written) g.along l

raises_to : (m : Method) (k p q : ℕ) → Goes (caught_tos m) m p q → Live m k q → Live m k p
raises_to m k p q g l = Catches p g.to q g.instr g.there g.along l

-- A place was taken out of the work. All places before it that are open are marked, and where it is a handler all places in its range.
module _ (m : Method) (k q : ℕ) (rows caught_rows : List (List ℕ)) (row caught_row : List ℕ) (passing everywhere a : List Bool) (b old : List ℕ) (c : List Bool) (d : List ℕ) (e : List Bool) (f : List ℕ)
    (row_is : row ≡ get_or rows q []) (caught_row_is : caught_row ≡ get_or caught_rows q []) (before : AreBefore flow_tos m (length a) rows) (caught : AreBefore (caught_tos m) m (length a) caught_rows)
    (opens : Opens m k (length m.code) passing) (every : (x : ℕ) → x < length a → is_marked everywhere x ≡ true) (below : EachBelow (length a) m.code) (is : old ≡ b ++ q ∷ []) (s : Marks m k a old)
    (g : Grown (λ x. Among row x × (is_marked passing x ≡ true)) a b c d) (all : (x : ℕ) → Among row x → is_marked passing x ≡ true → is_marked c x ≡ true)
    (g2 : Grown (λ x. Among caught_row x × (is_marked everywhere x ≡ true)) c d e f) (all2 : (x : ℕ) → Among caught_row x → is_marked everywhere x ≡ true → is_marked e x ≡ true) where
  both : Grown (λ x. (Among row x × (is_marked passing x ≡ true)) ⊎ (Among caught_row x × (is_marked everywhere x ≡ true))) a b e f
  both = grown_more (λ x. Among row x × (is_marked passing x ≡ true)) (λ x. Among caught_row x × (is_marked everywhere x ≡ true))
      (λ x. (Among row x × (is_marked passing x ≡ true)) ⊎ (Among caught_row x × (is_marked everywhere x ≡ true))) a b c d e f (λ x h. inl h) (λ x h. inr h) g g2

  q_marked : is_marked a q ≡ true
  q_marked = s.waits q (subst (λ (xs : List ℕ). Among xs q) (sym is) (last_among b q))

  news_live : (p : ℕ) → (Among row p × (is_marked passing p ≡ true)) ⊎ (Among caught_row p × (is_marked everywhere p ≡ true)) → Live m k p
  news_live p (inl o) = goes_on m k p q (before.sound p q (subst (λ (xs : List ℕ). Among xs p) row_is o.0)) (opens.sound p o.1) (s.sound q q_marked)
  news_live p (inr o) = raises_to m k p q (caught.sound p q (subst (λ (xs : List ℕ). Among xs p) caught_row_is o.0)) (s.sound q q_marked)

  -- what leads to this place is marked
  led : (tos : Tos) (p r : ℕ) → Goes tos m p r → (r ≡ q → is_marked e p ≡ true) → (is_marked a p ≡ true) ⊎ Among old r → (is_marked e p ≡ true) ⊎ Among f r
  led tos p r goes here (inl x) = inl (both.keeps p x)
  led tos p r goes here (inr w) = elim (among_last b q r (subst (λ (xs : List ℕ). Among xs r) is w)) [ inl y ↦ inr (both.stays r y) | inr same ↦ inl (here same) ]

  flow_here : (p : ℕ) → Goes flow_tos m p q → Passes m k p → is_marked e p ≡ true
  flow_here p goes passes = g2.keeps p (all p (subst (λ (xs : List ℕ). Among xs p) (sym row_is) (before.each p q (marked_within a q q_marked) goes)) (opened m k passing opens p passes))

  caught_here : (p : ℕ) → Goes (caught_tos m) m p q → is_marked e p ≡ true
  caught_here p goes =
      let at = entry_of m.code m.code_length p goes.instr goes.to goes.there in
      all2 p (subst (λ (xs : List ℕ). Among xs p) (sym caught_row_is) (caught.each p q (marked_within a q q_marked) goes)) (every p (below at.at (p, goes.instr) at.there))

  pub turned : Marks m k e f
  turned = record {
    sound = λ p h. elim (both.only p h) [ inl o ↦ s.sound p o | inr o ↦ news_live p o ];
    waits = λ p h. elim (both.waits p h) [
      | inl o ↦ both.keeps p (s.waits p (subst (λ (xs : List ℕ). Among xs p) (sym is) (among_left b (q ∷ []) p o)))
      | inr o ↦ o
    ];
    closed = λ p r goes passes h. elim (both.news r h) [
      | inr w ↦ inr w
      | inl o ↦ led flow_tos p r goes (λ same. flow_here p (subst (λ (n : ℕ). Goes flow_tos m p n) same goes) passes) (s.closed p r goes passes o)
    ];
    caught = λ p r goes h. elim (both.news r h) [
      | inr w ↦ inr w
      | inl o ↦ led (caught_tos m) p r goes (λ same. caught_here p (subst (λ (n : ℕ). Goes (caught_tos m) m p n) same goes)) (s.caught p r goes o)
    ];
  }

-- in the end all live places are marked
pub all_marked : (m : Method) (k : ℕ) (marks : List Bool) → Marks m k marks [] → ReadsMarked m k (length m.code) marks → (p : ℕ) → Live m k p → is_marked marks p ≡ true
all_marked m k marks s reads_are p (ReadsIt p' to i there it) =
    let e = entry_of m.code m.code_length p' i to there in
    reads_are e.at (p', i) (slice_get_within m.code e.at _ e.there) e.there it
all_marked m k marks s reads_are p (GoesOn p' to q i there kept along later) =
    elim (s.closed p' q (record { to = to; instr = i; there = there; along = along }) (record { to = to; instr = i; there = there; not_written = kept }) (all_marked m k marks s reads_are q later)) [ inl a ↦ a | inr n ↦ absurd n ]
all_marked m k marks s reads_are p (Catches p' to q i there along later) =
    elim (s.caught p' q (record { to = to; instr = i; there = there; along = along }) (all_marked m k marks s reads_are q later)) [ inl a ↦ a | inr n ↦ absurd n ]

-- ---- from entry to entry

pub each_more : {X : Type 0} (xs : List X) (P : X → Type 0) (count : ℕ) (x : X) → slice_get xs count ≡ Some x → EachUpTo count xs P → P x → EachUpTo (count + 1) xs P
each_more xs P count x is each p at y lt there = elim (same_or at count) [
  | inl same ↦ subst P (let z : Some x ≡ Some y = sym is ∙ (ap (λ (n : ℕ). slice_get xs n) (sym same) ∙ there) in let e : x ≡ y = cc in e) p
  | inr n ↦ each at y (omega arith) there
]

pub each_of_all : {X : Type 0} (xs : List X) (P : X → Type 0) (count : ℕ) → length xs ≤ count → EachUpTo count xs P → (at : ℕ) (x : X) → slice_get xs at ≡ Some x → P x
each_of_all xs P count all each at x there = each at x (let w = slice_get_within xs at x there in omega (arith, w)) there

module _ (m : Method) (k : ℕ) (rising : Rising m.code) where
  live_here : (at : ℕ) (e : ℕ × Instr) → slice_get m.code at ≡ Some e → reads e.1 k ≡ true → Live m k e.0
  live_here at e is it = ReadsIt e.0 (first_place (drop (at + 1) m.code) m.code_length) e.1 (entry_fetched m.code m.code_length at e rising is) it

  -- one more entry that may read the local
  pub read_more : (count : ℕ) (e : ℕ × Instr) (a : List Bool) (b : List ℕ) (c : List Bool) (d : List ℕ) → slice_get m.code count ≡ Some e → Grown (λ x. (x ≡ e.0) × (reads e.1 k ≡ true)) a b c d → Marks m k a b → Marks m k c d
  read_more count e a b c d is g s = marks_grow m k (λ x. (x ≡ e.0) × (reads e.1 k ≡ true)) a b c d (λ x h. subst (λ (n : ℕ). Live m k n) (sym h.0) (live_here count e is h.1)) g s

  pub no_opens : (size : ℕ) → Opens m k 0 (replicate size false)
  no_opens size = record { sound = λ p h. absurd (none_marked size p h); each = λ at e lt. absurd (omega arith) }

  pub open_more : (b : Bool) (size count : ℕ) (e : ℕ × Instr) (marks : List Bool) → length marks ≡ size → EachBelow size m.code → slice_get m.code count ≡ Some e → writes e.1 k ≡ b → Opens m k count marks → Opens m k (count + 1) (if b then marks else set marks e.0 true)
  open_more true size count e marks same below is writes_it o = record {
    sound = o.sound;
    each = λ at d lt there h. elim (same_or at count) [
      | inl s ↦ absurd (both_ways (writes e.1 k) writes_it (subst (λ (x : ℕ × Instr). writes x.1 k ≡ false) (same_entry m.code at count d e there is s) h))
      | inr n ↦ o.each at d (omega arith) there h
    ];
  }
  open_more false size count e marks same below is open_there o = record {
    sound = λ p h. elim (set_only marks e.0 p h) [
      | inl a ↦ o.sound p a
      | inr s ↦ subst (λ (n : ℕ). Passes m k n) (sym s) (record { to = first_place (drop (count + 1) m.code) m.code_length; instr = e.1; there = entry_fetched m.code m.code_length count e rising is; not_written = open_there })
    ];
    each = λ at d lt there h. elim (same_or at count) [
      | inl s ↦ subst (λ (x : ℕ × Instr). is_marked (set marks e.0 true) x.0 ≡ true) (sym (same_entry m.code at count d e there is s)) (set_marks marks e.0 (let w = below count e is in omega (arith, w, same)))
      | inr n ↦ set_keeps marks e.0 d.0 (o.each at d (omega arith) there h)
    ];
  }

-- ---- columns

not_live : (m : Method) (k : ℕ) → NoneReads m k → (p : ℕ) → Live m k p → ⊥
not_live m k none p (ReadsIt p' to i there it) = let e = entry_of m.code m.code_length p' i to there in none e.at (p', i) e.there it
not_live m k none p (GoesOn p' to q i there kept along later) = not_live m k none q later
not_live m k none p (Catches p' to q i there along later) = not_live m k none q later

pub no_column : (m : Method) (k : ℕ) → NoneReads m k → IsColumn m k []
no_column m k none p = (λ h. absurd (cc), λ l. absurd (not_live m k none p l))

pub unread : (m : Method) (k : ℕ) (marks : List Bool) → ReadMarked (length m.code) marks m.code → is_marked marks k ≡ false → NoneReads m k
unread m k marks read free at e there it = both_ways (is_marked marks k) (read at k e (slice_get_within m.code at e there) there it) free

get_front : (xs : List (List Bool)) (y : List Bool) (k : ℕ) → k < length xs → get_or (xs ++ y ∷ []) k [] ≡ get_or xs k []
get_front [] y k lt = absurd (omega arith)
get_front (x ∷ xs) y zero lt = refl
get_front (x ∷ xs) y (suc k) lt = get_front xs y k (omega arith)

get_behind : (xs : List (List Bool)) (y : List Bool) → get_or (xs ++ y ∷ []) (length xs) [] ≡ y
get_behind [] y = refl
get_behind (x ∷ xs) y = get_behind xs y

pub column_more : (m : Method) (count : ℕ) (columns : List (List Bool)) (column : List Bool) → length columns ≡ count → AreColumns m count columns → IsColumn m count column → AreColumns m (count + 1) (columns ++ column ∷ [])
column_more m count columns column same are is k lt = elim (same_or k count) [
  | inl e ↦ subst (λ (n : ℕ). IsColumn m n (get_or (columns ++ column ∷ []) n [])) (sym e)
      (subst (λ (marks : List Bool). IsColumn m count marks) (sym (ap (λ (n : ℕ). get_or (columns ++ column ∷ []) n []) (sym same) ∙ get_behind columns column)) is)
  | inr n ↦ subst (λ (marks : List Bool). IsColumn m k marks) (sym (get_front columns column k (omega arith))) (are k (omega arith))
]

past : (columns : List (List Bool)) (k : ℕ) → length columns ≤ k → get_or columns k [] ≡ []
past [] k le = refl
past (c ∷ columns) zero le = absurd (omega arith)
past (c ∷ columns) (suc k) le = past columns k (omega arith)

column_at : (m : Method) (columns : List (List Bool)) (k : ℕ) → AreColumns m (length columns) columns → EachReadBelow (length columns) m.code → (k < length columns) ⊎ (length columns ≤ k) → IsColumn m k (get_or columns k [])
column_at m columns k are below (inl lt) = are k lt
column_at m columns k are below (inr le) = subst (λ (marks : List Bool). IsColumn m k marks) (sym (past columns k le)) (no_column m k (λ at e there it. let b = below at k e there it in absurd (omega (arith, b, le))))

pub table_is_live : (m : Method) (columns : List (List Bool)) → AreColumns m (length columns) columns → EachReadBelow (length columns) m.code → IsLive m (live_in columns)
table_is_live m columns are below p k = column_at m columns k are below (lt_or_le k (length columns)) p

-- ---- for the loops

pub open_same : (marks : List Bool) (p : ℕ) (b : Bool) → length (if b then marks else set marks p true) ≡ length marks
open_same marks p true = refl
open_same marks p false = length-set marks p true

pub took : (befores : List ℕ) (passing : List Bool) (n p : ℕ) (a : List Bool) (b : List ℕ) (c : List Bool) (d : List ℕ) (e : List Bool) (f : List ℕ) → slice_get befores n ≡ Some p
    → Grown (λ x. Among (take n befores) x × (is_marked passing x ≡ true)) a b c d × ((x : ℕ) → Among (take n befores) x → is_marked passing x ≡ true → is_marked c x ≡ true)
    → Grown (λ x. (x ≡ p) × (is_marked passing x ≡ true)) c d e f → (is_marked passing p ≡ true → is_marked e p ≡ true)
    → Grown (λ x. Among (take (n + 1) befores) x × (is_marked passing x ≡ true)) a b e f × ((x : ℕ) → Among (take (n + 1) befores) x → is_marked passing x ≡ true → is_marked e x ≡ true)
took befores passing n p a b c d e f there so g marked =
    let is = take_next befores n p there in (
      grown_more (λ x. Among (take n befores) x × (is_marked passing x ≡ true)) (λ x. (x ≡ p) × (is_marked passing x ≡ true)) (λ x. Among (take (n + 1) befores) x × (is_marked passing x ≡ true)) a b c d e f
          (λ x h. (subst (λ (xs : List ℕ). Among xs x) (sym is) (among_left (take n befores) (p ∷ []) x h.0), h.1))
          (λ x h. (subst (λ (xs : List ℕ). Among xs x) (sym is) (subst (λ (y : ℕ). Among (take n befores ++ p ∷ []) y) (sym h.0) (last_among (take n befores) p)), h.1))
          so.0 g,
      λ x h open_there. elim (among_last (take n befores) p x (subst (λ (xs : List ℕ). Among xs x) is h)) [
        | inl o ↦ g.keeps x (so.1 x o open_there)
        | inr q ↦ subst (λ (y : ℕ). is_marked e y ≡ true) (sym q) (marked (subst (λ (y : ℕ). is_marked passing y ≡ true) q open_there))
      ],
    )

pub reads_more : (m : Method) (k count : ℕ) (e : ℕ × Instr) (old new : List Bool) → slice_get m.code count ≡ Some e → ((x : ℕ) → is_marked old x ≡ true → is_marked new x ≡ true) → ReadsMarked m k count old
    → (reads e.1 k ≡ true → is_marked new e.0 ≡ true) → ReadsMarked m k (count + 1) new
reads_more m k count e old new is keeps so marked at d lt there it = elim (same_or at count) [
  | inl s ↦ let f = same_entry m.code at count d e there is s in subst (λ (x : ℕ × Instr). is_marked new x.0 ≡ true) (sym f) (marked (subst (λ (x : ℕ × Instr). reads x.1 k ≡ true) f it))
  | inr n ↦ keeps d.0 (so at d (omega arith) there it)
]

pub reads_kept : (m : Method) (k count : ℕ) (old new : List Bool) → ((x : ℕ) → is_marked old x ≡ true → is_marked new x ≡ true) → ReadsMarked m k count old → ReadsMarked m k count new
reads_kept m k count old new keeps so at e lt there it = keeps e.0 (so at e lt there it)

pub waits_within : (m : Method) (k p : ℕ) (marks : List Bool) (b old : List ℕ) → old ≡ b ++ p ∷ [] → Marks m k marks old → p < length marks
waits_within m k p marks b old is s = marked_within marks p (s.waits p (subst (λ (xs : List ℕ). Among xs p) (sym is) (last_among b p)))

pub before_below : (tos : Tos) (m : Method) (size : ℕ) (rows : List (List ℕ)) (q x : ℕ) → AreBefore tos m size rows → EachBelow size m.code → Among (get_or rows q []) x → x < size
before_below tos m size rows q x before below h =
    let g = before.sound x q h in
    let e = entry_of m.code m.code_length x g.instr g.to g.there in
    below e.at (x, g.instr) e.there

none_left : (work : List ℕ) → length work ≡ 0 → work ≡ []
none_left [] h = refl
none_left (w ∷ work) h = absurd (omega arith)

pub column_is : (m : Method) (k : ℕ) (marks : List Bool) (work : List ℕ) → length work ≡ 0 → Marks m k marks work → ReadsMarked m k (length m.code) marks → IsColumn m k marks
column_is m k marks work none s reads_are p = (s.sound p, all_marked m k marks (subst (λ (ws : List ℕ). Marks m k marks ws) (none_left work none) s) reads_are p)

-- a local that isn't marked as read
pub none_reads : (m : Method) (read : List Bool) (k : ℕ) (b : Bool) → ReadMarked (length m.code) read m.code → b ≡ is_marked read k → b ≡ false → NoneReads m k
none_reads m read k b marked is not_read at e there reads_it = both_ways (is_marked read k) (marked at k e (slice_get_within m.code at e there) there reads_it) (sym is ∙ not_read)

-- all places are marked
pub all_open : (size x : ℕ) → x < size → is_marked (replicate size true) x ≡ true
all_open zero x lt = absurd (omega arith)
all_open (suc n) zero lt = refl
all_open (suc n) (suc x) lt = all_open n x (omega arith)
