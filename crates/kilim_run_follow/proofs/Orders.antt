-- Boards on which the fibers that are ready stand in another order, or one of them is lent from the middle.
use Rattle.std.proofs.Common.{◌≡◌, ℕ, zero, suc, ◌+◌, ◌<◌, ◌≤◌, ◌-◌, List, [], ◌∷◌, ◌++◌, Option, Some, None, length, map, take, get_or, refl, sym, ap, subst, ◌∙◌, arith}
use Rattle.std.specs.Prelude.{IsPermutation, replicate, slice_set}
use Rattle.std.specs.List.{AllByRecursion, insert, remove}
use Rattle.std.proofs.lemmas.List.Elements.{All-from_recursion, recursion_from_All}
use Rattle.std.proofs.lemmas.List.Sorted.{All-permutation, IsPermutation-append_left, IsPermutation-insert, IsPermutation-map, IsPermutation-remove, IsPermutation-to_front, IsPermutation-trans, length_permutation}
use Rattle.kilim_run_model.specs.State.{Setting}
use Rattle.kilim_run_model.specs.Lone.{Lone}
use Rattle.kilim_run_model.specs.Course.{Course}
use Rattle.kilim_run_board.specs.Board.{Board, BoardStands, IsOwn, Lends, SameRun, due_in, lent_of, may_wait, parked_of, places_of, ready_of, stands_in}
use Rattle.kilim_run_board.specs.Places.{Place, Ready, Stood}
use Rattle.kilim_run_board.specs.Seen.{CourseAt}
use Rattle.kilim_run_board.specs.fibers.Fibers.{StandsFor}
use Rattle.kilim_run_board.proofs.Boards.{same_board}
use Rattle.kilim_run_board.proofs.Calls.{lend_stands}
use Rattle.kilim_run_board.proofs.Places.{stood_shuffled}
use Rattle.kilim_run_board.specs.waiting.Mailboxes.{SameMails}
use Rattle.kilim_run_follow.specs.Lending.{LendsTask, Reorders, TakesOut, Widens}

all_shuffled : {A : Type 0} (P : A → Type 0) (xs ys : List A) → IsPermutation xs ys → AllByRecursion P xs → AllByRecursion P ys
all_shuffled P xs ys same all = recursion_from_All P ys (All-permutation P xs ys same (All-from_recursion P xs all))

module _ {F : Type 0} (task : F → ℕ) where
  abbrev place : F → Place
  place f = record { spot = Ready; task = task f }

  ready_is : (fs : List F) → ready_of task fs ≡ map place fs
  ready_is [] = refl
  ready_is (f ∷ fs) = ap (λ (ps : List Place). place f ∷ ps) (ready_is fs)

  ready_shuffled : (fs gs : List F) → IsPermutation fs gs → IsPermutation (ready_of task fs) (ready_of task gs)
  ready_shuffled fs gs same = subst (λ (ps : List Place). IsPermutation ps (ready_of task gs)) (sym (ready_is fs)) (subst (λ (ps : List Place). IsPermutation (map place fs) ps) (sym (ready_is gs)) (IsPermutation-map place fs gs same))

  module _ (course : F → Course) (holds : Setting → F → Lone → Type 0) (set : Setting) where
    abbrev Stand : Board F → Type 0
    Stand b = BoardStands task course holds set b

    pub reordered : (b b' : Board F) → Reorders b b' → Stand b → Stand b'
    reordered b b' o st =
        let b0 : Board F = record { journal = b.journal; tasks = b.tasks; ready = b'.ready; parked = b.parked; cells = b.cells; mails = b.mails; stopped = b.stopped } in
        let places : IsPermutation (places_of task b.ready b.cells b.parked) (places_of task b'.ready b.cells b.parked) =
        IsPermutation-append_left (lent_of b.cells ++ parked_of task b.parked) (ready_of task b.ready) (ready_of task b'.ready) (ready_shuffled b.ready b'.ready o.ready) in
        let st0 : Stand b0 = record {
          state = st.state;
          replay = st.replay;
          tasks = st.tasks;
          mails = st.mails;
          there = st.there;
          alive = st.alive;
          found = st.found;
          stood = stood_shuffled st.there (stands_in set st.state.lones) (may_wait st.state.books.mailboxes) (due_in b.stopped st.state.books.mailboxes) (places_of task b.ready b.cells b.parked) (places_of task b'.ready b.cells b.parked) places st.stood;
          ready = all_shuffled (IsOwn task course holds set st.state.books.courses) b.ready b'.ready o.ready st.ready;
          parked = st.parked;
        } in
        same_board task course holds set b0 b' o.run.journal o.run.tasks refl o.parked o.cells o.run.mails o.stopped st0

    pub task_lent : (b b' : Board F) (t : ℕ) (f : F) → b.cells ≡ None ∷ [] → LendsTask task b b' t f → Stand b → Stand b' × StandsFor task course holds set f × CourseAt b' (task f) (course f)
    task_lent b b' t f free l st =
        let b1 : Board F = record { journal = b.journal; tasks = b.tasks; ready = f ∷ b'.ready; parked = b.parked; cells = None ∷ []; mails = b.mails; stopped = b.stopped } in
        let same : SameRun b b1 = record { journal = refl; tasks = refl; mails = λ box. refl } in
        let st1 : Stand b1 = reordered b b1 (record { run = same; ready = l.ready; parked = refl; cells = sym free; stopped = refl }) st in
        let lends : Lends task b1 0 b' f = record { run = record { journal = l.run.journal; tasks = l.run.tasks; mails = l.run.mails }; ready = refl; parked = l.parked; cells = l.cells ∙ ap (λ (k : ℕ). Some k ∷ []) (sym l.is); stopped = l.stopped } in
        lend_stands task course holds set b1 b' 0 f refl lends st1

-- ---- other seats

pub none_lent : (n : ℕ) → lent_of (replicate n None) ≡ []
none_lent zero = refl
none_lent (suc n) = none_lent n

pub widened : {F : Type 0} (task : F → ℕ) (course : F → Course) (holds : Setting → F → Lone → Type 0) (set : Setting) (b b' : Board F) (seats : ℕ) → b.cells ≡ None ∷ [] → Widens b b' seats → BoardStands task course holds set b → BoardStands task course holds set b'
widened {F} task course holds set b b' seats free wide st =
    let lents : lent_of b.cells ≡ lent_of (replicate seats None) = ap lent_of free ∙ sym (none_lent seats) in
    let b0 : Board F = record { journal = b.journal; tasks = b.tasks; ready = b.ready; parked = b.parked; cells = replicate seats None; mails = b.mails; stopped = b.stopped } in
    let st0 : BoardStands task course holds set b0 = record {
      state = st.state;
      replay = st.replay;
      tasks = st.tasks;
      mails = st.mails;
      there = st.there;
      alive = st.alive;
      found = st.found;
      stood = subst (λ (ps : List Place). Stood st.there (stands_in set st.state.lones) (may_wait st.state.books.mailboxes) (due_in b.stopped st.state.books.mailboxes) (ready_of task b.ready ++ (ps ++ parked_of task b.parked))) lents st.stood;
      ready = st.ready;
      parked = st.parked;
    } in
    same_board task course holds set b0 b' wide.run.journal wide.run.tasks wide.ready wide.parked wide.cells wide.run.mails wide.stopped st0

-- ---- what the calls change

-- the element at a place leaves
pub left_out : {F : Type 0} (fs gs : List F) (at : ℕ) (f : F) → at < length fs → f ≡ get_or fs at f → gs ≡ remove fs at → IsPermutation fs (f ∷ gs)
left_out fs gs at f lt is left = subst (λ (hs : List _). IsPermutation fs (f ∷ hs)) (sym left) (IsPermutation-remove fs at f lt is)

-- the last one goes to a place
pub moved_in : {F : Type 0} (fs front gs : List F) (at : ℕ) (f : F) → fs ≡ front ++ f ∷ [] → gs ≡ insert front at f → IsPermutation fs gs
moved_in fs front gs at f last is =
    subst (λ (hs : List _). IsPermutation fs hs) (sym is)
    (IsPermutation-trans fs (f ∷ front) (insert front at f) (subst (λ (hs : List _). IsPermutation hs (f ∷ front)) (sym last) (IsPermutation-to_front front f)) (IsPermutation-insert front at f))

-- what is left of an empty list
take_none : (n : ℕ) → take {A = Option ℕ} n [] ≡ []
take_none zero = refl
take_none (suc n) = refl

nothing_more : (n m : ℕ) → m ≡ n → take (suc n) (None ∷ []) ++ replicate m None ≡ replicate {A = Option ℕ} (suc n) None
nothing_more n m e = ap (λ (xs : List (Option ℕ)). None ∷ xs ++ replicate m None) (take_none n) ∙ ap (λ (k : ℕ). None ∷ replicate k None) e

-- an empty seat, and so many more
pub more_empty : (n m : ℕ) (cs ds : List (Option ℕ)) → cs ≡ None ∷ [] → m ≡ length cs → 1 ≤ n → ds ≡ take n cs ++ replicate (n - m) None → ds ≡ replicate n None
more_empty zero m cs ds one long some is = absurd (omega (arith, some))
more_empty (suc n) m cs ds one long some is =
    let at : m ≡ 1 = long ∙ ap length one in
    let less : suc n - m ≡ n = omega (arith, at) in
    is ∙ (ap (λ (xs : List (Option ℕ)). take (suc n) xs ++ replicate (suc n - m) None) one ∙ nothing_more n (suc n - m) less)

-- the one seat's cell and the fibers take as much room as before
pub lent_fits : {F : Type 0} (fs gs : List F) (f : F) (cs ds : List (Option ℕ)) (t k n : ℕ) → IsPermutation fs (f ∷ gs) → cs ≡ None ∷ [] → ds ≡ Some t ∷ [] → length fs + k + length (lent_of cs) ≤ n → length gs + k + length (lent_of ds) ≤ n
lent_fits fs gs f cs ds t k n same one some fits =
    let lens = length_permutation fs (f ∷ gs) same in
    let a : length (lent_of cs) ≡ 0 = ap (λ (xs : List (Option ℕ)). length (lent_of xs)) one in
    let b : length (lent_of ds) ≡ 1 = ap (λ (xs : List (Option ℕ)). length (lent_of xs)) some in
    omega (arith, lens, a, b, fits)

-- a fiber that was taken out is lent
pub lends : {F : Type 0} (task : F → ℕ) (b b' : Board F) (t : ℕ) (f : F) → TakesOut task b.ready b'.ready t f → b.cells ≡ None ∷ [] → b'.cells ≡ slice_set b.cells 0 (Some t) → b'.journal ≡ b.journal → b'.tasks ≡ b.tasks → SameMails b.mails b'.mails → b'.parked ≡ b.parked → b'.stopped ≡ b.stopped → LendsTask task b b' t f
lends task b b' t f out free cells journal tasks mails parked stopped = record {
  run = record { journal = journal; tasks = tasks; mails = mails };
  ready = out.parts;
  is = out.is;
  parked = parked;
  cells = cells ∙ ap (λ (cs : List (Option ℕ)). slice_set cs 0 (Some t)) free;
  stopped = stopped;
}

pub last_moved : {F : Type 0} (b b' : Board F) (front : List F) (at : ℕ) (f : F) → b.ready ≡ front ++ f ∷ [] → b'.ready ≡ insert front at f → b'.journal ≡ b.journal → b'.tasks ≡ b.tasks → SameMails b.mails b'.mails → b'.parked ≡ b.parked → b'.cells ≡ b.cells → b'.stopped ≡ b.stopped → Reorders b b'
last_moved b b' front at f last is journal tasks mails parked cells stopped = record {
  run = record { journal = journal; tasks = tasks; mails = mails };
  ready = moved_in b.ready front b'.ready at f last is;
  parked = parked;
  cells = cells;
  stopped = stopped;
}
