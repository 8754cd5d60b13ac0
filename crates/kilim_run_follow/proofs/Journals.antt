-- From a journal to the board that followed it.
use Rattle.std.proofs.Common.{◌≡◌, ℕ, zero, suc, ◌+◌, ◌<◌, ◌≤◌, List, [], ◌∷◌, ◌++◌, Option, append_assoc, length, take, drop, get_or, refl, sym, ap, subst, ◌∙◌, arith}
use Rattle.kilim_run_journal.specs.declared.entry.Entry.{Entry}
use Rattle.kilim_run_model.specs.State.{Setting}
use Rattle.kilim_run_model.specs.Lone.{Lone}
use Rattle.kilim_run_model.specs.Course.{Course}
use Rattle.kilim_run_model.specs.Moving.{Moving, MovedReplay}
use Rattle.kilim_run_model.specs.declared.waits.Waits.{Waits}
use Rattle.kilim_run_board.specs.declared.board.Board as kept
use Rattle.kilim_run_board.specs.Board.{BoardStands}
use Rattle.kilim_run_board.specs.Seen.{seen, IsRoomy}
use Rattle.kilim_run_board.proofs.Fronts.{front_replays}
use Rattle.kilim_run_workers.proofs.Given.{same_begins}
use Rattle.kilim_run_workers.proofs.one_worker.Measures.{same_calm}
use Rattle.kilim_run_follow.specs.Follow.{CanCome, CannotCome, DiffersAt, HasFollowed, IsFollowing}
use Rattle.kilim_run_follow.specs.Lending.{Widens}
use Rattle.kilim_run_follow.specs.Steps.{HasGoneOn}

split_at : (js : List Entry) (at : ℕ) (e : Entry) → at < length js → e ≡ get_or js at e → js ≡ take at js ++ e ∷ drop (suc at) js
split_at [] at e lt is = absurd (omega (arith, lt))
split_at (j ∷ js) zero e lt is = ap (λ (x : Entry). x ∷ js) (sym is)
split_at (j ∷ js) (suc at) e lt is = ap (λ (xs : List Entry). j ∷ xs) (split_at js at e (omega (arith, lt)) is)

more_taken : (js : List Entry) (at : ℕ) (e : Entry) → at < length js → e ≡ get_or js at e → take (suc at) js ≡ take at js ++ e ∷ []
more_taken [] at e lt is = absurd (omega (arith, lt))
more_taken (j ∷ js) zero e lt is = ap (λ (x : Entry). x ∷ []) (sym is)
more_taken (j ∷ js) (suc at) e lt is = ap (λ (xs : List Entry). j ∷ xs) (more_taken js at e (omega (arith, lt)) is)

many_taken : (js : List Entry) (at : ℕ) → at ≤ length js → length (take at js) ≡ at
many_taken js zero le = refl
many_taken [] (suc at) le = absurd (omega (arith, le))
many_taken (j ∷ js) (suc at) le = ap suc (many_taken js at (omega (arith, le)))

pub one_taken : (js now after : List Entry) (at : ℕ) (e : Entry) → now ≡ take at js → at < length js → e ≡ get_or js at e → after ≡ now ++ e ∷ [] → after ≡ take (at + 1) js
one_taken js now after at e before lt is more =
    let next : suc at ≡ at + 1 = omega arith in
    more ∙ (ap (λ (xs : List Entry). xs ++ e ∷ []) before ∙ (sym (more_taken js at e lt is) ∙ ap (λ (k : ℕ). take k js) next))

pub all_taken : (js now : List Entry) (at : ℕ) → now ≡ take at js → length js ≤ at → now ≡ js
all_taken js now at is le = is ∙ whole js at le
  where
    whole : (js : List Entry) (at : ℕ) → length js ≤ at → take at js ≡ js
    whole [] zero le = refl
    whole [] (suc at) le = refl
    whole (j ∷ js) zero le = absurd (omega (arith, le))
    whole (j ∷ js) (suc at) le = ap (λ (xs : List Entry). j ∷ xs) (whole js at (omega (arith, le)))

pub differs_at : (set : Setting) (js before : List Entry) (e : Entry) (at : ℕ) (v : Moving) → before ≡ take at js → at < length js → e ≡ get_or js at e → MovedReplay set before v → CannotCome set before e → DiffersAt set js (at + 1)
differs_at set js before e at v is lt there replay none =
    let long : length before ≡ at = ap length is ∙ many_taken js at (omega (arith, lt)) in
    record {
      before = before;
      entry = e;
      behind = drop (suc at) js;
      parts = split_at js at e lt there ∙ ap (λ (xs : List Entry). xs ++ e ∷ drop (suc at) js) (sym is);
      number = ap (λ (k : ℕ). k + 1) (sym long);
      last = v;
      replay = replay;
      none = none;
    }

module _ {F : Type 0} (task : F → ℕ) (course : F → Course) (holds : Setting → F → Lone → Type 0) (refused : F → Option Waits) (Of : Setting → Type 0) where
  pub differs_now : (js : List Entry) (e : Entry) (at : ℕ) (b : kept.Board F) → IsFollowing task course holds refused Of b → b.journal.items ≡ take at js → at < length js → e ≡ get_or js at e → ((set : Setting) → Of set → CannotCome set b.journal.items e) → (set : Setting) → Of set → DiffersAt set js (at + 1)
  differs_now js e at b following is lt there none set of =
      let st = following.resting.stands set of in
      differs_at set js b.journal.items e at st.state is lt there st.replay (none set of)

  pub followed_now : (js : List Entry) (seats : ℕ) (b b' : kept.Board F) → HasGoneOn task course holds refused Of js b → Widens (seen b) (seen b') seats → ((set : Setting) → BoardStands task course holds set (seen b) → BoardStands task course holds set (seen b')) → IsRoomy b' → HasFollowed task course holds refused Of js seats b'
  followed_now js seats b b' gone wide stands roomy = record {
    roomy = roomy;
    cells = wide.cells;
    running = wide.stopped ∙ gone.resting.running;
    stands = λ set of. stands set (gone.resting.stands set of);
    calm = same_calm refused (seen b) (seen b') wide.ready wide.parked gone.calm;
    begins = same_begins js b.journal.items b'.journal.items wide.run.journal gone.begins;
  }

  -- the followed entries lead to a state
  pub came : (js : List Entry) (seats : ℕ) (b : kept.Board F) → HasFollowed task course holds refused Of js seats b → (set : Setting) → Of set → CanCome set js
  came js seats b followed set of =
      let st = followed.stands set of in
      front_replays set js followed.begins.0 st.state (subst (λ (es : List Entry). MovedReplay set es st.state) followed.begins.1 st.replay)

-- entries that lead to a state don't differ anywhere
pub never_differs : (set : Setting) (js : List Entry) (n : ℕ) → CanCome set js → DiffersAt set js n → ⊥
never_differs set js n (v, replay) d =
    let parts : js ≡ (d.before ++ d.entry ∷ []) ++ d.behind = d.parts ∙ sym (append_assoc d.before (d.entry ∷ []) d.behind) in
    let f = front_replays set (d.before ++ d.entry ∷ []) d.behind v (subst (λ (es : List Entry). MovedReplay set es v) parts replay) in
    d.none f.0 f.1
