-- One entry more, from the fiber that was lent.
use Rattle.std.proofs.Common.{◌≡◌, ◌≢◌, ℕ, ◌+◌, ◌<◌, ◌≤◌, Bool, true, false, List, [], ◌∷◌, ◌++◌, Option, Some, None, inl, inr, length, refl, sym, ap, subst, ◌∙◌, arith, length-append}
use Rattle.std.specs.List.{All}
use Rattle.kilim_run_journal.specs.declared.entry.Entry.{Entry}
use Rattle.kilim_run_model.specs.State.{Setting}
use Rattle.kilim_run_model.specs.Lone.{Lone}
use Rattle.kilim_run_model.specs.Course.{Course}
use Rattle.kilim_run_model.specs.Moving.{MovedReplay}
use Rattle.kilim_run_model.specs.declared.waits.Waits.{Waits}
use Rattle.kilim_run_board.specs.declared.board.Board as kept
use Rattle.kilim_run_board.specs.Board.{BoardStands, GivesBack}
use Rattle.kilim_run_board.specs.Seen.{seen, CourseAt, IsRoomy, RestsAs}
use Rattle.kilim_run_board.specs.fibers.Fibers.{StandsFor}
use Rattle.kilim_run_board.specs.waiting.Mailboxes.{has_to_wait, mail_of}
use Rattle.kilim_run_workers.specs.Given.{MadeBy, OneMore}
use Rattle.kilim_run_workers.specs.declared.one_worker.Next.TheVariants as next
use Rattle.kilim_run_workers.specs.one_worker.Pool.{IsCalm, IsLending, IsResting}
use Rattle.kilim_run_workers.proofs.one_worker.Measures.{back_calm}
use Rattle.kilim_run_workers.proofs.one_worker.Steps.{given}
use Rattle.kilim_run_follow.specs.Follow.{CannotCome, IsFollowing}
use Rattle.kilim_run_follow.specs.Lending.{Reorders}
use Rattle.kilim_run_follow.specs.Steps.{FollowsEntry, MadeOne, NoneComes}
use Rattle.kilim_run_follow.proofs.Going.{none_comes, settled, settled_calm}
use Rattle.kilim_run_follow.proofs.Gone.{none_of_gone}
use Rattle.kilim_run_follow.proofs.NextEntry.{one_next_entry}

-- ---- the last entry

longer : (xs : List Entry) (x : Entry) → length (xs ++ x ∷ []) ≡ length xs + 1
longer xs x = length-append xs (x ∷ [])

pub last_same : (xs ys : List Entry) (x y : Entry) → xs ++ x ∷ [] ≡ ys ++ y ∷ [] → (x ≡ y) × (xs ≡ ys)
last_same [] [] x y e = (cc, refl)
last_same [] (b ∷ ys) x y e = absurd (let l = longer ys y in let k = ap length e in omega (arith, l, k))
last_same (a ∷ xs) [] x y e = absurd (let l = longer xs x in let k = ap length e in omega (arith, l, k))
last_same (a ∷ xs) (b ∷ ys) x y e =
    let head : a ≡ b = cc in
    let tail : xs ++ x ∷ [] ≡ ys ++ y ∷ [] = cc in
    let r = last_same xs ys x y tail in
    (r.0, ap (λ (k : Entry). k ∷ xs) head ∙ ap (λ (zs : List Entry). b ∷ zs) r.1)

-- ---- an entry came, or none

pub entry_came : (t : ℕ) (before now after : List Entry) (r : Option Waits) → MadeBy t now after r next.On → now ≡ before → length before < length after → OneMore t now after × (r ≡ None)
entry_came t before now after r (inl same) is more = absurd (let l : length after ≡ length before = ap length (same ∙ is) in omega (arith, l, more))
entry_came t before now after r (inr one) is more = one

pub none_came : (t : ℕ) (before now after : List Entry) (r : Option Waits) → MadeBy t now after r next.On → now ≡ before → length after ≤ length before → after ≡ before
none_came t before now after r (inl same) is few = same ∙ is
none_came t before now after r (inr one) is few = absurd (let l : length after ≡ length now + 1 = ap length one.0.is ∙ longer now one.0.entry in let k : length now ≡ length before = ap length is in omega (arith, l, k, few))

module _ {F : Type 0} (task : F → ℕ) (course : F → Course) (holds : Setting → F → Lone → Type 0) (refused : F → Option Waits) (Of : Setting → Type 0) where
  abbrev Made : ℕ → List Entry → kept.Board F → Type 0
  Made t before b = MadeOne task course holds refused Of t before b

  pub made_over : (before : List Entry) (t u : ℕ) (b b' : kept.Board F) → IsResting task course holds Of b' → IsCalm refused (seen b') → b'.parked.items ≡ [] → OneMore u b.journal.items b'.journal.items → u ≡ t → b.journal.items ≡ before → Made t before b'
  made_over before t u b b' resting calm alone one same is = record {
    entry = one.entry;
    own = one.own ∙ same;
    journal = one.is ∙ ap (λ (js : List Entry). js ++ one.entry ∷ []) is;
    following = record { resting = resting; calm = calm; alone = alone };
  }

  pub made_back : (before : List Entry) (t u : ℕ) (b b1 b2 b3 : kept.Board F) (f : F) → IsLending task course holds Of b1 f → IsCalm refused (seen b1) → refused f ≡ None → b1.parked.items ≡ [] → OneMore u b.journal.items b1.journal.items → u ≡ t → b.journal.items ≡ before
      → GivesBack (seen b1) 0 (seen b2) f → IsRoomy b2 → ((set : Setting) → BoardStands task course holds set (seen b1) → RestsAs task course holds set f None → CourseAt (seen b1) (task f) (course f) → BoardStands task course holds set (seen b2))
      → Reorders (seen b2) (seen b3) → IsRoomy b3 → Made t before b3
  made_back before t u b b1 b2 b3 f lending calm clear alone one same is gives roomy2 stands2 order roomy3 =
      let resting = given task course holds Of b1 b2 f None lending (λ set of. (lending.stands set of).1) gives roomy2 stands2 in
      record {
        entry = one.entry;
        own = one.own ∙ same;
        journal = order.run.journal ∙ (gives.run.journal ∙ (one.is ∙ ap (λ (js : List Entry). js ++ one.entry ∷ []) is));
        following = record {
          resting = settled task course holds Of b2 b3 resting roomy3 order;
          calm = settled_calm refused (seen b2) (seen b3) order (back_calm refused (seen b1) (seen b2) 0 f gives clear calm);
          alone = order.parked ∙ (gives.parked ∙ alone);
        };
      }

  pub waits_none : (before : List Entry) (t : ℕ) (b : kept.Board F) (f : F) (w : Waits) → IsLending task course holds Of b f → ((set : Setting) → Of set → RestsAs task course holds set f (Some w)) → has_to_wait (mail_of b.mailboxes) w ≡ true → task f ≡ t → b.journal.items ≡ before
      → NoneComes task course holds refused Of t before
  waits_none before t b f w lending rests has same is = λ set of e own.
      let s : BoardStands task course holds set (seen b) × StandsFor task course holds set f × CourseAt (seen b) (task f) (course f) = lending.stands set of in
      subst (λ (js : List Entry). CannotCome set js e) is (none_comes task course holds set (seen b) f w s.0 s.2 (rests set of) has e (own ∙ sym same))

  -- ---- whether it is the one that was to come

  pub is_this : (before : List Entry) (t : ℕ) (e : Entry) (b : kept.Board F) → Made t before b → ((front : List Entry) × (b.journal.items ≡ front ++ e ∷ [])) → FollowsEntry task course holds refused Of before e b true
  is_this before t e b made last =
      let same = last_same before last.0 made.entry e (sym made.journal ∙ last.1) in
      (made.following, made.journal ∙ ap (λ (x : Entry). before ++ x ∷ []) same.0)

  pub is_other : (before : List Entry) (t : ℕ) (e : Entry) (b : kept.Board F) → Made t before b → e.task ≡ t → ((front : List Entry) → b.journal.items ≢ front ++ e ∷ []) → (set : Setting) → Of set → CannotCome set before e
  is_other before t e b made own other set of v replay =
      let st = made.following.resting.stands set of in
      let came : MovedReplay set (before ++ made.entry ∷ []) st.state = subst (λ (js : List Entry). MovedReplay set js st.state) made.journal st.replay in
      let same : e ≡ made.entry = one_next_entry set before e made.entry v st.state replay came (own ∙ sym made.own) in
      other before (made.journal ∙ ap (λ (x : Entry). before ++ x ∷ []) (sym same))

  pub no_task : (e : Entry) (b : kept.Board F) → IsFollowing task course holds refused Of b → All (λ (f : F). task f ≢ e.task) b.ready.items → (set : Setting) → Of set → CannotCome set b.journal.items e
  no_task e b following all = λ set of. none_of_gone task course holds set (seen b) e.task (following.resting.stands set of) following.resting.running following.resting.cells following.alone all e refl

  pub follows_next : (before : List Entry) (t : ℕ) (e : Entry) (b : kept.Board F) (r : Bool) → Made t before b → e.task ≡ t → (r ≡ true → (front : List Entry) × (b.journal.items ≡ front ++ e ∷ [])) → (r ≡ false → (front : List Entry) → b.journal.items ≢ front ++ e ∷ []) → FollowsEntry task course holds refused Of before e b r
  follows_next before t e b true made own this other = is_this before t e b made (this refl)
  follows_next before t e b false made own this other = is_other before t e b made own (other refl)
