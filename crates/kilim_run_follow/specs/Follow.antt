-- What following a journal comes to.
use Rattle.std.specs.Prelude.{◌≡◌, ℕ, ◌+◌, false, List, [], ◌∷◌, ◌++◌, Option, None, length, replicate}
use Rattle.kilim_run_journal.specs.declared.entry.Entry.{Entry}
use Rattle.kilim_run_model.specs.State.{Setting}
use Rattle.kilim_run_model.specs.Lone.{Lone}
use Rattle.kilim_run_model.specs.Course.{Course}
use Rattle.kilim_run_model.specs.Moving.{Moving, MovedReplay}
use Rattle.kilim_run_model.specs.declared.waits.Waits.{Waits}
use Rattle.kilim_run_board.specs.declared.board.Board as kept
use Rattle.kilim_run_board.specs.Board.{BoardStands}
use Rattle.kilim_run_board.specs.Seen.{seen, IsRoomy}
use Rattle.kilim_run_workers.specs.Given.{BeginsWith}
use Rattle.kilim_run_workers.specs.one_worker.Pool.{IsCalm, IsResting}
use Rattle.kilim_run_follow.specs.declared.following.Followed.{Followed}
use Rattle.kilim_run_follow.specs.declared.following.Followed.TheVariants as followed

-- the entry can't come behind these: no state follows them with it
abbrev pub CannotCome : Setting → List Entry → Entry → Type 0
CannotCome set before e = (v : Moving) → MovedReplay set (before ++ e ∷ []) v → ⊥

-- these entries lead to a state
abbrev pub CanCome : Setting → List Entry → Type 0
CanCome set entries = (v : Moving) × MovedReplay set entries v

-- The entry of that line, from 1 on, is the first that can't come: those before it lead to a state.
pub record DiffersAt (set : Setting) (journal : List Entry) (n : ℕ) : Type 0 where
  pub before : List Entry
  pub entry : Entry
  pub behind : List Entry
  pub parts : journal ≡ before ++ entry ∷ behind
  pub number : n ≡ length before + 1
  pub last : Moving
  pub replay : MovedReplay set before last
  pub none : CannotCome set before entry

module _ {F : Type 0} (task : F → ℕ) (course : F → Course) (holds : Setting → F → Lone → Type 0) (refused : F → Option Waits) (Of : Setting → Type 0) where
  -- the board of a run that followed a journal and went on a little
  pub record HasFollowed (journal : List Entry) (seats : ℕ) (b : kept.Board F) : Type 0 where
    pub roomy : IsRoomy b
    pub cells : b.cells.items ≡ replicate seats None
    pub running : b.stopped ≡ false
    pub stands : (set : Setting) → Of set → BoardStands task course holds set (seen b)
    pub calm : IsCalm refused (seen b)
    pub begins : BeginsWith journal b.journal.items

  abbrev pub FollowedAs : List Entry → ℕ → Followed F → Type 0
  FollowedAs journal seats (followed.Board b) = HasFollowed journal seats b
  FollowedAs journal seats (followed.Differs n) = (set : Setting) → Of set → DiffersAt set journal n

  -- between the entries: no fiber is lent, none is parked
  pub record IsFollowing (b : kept.Board F) : Type 0 where
    pub resting : IsResting task course holds Of b
    pub calm : IsCalm refused (seen b)
    pub alone : b.parked.items ≡ []
