-- What making one entry more comes to.
use Rattle.std.specs.Prelude.{◌≡◌, ℕ, Bool, true, false, List, [], ◌∷◌, ◌++◌, Option, Some, None}
use Rattle.kilim_run_journal.specs.declared.entry.Entry.{Entry}
use Rattle.kilim_run_model.specs.State.{Setting}
use Rattle.kilim_run_model.specs.Lone.{Lone}
use Rattle.kilim_run_model.specs.Course.{Course}
use Rattle.kilim_run_model.specs.declared.waits.Waits.{Waits}
use Rattle.kilim_run_board.specs.declared.board.Board as kept
use Rattle.kilim_run_board.specs.Seen.{seen}
use Rattle.kilim_run_workers.specs.Given.{BeginsWith}
use Rattle.kilim_run_workers.specs.one_worker.Pool.{IsCalm, IsResting}
use Rattle.kilim_run_follow.specs.Follow.{CannotCome, DiffersAt, IsFollowing}

module _ {F : Type 0} (task : F → ℕ) (course : F → Course) (holds : Setting → F → Lone → Type 0) (refused : F → Option Waits) (Of : Setting → Type 0) where
  -- one entry of that task came behind these
  pub record MadeOne (t : ℕ) (before : List Entry) (b : kept.Board F) : Type 0 where
    pub entry : Entry
    pub own : entry.task ≡ t
    pub journal : b.journal.items ≡ before ++ entry ∷ []
    pub following : IsFollowing task course holds refused Of b

  -- no entry of that task can come behind these
  abbrev pub NoneComes : ℕ → List Entry → Type 0
  NoneComes t before = (set : Setting) → Of set → (e : Entry) → e.task ≡ t → CannotCome set before e

  -- whether the task made one
  abbrev pub MakesNext : ℕ → List Entry → kept.Board F → Bool → Type 0
  MakesNext t before b true = MadeOne t before b
  MakesNext t before b false = NoneComes t before

  -- whether it was this one
  abbrev pub FollowsEntry : List Entry → Entry → kept.Board F → Bool → Type 0
  FollowsEntry before e b true = IsFollowing task course holds refused Of b × (b.journal.items ≡ before ++ e ∷ [])
  FollowsEntry before e b false = (set : Setting) → Of set → CannotCome set before e

  -- whether all of them were made, or the line of the first that can't come
  abbrev pub FollowsAll : List Entry → kept.Board F → Option ℕ → Type 0
  FollowsAll journal b None = IsFollowing task course holds refused Of b × (b.journal.items ≡ journal)
  FollowsAll journal b (Some n) = (set : Setting) → Of set → DiffersAt set journal n

  -- the fibers were run on
  pub record HasGoneOn (before : List Entry) (b : kept.Board F) : Type 0 where
    pub resting : IsResting task course holds Of b
    pub calm : IsCalm refused (seen b)
    pub begins : BeginsWith before b.journal.items
