-- A journal that begins with given entries.
use Rattle.std.specs.Prelude.{◌≡◌, ◌⊎◌, ◌<◌, ℕ, true, List, [], ◌∷◌, ◌++◌, length, Option, Some, None}
use Rattle.std.specs.List.{AllByRecursion}
use Rattle.kilim_run_journal.specs.declared.entry.Entry.{Entry}
use Rattle.kilim_run_model.specs.declared.waits.Waits.{Waits}
use Rattle.kilim_run_board.specs.Board.{Board}
use Rattle.kilim_run_board.specs.declared.board.Board as kept
use Rattle.kilim_run_board.specs.waiting.Mailboxes.{mail_of, has_to_wait}
use Rattle.kilim_run_workers.specs.declared.one_worker.Next.{Next}
use Rattle.kilim_run_workers.specs.declared.one_worker.Next.TheVariants as next

abbrev pub BeginsWith : List Entry → List Entry → Type 0
BeginsWith given es = (rest : List Entry) × (es ≡ given ++ rest)

abbrev pub Continues : {F : Type 0} → List Entry → Board F → Type 0
Continues given b = BeginsWith given b.journal

-- it went on by entries of one task alone
pub record Grew (t : ℕ) (before after : List Entry) : Type 0 where
  pub more : List Entry
  pub is : after ≡ before ++ more
  pub own : AllByRecursion (λ (e : Entry). e.task ≡ t) more

-- one entry more, of that task
pub record OneMore (t : ℕ) (before after : List Entry) : Type 0 where
  pub entry : Entry
  pub own : entry.task ≡ t
  pub is : after ≡ before ++ entry ∷ []

-- What a step of a task's fiber adds, with what it was refused: an act makes one entry and isn't refused, or it is refused and makes none; an
-- end makes one; a rest makes none.
abbrev pub MadeBy : ℕ → List Entry → List Entry → Option Waits → Next → Type 0
MadeBy t before after refused next.On = (after ≡ before) ⊎ (OneMore t before after × (refused ≡ None))
MadeBy t before after refused next.Over = OneMore t before after
MadeBy t before after refused (next.Rests waits) = after ≡ before

-- where a fiber rests at a mailbox, it has to wait there
abbrev pub RestsWaiting : {F : Type 0} → kept.Board F → Next → Type 0
RestsWaiting b (next.Rests (Some waits)) = has_to_wait (mail_of b.mailboxes) waits ≡ true
RestsWaiting b n = Unit {0}

-- fewer than so many entries, and then entries of one task alone
pub record EndsInOne (few : ℕ) (es : List Entry) : Type 0 where
  pub front : List Entry
  pub more : List Entry
  pub task : ℕ
  pub parts : es ≡ front ++ more
  pub fewer : length front < few
  pub own : AllByRecursion (λ (e : Entry). e.task ≡ task) more
