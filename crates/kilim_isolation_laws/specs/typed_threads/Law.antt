-- Threads of verified code go on fitting the frames of verification.
use Rattle.std.specs.Prelude.{◌≡◌, ℕ, true, Some}
use Rattle.kilim_type_sound.specs.Fits.{Classes, Typing, Wanted}
use Rattle.kilim_run_journal.specs.declared.entry.Act.{Act}
use Rattle.kilim_run_model.specs.State.{Setting, is_fit}
use Rattle.kilim_run_model.specs.Lone.{Lone, Goes, next_move}
use Rattle.kilim_run_model.specs.Course.{Course, IsLone, Quiet, done_by, lone_begun}
use Rattle.kilim_run_model.specs.declared.deed.Beginning.{Beginning}
use Rattle.kilim_run_model.specs.declared.deed.Deed.{Deed}
use Rattle.kilim_isolation_laws.specs.typed_threads.fine.Typed.{FitsAs, IsVerified, StackIsThere}
use Rattle.kilim_isolation_laws.specs.typed_threads.Typed.{Further, IsTyped, StacksAreThere}

-- a move without an action
abbrev pub MovesStayTyped : Type 0
MovesStayTyped = (set : Setting) (typing : Typing) (live : Wanted) (of : Classes) → IsVerified set typing live → is_fit set ≡ true → (t : ℕ) (l after : Lone) → FitsAs set typing live of l → StackIsThere l → next_move set t l ≡ Goes after → Further set typing live of after

-- an action, with what others decide
abbrev pub DeedsStayTyped : Type 0
DeedsStayTyped = (set : Setting) (typing : Typing) (live : Wanted) (of : Classes) → IsVerified set typing live → is_fit set ≡ true → (t : ℕ) (l after : Lone) (d : Deed) (act : Act) → FitsAs set typing live of l → StackIsThere l →
    done_by set (next_move set t l) d ≡ Some (record { act = act; after = after }) → Further set typing live of after

abbrev pub BeginningsAreTyped : Type 0
BeginningsAreTyped = (set : Setting) (typing : Typing) (live : Wanted) → IsVerified set typing live → is_fit set ≡ true → (b : Beginning) (first : Lone) → lone_begun set b ≡ Some first → IsTyped set typing live first

-- So each thread that there can be fits, where what stacks name is there.
abbrev pub ThreadsAreTyped : Type 0
ThreadsAreTyped = (set : Setting) (typing : Typing) (live : Wanted) → IsVerified set typing live → is_fit set ≡ true → StacksAreThere set → (t : ℕ) (c : Course) (last l : Lone) → IsLone set t c last → Quiet set t last l → IsTyped set typing live l
