-- Many instructions, one after the other, up to the next thing that a fiber wants.
use Rattle.std.specs.Prelude.{◌≡◌, ℕ, Bool, true, false, List}
use Rattle.kilim_program.specs.Program.{Program}
use Rattle.kilim_run_model.specs.State.{Setting}
use Rattle.kilim_fiber_laws.specs.woven_kin.Standing.{Standing}
use Rattle.kilim_fiber_laws.specs.woven_kin.Nexts.{Goes, next_of}
use Rattle.kilim_fiber_laws.specs.woven_kin.Alike.{HasFree}
use Rattle.kilim_fiber_body.specs.Body.{standing_at}
use Rattle.kilim_fiber_body.specs.Comes.{Comes}
use Rattle.kilim_fiber_body.specs.Steps.{IsReadyAt}
use Rattle.kilim_fiber_body.specs.declared.body.Body.{Body}
use Rattle.kilim_fiber_body.specs.declared.body.Came.{Came}
use Rattle.kilim_fiber_body.specs.declared.body.Came.TheVariants as came

-- under another next name
abbrev pub named : ℕ → Standing → Standing
named x l = record l { next = x }

-- It goes on by itself from one standing to another, each new object under a name that was free.
pub data GoesTo (set : Setting) (W : Program) (marks : List (List Bool)) (t : ℕ) (first : Standing) : Standing → Type 0 where
  AtFirst : {m : Standing} → m ≡ first → GoesTo set W marks t first m
  Further : {m : Standing} (l : Standing) (x y : ℕ) → GoesTo set W marks t first l → HasFree set W marks t (named x l) → next_of set W marks t (named x l) ≡ Goes (named y m) → GoesTo set W marks t first m

-- wherever it comes
abbrev pub IsReadyOn : Setting → Program → List (List Bool) → ℕ → Standing → Type 0
IsReadyOn set W marks t first = (m : Standing) → GoesTo set W marks t first m → IsReadyAt set W marks t m

-- it doesn't go on by itself
abbrev pub IsWanting : Came → Bool
IsWanting came.On = false
IsWanting c = true

-- It goes on by itself for a while, and then does that.
pub record Reaches (set : Setting) (W : Program) (marks : List (List Bool)) (t : ℕ) (first : Standing) (new : Body) (c : Came) : Type 0 where
  pub mid : Standing
  pub goes : GoesTo set W marks t first mid
  pub free : ℕ
  pub is-free : HasFree set W marks t (named free mid)
  pub after : ℕ
  pub comes : Comes after (next_of set W marks t (named free mid)) new c

-- it went on to there, or wants that
abbrev pub HasReached : Setting → Program → List (List Bool) → ℕ → Standing → Body → Came → Type 0
HasReached set W marks t first new came.On = GoesTo set W marks t first (standing_at 0 new)
HasReached set W marks t first new c = Reaches set W marks t first new c
