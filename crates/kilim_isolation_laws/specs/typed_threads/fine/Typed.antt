-- Threads whose frames and heap fit the frames of verification.
use Rattle.std.specs.Prelude.{◌≡◌, ◌≤◌, ℕ, List, [], ◌∷◌, Some, None}
use Rattle.kilim_program.specs.declared.class.Form.TheVariants.{Plain}
use Rattle.kilim_program.specs.BuiltIn.{class_type}
use Rattle.kilim_program.specs.Keeps.{Keeps}
use Rattle.kilim_run_state.specs.Machine.{Objects, Activation}
use Rattle.kilim_type_sound.specs.Fits.{Classes, Typing, Wanted, Fits, AreThere, Verified}
use Rattle.kilim_run_model.specs.State.{Setting, Thread, Alive, Ended}
use Rattle.kilim_run_model.specs.Lone.{Lone}

-- a program in plain form, verified by these frames and wanted locals
pub record IsVerified (set : Setting) (typing : Typing) (live : Wanted) : Type 0 where
  pub keeps : Keeps set.program
  pub form : set.program.form ≡ Plain
  pub verified : Verified set.program typing live

abbrev pub frames_of : Thread → List Activation
frames_of (Alive frames done boxes) = frames
frames_of (Ended cause) = []

abbrev pub TopIsThere : Objects → List Activation → Type 0
TopIsThere h [] = Unit {0}
TopIsThere h (top ∷ below) = AreThere h top.stack

-- what the top frame's stack names is in the heap
abbrev pub StackIsThere : Lone → Type 0
StackIsThere l = TopIsThere l.heap (frames_of l.thread)

-- A thread fits, where each name that ever was has this class. Later names have none; the object that task 0 keeps is of the main
-- class.
pub record FitsAs (set : Setting) (typing : Typing) (live : Wanted) (of : Classes) (l : Lone) : Type 0 where
  pub fits : Fits set.program typing live of (frames_of l.thread) l.heap
  pub fresh : (n : ℕ) → l.next ≤ n → of n ≡ None
  pub kept : (n : ℕ) → l.kept ≡ Some n → of n ≡ Some (class_type set.main.0)
