-- What a form that moves words leaves.
use Rattle.std.specs.Prelude.{◌≡◌, ℕ, List, ◌++◌, take, drop}
use Rattle.kilim_program.specs.declared.value.Value.{Value}
use Rattle.kilim_run_state.specs.declared.frames.frame.Frame.{Frame}
use Rattle.kilim_run_rows.specs.declared.outcome.Moved.{Moved}
use Rattle.kilim_run_rows.specs.declared.outcome.Moved.TheVariants.{Next, Jump, Made, Opened, Called, Asked, Returned, ReturnedValue, Raised, Thrown, Ended, NoMemory}

-- The frame goes on behind, with these values on its stack. Want of memory tells nothing.
abbrev pub IsLaid : Moved → Frame → Frame → List Value → Type 0
IsLaid Next before after values = after ≡ record before { stack = record before.stack { values = values } }
IsLaid (Jump to) before after values = ⊥
IsLaid (Made at) before after values = ⊥
IsLaid Opened before after values = ⊥
IsLaid (Called m n) before after values = ⊥
IsLaid (Asked m n) before after values = ⊥
IsLaid Returned before after values = ⊥
IsLaid ReturnedValue before after values = ⊥
IsLaid (Raised cause) before after values = ⊥
IsLaid (Thrown at class cause) before after values = ⊥
IsLaid (Ended cause) before after values = ⊥
IsLaid NoMemory before after values = Unit {0}

-- copies of so many topmost values below so many
abbrev pub copied : ℕ → ℕ → List Value → List Value
copied count depth values = take depth values ++ (take count values ++ drop depth values)
