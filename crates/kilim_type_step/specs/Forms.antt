-- Pop, dup and swap forms of the code as those of the definitions.
use Rattle.std.specs.Prelude.{◌≡◌, ℕ, zero, suc, List, Option, Some, None, Result, Ok, Err}
use Rattle.kilim_program.specs.declared.verified.VType.{VType}
use Rattle.kilim_program.specs.declared.verified.VType.TheVariants.{Long}
use Rattle.kilim_type_spec.specs.Step.{off, Form, Drops, Copies, Swaps}
use Rattle.kilim_type_step.specs.declared.fault.StepFault.{StepFault}
use Rattle.kilim_type_step.specs.declared.fault.StepFault.TheVariants.{Rule, Memory}
use Rattle.kilim_type_step.specs.declared.shuffles.Words.{Words}
use Rattle.kilim_type_step.specs.declared.shuffles.Words.TheVariants as words
use Rattle.kilim_type_step.specs.declared.shuffles.Shuffle.{Shuffle}
use Rattle.kilim_type_step.specs.declared.shuffles.Shuffle.TheVariants as shuffle

abbrev pub number : Words → ℕ
number words.Zero = 0
number words.One = 1
number words.Two = 2

abbrev pub form_of : Shuffle → Form
form_of (shuffle.Drops n) = Drops (number n)
form_of (shuffle.Copies n passed) = Copies (number n) (number passed)
form_of shuffle.Swaps = Swaps

-- how many types so many words are, by the two topmost ones
abbrev pub count_off : ℕ → Option VType → Option VType → Result ℕ ℕ
count_off zero a b = Ok 0
count_off (suc n) None b = Err 3
count_off (suc zero) (Some Long) b = Err 7
count_off (suc zero) (Some t) b = Ok 1
count_off (suc (suc n)) (Some Long) b = Ok 1
count_off (suc (suc n)) (Some t) None = Err 3
count_off (suc (suc n)) (Some t) (Some Long) = Err 7
count_off (suc (suc n)) (Some t) (Some u) = Ok 2

-- the rule that splitting so many words off breaks
abbrev pub SplitFails : ℕ → List VType → StepFault → Type 0
SplitFails n s (Rule r) = off n s ≡ Err r
SplitFails n s Memory = Unit {0}
