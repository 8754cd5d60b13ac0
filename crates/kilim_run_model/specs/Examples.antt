-- Examples: the right journal of a program that prints 7 is that of a whole run, and wrong ones aren't.
use Rattle.std.specs.Prelude.{◌≡◌, ℕ, suc, pos, Bool, true, false, ◌&&◌, ◌==◌, List, [], ◌∷◌, Some, None, codes}
use Rattle.std.specs.List.{list_all}
use Rattle.kilim_run_state.specs.declared.cause.EndCause.TheVariants.{Spent}
use Rattle.kilim_program.specs.declared.class.Class.{Class}
use Rattle.kilim_program.specs.declared.class.Method.{Method}
use Rattle.kilim_program.specs.declared.class.Program.{Program}
use Rattle.kilim_program.specs.declared.names.BoxName.{BoxName}
use Rattle.kilim_program.specs.declared.names.MethodId.{MethodId}
use Rattle.kilim_program.specs.declared.ty.Ty.{Ty}
use Rattle.kilim_run_journal.specs.declared.entry.Act.TheVariants.{End, Wait}
use Rattle.kilim_run_journal.specs.declared.entry.Entry.{Entry}
use Rattle.kilim_program.specs.BuiltIn.{class_id, method_id, int_type}
use Rattle.kilim_program.specs.Names.{method_at, class_name}
use Rattle.kilim_run_model.specs.State.{Setting}
use Rattle.kilim_run_model.specs.Runs.{Whole}
use Rattle.kilim_run_model.specs.Small.{Small, task_class, task_constructor, print_int, small_program, small_setting, print_entry, done_entry}

-- ---- the program that prints 7

abbrev pub seven : Small
seven = record { name = codes "A"; constructor_stack = 1; constructor_locals = 1; execute_stack = 1; execute_locals = 1; prints = pos 7 ∷ [] }

-- six instructions are enough
abbrev pub seven_setting : Setting
seven_setting = small_setting seven 10

abbrev pub print_seven : Entry
print_seven = print_entry (pos 7)

abbrev pub SevenIsWhole : Type 0
SevenIsWhole = Whole seven_setting (print_seven ∷ done_entry ∷ [])

-- ---- wrong journals of its run

abbrev pub Wrong : List Entry → Type 0
Wrong journal = Whole seven_setting journal → ⊥

abbrev pub ForgottenEnd : Type 0
ForgottenEnd = Wrong (print_seven ∷ [])

abbrev pub ForgottenPrint : Type 0
ForgottenPrint = Wrong (done_entry ∷ [])

abbrev pub DoubledPrint : Type 0
DoubledPrint = Wrong (print_seven ∷ print_seven ∷ done_entry ∷ [])

abbrev pub DoubledEnd : Type 0
DoubledEnd = Wrong (print_seven ∷ done_entry ∷ done_entry ∷ [])

abbrev pub OtherNumber : Type 0
OtherNumber = Wrong (print_entry (pos 8) ∷ done_entry ∷ [])

abbrev pub Reversed : Type 0
Reversed = Wrong (done_entry ∷ print_seven ∷ [])

abbrev pub Nothing : Type 0
Nothing = Wrong []

abbrev pub AddedWait : Type 0
AddedWait = (box : BoxName) → Wrong (print_seven ∷ done_entry ∷ record { task = 0; act = Wait box } ∷ [])

-- there is no other journal of a whole run
abbrev pub NoOther : Type 0
NoOther = (journal : List Entry) → Whole seven_setting journal → journal ≡ print_seven ∷ done_entry ∷ []

-- ---- with five steps

-- three are for the constructor and two for the print, so none is left for the return
abbrev pub short_setting : Setting
short_setting = small_setting seven 5

abbrev pub spent_entry : Entry
spent_entry = record { task = 0; act = End Spent }

abbrev pub SpentOnTheWay : Type 0
SpentOnTheWay = Whole short_setting (print_seven ∷ spent_entry ∷ []) × (Whole short_setting (print_seven ∷ done_entry ∷ []) → ⊥)

-- ---- the program's members

-- a listed method stands in the program, and has the class with that number as its owner
abbrev pub is_owned : Program → ℕ → MethodId → Bool
is_owned p c m = elim (method_at p m) [ None ↦ false | Some method ↦ method.owner.0 == c ]

abbrev pub owners_agree : Program → ℕ → List Class → Bool
owners_agree p c [] = true
owners_agree p c (class ∷ classes) = list_all (is_owned p c) class.methods && owners_agree p (suc c) classes

-- the method with that number has this class name, this name, these parameters and no result
abbrev pub IsMember : Program → ℕ → List ℕ → List ℕ → List Ty → Type 0
IsMember p m class name params =
    (method : Method) × (method_at p (method_id m) ≡ Some method) × (class_name p method.owner ≡ class) × (method.name ≡ name) × (method.params ≡ params) × (method.result ≡ None)

-- each owner is the class that lists the method, and the members that the code calls are the ones that are meant
abbrev pub OwnersAgree : Type 0
OwnersAgree =
    let p = small_program seven in
    (owners_agree p 0 p.classes ≡ true)
    × (class_name p (class_id task_class) ≡ codes "kilim/Task")
    × IsMember p task_constructor (codes "kilim/Task") (codes "<init>") []
    × IsMember p print_int (codes "kilim/Sys") (codes "print") (int_type ∷ [])

pub record ExamplesHold : Type 0 where
  pub seven_is_whole : SevenIsWhole
  pub forgotten_end : ForgottenEnd
  pub forgotten_print : ForgottenPrint
  pub doubled_print : DoubledPrint
  pub doubled_end : DoubledEnd
  pub other_number : OtherNumber
  pub reversed : Reversed
  pub nothing : Nothing
  pub added_wait : AddedWait
  pub no_other : NoOther
  pub spent_on_the_way : SpentOnTheWay
  pub owners_agree : OwnersAgree
