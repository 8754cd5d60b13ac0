-- The superclass of each class, and which class is above which.
use Rattle.std.specs.Prelude.{◌≡◌, ℕ, Bool, true, false, List, [], ◌∷◌, length, Option, Some}
use Rattle.kilim_program.specs.declared.names.ClassId.{ClassId}
use Rattle.kilim_program.specs.Keeps.{superclass_of}
use Rattle.kilim_program.specs.Names.{class_at, line_of}
use Rattle.kilim_program.specs.Program.{Program}
use Rattle.kilim_link_inherited.specs.declared.entry.Entry.{Entry}
use Rattle.kilim_link_inherited.specs.Inherited.{line_in, up_in}

-- These are the superclasses of all classes, so that their lines are those of the classes.
pub record AreSuperclasses (outline : Program) (ups : List (Option ClassId)) : Type 0 where
  pub one_each : length ups ≡ length outline.classes
  pub up_is : (c : ClassId) → up_in ups c ≡ superclass_of (class_at outline c)
  pub line_is : (c : ClassId) → line_in ups c ≡ line_of outline c

-- a class says its own number
abbrev pub own_key : ℕ → List Entry
own_key n = record { key = n; value = Some 0 } ∷ []

-- a class that is marked says something of one key, another nothing
abbrev pub mark_entries : Bool → List Entry
mark_entries true = record { key = 0; value = Some 0 } ∷ []
mark_entries false = []
