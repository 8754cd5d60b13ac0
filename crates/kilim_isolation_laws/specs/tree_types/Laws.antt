-- What is known of objects and trees in a heap that fits.
use Rattle.std.specs.Prelude.{◌≡◌, ℕ, true, List, Some}
use Rattle.std.specs.FinMap.{get}
use Rattle.kilim_program.specs.declared.class.Class.{Class}
use Rattle.kilim_program.specs.declared.names.ClassId.{ClassId}
use Rattle.kilim_program.specs.declared.ty.Ty.{Ty}
use Rattle.kilim_program.specs.Keeps.{Keeps}
use Rattle.kilim_program.specs.Names.{class_at}
use Rattle.kilim_program.specs.Program.{Program}
use Rattle.kilim_run_state.specs.declared.value.Object.{Object}
use Rattle.kilim_run_state.specs.declared.value.Token.{Token}
use Rattle.kilim_run_state.specs.Machine.{Objects}
use Rattle.kilim_run_state.specs.Shapes.{shape_of}
use Rattle.kilim_run_state.specs.Trees.{Root, is_allowed, is_root}
use Rattle.kilim_run_model.specs.Kept.{IsFormed}
use Rattle.kilim_type_sound.specs.Fits.{Classes, HeapFits}
use Rattle.kilim_run_model.specs.kin.trees.Laws.{IsPlain}

-- No class's name is empty, or begins as an array's descriptor does.
abbrev pub AreNamedPlainly : Program → Type 0
AreNamedPlainly p = (c : ClassId) (class : Class) → class_at p c ≡ Some class → IsPlain class.name

abbrev pub ObjectsAreFormed : Type 0
ObjectsAreFormed = (p : Program) (of : Classes) (h : Objects) → Keeps p → AreNamedPlainly p → HeapFits p of h → (n : ℕ) (o : Object) → get h n ≡ Some o → IsFormed p o

-- the root is of a class of that kind
abbrev pub TreesAreAllowed : Type 0
TreesAreAllowed =
    (p : Program) (of : Classes) (h : Objects) → Keeps p → AreNamedPlainly p → HeapFits p of h →
    (root : Root) (n : ℕ) (ty : Ty) (shape : List Token) → of n ≡ Some ty → is_root p root ty ≡ true → shape_of p h n ≡ Some shape → is_allowed p root shape ≡ true
