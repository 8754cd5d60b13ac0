-- The woven form of a well-typed program is well typed, and no code in it is longer than its weight.
use Rattle.std.specs.Prelude.{◌≡◌, ℕ, ◌<◌, ◌≤◌, Bool, true, false, List, [], ◌∷◌, Some, drop, length}
use Rattle.std.specs.List.{list_any}
use Rattle.kilim_program.specs.declared.class.Form.TheVariants.{Plain}
use Rattle.kilim_program.specs.declared.class.Method.{Method}
use Rattle.kilim_program.specs.declared.instr.Instr.{Instr}
use Rattle.kilim_program.specs.declared.names.ClassId.{ClassId}
use Rattle.kilim_program.specs.declared.names.MethodId.{MethodId}
use Rattle.kilim_program.specs.Keeps.{Keeps}
use Rattle.kilim_program.specs.Names.{is_empty, line_of, method_at}
use Rattle.kilim_program.specs.Program.{Program}
use Rattle.kilim_type_spec.specs.Step.{Types, is_unset}
use Rattle.kilim_type_spec.specs.Typed.{IsWellTyped, typing_of}
use Rattle.kilim_weave_spec.specs.Form.{WovenForm}
use Rattle.kilim_weave_spec.specs.Weight.{weight}
use Rattle.kilim_weave_spec.specs.Woven.{pausable_callee, taken}
use Rattle.kilim_weave_laws.specs.woven_types.Facts.{CallsNone}

-- at each pausable call nothing in the locals, and nothing on the stack below receiver and arguments, is uninitialized
abbrev pub NoneAcross : Program → (ℕ → Types) → List (ℕ × Instr) → Type 0
NoneAcross p typing [] = Unit {0}
NoneAcross p typing (e ∷ es) =
    ((callee : Method) → pausable_callee p e.1 ≡ Some callee → (list_any is_unset (drop (taken callee) (typing e.0).stack) ≡ false) × (list_any is_unset (typing e.0).locals ≡ false))
    × NoneAcross p typing es

-- the rules of pausing that typing rests on
pub record KeepsPauses (p : Program) : Type 0 where
  -- only pausable methods call pausable methods
  pub plain : (id : MethodId) (m : Method) → method_at p id ≡ Some m → m.pausable ≡ false → CallsNone p m.code
  pub across : (id : MethodId) (m : Method) → method_at p id ≡ Some m → NoneAcross p (typing_of p m) m.code

-- No method that can pause has an exception table: what is live at a call that pauses is then live behind it, and so it is saved.
abbrev pub NoPausableTables : Program → Type 0
NoPausableTables p = (id : MethodId) (m : Method) → method_at p id ≡ Some m → m.pausable ≡ true → is_empty m.handlers ≡ true

-- so it is in each linked program
abbrev pub NonePausesWithTable : Type 0
NonePausesWithTable = (p : Program) → Keeps p → NoPausableTables p

-- What catches in a woven program: methods that can't pause, which are as they were, and none that can; and a class is caught by what caught it.
pub record TablesKeep (p w : Program) : Type 0 where
  pub plain : (id : MethodId) (m : Method) → method_at p id ≡ Some m → m.pausable ≡ false → method_at w id ≡ Some m
  pub paused : (id : MethodId) (m : Method) → method_at p id ≡ Some m → m.pausable ≡ true → (n : Method) × (method_at w id ≡ Some n) × (is_empty n.handlers ≡ true)
  pub lines : (c : ClassId) → c.0 < length p.classes → line_of w c ≡ line_of p c

abbrev pub WovenTablesKeep : Type 0
WovenTablesKeep = (p w : Program) (counted : List (List Bool)) → Keeps p → p.form ≡ Plain → NoPausableTables p → WovenForm p w counted → TablesKeep p w

abbrev pub EachIsShort : Program → Program → Type 0
EachIsShort p w = (id : MethodId) (m v : Method) → method_at p id ≡ Some m → method_at w id ≡ Some v → v.code_length ≤ weight p m

abbrev pub WovenProgramsAreTyped : Type 0
WovenProgramsAreTyped =
    (p w : Program) (counted : List (List Bool)) → Keeps p → p.form ≡ Plain → IsWellTyped p → KeepsPauses p → WovenForm p w counted → IsWellTyped w × EachIsShort p w
