-- The woven code of a method is well typed, and at most its weight long.
use Rattle.std.specs.Prelude.{◌≡◌, ℕ, ◌≤◌, true, false, List, [], ◌∷◌, Some}
use Rattle.std.specs.List.{list_any}
use Rattle.kilim_program.specs.declared.class.Method.{Method}
use Rattle.kilim_program.specs.declared.instr.Instr.{Instr}
use Rattle.kilim_program.specs.declared.instr.Instr.TheVariants.{Checkcast}
use Rattle.kilim_program.specs.declared.verified.VType.{VType}
use Rattle.kilim_program.specs.declared.verified.VType.TheVariants.{Object}
use Rattle.kilim_program.specs.Program.{Program}
use Rattle.kilim_program.specs.Lengths.{code_stands}
use Rattle.kilim_program.specs.Names.{class_at}
use Rattle.kilim_program.specs.Same.{is_constructor}
use Rattle.kilim_type_spec.specs.Step.{is_unset, assignable, superclass_at}
use Rattle.kilim_type_spec.specs.Typed.{WellTypedBy, WellTyped, IsLive}
use Rattle.kilim_weave_spec.specs.Woven.{Plan, below, pausable_callee}
use Rattle.kilim_weave_laws.specs.woven_types.Facts.{Members, is_reference, WovenMethod}
use Rattle.kilim_weave_laws.specs.woven_types.Same.{Programs}
use Rattle.kilim_weave_spec.specs.Weight.{weight}

-- a cast names a class or an array
abbrev pub Checked : Instr → Type 0
Checked (Checkcast ty) = is_reference (Object ty) ≡ true
Checked i = Unit {0}

abbrev pub AllChecked : List (ℕ × Instr) → Type 0
AllChecked [] = Unit {0}
AllChecked (e ∷ es) = Checked e.1 × AllChecked es

-- at a pausable call nothing below the arguments and in the locals is uninitialized
pub record NoneUnset (x : Plan) (callee : Method) (p : ℕ) : Type 0 where
  pub stack : list_any is_unset (below x callee p) ≡ false
  pub locals : list_any is_unset (x.typing p).locals ≡ false

abbrev pub AllNoneUnset : Plan → List (ℕ × Instr) → Type 0
AllNoneUnset x [] = Unit {0}
AllNoneUnset x (e ∷ es) = ((callee : Method) → pausable_callee x.program e.1 ≡ Some callee → NoneUnset x callee e.0) × AllNoneUnset x es

-- a method with pausable calls, and its woven form in a woven program
pub record Weaving (x : Plan) (W : Program) (w : Method) : Type 0 where
  -- the old method is well typed, with these frames and live slots
  pub typed : WellTypedBy x.program x.method x.typing
  pub live : IsLive x.method x.live
  pub initialized : AllNoneUnset x x.method.code
  -- facts of a program's type
  pub plain : is_constructor x.method ≡ false
  pub plain_too : is_constructor w ≡ false
  pub code : code_stands 0 x.method.code x.method.code_length ≡ true
  pub casts : AllChecked x.method.code
  pub itself : (t : VType) → assignable x.program t t ≡ true
  -- the woven program
  pub assigns : (a b : VType) → assignable x.program a b ≡ true → assignable W a b ≡ true
  pub above : superclass_at (class_at W x.method.owner) ≡ superclass_at (class_at x.program x.method.owner)
  pub programs : Programs x.program W x.method w
  pub members : Members x.program W
  -- the woven method; new places differ
  pub woven : WovenMethod x w
  pub differ : (a b : ℕ) → x.at a ≡ x.at b → a ≡ b

abbrev pub WovenIsTyped : Type 0
WovenIsTyped = (x : Plan) (W : Program) (w : Method) → Weaving x W w → WellTyped W w × (w.code_length ≤ weight x.program x.method)
