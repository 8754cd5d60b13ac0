-- The types that an instruction of a linked method names pass a test.
use Rattle.std.proofs.Common.{◌≡◌, ℕ, Bool, true, false, ℤ, List, [], ◌∷◌, Option, Some, None, refl, subst, option_map}
use Rattle.std.specs.Prelude.{◌==◌, if◌then◌else◌}
use Rattle.std.specs.List.{list_all, AllByRecursion}
use Rattle.std.proofs.lemmas.Bool.{false≢true}
use Rattle.std.proofs.lemmas.Option.{same_Some, none-some}
use Rattle.kilim_class_pool.specs.declared.entry.Entry.{Entry}
use Rattle.kilim_class_descriptors.specs.declared.types.FieldText.{FieldText}
use Rattle.kilim_class_code.specs.declared.opcodes.instr.RawInstr.{RawInstr}
use Rattle.kilim_class_code.specs.declared.opcodes.instr.RawInstr.TheVariants as raw
use Rattle.kilim_program.specs.declared.instr.Instr.{Instr}
use Rattle.kilim_program.specs.declared.instr.Instr.TheVariants.{Bipush, Sipush, Iinc, Newarray, New}
use Rattle.kilim_program.specs.declared.ty.Base.TheVariants as base
use Rattle.kilim_program.specs.declared.ty.Ty.{Ty}
use Rattle.kilim_program.specs.Keeps.{array_of, types_of_instr}
use Rattle.kilim_program.specs.Lengths.{is_primitive}
use Rattle.kilim_program.specs.Names.{is_empty}
use Rattle.kilim_link_spec.specs.Code.{instr_in, instr_with, applied, row, place_of, plain_instrs, local_instrs, jump_instrs, field_instrs, method_instrs, type_instrs, constant_instrs, array_codes, operand_at, field_found, method_found}
use Rattle.kilim_link_spec.specs.declared.named.Operand.{Operand}
use Rattle.kilim_link_spec.specs.declared.named.Operand.TheVariants.{AConstant, AField, AMethod, AType}
use Rattle.kilim_link_spec.specs.Mentions.{mentions_of_operand, mentions_of_instr}
use Rattle.kilim_link_spec.specs.Types.{type_named, class_named_by, typed}
use Rattle.kilim_link_spec.specs.declared.named.Named.{Named}
use Rattle.kilim_link_spec.specs.World.{World}
use Rattle.kilim_link_laws.proofs.code_laws.Tables.{table_holds, table_passes, table_parts, lookup_parts}
use Rattle.kilim_link_laws.proofs.code_laws.Rows.{rows_pass, mapped}
use Rattle.kilim_link_laws.proofs.code_laws.TestedTypes.{GoodMention, Tested, class_passes, element_passes, named_passes, one_passes}

abbrev has_none : Instr → Bool
has_none y = is_empty (types_of_instr y)

nothing_passes : {A : Type 0} (test : A → Bool) (xs : List A) → is_empty xs ≡ true → list_all test xs ≡ true
nothing_passes test [] e = refl
nothing_passes test (x ∷ xs) e = absurd (false≢true e)

given_none : (x y : Instr) → has_none x ≡ true → Some x ≡ Some y → has_none y ≡ true
given_none x y h e = subst (λ i. has_none i ≡ true) (same_Some x y e) h

abbrev pub InstrPasses : (Ty → Bool) → Instr → Type 0
InstrPasses test y = list_all test (types_of_instr y) ≡ true

none_passes : (test : Ty → Bool) (y : Instr) → has_none y ≡ true → InstrPasses test y
none_passes test y e = nothing_passes test (types_of_instr y) e

plain_passes : (test : Ty → Bool) (number : ℕ) (y : Instr) → row plain_instrs number ≡ Some y → InstrPasses test y
plain_passes test number y e = none_passes test y (rows_pass (λ k i. has_none i) plain_instrs refl number y e)

local_passes : (test : Ty → Bool) (number slot : ℕ) (y : Instr) → applied (row local_instrs number) (Some slot) ≡ Some y → InstrPasses test y
local_passes test number slot y e = none_passes test y (table_passes (λ k i. has_none i) local_instrs (Some slot) number y (λ arg. refl) e)

jump_passes : (test : Ty → Bool) (number : ℕ) (to : ℤ) (y : Instr) → applied (row jump_instrs number) (place_of to) ≡ Some y → InstrPasses test y
jump_passes test number to y e = none_passes test y (table_passes (λ k i. has_none i) jump_instrs (place_of to) number y (λ arg. refl) e)

module _ (w : World) (Good : FieldText → Type 0) (test : Ty → Bool) (tested : Tested w Good test) where
  array_passes : (code : ℕ) (y : Instr) → option_map Newarray (row array_codes code) ≡ Some y → InstrPasses test y
  array_passes code y e =
      let m = mapped Newarray (row array_codes code) y e in
      subst (InstrPasses test) m.is (one_passes test (typed 1 m.x) (tested.of_primitive m.x (rows_pass (λ k b. is_primitive b) array_codes refl code m.x m.there)))

  new_passes : (class : Named) (y : Instr) → option_map New (class_named_by w class) ≡ Some y → InstrPasses test y
  new_passes class y e =
      let m = mapped New (class_named_by w class) y e in
      subst (InstrPasses test) m.is (one_passes test (typed 0 (base.Class m.x)) (class_passes w Good test tested class m.x m.there))

  abbrev GoodType : Bool → Named → Type 0
  GoodType makes_array class = AllByRecursion (GoodMention Good) (mentions_of_operand makes_array (Some (AType class)))

  typed_by : (number : ℕ) (class : Named) (y : Instr) (is_new : Bool) → GoodType (number == 189) class
      → (if is_new then option_map New (class_named_by w class) else applied (row type_instrs number) (type_named w class)) ≡ Some y → InstrPasses test y
  typed_by number class y true good e = new_passes class y e
  typed_by number class y false good e =
      table_holds (λ k i. GoodType (k == 189) class → InstrPasses test i) type_instrs (type_named w class) number y
      (λ ty there.
      let of_class = λ (g : GoodType false class). one_passes test ty (named_passes w Good test tested class ty g.0 there) in
      ((λ g. one_passes test (array_of ty) (element_passes w Good test tested class ty g.0 there)), (of_class, (of_class, tt)))) e good

  index_passes : (number : ℕ) (o : Option Operand) (y : Instr) → AllByRecursion (GoodMention Good) (mentions_of_operand (number == 189) o) → instr_with w number o ≡ Some y → InstrPasses test y
  index_passes number None y good e = absurd (none-some y e)
  index_passes number (Some (AConstant value)) y good e = none_passes test y (table_passes (λ k i. has_none i) constant_instrs (Some value) number y (λ arg. refl) e)
  index_passes number (Some (AField member)) y good e = none_passes test y (table_passes (λ k i. has_none i) field_instrs (field_found w member) number y (λ arg. refl) e)
  index_passes number (Some (AMethod member)) y good e = none_passes test y (table_passes (λ k i. has_none i) method_instrs (method_found w member) number y (λ arg. refl) e)
  index_passes number (Some (AType class)) y good e = typed_by number class y (number == 187) good e

  pub instr_passes : (pool : List Entry) (instr : RawInstr) (y : Instr) → AllByRecursion (GoodMention Good) (mentions_of_instr pool instr) → instr_in w pool instr ≡ Some y → InstrPasses test y
  unfolding instr_in
  instr_passes pool (raw.Plain number) y good e = plain_passes test number y e
  instr_passes pool (raw.Byte number n) y good e = none_passes test y (given_none (Bipush n) y refl e)
  instr_passes pool (raw.Short number n) y good e = none_passes test y (given_none (Sipush n) y refl e)
  instr_passes pool (raw.Local number slot) y good e = local_passes test number slot y e
  instr_passes pool (raw.Constant number index) y good e = index_passes number (operand_at pool (number, index)) y good e
  instr_passes pool (raw.Index number index) y good e = index_passes number (operand_at pool (number, index)) y good e
  instr_passes pool (raw.Iinc number slot n) y good e = none_passes test y (given_none (Iinc slot n) y refl e)
  instr_passes pool (raw.Jump number to) y good e = jump_passes test number to y e
  instr_passes pool (raw.WideJump number to) y good e = jump_passes test number to y e
  instr_passes pool (raw.NewArray number code) y good e = array_passes code y e
  instr_passes pool (raw.TableSwitch number default low targets) y good e = subst (InstrPasses test) (table_parts default low targets y e).is refl
  instr_passes pool (raw.LookupSwitch number default pairs) y good e = subst (InstrPasses test) (lookup_parts default pairs y e).is refl
  instr_passes pool (raw.WideLocal number slot) y good e = local_passes test number slot y e
  instr_passes pool (raw.WideIinc number slot n) y good e = none_passes test y (given_none (Iinc slot n) y refl e)
