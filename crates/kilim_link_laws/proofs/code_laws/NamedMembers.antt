-- The members that an instruction of a linked method names are places of the program.
use Rattle.std.proofs.Common.{◌≡◌, ℕ, Bool, true, false, ℤ, List, Option, Some, None, Result, Ok, Err, refl, subst, option_map}
use Rattle.std.specs.Prelude.{◌==◌, if◌then◌else◌}
use Rattle.std.specs.List.{list_all}
use Rattle.std.proofs.lemmas.Option.{same_Some, none-some}
use Rattle.kilim_class_code.specs.declared.fault.CodeFault.{CodeFault}
use Rattle.kilim_class_code.specs.Code.{Placed}
use Rattle.kilim_class_pool.specs.declared.entry.Entry.{Entry}
use Rattle.kilim_class_code.specs.declared.opcodes.instr.RawInstr.{RawInstr}
use Rattle.kilim_class_code.specs.declared.opcodes.instr.RawInstr.TheVariants as raw
use Rattle.kilim_program.specs.declared.instr.Instr.{Instr}
use Rattle.kilim_program.specs.declared.instr.Instr.TheVariants.{Bipush, Sipush, Iinc, Newarray, New}
use Rattle.kilim_program.specs.Keeps.{members_there}
use Rattle.kilim_program.specs.Program.{Program}
use Rattle.kilim_link_spec.specs.Code.{instr_in, instr_with, code_of, placed_in, applied, row, plain_instrs, local_instrs, jump_instrs, field_instrs, method_instrs, type_instrs, constant_instrs, array_codes, place_of, operand_at, field_found, method_found}
use Rattle.kilim_link_spec.specs.declared.named.Operand.{Operand}
use Rattle.kilim_link_spec.specs.declared.named.Operand.TheVariants.{AConstant, AField, AMethod, AType}
use Rattle.kilim_link_spec.specs.Types.{type_named, class_named_by}
use Rattle.kilim_link_spec.specs.declared.named.Named.{Named}
use Rattle.kilim_link_spec.specs.World.{World}
use Rattle.kilim_link_laws.proofs.code_laws.Codes.{placed_parts}
use Rattle.kilim_link_laws.proofs.code_laws.Counts.{Counts}
use Rattle.kilim_link_laws.proofs.code_laws.FoundIds.{found_field, found_method}
use Rattle.kilim_link_laws.proofs.code_laws.Tables.{table_holds, table_passes, table_parts, lookup_parts}
use Rattle.kilim_link_laws.proofs.code_laws.Lists.{all_from, each_of_all}
use Rattle.kilim_link_laws.proofs.code_laws.Rows.{rows_pass, mapped}

module _ (w : World) (p : Program) (counts : Counts w p) where
  abbrev AreThere : Instr → Type 0
  AreThere y = members_there p y ≡ true

  given : (x y : Instr) → AreThere x → Some x ≡ Some y → AreThere y
  given x y h e = subst AreThere (same_Some x y e) h

  local_there : (number slot : ℕ) (y : Instr) → applied (row local_instrs number) (Some slot) ≡ Some y → AreThere y
  local_there number slot y e = table_passes (λ k i. members_there p i) local_instrs (Some slot) number y (λ arg. refl) e

  jump_there : (number : ℕ) (to : ℤ) (y : Instr) → applied (row jump_instrs number) (place_of to) ≡ Some y → AreThere y
  jump_there number to y e = table_passes (λ k i. members_there p i) jump_instrs (place_of to) number y (λ arg. refl) e

  typed_there : (number : ℕ) (class : Named) (y : Instr) (is_new : Bool) → (if is_new then option_map New (class_named_by w class) else applied (row type_instrs number) (type_named w class)) ≡ Some y → AreThere y
  typed_there number class y true e = subst AreThere (mapped New (class_named_by w class) y e).is refl
  typed_there number class y false e = table_passes (λ k i. members_there p i) type_instrs (type_named w class) number y (λ arg. refl) e

  index_there : (number : ℕ) (o : Option Operand) (y : Instr) → instr_with w number o ≡ Some y → AreThere y
  index_there number None y e = absurd (none-some y e)
  index_there number (Some (AConstant value)) y e = table_passes (λ k i. members_there p i) constant_instrs (Some value) number y (λ arg. refl) e
  index_there number (Some (AField member)) y e =
      table_holds (λ k i. AreThere i) field_instrs (field_found w member) number y
      (λ f there. let h = found_field w p counts member f there in (h, (h, (h, tt)))) e
  index_there number (Some (AMethod member)) y e =
      table_holds (λ k i. AreThere i) method_instrs (method_found w member) number y
      (λ m there. let h = found_method w p counts member m there in (h, (h, (h, tt)))) e
  index_there number (Some (AType class)) y e = typed_there number class y (number == 187) e

  instr_there : (pool : List Entry) (instr : RawInstr) (y : Instr) → instr_in w pool instr ≡ Some y → AreThere y
  unfolding instr_in
  instr_there pool (raw.Plain number) y e = rows_pass (λ k i. members_there p i) plain_instrs refl number y e
  instr_there pool (raw.Byte number n) y e = given (Bipush n) y refl e
  instr_there pool (raw.Short number n) y e = given (Sipush n) y refl e
  instr_there pool (raw.Local number slot) y e = local_there number slot y e
  instr_there pool (raw.Constant number index) y e = index_there number (operand_at pool (number, index)) y e
  instr_there pool (raw.Index number index) y e = index_there number (operand_at pool (number, index)) y e
  instr_there pool (raw.Iinc number slot n) y e = given (Iinc slot n) y refl e
  instr_there pool (raw.Jump number to) y e = jump_there number to y e
  instr_there pool (raw.WideJump number to) y e = jump_there number to y e
  instr_there pool (raw.NewArray number code) y e = subst AreThere (mapped Newarray (row array_codes code) y e).is refl
  instr_there pool (raw.TableSwitch number default low targets) y e = subst AreThere (table_parts default low targets y e).is refl
  instr_there pool (raw.LookupSwitch number default pairs) y e = subst AreThere (lookup_parts default pairs y e).is refl
  instr_there pool (raw.WideLocal number slot) y e = local_there number slot y e
  instr_there pool (raw.WideIinc number slot n) y e = given (Iinc slot n) y refl e

  pub code_there : (pool : List Entry) (r : Result (List Placed) CodeFault) (es : List (ℕ × Instr)) → code_of w pool r ≡ Some es → list_all (λ e. members_there p e.1) es ≡ true
  code_there pool (Err fault) es e = absurd (none-some es e)
  code_there pool (Ok placed) es e =
      each_of_all (placed_in w pool) (λ x. members_there p x.1) placed es (all_from _ (λ q x there. instr_there pool q.1 x.1 (placed_parts w pool q x there).there) placed) e
