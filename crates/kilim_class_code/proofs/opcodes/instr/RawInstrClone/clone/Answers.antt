use Rattle.std.proofs.Common.{sym, rules}
use Rattle.std.specs.Int.{w8, w16, w64}
use Rattle.std.specs.Prelude.{FitsSigned}
use Rattle.std.proofs.lemmas.Int.{to_z-of_z}
use Rattle.kilim_class_code.proofs.opcodes.instr.RawInstrClone.clone.Goals as goal

pub returns-in-Plain : goal.returns-in-Plain
returns-in-Plain c = record { cases = sym c.in-Plain.is }

pub returns-in-Local : goal.returns-in-Local
returns-in-Local c = record { cases = sym c.in-Local.is }

pub returns-in-Constant : goal.returns-in-Constant
returns-in-Constant c = record { cases = sym c.in-Constant.is }

pub returns-in-Index : goal.returns-in-Index
returns-in-Index c = record { cases = sym c.in-Index.is }

pub returns-in-NewArray : goal.returns-in-NewArray
returns-in-NewArray c = record { cases = sym c.in-NewArray.is }

pub returns-in-WideLocal : goal.returns-in-WideLocal
returns-in-WideLocal c = record { cases = sym c.in-WideLocal.is }

pub returns-in-Byte : goal.returns-in-Byte
returns-in-Byte c = let fits : FitsSigned w8 c.in-Byte.number = search rules in record { cases = simp to_z-of_z (sym c.in-Byte.is) }

pub returns-in-Short : goal.returns-in-Short
returns-in-Short c = let fits : FitsSigned w16 c.in-Short.number = search rules in record { cases = simp to_z-of_z (sym c.in-Short.is) }

pub returns-in-Iinc : goal.returns-in-Iinc
returns-in-Iinc c = let fits : FitsSigned w8 c.in-Iinc.number = search rules in record { cases = simp to_z-of_z (sym c.in-Iinc.is) }

pub returns-in-Jump : goal.returns-in-Jump
returns-in-Jump c = let fits : FitsSigned w64 c.in-Jump.to = search rules in record { cases = simp to_z-of_z (sym c.in-Jump.is) }

pub returns-in-WideJump : goal.returns-in-WideJump
returns-in-WideJump c = let fits : FitsSigned w64 c.in-WideJump.to = search rules in record { cases = simp to_z-of_z (sym c.in-WideJump.is) }

pub returns-in-WideIinc : goal.returns-in-WideIinc
returns-in-WideIinc c = let fits : FitsSigned w16 c.in-WideIinc.number = search rules in record { cases = simp to_z-of_z (sym c.in-WideIinc.is) }
