use Rattle.std.proofs.Common.{◌≡◌, ◌++◌, subst, sym, inl, inr}
use Rattle.std.specs.Int.{w8, w16, w32, w64}
use Rattle.std.specs.Prelude.{FitsSigned}
use Rattle.std.proofs.lemmas.Int.{to_z-of_z}
use Rattle.std.proofs.lemmas.List.{append-nil}
use Rattle.kilim_class_code.specs.declared.opcodes.instr.RawInstr.{RawInstr}
use Rattle.kilim_class_code.specs.opcodes.Instr.{operands_text, InstrFits}
use Rattle.kilim_class_code.proofs.opcodes.Pieces.{on_operands}
use Rattle.kilim_class_code.proofs.opcodes.writing.put_operands.Goals as goal

pub returns-in-Plain : goal.returns-in-Plain
unfolding operands_text
returns-in-Plain c = subst (λ (i : RawInstr). c.args.into.now.items ≡ c.args.into.now.items ++ operands_text c.args.at i) (sym c.in-Plain.is) (sym (append-nil c.args.into.now.items))

pub returns-in-Byte : goal.returns-in-Byte
unfolding operands_text InstrFits
returns-in-Byte c =
    let fits = subst (InstrFits c.args.at) c.in-Byte.is c.requires in
    let number : FitsSigned w8 c.in-Byte.number = fits.1 in
    on_operands c.put_i8.result c.args.into.now.items c.put_i8.new.into.items c.args.at c.args.instr.now _ c.in-Byte.is (simp to_z-of_z at c.put_i8.ensures)

pub returns-in-Short : goal.returns-in-Short
unfolding operands_text InstrFits
returns-in-Short c =
    let fits = subst (InstrFits c.args.at) c.in-Short.is c.requires in
    let number : FitsSigned w16 c.in-Short.number = fits.1 in
    on_operands c.put_i16.result c.args.into.now.items c.put_i16.new.into.items c.args.at c.args.instr.now _ c.in-Short.is (simp to_z-of_z at c.put_i16.ensures)

pub returns-in-Local : goal.returns-in-Local
unfolding operands_text
returns-in-Local c =
    let added = c.push_u8.ensures.ok in
    elim c.in-Local.is [
      | inl is ↦ on_operands c.push_u8.result c.args.into.now.items c.push_u8.new.into.items c.args.at c.args.instr.now _ is.1 added
      | inr (inl is) ↦ on_operands c.push_u8.result c.args.into.now.items c.push_u8.new.into.items c.args.at c.args.instr.now _ is.1 added
      | inr (inr is) ↦ on_operands c.push_u8.result c.args.into.now.items c.push_u8.new.into.items c.args.at c.args.instr.now _ is.1 added
    ]

pub returns-in-Index : goal.returns-in-Index
unfolding operands_text
returns-in-Index c = on_operands c.push_u16.result c.args.into.now.items c.push_u16.new.into.items c.args.at c.args.instr.now _ c.in-Index.is c.push_u16.ensures.ok

pub returns-in-Iinc : goal.returns-in-Iinc
unfolding operands_text InstrFits
returns-in-Iinc c =
    let fits = subst (InstrFits c.args.at) c.in-Iinc.is c.requires in
    let number : FitsSigned w8 c.in-Iinc.number = fits.1.1 in
    on_operands c.put_iinc.result c.args.into.now.items c.put_iinc.new.into.items c.args.at c.args.instr.now _ c.in-Iinc.is (simp to_z-of_z at c.put_iinc.ensures)

pub put_near_target-requires : goal.put_near_target-requires
unfolding InstrFits
put_near_target-requires c =
    let fits = subst (InstrFits c.args.at) c.in-Jump.is c.requires in
    let to : FitsSigned w64 c.in-Jump.to = fits.1.0 in
    simp to_z-of_z fits.1

pub returns-in-Jump : goal.returns-in-Jump
unfolding operands_text InstrFits
returns-in-Jump c =
    let fits = subst (InstrFits c.args.at) c.in-Jump.is c.requires in
    let to : FitsSigned w64 c.in-Jump.to = fits.1.0 in
    on_operands c.put_near_target.result c.args.into.now.items c.put_near_target.new.into.items c.args.at c.args.instr.now _ c.in-Jump.is (simp to_z-of_z at c.put_near_target.ensures)

pub put_target-requires : goal.put_target-requires
unfolding InstrFits
put_target-requires c =
    let fits = subst (InstrFits c.args.at) c.in-WideJump.is c.requires in
    let to : FitsSigned w64 c.in-WideJump.to = fits.1.0 in
    simp to_z-of_z fits.1

pub returns-in-WideJump : goal.returns-in-WideJump
unfolding operands_text InstrFits
returns-in-WideJump c =
    let fits = subst (InstrFits c.args.at) c.in-WideJump.is c.requires in
    let to : FitsSigned w64 c.in-WideJump.to = fits.1.0 in
    on_operands c.put_target.result c.args.into.now.items c.put_target.new.into.items c.args.at c.args.instr.now _ c.in-WideJump.is (simp to_z-of_z at c.put_target.ensures)

pub put_table_switch-requires : goal.put_table_switch-requires
unfolding InstrFits
put_table_switch-requires c =
    let fits = subst (InstrFits c.args.at) c.in-TableSwitch.is c.requires in
    let default : FitsSigned w64 c.in-TableSwitch.default = fits.1.0.0 in
    let low : FitsSigned w32 c.in-TableSwitch.low = fits.1.1 in
    rw c.as_slice.ensures (simp to_z-of_z (record { default = fits.1.0; high = fits.1.2; targets = fits.1.4 }))

pub returns-in-TableSwitch : goal.returns-in-TableSwitch
unfolding operands_text InstrFits
returns-in-TableSwitch c =
    let fits = subst (InstrFits c.args.at) c.in-TableSwitch.is c.requires in
    let default : FitsSigned w64 c.in-TableSwitch.default = fits.1.0.0 in
    let low : FitsSigned w32 c.in-TableSwitch.low = fits.1.1 in
    on_operands c.put_table_switch.result c.args.into.now.items c.put_table_switch.new.into.items c.args.at c.args.instr.now _ c.in-TableSwitch.is (simp (to_z-of_z, c.as_slice.ensures) at c.put_table_switch.ensures)

pub put_lookup_switch-requires : goal.put_lookup_switch-requires
unfolding InstrFits
put_lookup_switch-requires c =
    let fits = subst (InstrFits c.args.at) c.in-LookupSwitch.is c.requires in
    let default : FitsSigned w64 c.in-LookupSwitch.default = fits.1.0.0 in
    rw c.as_slice-in-LookupSwitch.ensures (simp to_z-of_z (record { default = fits.1.0; count = fits.1.1; pairs = fits.1.2 }))

pub returns-in-LookupSwitch : goal.returns-in-LookupSwitch
unfolding operands_text InstrFits
returns-in-LookupSwitch c =
    let fits = subst (InstrFits c.args.at) c.in-LookupSwitch.is c.requires in
    let default : FitsSigned w64 c.in-LookupSwitch.default = fits.1.0.0 in
    on_operands c.put_lookup_switch.result c.args.into.now.items c.put_lookup_switch.new.into.items c.args.at c.args.instr.now _ c.in-LookupSwitch.is (simp (to_z-of_z, c.as_slice-in-LookupSwitch.ensures) at c.put_lookup_switch.ensures)

pub returns-in-WideLocal : goal.returns-in-WideLocal
unfolding operands_text
returns-in-WideLocal c = on_operands c.put_wide_local.result c.args.into.now.items c.put_wide_local.new.into.items c.args.at c.args.instr.now _ c.in-WideLocal.is c.put_wide_local.ensures

pub returns-in-WideIinc : goal.returns-in-WideIinc
unfolding operands_text InstrFits
returns-in-WideIinc c =
    let fits = subst (InstrFits c.args.at) c.in-WideIinc.is c.requires in
    let number : FitsSigned w16 c.in-WideIinc.number = fits.1.1 in
    on_operands c.put_wide_iinc.result c.args.into.now.items c.put_wide_iinc.new.into.items c.args.at c.args.instr.now _ c.in-WideIinc.is (simp to_z-of_z at c.put_wide_iinc.ensures)
