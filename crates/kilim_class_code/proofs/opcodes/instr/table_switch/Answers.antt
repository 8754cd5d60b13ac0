use Rattle.std.proofs.Common.{◌≡◌, ℤ, List, sym, ap, ◌∙◌}
use Rattle.std.specs.Int.{w32, w64}
use Rattle.std.specs.Prelude.{FitsSigned}
use Rattle.std.proofs.lemmas.Int.{to_z-of_z}
use Rattle.std.proofs.lemmas.List.Elements.{same_from_all_zip}
use Rattle.kilim_class_code.specs.declared.opcodes.instr.RawInstr.TheVariants.{TableSwitch}
use Rattle.kilim_class_code.proofs.opcodes.instr.table_switch.Goals as goal

pub returns-in-Ok : goal.returns-in-Ok
returns-in-Ok c =
    let h = c.in-Ok.ensures.cases in
    let default : FitsSigned w64 c.args.default = c.ranges.default in
    let low : FitsSigned w32 c.args.low = c.ranges.low in
    simp to_z-of_z (ap (λ (targets : List ℤ). TableSwitch c.args.op c.args.default c.args.low targets) (sym h.3 ∙ (same_from_all_zip (λ (x y : ℤ). y ≡ x) h.0.items.items h.1.items.items h.4.0 (λ x y e. e) ∙ h.2)))
