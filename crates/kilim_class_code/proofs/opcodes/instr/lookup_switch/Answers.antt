use Rattle.std.proofs.Common.{◌≡◌, ℤ, List, sym, ap, ◌∙◌}
use Rattle.std.specs.Int.{w64}
use Rattle.std.specs.Prelude.{FitsSigned}
use Rattle.std.proofs.lemmas.Int.{to_z-of_z}
use Rattle.std.proofs.lemmas.List.Elements.{same_from_all_zip}
use Rattle.kilim_class_code.specs.declared.opcodes.instr.RawInstr.TheVariants.{LookupSwitch}
use Rattle.kilim_class_code.proofs.opcodes.instr.lookup_switch.Goals as goal

pub returns-in-Ok : goal.returns-in-Ok
returns-in-Ok c =
    let h = c.in-Ok.ensures.cases in
    let default : FitsSigned w64 c.args.default = c.ranges.default in
    simp to_z-of_z (ap (λ (pairs : List (ℤ × ℤ)). LookupSwitch c.args.op c.args.default pairs) (sym h.3 ∙ (same_from_all_zip _ h.0.items.items h.1.items.items h.4.0 (λ x y e i. (e.0 i, e.1 i)) ∙ h.2)))
