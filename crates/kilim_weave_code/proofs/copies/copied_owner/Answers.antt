use Rattle.std.proofs.Common.{◌≡◌, ◌∙◌, ap, rules, sym}
use Rattle.std.specs.Int.{w32}
use Rattle.std.specs.Prelude.{FitsSigned}
use Rattle.std.proofs.lemmas.Int.{to_z-of_z}
use Rattle.std.proofs.lemmas.List.Elements.{same_from_all_zip}
use Rattle.kilim_program.specs.declared.instr.Instr.TheVariants.{Ldc, LdcW, Ldc2W, Tableswitch, Lookupswitch}
use Rattle.kilim_weave_code.proofs.Unmoved.{stays_by}
use Rattle.kilim_weave_code.proofs.copies.copied_owner.Goals as goal

pub returns-in-Ok : goal.returns-in-Ok
returns-in-Ok c = let same : c.in-Ok.load ≡ c.in-Ldc.value = search rules in ap Ldc same ∙ sym c.in-Ldc.is

pub returns-in-Ok-clone : goal.returns-in-Ok-clone
returns-in-Ok-clone c = let same : c.in-Ok-clone.wide ≡ c.in-LdcW.value = search rules in ap LdcW same ∙ sym c.in-LdcW.is

pub returns-in-Ok-clone-2 : goal.returns-in-Ok-clone-2
returns-in-Ok-clone-2 c = let same : c.in-Ok-clone-2.double ≡ c.in-Ldc2W.value = search rules in ap Ldc2W same ∙ sym c.in-Ldc2W.is

pub returns-in-Ok-clone-3 : goal.returns-in-Ok-clone-3
returns-in-Ok-clone-3 c =
    let ts = c.in-Ok-clone-3.ensures.cases in
    let same : c.in-Ok-clone-3.table ≡ c.in-Tableswitch.targets = sym ts.3 ∙ (same_from_all_zip _ _ _ ts.4.0 (λ x y e. e) ∙ ts.2) in
    let low : FitsSigned w32 c.in-Tableswitch.low = search rules in
    simp to_z-of_z (ap (Tableswitch c.in-Tableswitch.default c.in-Tableswitch.low) same ∙ sym c.in-Tableswitch.is)

pub returns-in-Ok-clone-4 : goal.returns-in-Ok-clone-4
returns-in-Ok-clone-4 c =
    let ps = c.in-Ok-clone-4.ensures.cases in
    let same : c.in-Ok-clone-4.lookup ≡ c.in-Lookupswitch.pairs = sym ps.3 ∙ (same_from_all_zip _ _ _ ps.4.0 (λ x y e i. (e.0 i, e.1 i)) ∙ ps.2) in
    ap (Lookupswitch c.in-Lookupswitch.default) same ∙ sym c.in-Lookupswitch.is

pub returns-in_default : goal.returns-in_default
returns-in_default c = stays_by c.jump_to.result c.target_of.result c.args.instr.now c.target_of.ensures c.jump_to.ensures
