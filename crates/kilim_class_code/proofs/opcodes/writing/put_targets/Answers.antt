use Rattle.std.proofs.Common.{ℤ, pos, get_or, List, ◌++◌, ap, ◌∙◌}
use Rattle.std.specs.Prelude.{FitsSigned}
use Rattle.std.specs.Int.{w32, w64}
use Rattle.std.specs.List.{flat_map}
use Rattle.std.proofs.lemmas.List.{take_all}
use Rattle.std.proofs.lemmas.Int.{to_z-of_z}
use Rattle.kilim_class_code.specs.opcodes.Instr.{target_text}
use Rattle.kilim_class_code.proofs.opcodes.Pieces.{one_more, target_fits}
use Rattle.kilim_class_code.proofs.opcodes.writing.put_targets.Goals as goal

pub put_target-requires : goal.put_target-requires
put_target-requires c =
    let fits = target_fits c.args.at c.args.targets.now c.loop-to.to-index (pos 0) c.requires c.loop-to-test.true in
    let place : FitsSigned w64 (get_or c.args.targets.now c.loop-to.to-index (pos 0)) = fits.0 in
    simp to_z-of_z fits

pub loop-to-preserved : goal.loop-to-preserved
loop-to-preserved c =
    let fits = target_fits c.args.at c.args.targets.now c.loop-to.to-index (pos 0) c.requires c.loop-to-test.true in
    let place : FitsSigned w64 (get_or c.args.targets.now c.loop-to.to-index (pos 0)) = fits.0 in
    one_more (target_text w32 c.args.at) c.args.targets.now c.loop-to.to-index (pos 0) c.args.into.now.items c.loop-to.into.items c.put_target.new.into.items c.loop-to-test.true c.loop-to.invariant
    (simp to_z-of_z at c.in-Ok.ensures)

pub returns : goal.returns
returns c = c.loop-to.invariant ∙ ap (λ (xs : List ℤ). c.args.into.now.items ++ flat_map (target_text w32 c.args.at) xs) (take_all c.loop-to.to-index c.args.targets.now c.loop-to-test.false)
