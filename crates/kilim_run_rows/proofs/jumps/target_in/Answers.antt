use Rattle.std.proofs.Common.{FitsSigned, rules, w64}
use Rattle.std.proofs.lemmas.Int.{to_z-of_z}
use Rattle.kilim_run_rows.proofs.Indices.{target_past, target_there}
use Rattle.kilim_run_rows.proofs.jumps.target_in.Goals as goal

pub returns-then-index-targets : goal.returns-then-index-targets
returns-then-index-targets c =
    let fits : FitsSigned w64 c.args.index.now = search rules in
    let low = simp to_z-of_z at c.if-index-lt0.false in
    let less = simp to_z-of_z at c.if-index-targets.true in
    simp to_z-of_z (target_there c.args.targets.now c.args.index.now c.args.default low less)

pub returns-else-index-targets : goal.returns-else-index-targets
returns-else-index-targets c =
    let fits : FitsSigned w64 c.args.index.now = search rules in
    let past = simp to_z-of_z at c.if-index-targets.false in
    target_past c.args.targets.now c.args.index.now c.args.default past
