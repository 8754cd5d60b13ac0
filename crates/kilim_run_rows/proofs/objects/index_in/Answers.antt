use Rattle.std.proofs.Common.{FitsSigned, rules, w32}
use Rattle.std.proofs.lemmas.Int.{to_z-of_z}
use Rattle.kilim_run_rows.proofs.Indices.{index_past, index_there}
use Rattle.kilim_run_rows.proofs.objects.index_in.Goals as goal

pub returns-then-index-length : goal.returns-then-index-length
returns-then-index-length c =
    let fits : FitsSigned w32 c.args.index = search rules in
    let low = simp to_z-of_z at c.if-index-lt0.false in
    let less = simp to_z-of_z at c.if-index-length.true in
    simp to_z-of_z (index_there c.args.heap.now c.args.at c.args.index c.length.result low c.length.ensures less)

pub returns-else-index-length : goal.returns-else-index-length
returns-else-index-length c =
    let fits : FitsSigned w32 c.args.index = search rules in
    let past = simp to_z-of_z at c.if-index-length.false in
    index_past c.args.heap.now c.args.at c.args.index c.length.result c.length.ensures past
