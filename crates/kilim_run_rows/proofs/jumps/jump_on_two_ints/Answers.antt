use Rattle.std.proofs.Common.{rules, ◌≡◌, ◌∙◌, sym, FitsSigned, w32, true, false}
use Rattle.std.proofs.lemmas.Int.{to_z-of_z}
use Rattle.kilim_run_rows.specs.Operations.{holds}
use Rattle.kilim_run_rows.proofs.Comparing.{jumps_by_two}
use Rattle.kilim_run_rows.proofs.jumps.jump_on_two_ints.Goals as goal

pub returns-then-of_ints-clause-step : goal.returns-then-of_ints-clause-step
returns-then-of_ints-clause-step c =
    let fits_a : FitsSigned w32 c.pop_int-a.result = search rules in
    let fits_b : FitsSigned w32 c.pop_int-b.result = search rules in
    let is : c.of_ints.result ≡ holds c.args.test c.pop_int-a.result c.pop_int-b.result = simp to_z-of_z at c.of_ints.ensures in
    jumps_by_two (holds c.args.test) c.args.to c.args.next c.args.frame.now.locals c.args.frame.now.stack c.pop_int-b.new.self c.pop_int-a.new.self c.args.heap.now c.pop_int-a.result c.pop_int-b.result true
    c.pop_int-b.ensures c.pop_int-a.ensures (sym is ∙ c.if-of_ints.true)

pub returns-else-of_ints-clause-step : goal.returns-else-of_ints-clause-step
returns-else-of_ints-clause-step c =
    let fits_a : FitsSigned w32 c.pop_int-a.result = search rules in
    let fits_b : FitsSigned w32 c.pop_int-b.result = search rules in
    let is : c.of_ints.result ≡ holds c.args.test c.pop_int-a.result c.pop_int-b.result = simp to_z-of_z at c.of_ints.ensures in
    jumps_by_two (holds c.args.test) c.args.to c.args.next c.args.frame.now.locals c.args.frame.now.stack c.pop_int-b.new.self c.pop_int-a.new.self c.args.heap.now c.pop_int-a.result c.pop_int-b.result false
    c.pop_int-b.ensures c.pop_int-a.ensures (sym is ∙ c.if-of_ints.false)
