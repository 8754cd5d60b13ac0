use Rattle.std.proofs.Common.{rules, ◌≡◌, ◌∙◌, sym, FitsSigned, w32, ℤ, pos, true, false}
use Rattle.std.proofs.lemmas.Int.{to_z-of_z}
use Rattle.kilim_run_rows.specs.Operations.{holds}
use Rattle.kilim_run_rows.proofs.Comparing.{jumps_by}
use Rattle.kilim_run_rows.proofs.jumps.jump_on_int.Goals as goal

pub returns-then-of_ints-clause-step : goal.returns-then-of_ints-clause-step
returns-then-of_ints-clause-step c =
    let fits_a : FitsSigned w32 c.pop_int-a.result = search rules in
    let is : c.of_ints.result ≡ holds c.args.test c.pop_int-a.result (pos 0) = simp to_z-of_z at c.of_ints.ensures in
    jumps_by (λ (a : ℤ). holds c.args.test a (pos 0)) c.args.to c.args.next c.args.frame.now.locals c.args.frame.now.stack c.pop_int-a.new.self c.args.heap.now c.pop_int-a.result true
    c.pop_int-a.ensures (sym is ∙ c.if-of_ints.true)

pub returns-else-of_ints-clause-step : goal.returns-else-of_ints-clause-step
returns-else-of_ints-clause-step c =
    let fits_a : FitsSigned w32 c.pop_int-a.result = search rules in
    let is : c.of_ints.result ≡ holds c.args.test c.pop_int-a.result (pos 0) = simp to_z-of_z at c.of_ints.ensures in
    jumps_by (λ (a : ℤ). holds c.args.test a (pos 0)) c.args.to c.args.next c.args.frame.now.locals c.args.frame.now.stack c.pop_int-a.new.self c.args.heap.now c.pop_int-a.result false
    c.pop_int-a.ensures (sym is ∙ c.if-of_ints.false)
