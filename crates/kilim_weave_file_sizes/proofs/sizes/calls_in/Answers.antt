use Rattle.std.proofs.Common.{true, false, sym, ◌∙◌, arith}
use Rattle.kilim_weave_file_sizes.proofs.Loops.{counted}
use Rattle.kilim_weave_file_sizes.proofs.sizes.calls_in.Goals as goal
use Rattle.kilim_weave_file_sizes.proofs.sizes.calls_in.Goals.{then-is_pausable_call, else-is_pausable_call}

pub loop-entry-preserved : goal.loop-entry-preserved
loop-entry-preserved c =
    elim c.if-is_pausable_call.branch [
      | then-is_pausable_call w ↦ (
        counted c.args.program.now c.args.code.now c.loop-entry.entry-index c.entry-item.result _ true c.loop-entry.count c.if-is_pausable_call.count c.loop-entry-test.true c.entry-item.is (sym w.if-is_pausable_call.true ∙ c.is_pausable_call.ensures) (omega arith) c.loop-entry.invariant.0,
        omega arith,
      )
      | else-is_pausable_call w ↦ (
        counted c.args.program.now c.args.code.now c.loop-entry.entry-index c.entry-item.result _ false c.loop-entry.count c.if-is_pausable_call.count c.loop-entry-test.true c.entry-item.is (sym w.if-is_pausable_call.false ∙ c.is_pausable_call.ensures) (omega arith) c.loop-entry.invariant.0,
        omega arith,
      )
    ]
