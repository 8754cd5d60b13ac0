use Rattle.std.proofs.Common.{arith, Some, None, below_more, ◌∙◌, ap}
use Rattle.std.proofs.lemmas.Option.{slice_get-get_or}
use Rattle.kilim_run_board.proofs.Seats.{all_free, one_lent}
use Rattle.kilim_run_board.proofs.board.is_none_lent.Goals as goal

pub returns-in-Some-clause-no : goal.returns-in-Some-clause-no
returns-in-Some-clause-no c = λ _ none. one_lent c.args.cells.now c.loop-cell.cell-index c.in-Some.field-0 (slice_get-get_or c.args.cells.now c.loop-cell.cell-index None c.loop-cell-test.true ∙ ap (λ o. Some o) c.in-Some.is) none

pub loop-cell-preserved : goal.loop-cell-preserved
loop-cell-preserved c = below_more _ _ c.loop-cell.invariant (slice_get-get_or c.args.cells.now c.loop-cell.cell-index None c.loop-cell-test.true ∙ ap (λ o. Some o) c.in-None.is)

pub returns-clause-yes : goal.returns-clause-yes
returns-clause-yes c = λ _. all_free c.args.cells.now (λ k h. c.loop-cell.invariant k (omega arith))
