use Rattle.std.proofs.Common.{◌≡◌, ◌++◌, ◌∙◌, subst}
use Rattle.std.specs.Prelude.{IfOk}
use Rattle.std.proofs.lemmas.Result.{IfOk-weaker}
use Rattle.kilim_run_board.specs.Board.{closing}
use Rattle.kilim_run_board.specs.Seen.{seen, MovedWhole}
use Rattle.kilim_run_board.proofs.Closing.{finished}
use Rattle.kilim_run_board.proofs.board.Board.finish.Goals as goal

pub returns-in-Ok-clause-entries : goal.returns-in-Ok-clause-entries
returns-in-Ok-clause-entries g c =
    subst (λ ws. IfOk c.with_waits.result (λ es. es.items ≡ c.args.self.journal.items ++ closing g.F.Fibers.task_of ws 0 c.args.self.tasks))
    (c.as_slice.ensures.value ∙ c.in-Ok.ensures) c.with_waits.ensures

pub returns-in-Ok-clause-rest : goal.returns-in-Ok-clause-rest
returns-in-Ok-clause-rest g c = λ set st running quiet.
    IfOk-weaker c.with_waits.result (λ es. es.items ≡ c.args.self.journal.items ++ closing g.F.Fibers.task_of c.args.self.parked.items 0 c.args.self.tasks) (λ es. MovedWhole set es.items)
    (λ es e. finished g.F.Fibers.task_of g.F.Fibers.course_of g.F.Fibers.holds set (seen c.args.self) es.items st running quiet e) (returns-in-Ok-clause-entries g c)
