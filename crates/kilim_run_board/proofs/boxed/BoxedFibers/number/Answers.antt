use Rattle.std.proofs.Common.{sym, subst, ◌∙◌}
use Rattle.kilim_run_board.specs.fibers.Fibers.{StandsFor}
use Rattle.kilim_run_board.proofs.boxed.BoxedFibers.number.Goals as goal

pub returns-clause-stands : goal.returns-clause-stands
returns-clause-stands g c = λ set stands.
    c.number.ensures.stands set (subst (λ f. StandsFor g.F.Fibers.task_of g.F.Fibers.course_of g.F.Fibers.holds set f) (sym (c.deref_mut.ensures.value ∙ c.self.view_is)) stands)
