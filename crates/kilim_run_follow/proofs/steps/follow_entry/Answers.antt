use Rattle.std.proofs.Common.{◌∙◌, sym, subst}
use Rattle.kilim_run_board.specs.Seen.{seen}
use Rattle.kilim_run_workers.specs.one_worker.Pool.{IsOf}
use Rattle.kilim_run_workers.proofs.one_worker.Lent.{lent_waits}
use Rattle.kilim_run_follow.specs.Steps.{MadeOne, MakesNext}
use Rattle.kilim_run_follow.proofs.Coming.{follows_next, no_task}
use Rattle.kilim_run_follow.proofs.Going.{task_calm, task_lending}
use Rattle.kilim_run_follow.proofs.steps.follow_entry.Goals as goal

pub returns-in_default : goal.returns-in_default
returns-in_default g c = no_task g.F.Fibers.task_of g.F.Fibers.course_of g.F.Fibers.holds g.F.Fibers.refused (IsOf g.F.Fibers.serves c.args.code.now c.args.main c.args.limits.now) c.args.entry.now c.args.board.now c.requires.following c.in_default.ensures.none

pub make_entry-requires-clause-lending : goal.make_entry-requires-clause-lending
make_entry-requires-clause-lending g c = task_lending g.F.Fibers.task_of g.F.Fibers.course_of g.F.Fibers.holds (IsOf g.F.Fibers.serves c.args.code.now c.args.main c.args.limits.now) c.args.board.now c.lend_task.new.board c.args.entry.now.task c.in-Some.fiber c.requires.following.resting c.in-Some.ensures.roomy c.in-Some.ensures.lent (λ set. c.in-Some.ensures.stands set)

pub make_entry-requires-clause-calm : goal.make_entry-requires-clause-calm
make_entry-requires-clause-calm g c = (task_calm g.F.Fibers.refused g.F.Fibers.task_of (seen c.args.board.now) (seen c.lend_task.new.board) c.args.entry.now.task c.in-Some.fiber c.in-Some.ensures.lent c.requires.following.calm).0

pub make_entry-requires-clause-waits : goal.make_entry-requires-clause-waits
make_entry-requires-clause-waits g c =
    lent_waits g.F.Fibers.refused g.F.Fibers.task_of 0 c.in-Some.fiber c.lend_task.new.board
    (task_calm g.F.Fibers.refused g.F.Fibers.task_of (seen c.args.board.now) (seen c.lend_task.new.board) c.args.entry.now.task c.in-Some.fiber c.in-Some.ensures.lent c.requires.following.calm).1

pub returns-in-Ok-true : goal.returns-in-Ok-true
returns-in-Ok-true g c =
    let t = g.F.Fibers.task_of c.in-Some.fiber in
    let lent = c.in-Some.ensures.lent in
    let makes = subst (λ r. MakesNext g.F.Fibers.task_of g.F.Fibers.course_of g.F.Fibers.holds g.F.Fibers.refused (IsOf g.F.Fibers.serves c.args.code.now c.args.main c.args.limits.now) t c.lend_task.new.board.journal.items c.make_entry.new.board r) c.in-Ok-true.field-0-test c.in-Ok-true.ensures in
    let made = subst (λ js. MadeOne g.F.Fibers.task_of g.F.Fibers.course_of g.F.Fibers.holds g.F.Fibers.refused (IsOf g.F.Fibers.serves c.args.code.now c.args.main c.args.limits.now) t js c.make_entry.new.board) lent.run.journal makes in
    follows_next g.F.Fibers.task_of g.F.Fibers.course_of g.F.Fibers.holds g.F.Fibers.refused (IsOf g.F.Fibers.serves c.args.code.now c.args.main c.args.limits.now) c.args.board.now.journal.items t c.args.entry.now c.make_entry.new.board c.ends_with.result made (sym lent.is)
    (λ is. let x = c.ends_with.ensures.yes is in (x.0, sym c.as_slice.ensures.value ∙ x.1))
    (λ is front e. c.ends_with.ensures.no is front (c.as_slice.ensures.value ∙ e))
