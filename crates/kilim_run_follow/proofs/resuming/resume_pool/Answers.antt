use Rattle.std.proofs.Common.{subst}
use Rattle.kilim_run_board.specs.Seen.{seen}
use Rattle.kilim_run_workers.specs.one_worker.Pool.{IsOf}
use Rattle.kilim_run_workers.proofs.Given.{more_begins}
use Rattle.kilim_run_follow.specs.Follow.{FollowedAs}
use Rattle.kilim_run_follow.proofs.Seats.{seats_free}
use Rattle.kilim_run_follow.proofs.Journals.{came}
use Rattle.kilim_run_follow.proofs.resuming.resume_pool.Goals as goal

pub go_on-went-requires-clause-free : goal.go_on-went-requires-clause-free
go_on-went-requires-clause-free g c κs within =
    let followed = subst (λ f. FollowedAs g.F.Fibers.task_of g.F.Fibers.course_of g.F.Fibers.holds g.F.Fibers.refused (IsOf g.F.Fibers.serves c.args.code.now c.args.main c.args.limits.now) c.args.journal.now c.args.workers f) c.in-Board.is c.in-Ok.ensures in
    seats_free (seen c.in-Board.board) c.args.workers followed.cells

pub go_on-went-requires-clause-roomy : goal.go_on-went-requires-clause-roomy
go_on-went-requires-clause-roomy g c κs within = (subst (λ f. FollowedAs g.F.Fibers.task_of g.F.Fibers.course_of g.F.Fibers.holds g.F.Fibers.refused (IsOf g.F.Fibers.serves c.args.code.now c.args.main c.args.limits.now) c.args.journal.now c.args.workers f) c.in-Board.is c.in-Ok.ensures).roomy

pub go_on-went-requires-clause-stands : goal.go_on-went-requires-clause-stands
go_on-went-requires-clause-stands g c κs within = (subst (λ f. FollowedAs g.F.Fibers.task_of g.F.Fibers.course_of g.F.Fibers.holds g.F.Fibers.refused (IsOf g.F.Fibers.serves c.args.code.now c.args.main c.args.limits.now) c.args.journal.now c.args.workers f) c.in-Board.is c.in-Ok.ensures).stands

pub returns-in-Ok-went : goal.returns-in-Ok-went
returns-in-Ok-went g c =
    let followed = subst (λ f. FollowedAs g.F.Fibers.task_of g.F.Fibers.course_of g.F.Fibers.holds g.F.Fibers.refused (IsOf g.F.Fibers.serves c.args.code.now c.args.main c.args.limits.now) c.args.journal.now c.args.workers f) c.in-Board.is c.in-Ok.ensures in
    let here = came g.F.Fibers.task_of g.F.Fibers.course_of g.F.Fibers.holds g.F.Fibers.refused (IsOf g.F.Fibers.serves c.args.code.now c.args.main c.args.limits.now) c.args.journal.now c.args.workers c.in-Board.board followed in
    (λ set of. (c.in-Ok-went.ensures.whole set of, here set of), more_begins c.args.journal.now c.in-Board.board.journal.items c.in-Ok-went.entries.items c.in-Ok-went.ensures.begins.0 c.in-Ok-went.ensures.begins.1 followed.begins)
