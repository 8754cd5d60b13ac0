use Rattle.std.proofs.Common.{subst}
use Rattle.kilim_run_board.specs.Seen.{seen}
use Rattle.kilim_run_workers.specs.one_worker.Pool.{IsOf}
use Rattle.kilim_run_workers.proofs.Given.{more_begins}
use Rattle.kilim_run_follow.specs.Follow.{FollowedAs}
use Rattle.kilim_run_follow.proofs.Journals.{came}
use Rattle.kilim_run_follow.proofs.resuming.resume_one.Goals as goal

pub go_on_one-requires-clause-resting : goal.go_on_one-requires-clause-resting
go_on_one-requires-clause-resting g c κs within =
    let followed = subst (λ f. FollowedAs g.F.Fibers.task_of g.F.Fibers.course_of g.F.Fibers.holds g.F.Fibers.refused (IsOf g.F.Fibers.serves c.args.code.now c.args.main c.args.limits.now) c.args.journal.now 1 f) c.in-Board.is c.in-Ok.ensures in
    record { roomy = followed.roomy; cells = followed.cells; running = followed.running; stands = followed.stands }

pub go_on_one-requires-clause-calm : goal.go_on_one-requires-clause-calm
go_on_one-requires-clause-calm g c κs within = (subst (λ f. FollowedAs g.F.Fibers.task_of g.F.Fibers.course_of g.F.Fibers.holds g.F.Fibers.refused (IsOf g.F.Fibers.serves c.args.code.now c.args.main c.args.limits.now) c.args.journal.now 1 f) c.in-Board.is c.in-Ok.ensures).calm

pub returns-in-Ok-go_on_one : goal.returns-in-Ok-go_on_one
returns-in-Ok-go_on_one g c =
    let followed = subst (λ f. FollowedAs g.F.Fibers.task_of g.F.Fibers.course_of g.F.Fibers.holds g.F.Fibers.refused (IsOf g.F.Fibers.serves c.args.code.now c.args.main c.args.limits.now) c.args.journal.now 1 f) c.in-Board.is c.in-Ok.ensures in
    let here = came g.F.Fibers.task_of g.F.Fibers.course_of g.F.Fibers.holds g.F.Fibers.refused (IsOf g.F.Fibers.serves c.args.code.now c.args.main c.args.limits.now) c.args.journal.now 1 c.in-Board.board followed in
    (λ set of. (c.in-Ok-go_on_one.ensures.whole set of, here set of), more_begins c.args.journal.now c.in-Board.board.journal.items c.in-Ok-go_on_one.entries.items c.in-Ok-go_on_one.ensures.begins.0 c.in-Ok-go_on_one.ensures.begins.1 followed.begins)
