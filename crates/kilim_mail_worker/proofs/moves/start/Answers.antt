use Rattle.std.proofs.Common.{ap}
use Rattle.kilim_run_model.specs.Course.{Course}
use Rattle.kilim_mail_notes.specs.Histories.{trace_of}
use Rattle.kilim_mail_worker.proofs.Handing.{has_still, keeps_then}
use Rattle.kilim_mail_worker.proofs.Bodies.{starts_as, is_birth}
use Rattle.kilim_mail_worker.proofs.moves.start.Goals as goal

pub settle_start-requires-clause-has : goal.settle_start-requires-clause-has
settle_start-requires-clause-has g c = has_still c.args.turns.now c.args.worker.now c.start_there.new.worker c.requires.has c.start_there.ensures.passes

pub settle_start-requires-clause-new : goal.settle_start-requires-clause-new
settle_start-requires-clause-new g c = ap (λ (x : Course). x.deeds) c.requires.course

pub settle_start-requires-clause-started : goal.settle_start-requires-clause-started
settle_start-requires-clause-started g c = λ set is. starts_as g.F.Fibers.task_of g.F.Fibers.course_of g.F.Fibers.holds g.F.Fibers.asked set c.args.body c.start_there.new.history c.args.shape c.in-Ok.started (c.requires.asks set is) c.in-Ok.ensures.started

pub settle_start-requires-clause-birth : goal.settle_start-requires-clause-birth
settle_start-requires-clause-birth g c = is_birth (trace_of c.args.body.history) (trace_of c.start_there.new.history) c.args.body.clock c.args.shape (g.F.Fibers.course_of c.args.new).beginning c.in-Ok.started (ap (λ (x : Course). x.beginning) c.requires.course) c.in-Ok.ensures.started

pub returns-in-Ok-clause-passes : goal.returns-in-Ok-clause-passes
returns-in-Ok-clause-passes g c = keeps_then c.args.turns.now c.args.worker.now c.start_there.new.worker c.settle_start.new.worker c.start_there.ensures.passes c.settle_start.ensures.passes
