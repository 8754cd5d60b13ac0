use Rattle.kilim_run_journal.specs.declared.entry.Act.TheVariants.{Print}
use Rattle.kilim_mail_worker.proofs.Noted.{made_on, print_alone}
use Rattle.kilim_mail_worker.proofs.Bodies.{printed}
use Rattle.kilim_mail_worker.proofs.alone.print.Goals as goal

pub returns-clause-made : goal.returns-clause-made
returns-clause-made g c = made_on c.args.own.now c.note.new.own c.args.body c.note.new.body (Print c.args.shape) c.in-Ok.ensures.noted (print_alone c.args.shape) g.K.Run.of

pub returns-clause-body : goal.returns-clause-body
returns-clause-body g c = λ set is. printed g.F.Fibers.task_of g.F.Fibers.course_of g.F.Fibers.holds g.F.Fibers.asked set c.args.own.now c.note.new.own c.args.body c.note.new.body c.args.shape (c.requires.asks set is) c.in-Ok.ensures.noted
