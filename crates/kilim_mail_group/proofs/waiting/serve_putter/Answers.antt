use Rattle.std.proofs.Common.{◌≡◌}
use Rattle.kilim_run_model.specs.declared.waits.Waits.TheVariants as wait
use Rattle.kilim_mail_group.specs.Steps.{ServedFor, ServedOf}
use Rattle.kilim_mail_group.proofs.Serving.{if_ok_map, served_of}
use Rattle.kilim_mail_group.proofs.waiting.serve_putter.Goals as goal

pub returns-else-is_full-clause-served : goal.returns-else-is_full-clause-served
returns-else-is_full-clause-served g c = if_ok_map c.make_way.result (λ o. ServedFor g.F.Fibers.task_of g.F.Fibers.course_of g.F.Fibers.asked g.K.Run.of c.args.seat c.args.name (wait.Put c.args.name) c.args.boxes.now c.make_way.new.boxes o) (λ o. ServedOf g.F.Fibers.task_of g.F.Fibers.course_of g.F.Fibers.asked g.K.Run.of c.args.seat c.args.name (wait.Put c.args.name) c.args.boxes.now c.make_way.new.boxes o)
    (λ o s. served_of g.F.Fibers.task_of g.F.Fibers.course_of g.F.Fibers.asked g.K.Run.of c.args.seat c.args.name (wait.Put c.args.name) c.args.boxes.now c.make_way.new.boxes o s) c.make_way.ensures.served
