use Rattle.std.proofs.Common.{◌≡◌, Some, None, Option, subst}
use Rattle.kilim_run_model.specs.State.{Setting}
use Rattle.kilim_run_model.specs.declared.waits.Waits.TheVariants as wait
use Rattle.kilim_mail_ready.specs.declared.body.Body.{Body}
use Rattle.kilim_mail_group.specs.Steps.{ServedOf, ServedAt, MaybeStands}
use Rattle.kilim_mail_group.proofs.Acting.{same_stands}
use Rattle.kilim_mail_group.proofs.Serving.{if_ok_map, served_at}
use Rattle.kilim_mail_group.proofs.waiting.serve_one.Goals as goal

pub serve_putter-requires-clause-stands : goal.serve_putter-requires-clause-stands
serve_putter-requires-clause-stands g c =
    let s = subst (λ (o : Option (Body _)). ServedOf g.F.Fibers.task_of g.F.Fibers.course_of g.F.Fibers.asked g.K.Run.of c.args.seat c.args.name (wait.Take c.args.name) c.args.boxes.now c.serve_taker.new.boxes o) c.in-Ok-None.field-0-is c.in-Ok-None.ensures.served in
    same_stands g.F.Fibers.task_of g.F.Fibers.course_of g.F.Fibers.asked g.K.Run.of c.args.boxes.now c.serve_taker.new.boxes s.0 c.requires.stands

pub returns-in-Ok-Some-clause-body : goal.returns-in-Ok-Some-clause-body
returns-in-Ok-Some-clause-body g c = λ set is. subst (λ (o : Option (Body _)). MaybeStands g.F.Fibers.task_of g.F.Fibers.course_of g.F.Fibers.holds g.F.Fibers.asked set o) c.in-Ok-Some.field-0-is (c.in-Ok-Some.ensures.body set is)

pub returns-in-Ok-None-clause-served : goal.returns-in-Ok-None-clause-served
returns-in-Ok-None-clause-served g c =
    let s = subst (λ (o : Option (Body _)). ServedOf g.F.Fibers.task_of g.F.Fibers.course_of g.F.Fibers.asked g.K.Run.of c.args.seat c.args.name (wait.Take c.args.name) c.args.boxes.now c.serve_taker.new.boxes o) c.in-Ok-None.field-0-is c.in-Ok-None.ensures.served in
    if_ok_map c.serve_putter.result (λ o. ServedOf g.F.Fibers.task_of g.F.Fibers.course_of g.F.Fibers.asked g.K.Run.of c.args.seat c.args.name (wait.Put c.args.name) c.serve_taker.new.boxes c.serve_putter.new.boxes o) (λ o. ServedAt g.F.Fibers.task_of g.F.Fibers.course_of g.F.Fibers.asked g.K.Run.of c.args.seat c.args.name c.args.boxes.now c.serve_putter.new.boxes o)
    (λ o x. served_at g.F.Fibers.task_of g.F.Fibers.course_of g.F.Fibers.asked g.K.Run.of c.args.seat c.args.name c.args.boxes.now c.serve_taker.new.boxes c.serve_putter.new.boxes s.0 s.1 o x) c.serve_putter.ensures.served
