use Rattle.std.proofs.Common.{◌≡◌, ◌<◌, [], Some, None, Option, subst}
use Rattle.kilim_run_model.specs.State.{Setting}
use Rattle.kilim_mail_ready.specs.declared.body.Body.{Body}
use Rattle.kilim_mail_group.specs.Group.{bodies_items}
use Rattle.kilim_mail_group.specs.Steps.{ServedAt, MaybeStands}
use Rattle.kilim_mail_group.proofs.Serving.{serving_first, serving_on, acts_same}
use Rattle.kilim_mail_group.proofs.waiting.serve.Goals as goal

pub loop-body-init : goal.loop-body-init
loop-body-init g c = serving_first g.F.Fibers.task_of g.F.Fibers.course_of g.F.Fibers.asked g.K.Run.of g.F.Fibers.holds c.args.seat c.args.name c.args.boxes.now c.new-woken.result.items c.new-woken.ensures.items c.requires.stands c.requires.mine c.requires.there

pub loop-body-preserved : goal.loop-body-preserved
loop-body-preserved g c =
    let s = subst (λ (o : Option (Body _)). ServedAt g.F.Fibers.task_of g.F.Fibers.course_of g.F.Fibers.asked g.K.Run.of c.args.seat c.args.name c.loop-body.boxes c.serve_one.new.boxes o) c.in-Ok-Some.field-0-is c.in-Ok-Some.ensures.served in
    serving_on g.F.Fibers.task_of g.F.Fibers.course_of g.F.Fibers.asked g.K.Run.of g.F.Fibers.holds c.args.seat c.args.name c.args.boxes.now c.loop-body.boxes c.serve_one.new.boxes c.loop-body.woken.items c.push.new.self.items c.in-Ok-Some.body c.loop-body.invariant s.0 c.in-Ok-Some.ensures.others
    (λ set is. subst (λ (o : Option (Body _)). MaybeStands g.F.Fibers.task_of g.F.Fibers.course_of g.F.Fibers.holds g.F.Fibers.asked set o) c.in-Ok-Some.field-0-is (c.in-Ok-Some.ensures.body set is)) c.in-Ok.ensures.items

pub returns-in-Ok-None-clause-acts : goal.returns-in-Ok-None-clause-acts
returns-in-Ok-None-clause-acts g c =
    let s = subst (λ (o : Option (Body _)). ServedAt g.F.Fibers.task_of g.F.Fibers.course_of g.F.Fibers.asked g.K.Run.of c.args.seat c.args.name c.loop-body.boxes c.serve_one.new.boxes o) c.in-Ok-None.field-0-is c.in-Ok-None.ensures.served in
    acts_same g.F.Fibers.task_of g.F.Fibers.course_of g.F.Fibers.asked g.K.Run.of c.args.seat c.args.name c.args.boxes.now c.loop-body.boxes c.serve_one.new.boxes [] (bodies_items c.loop-body.woken.items) c.loop-body.invariant.acts s.0

pub returns-in-Ok-None-clause-rest : goal.returns-in-Ok-None-clause-rest
returns-in-Ok-None-clause-rest g c =
    let s = subst (λ (o : Option (Body _)). ServedAt g.F.Fibers.task_of g.F.Fibers.course_of g.F.Fibers.asked g.K.Run.of c.args.seat c.args.name c.loop-body.boxes c.serve_one.new.boxes o) c.in-Ok-None.field-0-is c.in-Ok-None.ensures.served in
    λ all. s.1 (c.loop-body.invariant.acts.rest all)
