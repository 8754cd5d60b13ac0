use Rattle.std.proofs.Common.{◌≡◌, refl, sym, ◌∙◌}
use Rattle.kilim_mail_posts.specs.Posts.{box_at}
use Rattle.kilim_mail_group.proofs.Acting.{queue_none}
use Rattle.kilim_mail_group.proofs.Serving.{all_takers}
use Rattle.kilim_run_model.specs.declared.waits.Waits.TheVariants as wait
use Rattle.kilim_mail_group.specs.Steps.{ServedFor, ServedOf}
use Rattle.kilim_mail_group.proofs.Serving.{if_ok_map, served_of}
use Rattle.kilim_mail_group.proofs.waiting.serve_taker.Goals as goal

pub returns-else-is_empty-clause-served : goal.returns-else-is_empty-clause-served
returns-else-is_empty-clause-served g c = if_ok_map c.hand_over.result (λ o. ServedFor g.F.Fibers.task_of g.F.Fibers.course_of g.F.Fibers.asked g.K.Run.of c.args.seat c.args.name (wait.Take c.args.name) c.args.boxes.now c.hand_over.new.boxes o) (λ o. ServedOf g.F.Fibers.task_of g.F.Fibers.course_of g.F.Fibers.asked g.K.Run.of c.args.seat c.args.name (wait.Take c.args.name) c.args.boxes.now c.hand_over.new.boxes o)
    (λ o s. served_of g.F.Fibers.task_of g.F.Fibers.course_of g.F.Fibers.asked g.K.Run.of c.args.seat c.args.name (wait.Take c.args.name) c.args.boxes.now c.hand_over.new.boxes o s) c.hand_over.ensures.served

pub returns-then-is_empty-clause-served : goal.returns-then-is_empty-clause-served
returns-then-is_empty-clause-served g c = (
  record { number = refl; turns = refl; ledger = refl; log = refl; posts = refl; parked = refl; many = refl },
  all_takers g.F.Fibers.task_of g.F.Fibers.course_of g.F.Fibers.asked g.K.Run.of c.args.name (box_at c.args.boxes.now.posts) c.args.boxes.now.parked.items (queue_none (box_at c.args.boxes.now.posts c.args.name).mail.queue (sym c.is_empty.ensures ∙ c.if-is_empty.true)),
)
