use Rattle.std.proofs.Common.{◌≡◌, ℕ, ◌+◌, ◌<◌, None, Some, refl, sym, ap, subst, ◌∙◌, arith}
use Rattle.kilim_run_state.specs.declared.cause.EndCause.TheVariants as cause
use Rattle.kilim_run_state.specs.declared.value.Token.{Token}
use Rattle.kilim_run_journal.specs.declared.entry.Act.TheVariants as act
use Rattle.kilim_run_model.specs.Course.{plain}
use Rattle.kilim_run_board.specs.declared.fibers.Answer.TheVariants as answer
use Rattle.kilim_run_board.specs.fibers.Fibers.{Fits}
use Rattle.kilim_run_board.specs.fibers.Wishes.{ToPut, ToBound, ToProbe}
use Rattle.kilim_mail_ledger.specs.declared.items.Dated.{Dated}
use Rattle.kilim_mail_ledger.specs.Mailboxes.{Box}
use Rattle.kilim_mail_posts.specs.Posts.{box_at}
use Rattle.kilim_mail_group.proofs.Acting.{acts_on, writes_same, marks_write, empty_allowed, full_allowed, none_left}
use Rattle.kilim_mail_group.proofs.Bodies.{answered, ended}
use Rattle.kilim_mail_group.proofs.Entries.{puts_counted, taken_deed}
use Rattle.kilim_mail_group.proofs.steps.take_out.Goals as goal

pub returns-clause-acts : goal.returns-clause-acts
returns-clause-acts g c = acts_on g.F.Fibers.task_of g.F.Fibers.course_of g.F.Fibers.asked g.K.Run.of c.args.seat c.args.name c.args.boxes.now c.note.new.boxes c.take.new.self c.args.body c.note.new.body
    (record { stamp = c.in-Ok.stamp; full = None; deed = record { act = act.Take c.args.name c.in-Some.message.number; taken = c.in-Some.message.shape.value } }) (act.Take c.args.name c.in-Some.message.number) c.requires.stands c.requires.mine refl
    c.in-Some.ensures.some (subst (λ (n : ℕ). n < c.in-Ok.stamp) c.clock.ensures c.in-Ok.ensures.other) (λ set is. c.in-Some.ensures.messages set.program (c.requires.stands.messages set is)) c.in-Ok-note.ensures.noted (record { act-is = refl; plain = refl })
    (taken_deed c.args.boxes.now.log.items (box_at c.args.boxes.now.posts) c.requires.stands.boxes c.args.name c.in-Some.message.number c.in-Ok.stamp c.args.body.history.task None c.in-Some.message.shape.value c.in-Some.ensures.first.0 c.in-Some.ensures.first.1)

pub returns-clause-body : goal.returns-clause-body
returns-clause-body g c = λ set is. answered g.F.Fibers.task_of g.F.Fibers.course_of g.F.Fibers.asked set c.args.body c.note.new.body (record { stamp = c.in-Ok.stamp; full = None; deed = record { act = act.Take c.args.name c.in-Some.message.number; taken = c.in-Some.message.shape.value } }) c.in-Ok.ensures.mine c.in-Ok-note.ensures.noted.history g.F.Fibers.holds (answer.Message c.in-Some.message.tree c.in-Some.message.number)
    (record { wish = (c.requires.may set is).wish; asks = (c.requires.may set is).asks; fits = (c.requires.may set is).fits c.in-Some.message.tree c.in-Some.message.number c.in-Some.message.shape.value (c.in-Some.ensures.message set.program (c.requires.stands.messages set is)) })
    c.in-Ok-note.ensures.noted.fiber c.in-Ok-note.ensures.noted.clock c.in-Ok-note.ensures.noted.task
