use Rattle.std.proofs.Common.{◌≡◌, ℕ, ◌+◌, ◌<◌, List, None, Some, refl, sym, ap, subst, ◌∙◌, arith}
use Rattle.kilim_run_state.specs.declared.cause.EndCause.TheVariants as cause
use Rattle.kilim_run_state.specs.declared.value.Token.{Token}
use Rattle.kilim_run_journal.specs.declared.entry.Act.TheVariants as act
use Rattle.kilim_run_model.specs.Course.{plain}
use Rattle.kilim_run_board.specs.declared.fibers.Answer.TheVariants as answer
use Rattle.kilim_run_board.specs.fibers.Fibers.{Fits}
use Rattle.kilim_run_board.specs.fibers.Wishes.{ToPut, ToBound, ToProbe}
use Rattle.kilim_mail_ledger.specs.declared.items.Dated.{Dated}
use Rattle.kilim_mail_ledger.specs.Mailboxes.{Box}
use Rattle.kilim_mail_posts.specs.Posts.{box_at}
use Rattle.kilim_mail_group.proofs.Acting.{acts_on, writes_same, marks_write, empty_allowed, full_allowed, none_left}
use Rattle.kilim_mail_group.proofs.Bodies.{answered, ended}
use Rattle.kilim_mail_group.proofs.Entries.{puts_counted, taken_deed}
use Rattle.kilim_mail_group.proofs.steps.put_in.Goals as goal

pub put-number-requires-clause-few : goal.put-number-requires-clause-few
put-number-requires-clause-few g c =
    let a = puts_counted c.args.boxes.now.log.items (box_at c.args.boxes.now.posts) c.requires.stands.boxes c.args.name in
    let e = ap (λ (b : Box). b.mail.puts) (c.reserve.ensures.same c.args.name) in
    let ok = c.args.boxes.now.log.ok in
    let small = c.args.boxes.now.log.small in
    omega arith

pub returns-clause-acts : goal.returns-clause-acts
returns-clause-acts g c = acts_on g.F.Fibers.task_of g.F.Fibers.course_of g.F.Fibers.asked g.K.Run.of c.args.seat c.args.name c.args.boxes.now c.note.new.boxes c.put-number.new.self c.args.body c.note.new.body
    (record { stamp = c.in-Ok.stamp; full = None; deed = plain (act.Put c.args.name c.put-number.result c.of.result.value) }) (act.Put c.args.name c.put-number.result c.args.shape) c.requires.stands c.requires.mine refl
    (writes_same c.args.boxes.now.posts c.reserve.new.self c.put-number.new.self c.args.name (act.Put c.args.name c.put-number.result c.args.shape) c.in-Ok.stamp c.reserve.ensures.same c.put-number.ensures.writes)
    (subst (λ (n : ℕ). n < c.in-Ok.stamp) c.clock.ensures c.in-Ok.ensures.other) (λ set is. c.put-number.ensures.messages set.program (c.reserve.ensures.messages set.program (c.requires.stands.messages set is)) (c.requires.may set is).message) c.in-Ok-note.ensures.noted (record { act-is = ap (λ (s : List Token). act.Put c.args.name c.put-number.result s) c.of.ensures; plain = refl }) (ap (λ (s : List Token). plain (act.Put c.args.name c.put-number.result s)) (sym c.of.ensures))

pub returns-clause-body : goal.returns-clause-body
returns-clause-body g c = λ set is. answered g.F.Fibers.task_of g.F.Fibers.course_of g.F.Fibers.asked set c.args.body c.note.new.body (record { stamp = c.in-Ok.stamp; full = None; deed = plain (act.Put c.args.name c.put-number.result c.of.result.value) }) c.in-Ok.ensures.mine c.in-Ok-note.ensures.noted.history g.F.Fibers.holds (answer.Sent c.put-number.result)
    (record { wish = (c.requires.may set is).wish; asks = (c.requires.may set is).asks; fits = subst (λ (s : List Token). Fits set.program (c.requires.may set is).wish (answer.Sent c.put-number.result) (Some (plain (act.Put c.args.name c.put-number.result s)))) (sym c.of.ensures) ((c.requires.may set is).fits c.put-number.result) }) c.in-Ok-note.ensures.noted.fiber c.in-Ok-note.ensures.noted.clock c.in-Ok-note.ensures.noted.task
