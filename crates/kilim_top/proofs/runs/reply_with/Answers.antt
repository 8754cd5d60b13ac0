use Rattle.std.proofs.Common.{subst}
use Rattle.kilim_run.specs.Runs.{setting_of}
use Rattle.kilim_command.specs.grammar.Parts.{meant}
use Rattle.kilim_top.specs.declared.answer.Ready.{Ready}
use Rattle.kilim_top.specs.Inside.Answer.{IsReadyFor}
use Rattle.kilim_top.proofs.Replies.{ran}
use Rattle.kilim_top.proofs.Stopping.{went}
use Rattle.kilim_top.proofs.runs.reply_with.Goals as goal

pub returns-in-Ok-run_with : goal.returns-in-Ok-run_with
returns-in-Ok-run_with g c =
    ran (meant c.args.asked.now) c.args.files.now (setting_of c.in-Run.plain c.in-Run.class c.in-Run.limits) c.in-Run.woven c.demo_number-demo.result c.in-Ok-run_with.entries.items c.run_reply.result
    (subst (λ (r : Ready). IsReadyFor (meant c.args.asked.now) c.args.files.now r) c.in-Run.is c.in-Ok.ensures) c.demo_number-demo.ensures c.in-Ok-run_with.ensures c.run_reply.ensures.status c.run_reply.ensures.files
    c.run_reply.ensures.text

pub run_reply-requires : goal.run_reply-requires
run_reply-requires g c = c.in-Ok-run_with.ensures.readable

pub run_with-requires-after_bounds : goal.run_with-requires-after_bounds
run_with-requires-after_bounds g c κs within = (subst (λ (r : Ready). IsReadyFor (meant c.args.asked.now) c.args.files.now r) c.in-Run.is c.in-Ok.ensures).served

pub returns-in-Resume : goal.returns-in-Resume
returns-in-Resume g c =
    went (meant c.args.asked.now) c.args.files.now c.in-Resume.stopped c.resume_run-answer.result c.resume_reply.result (subst (λ (r : Ready). IsReadyFor (meant c.args.asked.now) c.args.files.now r) c.in-Resume.is c.in-Ok.ensures) c.resume_run-answer.ensures.text c.resume_run-answer.ensures.report c.resume_reply.ensures

pub resume_run-answer-requires-after_bounds : goal.resume_run-answer-requires-after_bounds
resume_run-answer-requires-after_bounds g c κs within = (subst (λ (r : Ready). IsReadyFor (meant c.args.asked.now) c.args.files.now r) c.in-Resume.is c.in-Ok.ensures).served

pub returns-in-Reply : goal.returns-in-Reply
returns-in-Reply g c = subst (λ (r : Ready). IsReadyFor (meant c.args.asked.now) c.args.files.now r) c.in-Reply.is c.in-Ok.ensures

pub prepare-requires-clause-few : goal.prepare-requires-clause-few
prepare-requires-clause-few g c = λ κs within. c.requires.few

pub prepare-requires-clause-same : goal.prepare-requires-clause-same
prepare-requires-clause-same g c = λ κs within. c.requires.same
