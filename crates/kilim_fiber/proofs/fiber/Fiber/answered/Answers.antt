use Rattle.std.proofs.Common.{ap, subst}
use Rattle.kilim_run_board.specs.declared.fibers.Answer.{Answer}
use Rattle.kilim_run_board.specs.declared.fibers.Answer.TheVariants as answer
use Rattle.kilim_fiber.specs.Calls.{AnswerSuits, takes_value}
use Rattle.kilim_fiber.specs.declared.fiber.Asked.TheVariants as asked
use Rattle.kilim_fiber.proofs.Answered.{answer_is, answer_now}
use Rattle.kilim_fiber.proofs.fiber.Fiber.answered.Goals as goal

pub returns-in-Sent : goal.returns-in-Sent
returns-in-Sent c = answer_now c.args.code.now.plain c.args.code.now.program c.args.asked (asked.Put c.in-Put.mailbox c.in-Put.shape) c.args.answer (answer.Sent c.in-Sent.number) c.args.self.now c.pass_on.new.self c.in-Put.is c.in-Sent.is c.pass_on.ensures

pub receive-requires-clause-suits : goal.receive-requires-clause-suits
receive-requires-clause-suits c = subst (λ (a : Answer). AnswerSuits c.args.code.now.plain a) c.in-Message.is c.requires.suits

pub receive-requires-clause-room : goal.receive-requires-clause-room
receive-requires-clause-room c = c.requires.room (ap takes_value c.in-Take.is)

pub returns-in-Message : goal.returns-in-Message
returns-in-Message c = answer_is c.args.code.now.plain c.args.code.now.program c.args.asked (asked.Take c.in-Take.mailbox) c.args.answer (answer.Message c.in-Message.tree c.in-Message.number) c.args.self.now c.receive.new.self c.receive.result c.in-Take.is c.in-Message.is c.receive.ensures

pub refuse-requires-clause-room : goal.refuse-requires-clause-room
refuse-requires-clause-room c = c.requires.room (ap takes_value c.in-Take.is)

pub returns-in-Nothing-answer : goal.returns-in-Nothing-answer
returns-in-Nothing-answer c = answer_now c.args.code.now.plain c.args.code.now.program c.args.asked (asked.Take c.in-Take.mailbox) c.args.answer answer.Nothing c.args.self.now c.refuse.new.self c.in-Take.is c.in-Nothing-answer.is c.refuse.ensures

pub find-requires-clause-suits : goal.find-requires-clause-suits
find-requires-clause-suits c = subst (λ (a : Answer). AnswerSuits c.args.code.now.plain a) c.in-Message-answer.is c.requires.suits

pub find-requires-clause-room : goal.find-requires-clause-room
find-requires-clause-room c = c.requires.room (ap takes_value c.in-Probe.is)

pub returns-in-Message-answer : goal.returns-in-Message-answer
returns-in-Message-answer c = answer_is c.args.code.now.plain c.args.code.now.program c.args.asked (asked.Probe c.in-Probe.mailbox) c.args.answer (answer.Message c.in-Message-answer.tree c.in-Message-answer.number) c.args.self.now c.find.new.self c.find.result c.in-Probe.is c.in-Message-answer.is c.find.ensures

pub pass_none-requires-clause-room : goal.pass_none-requires-clause-room
pass_none-requires-clause-room c = c.requires.room (ap takes_value c.in-Probe.is)

pub returns-in-Nothing-answer-2 : goal.returns-in-Nothing-answer-2
returns-in-Nothing-answer-2 c = answer_now c.args.code.now.plain c.args.code.now.program c.args.asked (asked.Probe c.in-Probe.mailbox) c.args.answer answer.Nothing c.args.self.now c.pass_none.new.self c.in-Probe.is c.in-Nothing-answer-2.is c.pass_none.ensures

pub returns-in-Started : goal.returns-in-Started
returns-in-Started c = answer_now c.args.code.now.plain c.args.code.now.program c.args.asked (asked.Start c.in-Start.shape) c.args.answer (answer.Started c.in-Started.number) c.args.self.now c.pass_on-in-Started.new.self c.in-Start.is c.in-Started.is c.pass_on-in-Started.ensures

pub returns-in-Done : goal.returns-in-Done
returns-in-Done c = answer_now c.args.code.now.plain c.args.code.now.program c.args.asked (asked.Bound c.in-Bound.mailbox c.in-Bound.most) c.args.answer answer.Done c.args.self.now c.pass_on-in-Done.new.self c.in-Bound.is c.in-Done.is c.pass_on-in-Done.ensures
