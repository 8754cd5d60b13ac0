use Rattle.std.proofs.Common.{◌++◌, ◌∙◌, ap}
use Rattle.kilim_link_spec.specs.Mentions.{members_of_operand, operand_of}
use Rattle.kilim_link_mentions.proofs.Joined.{pushed, all_pushed}
use Rattle.kilim_link_mentions.proofs.members.push_members.Goals as goal

pub loop-instr-preserved : goal.loop-instr-preserved
loop-instr-preserved c = pushed (λ p. members_of_operand (operand_of c.args.pool.now p.1)) c.args.into.now c.loop-instr.into c.push_member.new.into c.args.instrs.now c.loop-instr.instr-index c.loop-instr-item.result c.loop-instr-test.true c.loop-instr-item.is c.loop-instr.invariant (c.in-Ok-push_member.ensures ∙ ap (λ o. c.loop-instr.into ++ members_of_operand o) c.in-Ok.ensures)

pub returns : goal.returns
returns c = all_pushed (λ p. members_of_operand (operand_of c.args.pool.now p.1)) c.args.into.now c.loop-instr.into c.args.instrs.now c.loop-instr.instr-index c.loop-instr-test.false c.loop-instr.invariant
