use Rattle.kilim_link_spec.specs.Mentions.{mentions_of_instr}
use Rattle.kilim_link_mentions.proofs.Joined.{pushed, all_pushed}
use Rattle.kilim_link_mentions.proofs.mentions.push_code.Goals as goal

pub loop-instr-preserved : goal.loop-instr-preserved
loop-instr-preserved c = pushed (λ p. mentions_of_instr c.args.pool.now p.1) c.args.into.now c.loop-instr.into c.push_instr.new.into c.args.instrs.now c.loop-instr.instr-index c.loop-instr-item.result c.loop-instr-test.true c.loop-instr-item.is c.loop-instr.invariant c.in-Ok.ensures

pub returns : goal.returns
returns c = all_pushed (λ p. mentions_of_instr c.args.pool.now p.1) c.args.into.now c.loop-instr.into c.args.instrs.now c.loop-instr.instr-index c.loop-instr-test.false c.loop-instr.invariant
