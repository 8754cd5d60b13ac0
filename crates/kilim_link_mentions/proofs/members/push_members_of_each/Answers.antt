use Rattle.std.specs.List.{flat_map}
use Rattle.kilim_link_spec.specs.Mentions.{instrs_of, members_of_operand, operand_of}
use Rattle.kilim_link_mentions.proofs.Joined.{pushed, all_pushed}
use Rattle.kilim_link_mentions.proofs.members.push_members_of_each.Goals as goal

pub loop-method-preserved : goal.loop-method-preserved
loop-method-preserved c = pushed (λ m. flat_map (λ p. members_of_operand (operand_of c.args.pool.now p.1)) (instrs_of m)) c.args.into.now c.loop-method.into c.push_members_of.new.into c.args.methods.now c.loop-method.method-index c.method-item.result c.loop-method-test.true c.method-item.is c.loop-method.invariant c.in-Ok.ensures

pub returns : goal.returns
returns c = all_pushed (λ m. flat_map (λ p. members_of_operand (operand_of c.args.pool.now p.1)) (instrs_of m)) c.args.into.now c.loop-method.into c.args.methods.now c.loop-method.method-index c.loop-method-test.false c.loop-method.invariant
