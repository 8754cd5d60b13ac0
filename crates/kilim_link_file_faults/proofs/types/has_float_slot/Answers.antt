use Rattle.std.proofs.Common.{refl}
use Rattle.kilim_link_spec.specs.LeftOut.{is_float_mention}
use Rattle.kilim_link_file_faults.proofs.Loops.{found_at, passed_at, none_passes}
use Rattle.kilim_link_file_faults.proofs.types.has_float_slot.Goals as goal

pub returns-then-is_float_mention : goal.returns-then-is_float_mention
returns-then-is_float_mention c = found_at (is_float_mention) c.args.mentions.now c.args.mentions.now c.loop-mention.mention-index c.mention-item.result c.is_float_mention.result refl c.loop-mention-test.true c.mention-item.is c.is_float_mention.ensures c.loop-mention.invariant c.if-is_float_mention.true

pub loop-mention-preserved : goal.loop-mention-preserved
loop-mention-preserved c = passed_at (is_float_mention) c.args.mentions.now c.args.mentions.now c.loop-mention.mention-index c.mention-item.result c.is_float_mention.result refl c.loop-mention-test.true c.mention-item.is c.is_float_mention.ensures c.loop-mention.invariant c.if-is_float_mention.false

pub returns : goal.returns
returns c = none_passes (is_float_mention) c.args.mentions.now c.args.mentions.now c.loop-mention.mention-index refl c.loop-mention-test.false c.loop-mention.invariant
