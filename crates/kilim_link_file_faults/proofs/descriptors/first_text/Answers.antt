use Rattle.std.proofs.Common.{refl}
use Rattle.kilim_link_spec.specs.Faults.{no_descriptors}
use Rattle.kilim_link_file_faults.proofs.Loops.{first_at, first_behind, none_first}
use Rattle.kilim_link_file_faults.proofs.descriptors.first_text.Goals as goal

pub returns-in-Ok-Some : goal.returns-in-Ok-Some
returns-in-Ok-Some c = first_at (no_descriptors) c.args.mentions.now c.args.mentions.now c.loop-mention.mention-index c.mention-item.result c.in-Ok-Some.field-0 refl c.loop-mention-test.true c.mention-item.is c.in-Ok-Some.ensures c.loop-mention.invariant c.in-Ok-Some.found c.in-Ok-Some.field-0-is

pub loop-mention-preserved : goal.loop-mention-preserved
loop-mention-preserved c = first_behind (no_descriptors) c.args.mentions.now c.args.mentions.now c.loop-mention.mention-index c.mention-item.result c.in-Ok-None.field-0 refl c.loop-mention-test.true c.mention-item.is c.in-Ok-None.ensures c.loop-mention.invariant c.in-Ok-None.field-0-is

pub returns : goal.returns
returns c = none_first (no_descriptors) c.args.mentions.now c.args.mentions.now c.loop-mention.mention-index refl c.loop-mention-test.false c.loop-mention.invariant
