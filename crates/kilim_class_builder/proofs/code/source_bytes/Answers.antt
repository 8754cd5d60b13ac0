use Rattle.kilim_class_builder.proofs.Lists.{source_step}
use Rattle.kilim_class_builder.proofs.code.source_bytes.Goals as goal

pub loop-instr-preserved : goal.loop-instr-preserved
loop-instr-preserved c = source_step c.loop-instr.bytes.items c.push_instr.new.bytes.items c.loop-instr.yielded c.in-Some.instr c.loop-instr.invariant c.in_ok-push_instr.ensures
