use Rattle.std.specs.List.{flat_map}
use Rattle.kilim_class_code.specs.Code.{placed_text, code_text}
use Rattle.kilim_class_making.proofs.code_bytes.Lists.{text_step, all_written}
use Rattle.kilim_class_making.proofs.code_bytes.writing.code_bytes.Goals as goal

pub loop-at-preserved : goal.loop-at-preserved
loop-at-preserved c =
    text_step placed_text c.args.code.now c.loop-at.at-index c.loop-at-item.result c.loop-at.bytes.items c.push_instr.new.into.items (flat_map placed_text c.args.code.now)
    c.loop-at-test.true c.loop-at-item.is c.loop-at.invariant c.in-Ok.ensures

pub returns : goal.returns
unfolding code_text
returns c = rw c.from_vec.ensures (all_written placed_text c.args.code.now c.loop-at.at-index c.loop-at.bytes.items (flat_map placed_text c.args.code.now) c.loop-at-test.false c.loop-at.invariant)
