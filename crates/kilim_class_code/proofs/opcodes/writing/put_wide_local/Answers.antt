use Rattle.kilim_class_grammar.specs.Spelling.{u1, u2}
use Rattle.kilim_class_code.proofs.opcodes.Pieces.{on_joined}
use Rattle.kilim_class_code.proofs.opcodes.writing.put_wide_local.Goals as goal

pub returns : goal.returns
returns c = on_joined c.push_u16.result c.args.into.now.items c.push_u8.new.into.items c.push_u16.new.into.items (u1 c.args.op) (u2 c.args.slot) c.in_ok-push_u8.ensures.ok c.push_u16.ensures.ok
