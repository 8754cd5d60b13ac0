use Rattle.std.proofs.Common.{◌++◌}
use Rattle.std.specs.Int.{w16}
use Rattle.std.specs.Prelude.{FitsSigned}
use Rattle.std.proofs.lemmas.Int.{to_z-of_z}
use Rattle.kilim_class_grammar.specs.Spelling.{u1, u2}
use Rattle.kilim_class_code.specs.opcodes.Instr.{integer_text}
use Rattle.kilim_class_code.proofs.opcodes.Pieces.{on_joined}
use Rattle.kilim_class_code.proofs.opcodes.writing.put_wide_iinc.Goals as goal

pub returns : goal.returns
returns c =
    let number : FitsSigned w16 c.args.number = c.ranges.number in
    on_joined c.put_i16.result c.args.into.now.items c.push_u8.new.into.items c.put_i16.new.into.items (u1 c.args.op) (u2 c.args.slot ++ integer_text w16 c.args.number) c.in-Ok.ensures.ok
    (on_joined c.put_i16.result c.push_u8.new.into.items c.push_u16.new.into.items c.put_i16.new.into.items (u2 c.args.slot) (integer_text w16 c.args.number) c.in-Ok-push_u16.ensures.ok (simp to_z-of_z at c.put_i16.ensures))
