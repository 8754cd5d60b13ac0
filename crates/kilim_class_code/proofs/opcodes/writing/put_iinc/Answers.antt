use Rattle.std.specs.Int.{w8}
use Rattle.std.specs.Prelude.{FitsSigned}
use Rattle.std.proofs.lemmas.Int.{to_z-of_z}
use Rattle.kilim_class_grammar.specs.Spelling.{u1}
use Rattle.kilim_class_code.specs.opcodes.Instr.{integer_text}
use Rattle.kilim_class_code.proofs.opcodes.Pieces.{on_joined}
use Rattle.kilim_class_code.proofs.opcodes.writing.put_iinc.Goals as goal

pub returns : goal.returns
returns c =
    let number : FitsSigned w8 c.args.number = c.ranges.number in
    on_joined c.put_i8.result c.args.into.now.items c.push_u8.new.into.items c.put_i8.new.into.items (u1 c.args.slot) (integer_text w8 c.args.number) c.in_ok-push_u8.ensures.ok (simp to_z-of_z at c.put_i8.ensures)
