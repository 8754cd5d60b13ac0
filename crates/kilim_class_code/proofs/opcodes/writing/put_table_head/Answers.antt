use Rattle.std.proofs.Common.{◌++◌}
use Rattle.std.specs.Int.{w32, w64}
use Rattle.std.specs.Prelude.{FitsSigned}
use Rattle.std.proofs.lemmas.Int.{to_z-of_z}
use Rattle.kilim_class_code.specs.opcodes.Instr.{integer_text, target_text}
use Rattle.kilim_class_code.proofs.opcodes.Pieces.{on_joined}
use Rattle.kilim_class_code.proofs.opcodes.writing.put_table_head.Goals as goal

pub returns : goal.returns
returns c =
    let default : FitsSigned w64 c.args.default = c.ranges.default in
    let low : FitsSigned w32 c.args.low = c.ranges.low in
    let high : FitsSigned w32 c.args.high = c.ranges.high in
    on_joined c.put_i32-2.result c.args.into.now.items c.put_target.new.into.items c.put_i32-2.new.into.items (target_text w32 c.args.at c.args.default) (integer_text w32 c.args.low ++ integer_text w32 c.args.high)
    (simp to_z-of_z at c.in-Ok.ensures)
    (on_joined c.put_i32-2.result c.put_target.new.into.items c.put_i32.new.into.items c.put_i32-2.new.into.items (integer_text w32 c.args.low) (integer_text w32 c.args.high)
    (simp to_z-of_z at c.in-Ok-put_i32.ensures) (simp to_z-of_z at c.put_i32-2.ensures))
