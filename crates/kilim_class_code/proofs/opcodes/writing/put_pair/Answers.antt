use Rattle.std.proofs.Common.{rules}
use Rattle.std.specs.Int.{w32, w64}
use Rattle.std.specs.Prelude.{FitsSigned}
use Rattle.std.proofs.lemmas.Int.{to_z-of_z}
use Rattle.kilim_class_code.specs.opcodes.Instr.{integer_text, target_text, pair_text}
use Rattle.kilim_class_code.proofs.opcodes.Pieces.{on_joined}
use Rattle.kilim_class_code.proofs.opcodes.writing.put_pair.Goals as goal

pub returns : goal.returns
unfolding pair_text
returns c =
    let number : FitsSigned w32 c.args.pair.0 = search rules in
    let to : FitsSigned w64 c.args.pair.1 = search rules in
    on_joined c.put_target.result c.args.into.now.items c.put_i32.new.into.items c.put_target.new.into.items (integer_text w32 c.args.pair.0) (target_text w32 c.args.at c.args.pair.1)
    (simp to_z-of_z at c.in_ok-put_i32.ensures) (simp to_z-of_z at c.put_target.ensures)
