use Rattle.std.proofs.Common.{◌++◌, sym, subst}
use Rattle.std.specs.Int.{w32, w64}
use Rattle.std.specs.List.{flat_map}
use Rattle.std.specs.Prelude.{FitsSigned}
use Rattle.std.proofs.lemmas.Int.{to_z-of_z}
use Rattle.kilim_class_code.specs.opcodes.Instr.{integer_text, target_text, padding_text, table_text, high_of}
use Rattle.kilim_class_code.proofs.opcodes.Pieces.{on_joined}
use Rattle.kilim_class_code.proofs.opcodes.writing.put_table_switch.Goals as goal

pub returns : goal.returns
unfolding table_text
returns c =
    let default : FitsSigned w64 c.args.default = c.ranges.default in
    let low : FitsSigned w32 c.args.low = c.ranges.low in
    let is = simp to_z-of_z at c.high_of-high.ensures in
    let high : FitsSigned w32 c.high_of-high.result = subst (FitsSigned w32) (sym is) c.requires.high in
    on_joined c.put_targets.result c.args.into.now.items c.put_padding.new.into.items c.put_targets.new.into.items (padding_text c.args.at) (table_text c.args.at c.args.default c.args.low c.args.targets.now) c.in-Ok.ensures
    (on_joined c.put_targets.result c.put_padding.new.into.items c.put_table_head.new.into.items c.put_targets.new.into.items
    (target_text w32 c.args.at c.args.default ++ (integer_text w32 c.args.low ++ integer_text w32 (high_of c.args.low c.args.targets.now))) (flat_map (target_text w32 c.args.at) c.args.targets.now)
    (rw is at (simp to_z-of_z at c.in-Ok-put_table_head.ensures)) c.put_targets.ensures)
