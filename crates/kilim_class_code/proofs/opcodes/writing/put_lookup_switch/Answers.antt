use Rattle.std.proofs.Common.{◌++◌, length}
use Rattle.std.specs.Int.{w32, w64}
use Rattle.std.specs.List.{flat_map}
use Rattle.std.specs.Prelude.{FitsSigned}
use Rattle.std.proofs.lemmas.Int.{to_z-of_z}
use Rattle.kilim_class_grammar.specs.Spelling.{u4}
use Rattle.kilim_class_code.specs.opcodes.Instr.{target_text, pair_text, padding_text, lookup_text}
use Rattle.kilim_class_code.proofs.opcodes.Pieces.{joined, on_joined}
use Rattle.kilim_class_code.proofs.opcodes.writing.put_lookup_switch.Goals as goal

pub returns : goal.returns
unfolding lookup_text
returns c =
    let default : FitsSigned w64 c.args.default = c.ranges.default in
    let head = joined c.put_padding.new.into.items c.put_target.new.into.items c.push_u32.new.into.items (target_text w32 c.args.at c.args.default) (u4 (length c.args.pairs.now)) (simp to_z-of_z at c.in-Ok-put_target.ensures) c.in-Ok-push_u32.ensures.ok in
    on_joined c.put_pairs.result c.args.into.now.items c.put_padding.new.into.items c.put_pairs.new.into.items (padding_text c.args.at) (lookup_text c.args.at c.args.default c.args.pairs.now) c.in-Ok.ensures
    (on_joined c.put_pairs.result c.put_padding.new.into.items c.push_u32.new.into.items c.put_pairs.new.into.items (target_text w32 c.args.at c.args.default ++ u4 (length c.args.pairs.now)) (flat_map (pair_text c.args.at) c.args.pairs.now) head c.put_pairs.ensures)
