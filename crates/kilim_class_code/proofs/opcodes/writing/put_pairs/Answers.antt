use Rattle.std.proofs.Common.{ℤ, pos, List, ◌++◌, ap, ◌∙◌}
use Rattle.std.specs.Prelude.{None}
use Rattle.std.specs.List.{flat_map}
use Rattle.std.proofs.lemmas.List.{take_all}
use Rattle.kilim_class_code.specs.opcodes.Instr.{pair_text}
use Rattle.kilim_class_code.proofs.opcodes.Pieces.{pair_fits, one_more}
use Rattle.kilim_class_code.proofs.opcodes.writing.put_pairs.Goals as goal

pub put_pair-requires : goal.put_pair-requires
put_pair-requires c = pair_fits c.args.at None c.args.pairs.now c.loop-pair.pair-index (pos 0, pos 0) c.requires c.loop-pair-test.true

pub loop-pair-preserved : goal.loop-pair-preserved
loop-pair-preserved c =
    one_more (pair_text c.args.at) c.args.pairs.now c.loop-pair.pair-index (pos 0, pos 0) c.args.into.now.items c.loop-pair.into.items c.put_pair.new.into.items c.loop-pair-test.true c.loop-pair.invariant c.in-Ok.ensures

pub returns : goal.returns
returns c = c.loop-pair.invariant ∙ ap (λ (xs : List (ℤ × ℤ)). c.args.into.now.items ++ flat_map (pair_text c.args.at) xs) (take_all c.loop-pair.pair-index c.args.pairs.now c.loop-pair-test.false)
