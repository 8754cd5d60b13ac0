use Rattle.std.proofs.Common.{◌∷◌, sym, subst}
use Rattle.kilim_weave_pieces.specs.declared.item.Item.{Item}
use Rattle.kilim_weave_pieces.specs.Items.{item_of, label_of, size_of}
use Rattle.kilim_weave_method.specs.Laid.{Follows}
use Rattle.kilim_weave_method.proofs.Outcomes.{on_ok}
use Rattle.kilim_weave_method.proofs.Laying.{adds_follow, stands_follow}
use Rattle.kilim_weave_method.proofs.layout.put.Goals as goal

pub returns-in-Stands : goal.returns-in-Stands
returns-in-Stands c =
    on_ok c.stand.result
    (λ is rest. subst (λ (i : Item). Follows c.args.laid.now (item_of i ∷ rest) c.stand.new.laid rest) (sym c.in-Stands.is) (stands_follow c.args.laid.now c.stand.new.laid _ c.in-Stands.frame rest is))
    c.stand.ensures

pub returns-in-Adds : goal.returns-in-Adds
returns-in-Adds c =
    on_ok c.add.result
    (λ is rest. subst (λ (i : Item). Follows c.args.laid.now (item_of i ∷ rest) c.add.new.laid rest) (sym c.in-Adds.is)
    (adds_follow c.args.laid.now c.add.new.laid c.in-Adds.instr (size_of c.in-Adds.size) c.in-Adds.counted rest is))
    c.add.ensures
