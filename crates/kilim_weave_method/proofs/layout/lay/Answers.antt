use Rattle.std.proofs.Common.{◌≡◌, ◌<◌, ◌∷◌, List, ap, sym, subst, length, arith}
use Rattle.kilim_weave_spec.specs.Woven as form
use Rattle.kilim_weave_pieces.specs.Items.{items_of}
use Rattle.kilim_weave_method.specs.Laid.{Follows}
use Rattle.kilim_weave_method.proofs.Laying.{all_laid, follow_on, nothing_laid}
use Rattle.kilim_weave_method.proofs.layout.lay.Goals as goal

pub loop-item-init : goal.loop-item-init
loop-item-init c = nothing_laid c.nothing-laid.result (items_of c.args.items)

pub loop-item-preserved : goal.loop-item-preserved
loop-item-preserved c =
    let rest = items_of c.take.new.self in
    follow_on c.nothing-laid.result c.loop-item.laid c.put.new.laid (items_of c.args.items) (items_of c.loop-item.left) rest c.loop-item.invariant
    (subst (λ (is : List form.Item). Follows c.loop-item.laid is c.put.new.laid rest) (sym c.in-Some.ensures) (c.in-Ok.ensures rest))

pub loop-item-smaller : goal.loop-item-smaller
loop-item-smaller c = let e = ap length c.in-Some.ensures in omega (arith, e)

pub returns : goal.returns
returns c = all_laid c.nothing-laid.result c.loop-item.laid (items_of c.args.items) (items_of c.loop-item.left) c.nothing-laid.ensures c.in_default.ensures c.loop-item.invariant
