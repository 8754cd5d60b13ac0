use Rattle.std.proofs.Common.{◌≡◌, ◌<◌, ◌∷◌, List, ap, subst, length, arith}
use Rattle.kilim_weave_spec.specs.Woven as form
use Rattle.kilim_weave_pieces.specs.Items.{items_of}
use Rattle.kilim_weave_method.specs.Found.{Finds}
use Rattle.kilim_weave_method.proofs.Finding.{all_found, none_found}
use Rattle.kilim_weave_method.proofs.find.places_of.Goals as goal

pub loop-item-init : goal.loop-item-init
loop-item-init c = none_found (items_of c.args.items) c.nowhere-places.result c.nowhere-places.ensures

pub loop-item-preserved : goal.loop-item-preserved
loop-item-preserved c =
    c.in-Ok.ensures (items_of c.args.items) (items_of c.take.new.self) (subst (λ (is : List form.Item). Finds (items_of c.args.items) c.loop-item.places is) c.in-Some.ensures c.loop-item.invariant)

pub loop-item-smaller : goal.loop-item-smaller
loop-item-smaller c = let e = ap length c.in-Some.ensures in omega (arith, e)

pub returns : goal.returns
returns c = all_found (items_of c.args.items) (items_of c.loop-item.left) c.loop-item.places c.in_default.ensures c.loop-item.invariant
