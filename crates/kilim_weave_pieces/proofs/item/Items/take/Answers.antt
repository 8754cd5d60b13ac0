use Rattle.std.proofs.Common.{◌∙◌, List, [], ap, arith}
use Rattle.kilim_weave_pieces.specs.declared.item.Item.{Item}
use Rattle.kilim_weave_pieces.specs.Items.{items_on}
use Rattle.kilim_weave_pieces.proofs.Order.{none_put, put_first}
use Rattle.kilim_weave_pieces.proofs.item.Items.take.Goals as goal

pub returns-in-Some : goal.returns-in-Some
returns-in-Some c = ap (λ (is : List Item). items_on is []) c.in-Some.ensures.items ∙ put_first c.pop.new.self.items c.in-Some.item []

pub returns-in-None : goal.returns-in-None
returns-in-None c = none_put c.args.self.now.reversed.items (omega (arith, c.in-None.ensures.cases.0, c.args.self.now.reversed.ok.0))
