use Rattle.std.proofs.Common.{◌∙◌, List, [], ap}
use Rattle.kilim_weave_pieces.specs.declared.item.Item.{Item}
use Rattle.kilim_weave_pieces.specs.Items.{items_on}
use Rattle.kilim_weave_pieces.proofs.Order.{put_first}
use Rattle.kilim_weave_pieces.proofs.item.Items.put.Goals as goal

pub returns : goal.returns
returns c = ap (λ (is : List Item). items_on is []) c.in_ok-push.ensures.items ∙ put_first c.args.self.now.reversed.items c.args.item []
