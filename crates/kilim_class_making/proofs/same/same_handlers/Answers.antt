use Rattle.std.proofs.Common.{rules}
use Rattle.kilim_class_making.proofs.Compared.{same_lists}
use Rattle.kilim_class_making.proofs.same.same_handlers.Goals as goal

pub returns : goal.returns
returns c = same_lists _ (λ a b h. search rules) c.args.one.now c.args.other.now c.eq.result c.eq.ensures
