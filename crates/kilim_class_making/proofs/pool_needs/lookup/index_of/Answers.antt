use Rattle.std.proofs.Common.{sym, ap, ◌∙◌}
use Rattle.kilim_class_making.specs.declared.pool_needs.need.Need.{Need}
use Rattle.kilim_class_making.specs.pool_needs.Adding.{index_of}
use Rattle.kilim_class_making.proofs.pool_needs.lookup.index_of.Goals as goal

pub returns-in-AMethod : goal.returns-in-AMethod
returns-in-AMethod c = c.method_index.ensures ∙ ap (λ (n : Need). index_of c.args.pool.now n) (sym c.in-AMethod.is)

pub returns-in-ACall : goal.returns-in-ACall
returns-in-ACall c = c.call_index.ensures ∙ ap (λ (n : Need). index_of c.args.pool.now n) (sym c.in-ACall.is)
