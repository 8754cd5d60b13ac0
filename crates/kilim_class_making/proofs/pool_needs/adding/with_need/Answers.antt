use Rattle.std.proofs.Common.{◌≡◌, OnOk, subst, sym}
use Rattle.kilim_class_making.specs.declared.pool_needs.need.Need.{Need}
use Rattle.kilim_class_making.specs.pool_needs.Adding.{with_need}
use Rattle.kilim_class_making.proofs.pool_needs.adding.with_need.Goals as goal

pub returns-in-AMethod : goal.returns-in-AMethod
unfolding with_need
returns-in-AMethod c =
    subst (λ (n : Need). OnOk c.with_method.result (c.with_method.new.pool ≡ with_need c.args.pool.now n)) (sym c.in-AMethod.is) c.with_method.ensures
