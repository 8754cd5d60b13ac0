use Rattle.kilim_class_making.proofs.pool_needs.growth.Pools.{grows}
use Rattle.kilim_class_making.proofs.pool_needs.growth.pools_grow.Goals as goal

pub returns : goal.returns
returns c = λ old more fits can. grows old more fits can
