use Rattle.kilim_class_pool.proofs.PoolFormat.{a_pool}
use Rattle.kilim_class_pool.proofs.reading.pool_is_spelled.Goals as goal

pub returns : goal.returns
returns c = a_pool c.units_are_spelled.ensures
