use Rattle.kilim_class_grammar.proofs.Fronts.{cut_or_broken}
use Rattle.kilim_class_pool.specs.declared.fault.PoolFault.TheVariants as pool
use Rattle.kilim_class_pool.proofs.Fronts.{pool_stays}
use Rattle.kilim_class_pool.proofs.reading.pool_is_cut_or_broken.Goals as goal

pub returns-clause-stays : goal.returns-clause-stays
returns-clause-stays c = pool_stays

pub returns-clause-fronts : goal.returns-clause-fronts
returns-clause-fronts c = cut_or_broken c.pool_is_spelled.ensures pool.Cut pool_stays
