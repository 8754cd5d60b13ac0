use Rattle.std.proofs.Common.{arith}
use Rattle.kilim_class_grammar.proofs.Calls.{within, at_front, read_so, only_one, only_place, only_free}
use Rattle.kilim_class_pool.specs.declared.fault.PoolFault.TheVariants as pool
use Rattle.kilim_class_pool.proofs.pool.Pool.read.Goals as goal

pub returns-in-Err-clause-only : goal.returns-in-Err-clause-only
returns-in-Err-clause-only c = λ entries rest fits e. only_free c.pool_is_spelled.ensures pool.Memory c.in-Err.fault c.args.bytes.now entries rest c.in-Err.ensures fits e

pub returns-in-Ok-clause-found : goal.returns-in-Ok-clause-found
returns-in-Ok-clause-found c = at_front c.pool_is_spelled.ensures c.args.bytes.now c.in-Ok.pool c.in-Ok.rest.now (λ i. omega (arith, c.type_inv.bytes i)) c.in-Ok.ensures

pub returns-in-Ok-clause-only : goal.returns-in-Ok-clause-only
returns-in-Ok-clause-only c = λ entries rest fits e. (
  only_one c.pool_is_spelled.ensures c.args.bytes.now entries c.in-Ok.pool rest c.in-Ok.rest.now c.in-Ok.ensures fits e,
  only_place c.pool_is_spelled.ensures c.args.bytes.now entries c.in-Ok.pool rest c.in-Ok.rest.now (λ i. omega (arith, c.type_inv.bytes i)) c.in-Ok.ensures fits e,
)

pub returns-in-Ok-clause-reads : goal.returns-in-Ok-clause-reads
returns-in-Ok-clause-reads c = read_so c.pool_is_spelled.ensures c.args.bytes.now c.in-Ok.pool c.in-Ok.rest.now (λ i. omega (arith, c.type_inv.bytes i)) c.in-Ok.ensures

pub overflow_sub-result : goal.overflow_sub-result
overflow_sub-result c = within c.pool_is_spelled.ensures c.args.bytes.now c.in-Ok.pool c.in-Ok.rest.now (λ i. omega (arith, c.type_inv.bytes i)) c.in-Ok.ensures
