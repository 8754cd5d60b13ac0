use Rattle.std.proofs.Common.{arith}
use Rattle.kilim_class_grammar.proofs.Calls.{at_front, within, read_so, only_one, only_free, only_place}
use Rattle.kilim_class_attributes.specs.declared.parts.fault.AttributeFault.TheVariants as fault
use Rattle.kilim_class_attributes.proofs.Sized.{fit_is_sized}
use Rattle.kilim_class_attributes.proofs.reading.read_all.Goals as goal

pub overflow_sub-end : goal.overflow_sub-end
overflow_sub-end c = within (c.attributes_are_spelled.ensures c.args.pool.now c.args.place) c.args.bytes.now c.in-Ok.attributes c.in-Ok.rest.now (λ i. omega (arith, c.type_inv.bytes i)) c.in-Ok.ensures

pub returns-in-Err-clause-only : goal.returns-in-Err-clause-only
returns-in-Err-clause-only c = λ attributes rest fit e. only_free (c.attributes_are_spelled.ensures c.args.pool.now c.args.place) fault.Memory c.in-Err.fault c.args.bytes.now attributes rest c.in-Err.ensures fit e

pub returns-in-Ok-clause-read : goal.returns-in-Ok-clause-read
returns-in-Ok-clause-read c = read_so (c.attributes_are_spelled.ensures c.args.pool.now c.args.place) c.args.bytes.now c.in-Ok.attributes c.in-Ok.rest.now (λ i. omega (arith, c.type_inv.bytes i)) c.in-Ok.ensures

pub returns-in-Ok-clause-found : goal.returns-in-Ok-clause-found
returns-in-Ok-clause-found c = at_front (c.attributes_are_spelled.ensures c.args.pool.now c.args.place) c.args.bytes.now c.in-Ok.attributes c.in-Ok.rest.now (λ i. omega (arith, c.type_inv.bytes i)) c.in-Ok.ensures

pub returns-in-Ok-clause-only : goal.returns-in-Ok-clause-only
returns-in-Ok-clause-only c = λ attributes rest fit e. (
  only_one (c.attributes_are_spelled.ensures c.args.pool.now c.args.place) c.args.bytes.now attributes c.in-Ok.attributes rest c.in-Ok.rest.now c.in-Ok.ensures fit e,
  only_place (c.attributes_are_spelled.ensures c.args.pool.now c.args.place) c.args.bytes.now attributes c.in-Ok.attributes rest c.in-Ok.rest.now (λ i. omega (arith, c.type_inv.bytes i)) c.in-Ok.ensures fit e,
)

pub returns-in-Ok-clause-sized : goal.returns-in-Ok-clause-sized
returns-in-Ok-clause-sized c =
    fit_is_sized c.parts_are_spelled.ensures c.args.pool.now c.args.place c.in-Ok.attributes
    (at_front (c.attributes_are_spelled.ensures c.args.pool.now c.args.place) c.args.bytes.now c.in-Ok.attributes c.in-Ok.rest.now (λ i. omega (arith, c.type_inv.bytes i)) c.in-Ok.ensures).fits
