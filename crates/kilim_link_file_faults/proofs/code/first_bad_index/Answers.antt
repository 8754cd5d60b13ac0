use Rattle.std.proofs.Common.{refl}
use Rattle.kilim_class_code.specs.Code.{Placed}
use Rattle.kilim_link_spec.specs.Code.{index_in}
use Rattle.kilim_link_spec.specs.Faults.{bad_index}
use Rattle.kilim_link_file_faults.proofs.Loops.{first_at, first_behind, none_first}
use Rattle.kilim_link_file_faults.proofs.code.first_bad_index.Goals as goal

pub returns-in-Ok-Some : goal.returns-in-Ok-Some
returns-in-Ok-Some c = first_at (λ (p : Placed). bad_index c.args.pool.now p (index_in p.1)) c.args.instrs.now c.args.instrs.now c.loop-placed.placed-index c.placed-item.result c.in-Ok-Some.field-0 refl c.loop-placed-test.true c.placed-item.is c.in-Ok-Some.ensures c.loop-placed.invariant c.in-Ok-Some.found c.in-Ok-Some.field-0-is

pub loop-placed-preserved : goal.loop-placed-preserved
loop-placed-preserved c = first_behind (λ (p : Placed). bad_index c.args.pool.now p (index_in p.1)) c.args.instrs.now c.args.instrs.now c.loop-placed.placed-index c.placed-item.result c.in-Ok-None.field-0 refl c.loop-placed-test.true c.placed-item.is c.in-Ok-None.ensures c.loop-placed.invariant c.in-Ok-None.field-0-is

pub returns : goal.returns
returns c = none_first (λ (p : Placed). bad_index c.args.pool.now p (index_in p.1)) c.args.instrs.now c.args.instrs.now c.loop-placed.placed-index refl c.loop-placed-test.false c.loop-placed.invariant
