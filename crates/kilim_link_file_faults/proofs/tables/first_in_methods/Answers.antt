use Rattle.std.proofs.Common.{refl}
use Rattle.kilim_link_spec.specs.Faults.{row_faults}
use Rattle.kilim_link_file_faults.proofs.Loops.{first_at, first_behind, none_first}
use Rattle.kilim_link_file_faults.proofs.tables.first_in_methods.Goals as goal

pub returns-in-Ok-Some : goal.returns-in-Ok-Some
returns-in-Ok-Some c = first_at (row_faults c.args.file.now) c.args.methods.now c.args.methods.now c.loop-method.method-index c.method-item.result c.in-Ok-Some.field-0 refl c.loop-method-test.true c.method-item.is c.in-Ok-Some.ensures c.loop-method.invariant c.in-Ok-Some.found c.in-Ok-Some.field-0-is

pub loop-method-preserved : goal.loop-method-preserved
loop-method-preserved c = first_behind (row_faults c.args.file.now) c.args.methods.now c.args.methods.now c.loop-method.method-index c.method-item.result c.in-Ok-None.field-0 refl c.loop-method-test.true c.method-item.is c.in-Ok-None.ensures c.loop-method.invariant c.in-Ok-None.field-0-is

pub returns : goal.returns
returns c = none_first (row_faults c.args.file.now) c.args.methods.now c.args.methods.now c.loop-method.method-index refl c.loop-method-test.false c.loop-method.invariant
