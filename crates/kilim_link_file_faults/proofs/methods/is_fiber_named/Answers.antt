use Rattle.std.proofs.Common.{refl}
use Rattle.kilim_link_spec.specs.LeftOut.{is_fiber}
use Rattle.kilim_link_file_faults.proofs.Loops.{found_at, passed_at, none_passes}
use Rattle.kilim_link_file_faults.proofs.methods.is_fiber_named.Goals as goal

pub returns-then-is_text : goal.returns-then-is_text
returns-then-is_text c = found_at is_fiber c.args.names.now c.args.names.now c.loop-name.name-index c.name-item.result c.is_text.result refl c.loop-name-test.true c.name-item.is c.is_text.ensures c.loop-name.invariant c.if-is_text.true

pub loop-name-preserved : goal.loop-name-preserved
loop-name-preserved c = passed_at is_fiber c.args.names.now c.args.names.now c.loop-name.name-index c.name-item.result c.is_text.result refl c.loop-name-test.true c.name-item.is c.is_text.ensures c.loop-name.invariant c.if-is_text.false

pub returns : goal.returns
returns c = none_passes is_fiber c.args.names.now c.args.names.now c.loop-name.name-index refl c.loop-name-test.false c.loop-name.invariant
