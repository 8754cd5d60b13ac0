use Rattle.std.proofs.Common.{arith, refl}
use Rattle.kilim_demo.proofs.Counted.{more, types_count, types_from, all}
use Rattle.kilim_demo.proofs.main_class.push_box_types.Goals as goal

pub loop-preserved : goal.loop-preserved
loop-preserved c = more types_from types_count c.args.count c.loop.counter 0 1 c.loop.types c.push.new.self _ (omega (arith, c.loop-test.true)) refl c.in-Ok.ensures.ok c.loop.invariant

pub returns : goal.returns
returns c = all types_from c.args.count c.loop.counter 0 c.loop.types _ refl (omega (arith, c.loop-test.false)) c.loop.invariant
