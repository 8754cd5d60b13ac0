use Rattle.std.proofs.Common.{◌+◌, arith, refl}
use Rattle.kilim_demo.specs.MainClass.{starts_from}
use Rattle.kilim_demo.proofs.Counted.{more, starts_count, all}
use Rattle.kilim_demo.proofs.main_class.push_starts.Goals as goal

pub loop-k-preserved : goal.loop-k-preserved
loop-k-preserved c =
    more starts_from starts_count c.args.count c.loop-k.k c.loop-k.k (c.loop-k.k + 1) c.loop-k.code.items c.push_start.new.code.items _ (omega (arith, c.loop-k-test.true)) refl c.in-Ok.ensures c.loop-k.invariant

pub returns : goal.returns
returns c = all starts_from c.args.count c.loop-k.k c.loop-k.k c.loop-k.code.items _ refl (omega (arith, c.loop-k-test.false)) c.loop-k.invariant
