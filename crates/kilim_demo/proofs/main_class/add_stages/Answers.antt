use Rattle.std.proofs.Common.{◌+◌, arith, refl}
use Rattle.kilim_demo.specs.MainClass.{stage_entries_from}
use Rattle.kilim_demo.proofs.Counted.{all, entries_count, more}
use Rattle.kilim_demo.proofs.main_class.add_stages.Goals as goal

pub loop-k-preserved : goal.loop-k-preserved
loop-k-preserved c =
    more stage_entries_from entries_count c.args.stages c.loop-k.k (c.loop-k.k + 1) (c.loop-k.k + 1 + 1) c.loop-k.pool c.add_stage.new.pool _ (omega (arith, c.loop-k-test.true)) refl c.in-Ok.ensures c.loop-k.invariant

pub returns : goal.returns
returns c = all stage_entries_from c.args.stages c.loop-k.k (c.loop-k.k + 1) c.loop-k.pool _ refl (omega (arith, c.loop-k-test.false)) c.loop-k.invariant
