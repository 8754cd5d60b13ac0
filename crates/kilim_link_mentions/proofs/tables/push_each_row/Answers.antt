use Rattle.kilim_link_spec.specs.Mentions.{mentions_of_row}
use Rattle.kilim_link_mentions.proofs.Joined.{joined, all_pushed}
use Rattle.kilim_link_mentions.proofs.tables.push_each_row.Goals as goal

pub loop-row-preserved : goal.loop-row-preserved
loop-row-preserved c = joined (mentions_of_row c.args.pool.now) c.args.into.now c.loop-row.into c.push_row.new.into c.args.rows.now c.loop-row.row-index _ c.loop-row-test.true c.loop-row.invariant c.in-Ok.ensures

pub returns : goal.returns
returns c = all_pushed (mentions_of_row c.args.pool.now) c.args.into.now c.loop-row.into c.args.rows.now c.loop-row.row-index c.loop-row-test.false c.loop-row.invariant
