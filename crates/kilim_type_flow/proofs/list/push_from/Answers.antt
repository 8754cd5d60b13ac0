use Rattle.std.proofs.Common.{refl, arith}
use Rattle.kilim_type_flow.specs.Listing.{from_to}
use Rattle.kilim_type_flow.proofs.Loops.{mapped_end, mapped_on}
use Rattle.kilim_type_flow.proofs.list.push_from.Goals as goal

pub loop-to-preserved : goal.loop-to-preserved
loop-to-preserved c =
    mapped_on (from_to c.args.from) c.loop-to.pairs.items c.push.new.self.items _ c.args.tos.now c.loop-to.to-index _ 0 _ c.loop-to-test.true refl c.loop-to.invariant refl c.in-Ok.ensures.items

pub returns : goal.returns
returns c = mapped_end (from_to c.args.from) c.loop-to.pairs.items _ c.args.tos.now c.loop-to.to-index (omega arith) c.loop-to.invariant
