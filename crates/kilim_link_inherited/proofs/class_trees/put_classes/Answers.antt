use Rattle.std.proofs.Common.{refl, arith}
use Rattle.kilim_link_inherited.proofs.Entered.{class_put}
use Rattle.kilim_link_inherited.proofs.class_trees.put_classes.Goals as goal

pub loop-left-preserved : goal.loop-left-preserved
loop-left-preserved c =
    let loop = c.loop-left in
    let put = class_put c.args.nodes.now loop.nodes c.put_entries.new.nodes c.args.tree loop.made c.in-Ok.next loop.invariant.makes c.in-Ok.ensures.0 c.args.entries.now c.args.classes.now loop.left _ _ c.entries_of-own.result.now c.loop-left-test.true loop.invariant.some refl c.entries_of-own.ensures loop.invariant.has c.in-Ok.ensures.1 in
    record { some = omega (arith, loop.invariant.some); makes = put.0; has = put.1; fits = c.in-Ok.ensures.2 }
