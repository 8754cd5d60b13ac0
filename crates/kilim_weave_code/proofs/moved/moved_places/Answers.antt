use Rattle.std.proofs.Common.{◌∙◌, ap, map, arith}
use Rattle.std.proofs.lemmas.List.{take_all}
use Rattle.kilim_weave_pieces.specs.Places.{at_in}
use Rattle.kilim_weave_code.proofs.Putting.{place_more}
use Rattle.kilim_weave_code.proofs.moved.moved_places.Goals as goal

pub loop-target-preserved : goal.loop-target-preserved
loop-target-preserved c =
    place_more (at_in c.args.places.now) c.loop-target.all c.push.new.self c.args.targets.now c.loop-target.target-index 0 c.in-Ok.to c.loop-target-test.true c.loop-target.invariant c.in-Ok.ensures c.in-Ok-push.ensures.ok

pub returns : goal.returns
returns c = c.loop-target.invariant ∙ ap (map (at_in c.args.places.now)) (take_all c.loop-target.target-index c.args.targets.now (omega arith))
