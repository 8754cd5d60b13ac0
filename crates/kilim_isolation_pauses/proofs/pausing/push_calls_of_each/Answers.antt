use Rattle.std.proofs.Common.{◌++◌, get_or, refl, arith}
use Rattle.std.specs.List.{flat_map}
use Rattle.kilim_isolation_pauses.specs.Pausing.{calls_of}
use Rattle.kilim_isolation_pauses.proofs.Loops.{rest_more, rest_end}
use Rattle.kilim_isolation_pauses.proofs.pausing.push_calls_of_each.Goals as goal

pub loop-id-preserved : goal.loop-id-preserved
loop-id-preserved c =
    rest_more (flat_map (calls_of c.args.program.now)) (calls_of c.args.program.now) c.loop-id.calls c.push_calls_of.new.calls (c.args.calls.now ++ flat_map (calls_of c.args.program.now) c.args.ids.now) c.args.ids.now c.loop-id.id-index
    (get_or c.args.ids.now c.loop-id.id-index _) _ (λ y ys. refl) c.loop-id-test.true refl c.loop-id.invariant c.in_ok-push_calls_of.ensures

pub returns : goal.returns
returns c =
    rest_end (flat_map (calls_of c.args.program.now)) c.loop-id.calls (c.args.calls.now ++ flat_map (calls_of c.args.program.now) c.args.ids.now) c.args.ids.now c.loop-id.id-index refl (omega arith) c.loop-id.invariant
