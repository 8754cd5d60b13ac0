use Rattle.std.proofs.Common.{Ok, ap, ◌∙◌, length}
use Rattle.kilim_class_descriptors.specs.Reading.{params_at}
use Rattle.kilim_class_descriptors.proofs.Steps.{goes_on, ends, stops, runs_out}
use Rattle.kilim_class_descriptors.proofs.methods.push_params.Goals as goal

pub returns-in-Err : goal.returns-in-Err
returns-in-Err c =
    stops c.in-Err.stop c.loop.params (length c.args.units.now) c.loop.counter c.loop.rest.now (params_at (length c.args.units.now) c.args.units.now) c.loop-test.true c.in-Err.ensures c.loop.invariant

pub loop-preserved : goal.loop-preserved
loop-preserved c =
    let read = c.in-Ok.ensures ∙ ap (λ p. Ok (p, c.in-Ok.after.now)) c.in-Some.is in
    rw c.in-Ok-push.ensures.ok (goes_on c.loop.params (length c.args.units.now) c.loop.counter c.loop.rest.now c.in-Some.param c.in-Ok.after.now (params_at (length c.args.units.now) c.args.units.now) c.loop-test.true read c.loop.invariant)

pub returns-in_default : goal.returns-in_default
returns-in_default c =
    let read = c.in-Ok.ensures ∙ ap (λ p. Ok (p, c.in-Ok.after.now)) c.in_default.is in
    ends c.loop.params (length c.args.units.now) c.loop.counter c.loop.rest.now c.in-Ok.after.now (params_at (length c.args.units.now) c.args.units.now) c.loop-test.true read c.loop.invariant

pub returns : goal.returns
returns c = runs_out c.loop.params (length c.args.units.now) c.loop.counter c.loop.rest.now (params_at (length c.args.units.now) c.args.units.now) c.loop-test.false c.loop.invariant
