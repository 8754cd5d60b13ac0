use Rattle.std.proofs.Common.{inr, rules, ◌≡◌, ◌++◌, ◌∷◌, []}
use Rattle.std.specs.Int.{w32}
use Rattle.kilim_class_grammar.specs.Reader.{many, signed_at}
use Rattle.kilim_class_grammar.proofs.Loops.{goes_on, stops, is_done}
use Rattle.kilim_image.specs.declared.fault.ImageFault.TheVariants as fault
use Rattle.kilim_image.proofs.reading.so_many_args_at.Goals as goal

pub returns-in-Err : goal.returns-in-Err
returns-in-Err c =
    let one = signed_at fault.Cut w32 in
    stops one fault.Memory c.in-Err.fault c.loop.args c.args.count c.loop.counter c.loop.rest.now (many one c.args.count c.args.bytes.now) c.loop-test.true (inr c.in-Err.ensures) c.loop.invariant

pub loop-preserved : goal.loop-preserved
loop-preserved c =
    let one = signed_at fault.Cut w32 in
    let pushed : c.push.new.self ≡ c.loop.args ++ c.in-Ok.arg ∷ [] = search rules in
    rw pushed (goes_on one c.loop.args c.args.count c.loop.counter c.loop.rest.now c.in-Ok.arg c.in-Ok.after.now (many one c.args.count c.args.bytes.now) c.loop-test.true c.in-Ok.ensures c.loop.invariant)

pub returns : goal.returns
returns c =
    let one = signed_at fault.Cut w32 in
    is_done one c.loop.args c.args.count c.loop.counter c.loop.rest.now (many one c.args.count c.args.bytes.now) c.loop-test.false c.loop.invariant
