use Rattle.std.proofs.Common.{inr, rules}
use Rattle.std.specs.Prelude.{FitsSigned}
use Rattle.std.specs.Int.{w32, w64}
use Rattle.std.proofs.lemmas.Int.{to_z-of_z}
use Rattle.kilim_class_grammar.specs.Reader.{many}
use Rattle.kilim_class_grammar.proofs.Loops.{goes_on, stops, is_done}
use Rattle.kilim_class_code.specs.declared.opcodes.fault.OpFault.TheVariants.{Memory}
use Rattle.kilim_class_code.specs.opcodes.Reading.{target_at}
use Rattle.kilim_class_code.proofs.opcodes.switches.targets_at.Goals as goal

pub returns-in-Err : goal.returns-in-Err
returns-in-Err c =
    stops (target_at c.args.op c.args.at w32) Memory c.in-Err.fault c.loop.targets c.args.count c.loop.counter c.loop.rest.now (many (target_at c.args.op c.args.at w32) c.args.count c.args.bytes.now) c.loop-test.true (inr c.in-Err.ensures) c.loop.invariant

pub loop-preserved : goal.loop-preserved
loop-preserved c =
    let fits : FitsSigned w64 c.in-Ok.to = search rules in
    rw (c.in-Ok-push.ensures.ok, to_z-of_z w64 c.in-Ok.to fits) (goes_on (target_at c.args.op c.args.at w32) c.loop.targets c.args.count c.loop.counter c.loop.rest.now c.in-Ok.to c.in-Ok.after.now (many (target_at c.args.op c.args.at w32) c.args.count c.args.bytes.now) c.loop-test.true c.in-Ok.ensures c.loop.invariant)

pub returns : goal.returns
returns c = is_done (target_at c.args.op c.args.at w32) c.loop.targets c.args.count c.loop.counter c.loop.rest.now (many (target_at c.args.op c.args.at w32) c.args.count c.args.bytes.now) c.loop-test.false c.loop.invariant
