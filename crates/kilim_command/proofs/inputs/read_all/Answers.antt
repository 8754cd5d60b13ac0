use Rattle.std.proofs.Common.{◌∙◌, arith}
use Rattle.std.specs.String.{string_bytes}
use Rattle.kilim_command.proofs.Named.{read_more, reads_cause}
use Rattle.kilim_command.proofs.inputs.read_all.Goals as goal

pub returns-in-Err-clause-cause : goal.returns-in-Err-clause-cause
returns-in-Err-clause-cause g c =
    reads_cause string_bytes c.args.names.now c.loop-name.name-index c.name-item.result c.as_str.result.now _ _ _ c.in-Err.fault c.name-item.is (omega (arith, c.loop-name-test.true, c.loop-name.auto.name-index-end)) c.as_str.ensures.value
    c.loop-name.invariant.faults c.in-Err.ensures.cause

pub loop-name-preserved : goal.loop-name-preserved
loop-name-preserved g c = record {
  read = read_more string_bytes _ _ c.args.names.now c.loop-name.name-index c.name-item.result c.loop-name.read _ c.as_str.result.now c.in-Ok.bytes c.name-item.is (omega (arith, c.loop-name-test.true, c.loop-name.auto.name-index-end)) c.as_str.ensures.value
      c.loop-name.invariant.contents c.in-Ok-push.ensures.ok c.loop-name.invariant.read c.in-Ok.ensures.read;
  contents = c.in-Ok.ensures.contents ∙ c.loop-name.invariant.contents;
  faults = c.in-Ok.ensures.cause.ok ∙ c.loop-name.invariant.faults;
}
