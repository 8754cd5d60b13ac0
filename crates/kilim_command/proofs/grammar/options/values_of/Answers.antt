use Rattle.std.proofs.Common.{arith}
use Rattle.std.specs.String.{string_bytes}
use Rattle.kilim_command.proofs.grammar.Mapped.{values_on}
use Rattle.kilim_command.proofs.grammar.options.values_of.Goals as goal

pub loop-option-preserved : goal.loop-option-preserved
loop-option-preserved c =
    values_on string_bytes c.args.front.now c.args.options.now c.loop-option.option-index c.option-item.result c.as_str.result.now c.loop-option.found c.with_word-found.result c.option-item.is (omega (arith, c.loop-option-test.true, c.loop-option.auto.option-index-end)) c.as_str.ensures.value
    c.with_word-found.ensures c.loop-option.invariant
