use Rattle.std.specs.String.{string_bytes}
use Rattle.kilim_command.proofs.grammar.Loops.{plain_here, plain_on}
use Rattle.kilim_command.proofs.grammar.asked.count_plain.Goals as goal

pub loop-i-preserved : goal.loop-i-preserved
loop-i-preserved c =
    plain_on string_bytes c.args.words.now c.loop-i.i c.index-words-i.result c.as_str.result.now c.is_hyphened.result c.loop-i-test.true c.index-words-i.is c.as_str.ensures.value c.is_hyphened.ensures c.if-is_hyphened.false c.loop-i.invariant

pub returns-then-is_hyphened-clause-count : goal.returns-then-is_hyphened-clause-count
returns-then-is_hyphened-clause-count c =
    plain_here string_bytes c.args.words.now c.loop-i.i c.index-words-i.result c.as_str.result.now c.is_hyphened.result c.loop-i-test.true c.index-words-i.is c.as_str.ensures.value c.is_hyphened.ensures c.if-is_hyphened.true c.loop-i.invariant
