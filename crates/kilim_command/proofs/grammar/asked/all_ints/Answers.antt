use Rattle.std.proofs.Common.{ap, ◌∙◌}
use Rattle.std.specs.String.{string_bytes}
use Rattle.kilim_command.specs.grammar.Parts.{is_int}
use Rattle.kilim_command.proofs.grammar.Loops.{fails, held_all, holds}
use Rattle.kilim_command.proofs.grammar.asked.all_ints.Goals as goal

pub loop-word-preserved : goal.loop-word-preserved
loop-word-preserved c =
    holds (λ word. is_int (string_bytes word)) c.args.words.now c.loop-word.word-index c.word-item.result c.is_int.result c.loop-word-test.true c.word-item.is (c.is_int.ensures ∙ ap is_int c.as_str.ensures.value) c.loop-word.invariant c.if-not-is_int.false

pub returns-then-not-is_int : goal.returns-then-not-is_int
returns-then-not-is_int c =
    fails (λ word. is_int (string_bytes word)) c.args.words.now c.loop-word.word-index c.word-item.result c.is_int.result c.loop-word-test.true c.word-item.is (c.is_int.ensures ∙ ap is_int c.as_str.ensures.value) c.loop-word.invariant c.if-not-is_int.true

pub returns : goal.returns
returns c = held_all (λ word. is_int (string_bytes word)) c.args.words.now c.loop-word.word-index c.loop-word-test.false c.loop-word.invariant
