use Rattle.std.proofs.Common.{◌≡◌, ◌++◌, ◌∷◌, [], ◌∙◌, rules, arith}
use Rattle.std.specs.String.{string_bytes}
use Rattle.kilim_command.proofs.grammar.Mapped.{ints_on, ints_stop}
use Rattle.kilim_command.proofs.grammar.asked.integers.Goals as goal

pub loop-word-preserved : goal.loop-word-preserved
loop-word-preserved c =
    let pushed : c.push.new.self.items ≡ c.loop-word.ints.items ++ c.in-Some.n ∷ [] = search rules in
    ints_on string_bytes c.args.words.now c.loop-word.word-index c.word-item.result c.as_str.result.now c.in-Some.n c.loop-word.ints.items c.push.new.self.items c.word-item.is (omega (arith, c.loop-word-test.true, c.loop-word.auto.word-index-end)) c.as_str.ensures.value c.in-Some.ensures pushed c.loop-word.invariant

pub returns-in-None : goal.returns-in-None
returns-in-None c =
    c.new.ensures ∙ ints_stop string_bytes c.args.words.now c.loop-word.word-index c.word-item.result c.as_str.result.now c.loop-word.ints.items c.word-item.is (omega (arith, c.loop-word-test.true, c.loop-word.auto.word-index-end)) c.as_str.ensures.value c.in-None.ensures c.loop-word.invariant
