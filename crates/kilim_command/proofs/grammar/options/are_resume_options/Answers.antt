use Rattle.std.specs.String.{string_bytes}
use Rattle.kilim_command.specs.grammar.Words.{is_resume_option}
use Rattle.kilim_command.proofs.grammar.Loops.{mapped_all, mapped_fails, mapped_holds}
use Rattle.kilim_command.proofs.grammar.options.are_resume_options.Goals as goal

pub loop-word-preserved : goal.loop-word-preserved
loop-word-preserved c =
    mapped_holds string_bytes is_resume_option c.args.words.now c.loop-word.word-index c.word-item.result c.as_str.result.now c.is_resume_option.result c.loop-word-test.true c.word-item.is c.as_str.ensures.value c.is_resume_option.ensures c.loop-word.invariant c.if-not-is_resume_option.false

pub returns-then-not-is_resume_option : goal.returns-then-not-is_resume_option
returns-then-not-is_resume_option c =
    mapped_fails string_bytes is_resume_option c.args.words.now c.loop-word.word-index c.word-item.result c.as_str.result.now c.is_resume_option.result c.loop-word-test.true c.word-item.is c.as_str.ensures.value c.is_resume_option.ensures c.loop-word.invariant c.if-not-is_resume_option.true

pub returns : goal.returns
returns c = mapped_all string_bytes is_resume_option c.args.words.now c.loop-word.word-index c.loop-word-test.false c.loop-word.invariant
