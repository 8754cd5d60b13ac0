use Rattle.kilim_command.proofs.grammar.Texts.{behind_text}
use Rattle.kilim_command.proofs.grammar.numbers.value_behind.Goals as goal

pub returns : goal.returns
returns c = behind_text c.args.front.now c.args.word.now c.strip_prefix.result c.strip_prefix.ensures.cases
