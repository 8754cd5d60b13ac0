use Rattle.std.specs.Option.{option_copied}
use Rattle.kilim_command.specs.grammar.Parts.{listed_word, meant}
use Rattle.kilim_command.proofs.Named.{all_read_then, first_failed, last_failed}
use Rattle.kilim_command.proofs.inputs.read_asked.Goals as goal

pub returns-in-Ok-clause-read : goal.returns-in-Ok-clause-read
returns-in-Ok-clause-read g c =
    all_read_then (meant c.args.asked.now) _ _ _ (listed_word (option_copied c.other.result)) c.in-Ok.read c.read_behind.result c.files.ensures c.other.ensures c.in-Ok.ensures.contents c.in-Ok.ensures.read c.read_behind.ensures.read

pub returns-in-Ok-clause-cause : goal.returns-in-Ok-clause-cause
returns-in-Ok-clause-cause g c =
    last_failed (meant c.args.asked.now) (listed_word (option_copied c.other.result)) _ _ _ c.read_behind.result c.other.ensures c.in-Ok.ensures.cause.ok c.read_behind.ensures.cause

pub returns-in-Err-clause-cause : goal.returns-in-Err-clause-cause
returns-in-Err-clause-cause g c = first_failed (meant c.args.asked.now) _ _ _ c.in-Err.fault c.files.ensures c.in-Err.ensures.cause
