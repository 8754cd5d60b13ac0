use Rattle.std.proofs.Common.{ap, ◌∙◌}
use Rattle.std.specs.String.{string_bytes}
use Rattle.kilim_command.specs.grammar.Words.{is_file}
use Rattle.kilim_command.proofs.grammar.Loops.{fails, held_all, holds}
use Rattle.kilim_command.proofs.grammar.asked.all_files.Goals as goal

pub loop-file-preserved : goal.loop-file-preserved
loop-file-preserved c =
    holds (λ file. is_file (string_bytes file)) c.args.files.now c.loop-file.file-index c.file-item.result c.is_file.result c.loop-file-test.true c.file-item.is (c.is_file.ensures ∙ ap is_file c.as_str.ensures.value) c.loop-file.invariant c.if-not-is_file.false

pub returns-then-not-is_file : goal.returns-then-not-is_file
returns-then-not-is_file c =
    fails (λ file. is_file (string_bytes file)) c.args.files.now c.loop-file.file-index c.file-item.result c.is_file.result c.loop-file-test.true c.file-item.is (c.is_file.ensures ∙ ap is_file c.as_str.ensures.value) c.loop-file.invariant c.if-not-is_file.true

pub returns : goal.returns
returns c = held_all (λ file. is_file (string_bytes file)) c.args.files.now c.loop-file.file-index c.loop-file-test.false c.loop-file.invariant
