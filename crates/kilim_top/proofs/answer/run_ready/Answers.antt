use Rattle.std.proofs.Common.{map}
use Rattle.std.specs.String.{string_bytes}
use Rattle.kilim_command.specs.grammar.Parts.{numbers_of}
use Rattle.kilim_top.proofs.Replies.{ready_run, refused_run}
use Rattle.kilim_top.proofs.answer.run_ready.Goals as goal

pub returns-in-Ok : goal.returns-in-Ok
returns-in-Ok c =
    ready_run c.accepted_files_are_isolated.ensures c.woven_is_served.ensures c.args.files.now c.requires.few c.args.words.now.main.now c.args.words.now.workers c.args.words.now.steps (numbers_of (map string_bytes c.args.words.now.args.now))
    (map string_bytes c.args.words.now.files.now) c.in_ok-start.start.main.items c.in_ok-start.start.limits c.in-Ok.program c.program_ready.result c.in_ok-start.ensures.main c.in_ok-start.ensures.limits c.in-Ok.ensures.woven c.program_ready.ensures

pub returns-in-Err : goal.returns-in-Err
returns-in-Err c =
    refused_run c.args.words.now.main.now c.args.words.now.workers c.args.words.now.steps (numbers_of (map string_bytes c.args.words.now.args.now)) (map string_bytes c.args.words.now.files.now) c.args.files.now c.in-Err.refusal
    c.refused.result c.in-Err.ensures.report c.refused.ensures

pub woven_program-requires-clause-same : goal.woven_program-requires-clause-same
woven_program-requires-clause-same c = c.requires.same

pub woven_program-requires-clause-few : goal.woven_program-requires-clause-few
woven_program-requires-clause-few c = c.requires.few
