use Rattle.std.proofs.Common.{map, subst, sym}
use Rattle.std.specs.String.{string_bytes}
use Rattle.kilim_command.specs.grammar.Parts.{numbers_of}
use Rattle.kilim_top.proofs.Stopping.{refused_save, saved_ready}
use Rattle.kilim_top.proofs.answer.save_ready.Goals as goal

pub returns-in-Ok : goal.returns-in-Ok
returns-in-Ok g c =
    saved_ready c.accepted_files_are_isolated.ensures c.args.words.now.main.now c.args.words.now.image.now c.args.words.now.entries c.args.words.now.steps (numbers_of (map string_bytes c.args.words.now.args.now)) (map string_bytes c.args.words.now.files.now) c.args.files.now
    c.in_ok-start.start.limits c.in_ok-start.ensures.limits c.requires.few c.in-Ok.saved c.saved_ready.result c.in-Ok.ensures.saved c.saved_ready.ensures

pub returns : goal.returns
returns g c =
    refused_save c.accepted_files_are_isolated.ensures c.args.words.now.main.now c.args.words.now.image.now c.args.words.now.entries c.args.words.now.steps (numbers_of (map string_bytes c.args.words.now.args.now)) (map string_bytes c.args.words.now.files.now) c.args.files.now
    c.in_ok-start.start.limits c.in_ok-start.ensures.limits c.in-Err.refusal c.refused.result c.in-Err.ensures.report c.refused.ensures

pub save_files-made-requires-clause-same : goal.save_files-made-requires-clause-same
save_files-made-requires-clause-same g c κs within = c.requires.same

pub save_files-made-requires-clause-few : goal.save_files-made-requires-clause-few
save_files-made-requires-clause-few g c κs within = c.requires.few
