use Rattle.std.proofs.Common.{map}
use Rattle.std.specs.String.{string_bytes}
use Rattle.kilim_top.proofs.Replies.{refused_weave, woven_reply}
use Rattle.kilim_top.proofs.answer.weave_ready.Goals as goal

pub returns-in-Ok : goal.returns-in-Ok
returns-in-Ok c =
    woven_reply c.args.words.now.to.now (map string_bytes c.args.words.now.files.now) c.args.files.now c.in-Ok.output.files.items c.in-Ok.output.text.items c.accepted_files_are_isolated.ensures c.woven_is_served.ensures c.requires.few c.in-Ok.ensures.made

pub returns-in-Err : goal.returns-in-Err
returns-in-Err c = refused_weave c.args.words.now.to.now (map string_bytes c.args.words.now.files.now) c.args.files.now c.in-Err.refusal c.refused.result c.in-Err.ensures.report c.refused.ensures

pub weave_files-requires-clause-same : goal.weave_files-requires-clause-same
weave_files-requires-clause-same c = c.requires.same
