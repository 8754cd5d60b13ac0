use Rattle.std.proofs.Common.{Err, ap, inl, refl}
use Rattle.kilim_outside.specs.declared.folder.FolderFault.{FolderFault}
use Rattle.kilim_command.specs.grammar.Parts.{meant}
use Rattle.kilim_command.specs.grammar.Words.{files_read}
use Rattle.kilim_top.proofs.Ends.{not_read, read_short, short}
use Rattle.kilim_top.proofs.TopLaws.{many_read, responded, same_outside, were_read_as}
use Rattle.kilim_top.proofs.work.work_with.Goals as goal

pub reply_with-requires-clause-few : goal.reply_with-requires-clause-few
reply_with-requires-clause-few g c = λ κs asked.
    c.requires

pub reply_with-requires-clause-same : goal.reply_with-requires-clause-same
reply_with-requires-clause-same g c = λ κs asked.
    many_read (g.F.Folder.contents c.args.files.now) (files_read (meant c.args.asked.now)) (files_read (meant c.args.asked.now)) c.in-Ok.read c.as_slice-bytes.result.now refl c.as_slice-bytes.ensures c.in-Ok.ensures.read

pub returns-in-Ok-reply_with-clause-promises : goal.returns-in-Ok-reply_with-clause-promises
returns-in-Ok-reply_with-clause-promises g c =
    responded (meant c.args.asked.now) c.as_slice-bytes.result.now _ _ _ c.respond.result (same_outside _ _ _ _ _ _ c.in-Ok.ensures.contents c.in-Ok.ensures.cause.ok)
    (were_read_as (g.F.Folder.contents c.args.files.now) (files_read (meant c.args.asked.now)) (files_read (meant c.args.asked.now)) c.in-Ok.read c.as_slice-bytes.result.now refl c.as_slice-bytes.ensures c.in-Ok.ensures.read) c.respond.ensures

pub returns-in-Ok-clause-promises : goal.returns-in-Ok-clause-promises
returns-in-Ok-clause-promises g c = short (meant c.args.asked.now) _ _ _ _ _ _ c.in-Ok.ensures.contents (inl c.in-Ok.ensures.cause.ok)

pub returns-in-Err-Failed-clause-promises : goal.returns-in-Err-Failed-clause-promises
returns-in-Err-Failed-clause-promises g c =
    not_read (meant c.args.asked.now) _ _ _ _ _ _ _ refl c.in-Err-Failed.ensures.contents (c.in-Err-Failed.ensures.cause.failed (ap (λ (f : FolderFault). Err f) c.in-Err-Failed.field-0-is))

pub returns-clause-promises : goal.returns-clause-promises
returns-clause-promises g c = read_short (meant c.args.asked.now) _ _ _ _ _ _ _ refl c.in-Err-NoMemory.ensures.contents c.in-Err-NoMemory.ensures.cause.own
