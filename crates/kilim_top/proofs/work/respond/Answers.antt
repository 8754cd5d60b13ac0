use Rattle.std.proofs.Common.{Err, ap, refl, subst, sym}
use Rattle.kilim_outside.specs.declared.sink.SinkFault.{SinkFault}
use Rattle.kilim_command.specs.grammar.Parts.{meant}
use Rattle.kilim_outside.specs.written.Written.{HaveOwnPaths}
use Rattle.kilim_top.specs.Outcome.{InFiles, InText}
use Rattle.kilim_top.proofs.Responses.{reply_as, reply_paths, responded_short, responded_unwritten, responded_whole}
use Rattle.kilim_top.proofs.work.respond.Goals as goal

pub write_files-requires : goal.write_files-requires
write_files-requires g c =
    subst HaveOwnPaths (sym c.as_slice.ensures.value) (reply_paths (meant c.args.asked.now) c.args.bytes.now c.args.reply.now.status c.args.reply.now.files.items c.args.reply.now.text.items c.requires)

pub returns-in-Ok-write_all : goal.returns-in-Ok-write_all
returns-in-Ok-write_all g c =
    responded_whole (meant c.args.asked.now) c.args.bytes.now c.as_slice.result.now c.as_slice-in-Ok.result.now _ _ c.never_both.ensures c.one_program_of.ensures c.never_weavable_and_reported.ensures c.never_whole_and_reported.ensures c.woven_is_not_reported.ensures c.never_begun_and_reported.ensures
    c.never_saved_and_reported.ensures c.never_gone_on_and_reported.ensures c.args.reply.now.status
    (reply_as (meant c.args.asked.now) c.args.bytes.now c.args.reply.now.status _ _ _ _ c.as_slice.ensures.value c.as_slice-in-Ok.ensures.value c.requires) c.in-Ok.ensures.all c.in-Ok.ensures.quiet c.in-Ok-write_all.ensures.quiet
    c.in-Ok-write_all.ensures.ok c.in-Ok.ensures.none

pub returns-in-Err-Failed-write_all : goal.returns-in-Err-Failed-write_all
returns-in-Err-Failed-write_all g c =
    responded_unwritten (meant c.args.asked.now) c.args.bytes.now c.as_slice.result.now c.as_slice-in-Ok.result.now _ _ c.args.reply.now.status
    (reply_as (meant c.args.asked.now) c.args.bytes.now c.args.reply.now.status _ _ _ _ c.as_slice.ensures.value c.as_slice-in-Ok.ensures.value c.requires)
    (InText (record { were_made = c.in-Ok.ensures.all; failed = c.in-Ok.ensures.quiet; written = c.in-Err-Failed-write_all.ensures.err }))
    (c.in-Err-Failed-write_all.ensures.cause.failed (ap (λ (f : SinkFault). Err f) c.in-Err-Failed-write_all.field-0-is)) c.in-Ok.ensures.none

pub returns-in-Err-NoMemory-write_all : goal.returns-in-Err-NoMemory-write_all
returns-in-Err-NoMemory-write_all g c =
    responded_short (meant c.args.asked.now) c.args.bytes.now c.as_slice.result.now c.as_slice-in-Ok.result.now _ _ c.args.reply.now.status
    (reply_as (meant c.args.asked.now) c.args.bytes.now c.args.reply.now.status _ _ _ _ c.as_slice.ensures.value c.as_slice-in-Ok.ensures.value c.requires)
    (InText (record { were_made = c.in-Ok.ensures.all; failed = c.in-Ok.ensures.quiet; written = c.in-Err-NoMemory-write_all.ensures.err })) c.in-Ok.ensures.none

pub returns-in-Err-Failed : goal.returns-in-Err-Failed
returns-in-Err-Failed g c =
    let stop = c.in-Err-Failed.ensures.stopped in
    responded_unwritten (meant c.args.asked.now) c.args.bytes.now c.as_slice.result.now c.args.reply.now.text.items _ _ c.args.reply.now.status
    (reply_as (meant c.args.asked.now) c.args.bytes.now c.args.reply.now.status _ _ _ _ c.as_slice.ensures.value refl c.requires)
    (InFiles (record { stopped = stop.0; written = refl; faults = refl })) (stop.1 c.in-Err-Failed.field-0-is) c.in-Err-Failed.ensures.none

pub returns-in-Err-NoMemory : goal.returns-in-Err-NoMemory
returns-in-Err-NoMemory g c =
    responded_short (meant c.args.asked.now) c.args.bytes.now c.as_slice.result.now c.args.reply.now.text.items _ _ c.args.reply.now.status
    (reply_as (meant c.args.asked.now) c.args.bytes.now c.args.reply.now.status _ _ _ _ c.as_slice.ensures.value refl c.requires)
    (InFiles (record { stopped = c.in-Err-NoMemory.ensures.stopped.0; written = refl; faults = refl })) c.in-Err-NoMemory.ensures.none
