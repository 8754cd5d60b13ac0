use Rattle.std.proofs.Common.{arith, length, map, sym}
use Rattle.std.specs.String.{string_bytes}
use Rattle.std.proofs.lemmas.List.{length-map}
use Rattle.kilim_command.specs.grammar.Parts.{numbers_of}
use Rattle.kilim_top.proofs.Replies.{refused_replay}
use Rattle.kilim_top.proofs.answer.replay_ready.Goals as goal

pub returns : goal.returns
returns c =
    refused_replay c.args.words.now.main.now c.args.words.now.journal.now c.args.words.now.steps (numbers_of (map string_bytes c.args.words.now.args.now)) (map string_bytes c.args.words.now.files.now) c.args.files.now _ _ c.index-behind-0.result
    c.in_ok-start.start.main.items c.in_ok-start.start.limits (length c.args.words.now.files.now) (sym (length-map c.args.words.now.files.now string_bytes)) c.split_at.ensures.front c.split_at.ensures.back c.index-behind-0.is
    (omega (arith, c.requires.same, c.split_at.ensures.back_len)) c.in_ok-start.ensures.main c.in_ok-start.ensures.limits c.in-Err.refusal c.refused.result (rw c.as_slice.ensures at c.in-Err.ensures.report) c.refused.ensures
