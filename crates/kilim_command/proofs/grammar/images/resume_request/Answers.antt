use Rattle.std.proofs.Common.{map}
use Rattle.std.specs.String.{string_bytes}
use Rattle.kilim_command.proofs.grammar.Mapped.{resume_refused, resume_taken}
use Rattle.kilim_command.proofs.grammar.images.resume_request.Goals as goal

pub returns-then-not-are_resume_options-clause-request : goal.returns-then-not-are_resume_options-clause-request
returns-then-not-are_resume_options-clause-request c =
    resume_refused (map string_bytes c.args.words.now) c.are_resume_options.result c.are_resume_options.ensures c.if-not-are_resume_options.true

pub returns-clause-request : goal.returns-clause-request
returns-clause-request c =
    resume_taken (map string_bytes c.args.words.now) c.are_resume_options.result _ _ _ c.are_resume_options.ensures c.if-not-are_resume_options.false c.resume_with.ensures.request c.image_in.ensures c.number_or.ensures.number
