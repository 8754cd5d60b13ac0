use Rattle.std.proofs.Common.{map}
use Rattle.std.specs.String.{string_bytes}
use Rattle.kilim_command.proofs.grammar.Mapped.{demo_refused, demo_taken}
use Rattle.kilim_command.proofs.grammar.asked.demo_request.Goals as goal

pub returns-then-not-are_demo_options-clause-request : goal.returns-then-not-are_demo_options-clause-request
returns-then-not-are_demo_options-clause-request c =
    demo_refused (map string_bytes c.args.words.now) c.are_demo_options.result c.are_demo_options.ensures c.if-not-are_demo_options.true

pub returns-clause-request : goal.returns-clause-request
returns-clause-request c =
    demo_taken (map string_bytes c.args.words.now) c.are_demo_options.result _ _ _ c.are_demo_options.ensures c.if-not-are_demo_options.false c.demo_with.ensures.request c.demo_number.ensures c.number_or.ensures.number
