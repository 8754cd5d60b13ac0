use Rattle.std.proofs.Common.{map}
use Rattle.std.specs.String.{string_bytes}
use Rattle.kilim_command.proofs.grammar.Mapped.{weave_refused, weave_taken}
use Rattle.kilim_command.proofs.grammar.Split.{few_files}
use Rattle.kilim_command.proofs.grammar.asked.weave_of.Goals as goal

pub returns-then-not-can_weave-clause-request : goal.returns-then-not-can_weave-clause-request
returns-then-not-can_weave-clause-request c =
    weave_refused (map string_bytes c.args.options.now) (map string_bytes c.args.files.now) c.can_weave.result c.can_weave.ensures.can c.if-not-can_weave.true

pub returns-clause-request : goal.returns-clause-request
returns-clause-request c =
    weave_taken (map string_bytes c.args.options.now) (map string_bytes c.args.files.now) c.can_weave.result _ _ c.can_weave.ensures.can c.if-not-can_weave.false c.text_in.ensures c.weave_with.ensures.request

pub returns-clause-few : goal.returns-clause-few
returns-clause-few c = few_files string_bytes c.weave_with.result c.args.files.now (c.can_weave.ensures.few c.if-not-can_weave.false) c.weave_with.ensures.files
