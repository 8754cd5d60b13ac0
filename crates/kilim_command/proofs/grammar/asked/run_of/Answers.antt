use Rattle.std.proofs.Common.{map, ◌∙◌}
use Rattle.std.specs.String.{string_bytes}
use Rattle.kilim_command.proofs.grammar.Mapped.{run_refused, run_taken, with_same}
use Rattle.kilim_command.proofs.grammar.Split.{few_files}
use Rattle.kilim_command.proofs.grammar.asked.run_of.Goals as goal

pub returns-then-not-are_well-clause-request : goal.returns-then-not-are_well-clause-request
returns-then-not-are_well-clause-request c =
    run_refused (map string_bytes c.args.options.now) (map string_bytes c.args.files.now) (map string_bytes c.args.behind.now) c.are_well.result c.are_well.ensures.well c.if-not-are_well.true

pub returns-clause-request : goal.returns-clause-request
returns-clause-request c =
    run_taken (map string_bytes c.args.options.now) (map string_bytes c.args.files.now) (map string_bytes c.args.behind.now) c.are_well.result _ c.are_well.ensures.well c.if-not-are_well.false
    (c.run_with.ensures.request ∙ with_same (map string_bytes c.args.files.now) _ _ _ _ _ _ _ _ c.text_in-main.ensures c.number_or-workers.ensures.number c.number_or-steps.ensures.number c.args_in.ensures)

pub returns-clause-few : goal.returns-clause-few
returns-clause-few c = few_files string_bytes c.run_with.result c.args.files.now (c.are_well.ensures.few c.if-not-are_well.false) c.run_with.ensures.files
