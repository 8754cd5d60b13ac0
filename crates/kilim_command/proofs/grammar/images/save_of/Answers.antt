use Rattle.std.proofs.Common.{map, ◌∙◌}
use Rattle.std.specs.String.{string_bytes}
use Rattle.kilim_command.proofs.grammar.Mapped.{save_refused, save_taken, save_same}
use Rattle.kilim_command.proofs.grammar.Split.{few_files}
use Rattle.kilim_command.proofs.grammar.images.save_of.Goals as goal

pub returns-then-not-can_save-clause-request : goal.returns-then-not-can_save-clause-request
returns-then-not-can_save-clause-request c =
    save_refused (map string_bytes c.args.options.now) (map string_bytes c.args.files.now) (map string_bytes c.args.behind.now) c.can_save.result c.can_save.ensures.can c.if-not-can_save.true

pub returns-clause-request : goal.returns-clause-request
returns-clause-request c =
    save_taken (map string_bytes c.args.options.now) (map string_bytes c.args.files.now) (map string_bytes c.args.behind.now) c.can_save.result _ c.can_save.ensures.can c.if-not-can_save.false
    (c.save_with.ensures.request ∙ save_same (map string_bytes c.args.files.now) _ _ _ _ _ _ _ _ _ _ c.text_in-main.ensures c.image_in-image.ensures c.number_of-entries.ensures.number c.number_or-steps.ensures.number c.args_in.ensures)

pub returns-clause-few : goal.returns-clause-few
returns-clause-few c = few_files string_bytes c.save_with.result c.args.files.now (c.can_save.ensures.few c.if-not-can_save.false) c.save_with.ensures.files
