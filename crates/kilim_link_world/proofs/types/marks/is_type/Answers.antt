use Rattle.std.proofs.Common.{◌∙◌}
use Rattle.kilim_lemmas.proofs.Texts.{text_turned}
use Rattle.kilim_link_world.proofs.types.marks.is_type.Goals as goal

pub returns : goal.returns
returns c = c.is_text.ensures ∙ text_turned c.args.annotation.now c.args.text.now
