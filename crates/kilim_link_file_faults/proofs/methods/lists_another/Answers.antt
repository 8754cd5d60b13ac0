use Rattle.std.proofs.Common.{◌∙◌}
use Rattle.kilim_link_file_faults.proofs.Interfaces.{others}
use Rattle.kilim_link_file_faults.proofs.methods.lists_another.Goals as goal

pub returns : goal.returns
returns c = c.any_other_index.ensures ∙ others c.args.file.now.constant_pool c.args.file.now.interfaces
