use Rattle.kilim_class_file.specs.Text.{ClassFits}
use Rattle.kilim_weave_file_command.proofs.woven_files.Weaving.{all_there}
use Rattle.kilim_weave_file_command.proofs.woven_files.places.file_at.Goals as goal

pub returns-clause-fits : goal.returns-clause-fits
returns-clause-fits c = all_there ClassFits c.args.files.now c.args.at c.item_at.result.now c.requires.fit c.item_at.ensures
