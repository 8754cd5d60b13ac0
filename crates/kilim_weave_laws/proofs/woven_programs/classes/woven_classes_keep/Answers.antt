use Rattle.kilim_weave_laws.proofs.woven_programs.classes.Together.{woven_classes}
use Rattle.kilim_weave_laws.proofs.woven_programs.classes.woven_classes_keep.Goals as goal

pub returns : goal.returns
returns c = woven_classes
