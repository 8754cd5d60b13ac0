use Rattle.kilim_demo.proofs.Fits.{demo_fits, demo_is_short}
use Rattle.kilim_demo.proofs.laws.demo_fits.Goals as goal

pub returns-clause-fits : goal.returns-clause-fits
returns-clause-fits c = demo_fits c.class_file_is_spelled.ensures

pub returns-clause-short : goal.returns-clause-short
returns-clause-short c = demo_is_short
