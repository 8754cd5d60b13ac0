use Rattle.kilim_link_faults.proofs.Files.{few_classes}
use Rattle.kilim_link_faults.proofs.first.first_fault.Goals as goal

pub new-requires : goal.new-requires
new-requires c = record { few = few_classes c.args.world.now c.args.files.now c.args.form c.requires.few c.requires.whole }
