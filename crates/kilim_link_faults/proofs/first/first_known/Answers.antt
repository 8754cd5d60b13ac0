use Rattle.std.proofs.Common.{sym, ◌∙◌}
use Rattle.kilim_link_spec.specs.Faults.{first_fault}
use Rattle.kilim_link_faults.proofs.Files.{starts, few_classes, in_own_form, stops_at, goes_on, ends}
use Rattle.kilim_link_faults.proofs.first.first_known.Goals as goal

pub loop-i-init : goal.loop-i-init
loop-i-init c = starts c.args.world.now c.args.files.now c.args.form c.requires.whole

pub fault_in-requires : goal.fault_in-requires
fault_in-requires c = record { few = few_classes c.args.world.now c.args.files.now c.args.form c.requires.few c.requires.whole; whole = in_own_form c.args.world.now c.args.files.now c.args.form c.requires.whole; known = c.requires.known }

pub returns-in-Ok-Some : goal.returns-in-Ok-Some
returns-in-Ok-Some c =
    stops_at c.args.world.now c.args.files.now c.loop-i.i c.index-files-i.result (first_fault c.args.files.now c.args.form) c.loop-i-test.true c.index-files-i.is c.loop-i.invariant c.in-Ok-Some.fault (sym c.in-Ok-Some.field-0-is ∙ c.in-Ok-Some.ensures)

pub loop-i-preserved : goal.loop-i-preserved
loop-i-preserved c =
    goes_on c.args.world.now c.args.files.now c.loop-i.i c.index-files-i.result (first_fault c.args.files.now c.args.form) c.loop-i-test.true c.index-files-i.is c.loop-i.invariant (sym c.in-Ok-None.field-0-is ∙ c.in-Ok-None.ensures)

pub returns : goal.returns
returns c = ends c.args.world.now c.args.files.now c.loop-i.i (first_fault c.args.files.now c.args.form) c.loop-i-test.false c.loop-i.invariant
