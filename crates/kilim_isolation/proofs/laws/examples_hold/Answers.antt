use Rattle.std.proofs.Common.{refl}
use Rattle.kilim_isolation.specs.Walks.{step}
use Rattle.kilim_isolation_graph.specs.Canonical.{canonical}
use Rattle.kilim_isolation_graph.specs.Entry.{entry_nodes}
use Rattle.kilim_isolation_rules.specs.Rules.{deed, moves, raised_deed, to_handler}
use Rattle.kilim_type_spec.specs.Step.{row, meets, special_fits}
use Rattle.kilim_program.specs.Fits.{fits_type}
use Rattle.kilim_program.specs.Lengths.{jump_targets, ends_path}
use Rattle.kilim_isolation.proofs.laws.examples_hold.Goals as goal

pub returns : goal.returns
unfolding fits_type step canonical entry_nodes deed moves raised_deed to_handler row meets special_fits jump_targets ends_path
returns c = record {
  put_then_use = refl;
  second_name = refl;
  cut_and_put = refl;
  into_itself = refl;
  cuttable_stored = refl;
  passed_twice = refl;
  new_message = refl;
  put_raises = refl;
  caught_before = refl;
  super_cuts = refl;
}
