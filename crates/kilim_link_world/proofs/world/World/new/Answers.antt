use Rattle.std.proofs.Common.{suc, ◌<◌, ◌^◌, List, sym, subst}
use Rattle.std.specs.Prelude.{sum_by}
use Rattle.kilim_link_spec.specs.declared.view.ClassView.{ClassView}
use Rattle.kilim_link_spec.specs.World.{world_of}
use Rattle.kilim_link_world.specs.Agrees.{method_count, field_count}
use Rattle.kilim_link_world.proofs.Counts.{methods_fit, fields_fit}
use Rattle.kilim_link_world.proofs.world.World.new.Goals as goal

pub of_views-requires-clause-methods_fit : goal.of_views-requires-clause-methods_fit
of_views-requires-clause-methods_fit c =
    subst (λ (vs : List ClassView). sum_by method_count vs < 2 ^ 32) (sym c.in-Ok.ensures) (methods_fit c.args.files.now c.args.form c.requires.few c.requires.sized)

pub of_views-requires-clause-fields_fit : goal.of_views-requires-clause-fields_fit
of_views-requires-clause-fields_fit c =
    subst (λ (vs : List ClassView). suc (sum_by field_count vs) < 2 ^ 32) (sym c.in-Ok.ensures) (fields_fit c.args.files.now c.args.form c.requires.few c.requires.sized)

pub returns : goal.returns
unfolding world_of
returns c = rw (← c.in-Ok.ensures) c.of_views.ensures
