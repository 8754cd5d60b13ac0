use Rattle.std.proofs.Common.{◌≡◌, List, map, IfOk, subst}
use Rattle.kilim_program.specs.Program.{Program}
use Rattle.kilim_link_spec.specs.World.{view_of_built_in}
use Rattle.kilim_link_spec.specs.declared.view.ClassView.{ClassView}
use Rattle.kilim_link_views.proofs.built_in.built_in_views.Goals as goal

pub returns : goal.returns
returns c = subst (λ (p : Program). IfOk c.views_of-views.result (λ (views : List ClassView). views ≡ map (view_of_built_in p) p.classes)) c.in-Ok.ensures c.views_of-views.ensures
