use Rattle.kilim_program.specs.Names.{method_at}
use Rattle.kilim_link_spec.specs.World.{declared_built_in}
use Rattle.kilim_link_views.proofs.Found.{found_step}
use Rattle.std.proofs.Common.{◌∙◌, ap, map}
use Rattle.std.proofs.lemmas.List.{take_all}
use Rattle.std.specs.List.{filter_map}
use Rattle.kilim_link_views.proofs.built_in.declared_methods.Goals as goal

pub loop-id-preserved : goal.loop-id-preserved
loop-id-preserved c = found_step (declared_built_in c.args.program.now) (method_at c.args.program.now) c.args.ids.now c.loop-id.id-index (record { 0 = 0 }) c.loop-id.methods c.push_declared.new.methods c.loop-id-test.true c.loop-id.invariant c.in-Ok.ensures

pub returns : goal.returns
returns c = c.loop-id.invariant ∙ ap (λ xs. map (declared_built_in c.args.program.now) (filter_map (method_at c.args.program.now) xs)) (take_all c.loop-id.id-index c.args.ids.now c.loop-id-test.false)
