use Rattle.std.proofs.Common.{◌++◌, map, refl}
use Rattle.std.proofs.Common.{option_map}
use Rattle.kilim_link_spec.specs.Types.{type_in}
use Rattle.kilim_link_spec.specs.Frames.{slot_of_type}
use Rattle.kilim_link_members.proofs.frames.Loops.{more, all_in}
use Rattle.kilim_link_members.proofs.frames.begin.push_arguments.Goals as goal

pub loop-text-preserved : goal.loop-text-preserved
loop-text-preserved c = more (λ f. option_map slot_of_type (type_in c.args.world.now f)) c.args.into.now c.loop-text.into c.push.new.self c.args.params.now c.loop-text.text-index c.text-item.result _ c.argument.result c.loop-text-test.true c.text-item.is c.loop-text.invariant c.argument.ensures c.in-Ok.ensures.ok

pub returns : goal.returns
returns c = all_in (λ fs. c.args.into.now ++ map (λ f. option_map slot_of_type (type_in c.args.world.now f)) fs) c.loop-text.into c.args.params.now c.args.params.now c.loop-text.text-index refl c.loop-text-test.false c.loop-text.invariant
