use Rattle.std.proofs.Common.{refl, sym, ◌∙◌}
use Rattle.kilim_link_spec.specs.Types.{type_in}
use Rattle.kilim_link_members.proofs.Appended.{one_more, not_there, all_made}
use Rattle.kilim_link_members.proofs.types.types_in.Goals as goal

pub returns-in-None : goal.returns-in-None
returns-in-None c = not_there (type_in c.args.world.now) c.args.texts.now c.args.texts.now c.loop-text.text-index c.text-item.result c.loop-text.types refl c.loop-text-test.true c.text-item.is c.loop-text.invariant (sym c.in-None.is ∙ c.type_in.ensures)

pub loop-text-preserved : goal.loop-text-preserved
loop-text-preserved c = one_more (type_in c.args.world.now) c.args.texts.now c.args.texts.now c.loop-text.text-index c.text-item.result c.loop-text.types refl c.loop-text-test.true c.text-item.is c.loop-text.invariant c.in-Some.ty c.push.new.self (sym c.in-Some.is ∙ c.type_in.ensures) c.in-Ok.ensures.ok

pub returns : goal.returns
returns c = all_made (type_in c.args.world.now) c.args.texts.now c.args.texts.now c.loop-text.text-index c.loop-text.types refl c.loop-text-test.false c.loop-text.invariant
