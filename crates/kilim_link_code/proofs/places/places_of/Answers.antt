use Rattle.std.proofs.Common.{refl, sym, ◌∙◌}
use Rattle.kilim_link_spec.specs.Code.{place_of}
use Rattle.kilim_link_code.proofs.Loops.{one_more, not_there, all_made}
use Rattle.kilim_link_code.proofs.places.places_of.Goals as goal

pub returns-in-Ok-None : goal.returns-in-Ok-None
returns-in-Ok-None c = not_there place_of c.args.targets.now c.loop-to.to-index _ _ c.loop-to.places c.loop-to-test.true refl c.loop-to.invariant (sym c.in-Ok-None.field-0-is ∙ c.in-Ok-None.ensures)

pub loop-to-preserved : goal.loop-to-preserved
loop-to-preserved c = one_more place_of c.args.targets.now c.loop-to.to-index _ _ c.loop-to.places c.loop-to-test.true refl c.loop-to.invariant c.in-Ok-Some.place c.push.new.self (sym c.in-Ok-Some.field-0-is ∙ c.in-Ok-Some.ensures) c.in-Ok.ensures.ok

pub returns : goal.returns
returns c = all_made place_of c.args.targets.now c.loop-to.to-index c.loop-to.places c.loop-to-test.false c.loop-to.invariant
