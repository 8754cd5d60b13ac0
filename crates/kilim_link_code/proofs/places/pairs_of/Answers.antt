use Rattle.std.proofs.Common.{refl, sym, ◌∙◌}
use Rattle.kilim_link_spec.specs.Code.{pair_in}
use Rattle.kilim_link_code.proofs.Loops.{one_more, not_there, all_made}
use Rattle.kilim_link_code.proofs.places.pairs_of.Goals as goal

pub returns-in-Ok-None : goal.returns-in-Ok-None
returns-in-Ok-None c = not_there pair_in c.args.pairs.now c.loop-pair.pair-index _ _ c.loop-pair.found c.loop-pair-test.true refl c.loop-pair.invariant (sym c.in-Ok-None.field-0-is ∙ c.in-Ok-None.ensures)

pub loop-pair-preserved : goal.loop-pair-preserved
loop-pair-preserved c = one_more pair_in c.args.pairs.now c.loop-pair.pair-index _ _ c.loop-pair.found c.loop-pair-test.true refl c.loop-pair.invariant c.in-Ok-Some.made c.push.new.self (sym c.in-Ok-Some.field-0-is ∙ c.in-Ok-Some.ensures) c.in-Ok.ensures.ok

pub returns : goal.returns
returns c = all_made pair_in c.args.pairs.now c.loop-pair.pair-index c.loop-pair.found c.loop-pair-test.false c.loop-pair.invariant
