use Rattle.std.proofs.Common.{◌∙◌, ◌++◌, sym, ap, map}
use Rattle.kilim_mail_stamps.specs.Stamps.{joined}
use Rattle.kilim_mail_stamps.proofs.Joins.{joined_on, joined_all}
use Rattle.kilim_mail_stamps.proofs.merging.join.Goals as goal

pub loop-part-init : goal.loop-part-init
loop-part-init c = ap (λ xs. xs ++ joined (map (λ p. p.items) c.into_iter-part-iterator.result.rest.items)) c.new-all.ensures.items ∙ ap (λ ps. joined (map (λ p. p.items) ps)) c.into_iter-part-iterator.ensures.into_iter_gives.0

pub loop-part-preserved : goal.loop-part-preserved
loop-part-preserved c = joined_on (λ p. p.items) _ _ _ c.in-Some.part _ c.next.new.self.rest.items c.in-Some.ensures.steps.0 c.in-Ok.ensures.items c.loop-part.invariant

pub returns : goal.returns
returns c = joined_all (λ p. p.items) _ _ c.loop-part.part-iterator.rest.items (sym c.loop-part.part-iterator.rest.ok.0 ∙ c.in-None.ensures.steps.0) c.loop-part.invariant
