use Rattle.std.proofs.Common.{◌∙◌, ◌++◌, sym, ap, map}
use Rattle.kilim_mail_stamps.proofs.Joins.{mapped_on, mapped_all}
use Rattle.kilim_mail_stamps.proofs.merging.without_stamps.Goals as goal

pub loop-stamped-init : goal.loop-stamped-init
loop-stamped-init c = ap (λ xs. xs ++ map (λ s. s.entry) c.into_iter-stamped-iterator.result.rest.items) c.new-entries.ensures.items ∙ ap (λ ss. map (λ s. s.entry) ss) c.into_iter-stamped-iterator.ensures.into_iter_gives.0

pub loop-stamped-preserved : goal.loop-stamped-preserved
loop-stamped-preserved c = mapped_on (λ s. s.entry) _ _ _ c.in-Some.stamped _ c.next.new.self.rest.items c.in-Some.ensures.steps.0 c.in-Ok.ensures.items c.loop-stamped.invariant

pub returns : goal.returns
returns c = mapped_all (λ s. s.entry) _ _ c.loop-stamped.stamped-iterator.rest.items (sym c.loop-stamped.stamped-iterator.rest.ok.0 ∙ c.in-None.ensures.steps.0) c.loop-stamped.invariant
