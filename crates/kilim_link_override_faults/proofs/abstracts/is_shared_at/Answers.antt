use Rattle.std.proofs.Common.{ap}
use Rattle.kilim_link_override_faults.specs.Parts.{is_so, is_shared}
use Rattle.kilim_link_override_faults.proofs.Lookups.{got_as}
use Rattle.kilim_link_override_faults.proofs.abstracts.is_shared_at.Goals as goal

pub returns-in-Some : goal.returns-in-Some
returns-in-Some c = ap (is_so is_shared) (got_as c.get.result _ (λ x. x.now) c.args.methods.now c.args.place c.in-Some.is c.get.ensures.lookup.3)

pub returns-in-None : goal.returns-in-None
returns-in-None c = ap (is_so is_shared) (got_as c.get.result _ (λ x. x.now) c.args.methods.now c.args.place c.in-None.is c.get.ensures.lookup.3)
