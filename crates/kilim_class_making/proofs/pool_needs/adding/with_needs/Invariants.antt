use Rattle.std.proofs.Common.{◌≡◌, drop}
use Rattle.kilim_class_making.specs.pool_needs.Adding.{with_needs}
use Rattle.kilim_class_making.proofs.pool_needs.adding.with_needs.Given as goal

abbrev pub invariant-loop-need : goal.invariant-loop-need
invariant-loop-need l = with_needs l.pool (drop l.need-index l.needs) ≡ with_needs l.initial.pool l.needs
