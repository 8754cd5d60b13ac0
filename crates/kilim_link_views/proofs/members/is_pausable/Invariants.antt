use Rattle.std.proofs.Common.{◌≡◌, drop}
use Rattle.std.specs.List.{list_any}
use Rattle.kilim_link_spec.specs.World.{is_pausable, lists_pausable}
use Rattle.kilim_link_views.proofs.members.is_pausable.Given as goal

abbrev pub invariant-loop-attribute : goal.invariant-loop-attribute
invariant-loop-attribute l = list_any (λ a. lists_pausable l.pool a.info) (drop l.attribute-index l.method.attributes) ≡ is_pausable l.pool l.method
