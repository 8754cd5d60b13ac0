use Rattle.std.proofs.Common.{◌≡◌, drop}
use Rattle.std.specs.List.{list_any}
use Rattle.kilim_link_spec.specs.Qualified.{names_one}
use Rattle.kilim_link_world.specs.types.Params.{types_at, all_at}
use Rattle.kilim_link_world.proofs.types.marks.one_names.Given as goal

abbrev pub invariant-loop-attribute : goal.invariant-loop-attribute
invariant-loop-attribute l = list_any (λ lists. names_one (types_at l.at lists) l.text) (drop l.attribute-index l.attributes) ≡ names_one (all_at l.at l.attributes) l.text
