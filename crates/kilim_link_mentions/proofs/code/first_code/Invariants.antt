use Rattle.std.proofs.Common.{◌≡◌, drop}
use Rattle.std.specs.List.{filter_map}
use Rattle.kilim_link_spec.specs.Linked.{code_in, first_of}
use Rattle.kilim_link_mentions.proofs.code.first_code.Given as goal

abbrev pub invariant-loop-attribute : goal.invariant-loop-attribute
invariant-loop-attribute l = first_of (filter_map (λ a. code_in a.info) (drop l.attribute-index l.attributes)) ≡ first_of (filter_map (λ a. code_in a.info) l.attributes)
