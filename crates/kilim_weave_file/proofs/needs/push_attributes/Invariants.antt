use Rattle.std.proofs.Common.{◌≡◌, ◌++◌, drop}
use Rattle.std.specs.List.{flat_map}
use Rattle.kilim_class_attributes.specs.declared.attribute.Attribute.{Attribute}
use Rattle.kilim_weave_file_spec.specs.WovenFile.{info_needs}
use Rattle.kilim_weave_file.proofs.needs.push_attributes.Given as goal

abbrev pub invariant-loop-attribute : goal.invariant-loop-attribute
invariant-loop-attribute l =
    l.into ++ flat_map (λ (a : Attribute). info_needs l.program l.pool l.method l.counted a.info) (drop l.attribute-index l.attributes)
    ≡ l.fn.into ++ flat_map (λ (a : Attribute). info_needs l.program l.pool l.method l.counted a.info) l.attributes
