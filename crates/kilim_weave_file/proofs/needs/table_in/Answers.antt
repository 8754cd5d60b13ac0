use Rattle.std.proofs.Common.{◌∙◌, List, ap, sym}
use Rattle.std.proofs.lemmas.List.{drop_all}
use Rattle.std.specs.List.{filter_map}
use Rattle.kilim_class_attributes.specs.declared.attribute.CodeAttribute.{CodeAttribute}
use Rattle.kilim_weave_file_spec.specs.WovenFile.{head_of, table_name}
use Rattle.kilim_weave_file.proofs.needs.table_in.Goals as goal

pub returns : goal.returns
returns c = ap (λ (xs : List CodeAttribute). head_of (filter_map table_name xs)) (sym (drop_all c.loop-attribute.attribute-index c.args.attributes.now c.loop-attribute-test.false)) ∙ c.loop-attribute.invariant
