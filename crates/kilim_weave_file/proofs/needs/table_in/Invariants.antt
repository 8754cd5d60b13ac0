use Rattle.std.proofs.Common.{◌≡◌, drop}
use Rattle.std.specs.List.{filter_map}
use Rattle.kilim_weave_file_spec.specs.WovenFile.{head_of, table_name}
use Rattle.kilim_weave_file.proofs.needs.table_in.Given as goal

abbrev pub invariant-loop-attribute : goal.invariant-loop-attribute
invariant-loop-attribute l = head_of (filter_map table_name (drop l.attribute-index l.attributes)) ≡ head_of (filter_map table_name l.attributes)
