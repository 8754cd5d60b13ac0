use Rattle.std.proofs.Common.{◌≡◌, drop}
use Rattle.std.specs.List.{flat_map}
use Rattle.kilim_link_spec.specs.Linked.{first_of}
use Rattle.kilim_link_spec.specs.Faults.{no_descriptors}
use Rattle.kilim_link_file_faults.proofs.descriptors.first_text.Given as goal

abbrev pub invariant-loop-mention : goal.invariant-loop-mention
invariant-loop-mention l = first_of (flat_map no_descriptors (drop l.mention-index l.mentions)) ≡ first_of (flat_map no_descriptors l.mentions)
