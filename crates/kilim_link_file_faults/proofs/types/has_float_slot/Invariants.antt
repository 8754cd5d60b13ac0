use Rattle.std.proofs.Common.{◌≡◌, drop}
use Rattle.std.specs.List.{list_any}
use Rattle.kilim_link_spec.specs.LeftOut.{is_float_mention}
use Rattle.kilim_link_file_faults.proofs.types.has_float_slot.Given as goal

abbrev pub invariant-loop-mention : goal.invariant-loop-mention
invariant-loop-mention l = list_any is_float_mention (drop l.mention-index l.mentions) ≡ list_any is_float_mention l.mentions
