use Rattle.std.proofs.Common.{◌≡◌, filter, drop}
use Rattle.kilim_link_spec.specs.Linked.{first_of}
use Rattle.kilim_link_faults.specs.Parts.{holds_badly}
use Rattle.kilim_link_faults.proofs.fields.first_held_badly.Given as goal

abbrev pub invariant-loop-field : goal.invariant-loop-field
invariant-loop-field l = first_of (filter (holds_badly l.world l.file l.class) (drop l.field-index l.fields)) ≡ first_of (filter (holds_badly l.world l.file l.class) l.fields)
