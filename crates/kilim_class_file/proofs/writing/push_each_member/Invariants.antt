use Rattle.std.proofs.Common.{◌≡◌, ◌++◌, take}
use Rattle.std.specs.List.{flat_map}
use Rattle.kilim_class_file.specs.Text.{member_text}
use Rattle.kilim_class_file.proofs.writing.push_each_member.Given as goal

abbrev pub invariant-loop-member : goal.invariant-loop-member
invariant-loop-member l = l.into.items ≡ l.fn.into.items ++ flat_map member_text (take l.member-index l.members)
