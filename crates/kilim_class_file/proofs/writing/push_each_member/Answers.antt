use Rattle.std.proofs.Common.{◌∙◌, ◌++◌, ap}
use Rattle.std.proofs.lemmas.List.{take_all}
use Rattle.std.specs.List.{flat_map}
use Rattle.kilim_lemmas.proofs.Lists.{of_item}
use Rattle.kilim_class_file.specs.Text.{member_text}
use Rattle.kilim_class_file.specs.Writing.{MemberIsSized}
use Rattle.kilim_class_file.proofs.Loops.{behind}
use Rattle.kilim_class_file.proofs.writing.push_each_member.Goals as goal

pub loop-member-preserved : goal.loop-member-preserved
loop-member-preserved c =
    behind member_text c.args.into.now.items c.loop-member.into.items c.push_member.new.into.items c.args.members.now c.loop-member.member-index c.member-item.result _
    c.loop-member-test.true c.member-item.is c.loop-member.invariant c.in_ok-push_member.ensures

pub returns : goal.returns
returns c = c.loop-member.invariant ∙ ap (λ xs. c.args.into.now.items ++ flat_map member_text xs) (take_all c.loop-member.member-index c.args.members.now c.loop-member-test.false)

pub push_member-requires : goal.push_member-requires
push_member-requires c = of_item MemberIsSized c.args.members.now c.loop-member.member-index c.member-item.result _ c.member-item.is c.requires c.loop-member-test.true
