use Rattle.std.proofs.Common.{[], sym, ap, ◌∙◌, reverse, take, List}
use Rattle.std.specs.Prelude.{◌||◌, ◌&&◌, Bool}
use Rattle.std.specs.Str.{bytes_eq}
use Rattle.std.proofs.lemmas.List.{at_drop_all}
use Rattle.kilim_class_file.specs.declared.class_file.MemberInfo.{MemberInfo}
use Rattle.kilim_link_spec.specs.Faults.{repeated, same_member}
use Rattle.kilim_link_spec.specs.Linked.{first_of}
use Rattle.kilim_link_spec.specs.World.{member_name}
use Rattle.kilim_link_faults.specs.Seen.{met_in}
use Rattle.kilim_link_faults.proofs.Firsts.{reverse_at}
use Rattle.kilim_link_faults.proofs.Repeats.{found_again, is_fresh}
use Rattle.kilim_link_faults.proofs.twice.first_repeated.Goals as goal

pub returns-then-has_seen : goal.returns-then-has_seen
returns-then-has_seen c =
    let x = c.member-item.result in
    let file = c.args.file.now in
    found_again file c.args.members.now c.loop-member.member-index x (first_of (repeated (same_member file) [] c.args.members.now)) c.has_seen.result c.loop-member-test.true c.member-item.is c.loop-member.invariant.0
    (c.has_seen.ensures ∙ (c.loop-member.invariant.1 c.in-Ok.signature.name c.in-Ok.signature.descriptor
    ∙ (ap (λ k. met_in file (reverse (take c.loop-member.member-index c.args.members.now)) k c.in-Ok.signature.descriptor) c.in-Ok.ensures.name
    ∙ ap (met_in file (reverse (take c.loop-member.member-index c.args.members.now)) (member_name file x)) c.in-Ok.ensures.descriptor)))
    c.if-has_seen.true

pub loop-member-preserved : goal.loop-member-preserved
loop-member-preserved c =
    let x = c.member-item.result in
    let file = c.args.file.now in
    let front = reverse (take c.loop-member.member-index c.args.members.now) in (
      is_fresh file c.args.members.now c.loop-member.member-index x (first_of (repeated (same_member file) [] c.args.members.now)) c.has_seen.result c.loop-member-test.true c.member-item.is c.loop-member.invariant.0
          (c.has_seen.ensures ∙ (c.loop-member.invariant.1 c.in-Ok.signature.name c.in-Ok.signature.descriptor
          ∙ (ap (λ k. met_in file front k c.in-Ok.signature.descriptor) c.in-Ok.ensures.name
          ∙ ap (met_in file front (member_name file x)) c.in-Ok.ensures.descriptor)))
          c.if-has_seen.false,
      λ name descriptor.
          c.in-Ok-add_seen.ensures name descriptor
          ∙ (ap (λ (b : Bool). (bytes_eq name c.in-Ok.signature.name && bytes_eq descriptor c.in-Ok.signature.descriptor) || b) (c.loop-member.invariant.1 name descriptor)
          ∙ (ap (λ k. (bytes_eq name k && bytes_eq descriptor c.in-Ok.signature.descriptor) || met_in file front name descriptor) c.in-Ok.ensures.name
          ∙ (ap (λ k. (bytes_eq name (member_name file x) && bytes_eq descriptor k) || met_in file front name descriptor) c.in-Ok.ensures.descriptor
          ∙ ap (λ (ms : List MemberInfo). met_in file ms name descriptor) (sym (reverse_at c.args.members.now c.loop-member.member-index x c.loop-member-test.true c.member-item.is))))),
    )

pub returns : goal.returns
returns c =
    let front = reverse (take c.loop-member.member-index c.args.members.now) in
    sym (at_drop_all (λ (ms : List MemberInfo). first_of (repeated (same_member c.args.file.now) front ms)) c.args.members.now c.loop-member.member-index c.loop-member-test.false) ∙ c.loop-member.invariant.0
