use Rattle.std.proofs.Common.{◌<◌, ◌++◌, List, drop, length, get_or, ap, subst, ◌∙◌, ◌≤◌, refl}
use Rattle.std.specs.List.{flat_map}
use Rattle.kilim_lemmas.proofs.Walks.{all_made}
use Rattle.kilim_class_file.specs.declared.class_file.MemberInfo.{MemberInfo}
use Rattle.kilim_weave_file_spec.specs.WovenFile.{member_needs, pairs_of}
use Rattle.kilim_weave_file.proofs.Loops.{no_counted, no_plain, no_woven, paired}
use Rattle.kilim_weave_file.proofs.weaving.push_members.Goals as goal

pub loop-info-preserved : goal.loop-info-preserved
loop-info-preserved c =
    let f = member_needs c.args.program.now c.args.file.now in
    let same = c.as_slice-info-items.ensures in
    paired f c.args.file.now.methods c.loop-info.ps.now c.loop-info.ms.now c.loop-info.cs.now c.loop-info.info-index c.info-item.result c.info-item.result c.plain-item.result c.method-item.result c.as_slice.result.now c.marks-item.result
    c.loop-info.into c.push_member.new.into (c.args.into.now ++ flat_map f (pairs_of c.args.file.now.methods c.args.plains.now c.args.wovens.now c.args.counted.now))
    (subst (λ (xs : List MemberInfo). c.loop-info.info-index < length xs) same c.loop-info-test.true) (c.info-item.is ∙ ap (λ (xs : List MemberInfo). get_or xs c.loop-info.info-index c.info-item.result) same)
    c.in-len1-up.len_at_least c.plain-item.is c.in-len1-up-ms.len_at_least c.method-item.is c.in-len1-up-cs.len_at_least (c.as_slice.ensures ∙ c.marks-item.is) c.in-Ok.ensures c.loop-info.invariant

pub returns : goal.returns
returns c =
    let f = member_needs c.args.program.now c.args.file.now in
    all_made (λ (infos : List MemberInfo). flat_map f (pairs_of infos c.loop-info.ps.now c.loop-info.ms.now c.loop-info.cs.now)) c.loop-info.into
    (c.args.into.now ++ flat_map f (pairs_of c.args.file.now.methods c.args.plains.now c.args.wovens.now c.args.counted.now)) c.args.file.now.methods c.loop-info.info-index refl
    (subst (λ (xs : List MemberInfo). length xs ≤ c.loop-info.info-index) c.as_slice-info-items.ensures c.loop-info-test.false) c.loop-info.invariant

pub returns-in_default : goal.returns-in_default
returns-in_default c =
    let f = member_needs c.args.program.now c.args.file.now in
    no_plain f (drop c.loop-info.info-index c.args.file.now.methods) c.loop-info.ps.now c.loop-info.ms.now c.loop-info.cs.now c.loop-info.into
    (c.args.into.now ++ flat_map f (pairs_of c.args.file.now.methods c.args.plains.now c.args.wovens.now c.args.counted.now)) c.in_default.len_below c.loop-info.invariant

pub returns-in_default-ms : goal.returns-in_default-ms
returns-in_default-ms c =
    let f = member_needs c.args.program.now c.args.file.now in
    no_woven f (drop c.loop-info.info-index c.args.file.now.methods) c.loop-info.ps.now c.loop-info.ms.now c.loop-info.cs.now c.loop-info.into
    (c.args.into.now ++ flat_map f (pairs_of c.args.file.now.methods c.args.plains.now c.args.wovens.now c.args.counted.now)) c.in_default-ms.len_below c.loop-info.invariant

pub returns-in_default-cs : goal.returns-in_default-cs
returns-in_default-cs c =
    let f = member_needs c.args.program.now c.args.file.now in
    no_counted f (drop c.loop-info.info-index c.args.file.now.methods) c.loop-info.ps.now c.loop-info.ms.now c.loop-info.cs.now c.loop-info.into
    (c.args.into.now ++ flat_map f (pairs_of c.args.file.now.methods c.args.plains.now c.args.wovens.now c.args.counted.now)) c.in_default-cs.len_below c.loop-info.invariant
