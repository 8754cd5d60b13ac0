use Rattle.std.proofs.Common.{ℕ, ◌+◌, ap, ◌∙◌, ◌≡◌, List, drop, arith}
use Rattle.std.proofs.lemmas.List.{drop_all}
use Rattle.std.specs.Prelude.{sum_by}
use Rattle.kilim_class_file.specs.declared.class_file.MemberInfo.{MemberInfo}
use Rattle.kilim_weave_file_sizes.specs.Parts.{measured}
use Rattle.kilim_weave_file_spec.specs.WovenFile.{MethodPair, pairs_of}
use Rattle.kilim_weave_file_sizes.proofs.Loops.{no_counted, no_plain, no_woven, paired}
use Rattle.kilim_weave_file_sizes.proofs.sizes.sum_over.Goals as goal

pub loop-info-preserved : goal.loop-info-preserved
loop-info-preserved c =
    paired (measured c.args.measure.now c.args.program.now) c.args.infos.now c.loop-info.ps.now c.loop-info.ms.now c.loop-info.cs.now c.loop-info.info-index c.info-item.result _ c.plain-item.result c.loop-info.sum c.in-Ok-plus.more
    (sum_by (λ (x : MethodPair). measured c.args.measure.now c.args.program.now x.info x.plain) (pairs_of c.args.infos.now c.args.plains.now c.args.wovens.now c.args.counted.now))
    c.loop-info-test.true c.info-item.is c.in-len1-up.len_at_least c.plain-item.is c.in-len1-up-ms.len_at_least c.in-len1-up-cs.len_at_least
    (c.in-Ok-plus.ensures ∙ ap (λ (n : ℕ). c.loop-info.sum + n) c.in-Ok.ensures) c.loop-info.invariant

pub returns : goal.returns
returns c =
    let size = λ (x : MethodPair). measured c.args.measure.now c.args.program.now x.info x.plain in
    let left : sum_by size (pairs_of (drop c.loop-info.info-index c.args.infos.now) c.loop-info.ps.now c.loop-info.ms.now c.loop-info.cs.now) ≡ 0 =
    ap (λ (infos : List MemberInfo). sum_by size (pairs_of infos c.loop-info.ps.now c.loop-info.ms.now c.loop-info.cs.now)) (drop_all c.loop-info.info-index c.args.infos.now c.loop-info-test.false) in
    omega (arith, left, c.loop-info.invariant)

pub returns-in_default : goal.returns-in_default
returns-in_default c =
    let size = λ (x : MethodPair). measured c.args.measure.now c.args.program.now x.info x.plain in
    let infos = drop c.loop-info.info-index c.args.infos.now in
    let none : sum_by size (pairs_of infos c.loop-info.ps.now c.loop-info.ms.now c.loop-info.cs.now) ≡ 0 = ap (sum_by size) (no_plain infos c.loop-info.ps.now c.loop-info.ms.now c.loop-info.cs.now c.in_default.len_below) in
    omega (arith, none, c.loop-info.invariant)

pub returns-in_default-ms : goal.returns-in_default-ms
returns-in_default-ms c =
    let size = λ (x : MethodPair). measured c.args.measure.now c.args.program.now x.info x.plain in
    let infos = drop c.loop-info.info-index c.args.infos.now in
    let none : sum_by size (pairs_of infos c.loop-info.ps.now c.loop-info.ms.now c.loop-info.cs.now) ≡ 0 = ap (sum_by size) (no_woven infos c.loop-info.ps.now c.loop-info.ms.now c.loop-info.cs.now c.in_default-ms.len_below) in
    omega (arith, none, c.loop-info.invariant)

pub returns-in_default-cs : goal.returns-in_default-cs
returns-in_default-cs c =
    let size = λ (x : MethodPair). measured c.args.measure.now c.args.program.now x.info x.plain in
    let infos = drop c.loop-info.info-index c.args.infos.now in
    let none : sum_by size (pairs_of infos c.loop-info.ps.now c.loop-info.ms.now c.loop-info.cs.now) ≡ 0 = ap (sum_by size) (no_counted infos c.loop-info.ps.now c.loop-info.ms.now c.loop-info.cs.now c.in_default-cs.len_below) in
    omega (arith, none, c.loop-info.invariant)
