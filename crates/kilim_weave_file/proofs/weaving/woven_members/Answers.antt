use Rattle.std.proofs.Common.{◌≡◌, ◌<◌, ◌+◌, ◌∷◌, ◌∙◌, ap, arith, length, refl}
use Rattle.kilim_weave_file.proofs.Pairs.{length_more, members_more}
use Rattle.kilim_weave_file.proofs.weaving.woven_members.Goals as goal

pub loop-info-init : goal.loop-info-init
loop-info-init c =
    let all = ap length (c.into_iter-info-iterator.ensures.into_iter_gives.0 ∙ c.into_vec-info-items.ensures) in
    (refl, c.new-all.ensures, omega (arith, all))

pub loop-info-preserved : goal.loop-info-preserved
loop-info-preserved c =
    let left = ap length c.in-Some.ensures.steps.0 in
    let all = c.loop-info.invariant.2 in (
      length_more c.loop-info.yielded c.in-Some.info c.loop-info.at c.loop-info.invariant.0,
      c.in-Ok-push.ensures.ok
          ∙ members_more c.args.program.now c.args.file.now c.args.pool.now c.loop-info.yielded c.in-Some.info c.args.plains.now c.args.wovens.now c.args.counted.now c.loop-info.all c.in-Ok.member c.loop-info.at
          c.method_get-plain.result.now c.method_get-method.result.now c.marks_get-marks.result.now
          c.loop-info.invariant.0 c.method_get-plain.ensures c.method_get-method.ensures c.marks_get-marks.ensures (rw c.as_slice.ensures at c.in-Ok.ensures) c.loop-info.invariant.1,
      omega (arith, left, all),
    )

pub method_get-plain-requires : goal.method_get-plain-requires
method_get-plain-requires c =
    let left = ap length c.in-Some.ensures.steps.0 in
    let all = c.loop-info.invariant.2 in
    let same = c.requires.plain in
    omega (arith, left, all, same)

pub method_get-method-requires : goal.method_get-method-requires
method_get-method-requires c =
    let left = ap length c.in-Some.ensures.steps.0 in
    let all = c.loop-info.invariant.2 in
    let same = c.requires.woven in
    omega (arith, left, all, same)

pub marks_get-marks-requires : goal.marks_get-marks-requires
marks_get-marks-requires c =
    let left = ap length c.in-Some.ensures.steps.0 in
    let all = c.loop-info.invariant.2 in
    let same = c.requires.counted in
    omega (arith, left, all, same)
