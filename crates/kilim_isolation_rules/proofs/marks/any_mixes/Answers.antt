use Rattle.std.proofs.Common.{◌+◌, ◌∙◌, ap, arith, drop, sym}
use Rattle.std.specs.Prelude.{◌||◌}
use Rattle.kilim_isolation_rules.specs.Marks.{any_mixes}
use Rattle.kilim_isolation_rules.proofs.Slots.{mixes_at, mixes_end, mixes_past}
use Rattle.kilim_isolation_rules.proofs.marks.any_mixes.Goals as goal

pub returns-then-mixes : goal.returns-then-mixes
returns-then-mixes c =
    sym (ap (λ b. b || any_mixes c.args.program.now (drop (c.loop-at.at + 1) c.args.types.now) (drop (c.loop-at.at + 1) c.args.into.now)) c.if-mixes.true)
    ∙ mixes_at c.args.program.now c.args.types.now c.args.into.now c.loop-at.at _ _ c.mixes.result (any_mixes c.args.program.now c.args.types.now c.args.into.now) (omega arith) (omega arith) c.mixes.ensures c.loop-at.invariant

pub loop-at-preserved : goal.loop-at-preserved
loop-at-preserved c =
    sym (ap (λ b. b || any_mixes c.args.program.now (drop (c.loop-at.at + 1) c.args.types.now) (drop (c.loop-at.at + 1) c.args.into.now)) c.if-mixes.false)
    ∙ mixes_at c.args.program.now c.args.types.now c.args.into.now c.loop-at.at _ _ c.mixes.result (any_mixes c.args.program.now c.args.types.now c.args.into.now) (omega arith) (omega arith) c.mixes.ensures c.loop-at.invariant

pub returns-else-at-into : goal.returns-else-at-into
returns-else-at-into c =
    mixes_end c.args.program.now c.args.types.now c.args.into.now c.loop-at.at (any_mixes c.args.program.now c.args.types.now c.args.into.now) (omega arith) c.loop-at.invariant

pub returns-after-loop-at : goal.returns-after-loop-at
returns-after-loop-at c =
    mixes_past c.args.program.now c.args.types.now c.args.into.now c.loop-at.at (any_mixes c.args.program.now c.args.types.now c.args.into.now) (omega arith) c.loop-at.invariant
