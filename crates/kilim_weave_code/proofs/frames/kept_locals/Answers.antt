use Rattle.std.proofs.Common.{◌∙◌, ◌+◌, ◌-◌, ◌++◌, List, ℕ, ap, arith}
use Rattle.kilim_program.specs.declared.verified.VType.{VType}
use Rattle.kilim_weave_spec.specs.Woven.{kept_local, slots_from}
use Rattle.kilim_weave_pieces.specs.Meant.{meant}
use Rattle.kilim_weave_code.proofs.Showing.{slots_done, slots_more}
use Rattle.kilim_weave_code.proofs.frames.kept_locals.Goals as goal

pub loop-slot-preserved : goal.loop-slot-preserved
loop-slot-preserved c =
    let f : ℕ → VType = kept_local (meant c.args.plan.now) c.args.place in
    ap (λ (xs : List VType). xs ++ slots_from (c.loop-slot.slot + 1) (c.args.plan.now.fiber - (c.loop-slot.slot + 1)) f) c.in-Ok-push.ensures.items
    ∙ slots_more f c.loop-slot.slot c.args.plan.now.fiber c.in-Ok.ty c.loop-slot.locals.items (slots_from 0 c.args.plan.now.fiber f) (omega arith) c.in-Ok.ensures c.loop-slot.invariant

pub returns : goal.returns
returns c =
    let f : ℕ → VType = kept_local (meant c.args.plan.now) c.args.place in
    slots_done f c.loop-slot.slot c.args.plan.now.fiber c.loop-slot.locals.items (slots_from 0 c.args.plan.now.fiber f) (omega arith) c.loop-slot.invariant
    ∙ ap (λ (n : ℕ). slots_from 0 n f) c.args.plan.now.fiber_is
