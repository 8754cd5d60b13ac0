use Rattle.std.proofs.Common.{◌∙◌, ◌+◌, ◌-◌, ◌++◌, List, ℕ, ap, sym, arith}
use Rattle.kilim_weave_pieces.specs.Meant.{meant}
use Rattle.kilim_weave_code.proofs.Pieces.{block_pushed, from_block, places_are, places_done}
use Rattle.kilim_weave_code.proofs.whole.resume_places.Goals as goal

pub loop-before-preserved : goal.loop-before-preserved
loop-before-preserved c =
    let x = meant c.args.plan.now in
    ap (λ (xs : List ℕ). xs ++ from_block x (c.loop-before.before + 1 + 1) (c.args.calls - (c.loop-before.before + 1))) c.in-Ok.ensures.ok
    ∙ block_pushed x c.loop-before.before c.args.calls c.block-place.result c.loop-before.places (from_block x 1 c.args.calls) (omega arith) c.block-place.ensures c.loop-before.invariant

pub returns : goal.returns
returns c =
    let x = meant c.args.plan.now in
    places_done x c.loop-before.before c.args.calls c.loop-before.places (from_block x 1 c.args.calls) (omega arith) c.loop-before.invariant
    ∙ (ap (from_block x 1) c.requires ∙ sym (places_are x 1 c.args.plan.now.method.now.code))
