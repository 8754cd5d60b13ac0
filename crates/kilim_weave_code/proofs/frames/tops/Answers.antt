use Rattle.std.proofs.Common.{◌∙◌, ◌+◌, ◌-◌, ◌++◌, List, ℕ, ap, refl, arith}
use Rattle.kilim_program.specs.declared.verified.VType.{VType}
use Rattle.kilim_program.specs.declared.verified.VType.TheVariants.{Top}
use Rattle.kilim_weave_spec.specs.Woven.{slots_from}
use Rattle.kilim_weave_code.proofs.Showing.{slots_done, slots_more}
use Rattle.kilim_weave_code.proofs.frames.tops.Goals as goal

pub loop-preserved : goal.loop-preserved
loop-preserved c =
    let f : ℕ → VType = λ slot. Top in
    ap (λ (xs : List VType). xs ++ slots_from (c.loop.counter + 1) (c.args.count - (c.loop.counter + 1)) f) c.in-Ok.ensures.items
    ∙ slots_more f c.loop.counter c.args.count Top c.loop.locals.items (slots_from 0 c.args.count f) (omega arith) refl c.loop.invariant

pub returns : goal.returns
returns c = slots_done (λ slot. Top) c.loop.counter c.args.count c.loop.locals.items (slots_from 0 c.args.count (λ slot. Top)) (omega arith) c.loop.invariant
