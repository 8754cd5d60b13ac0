use Rattle.std.proofs.Common.{◌≡◌, ◌∙◌, ◌++◌, ℕ, replicate, ap, arith}
use Rattle.kilim_program.specs.declared.value.Value.TheVariants.{Null}
use Rattle.kilim_run_state.proofs.frames.Loops.{repeated}
use Rattle.kilim_run_state.proofs.frames.frame.push_nulls.Goals as goal

pub loop-preserved : goal.loop-preserved
loop-preserved c = repeated c.args.items.now c.loop.items c.push.new.self c.loop.counter Null c.loop.invariant c.in-Ok.ensures.ok

pub returns : goal.returns
returns c =
    let all : c.loop.counter ≡ c.args.count = omega arith in
    c.loop.invariant ∙ ap (λ (n : ℕ). c.args.items.now ++ replicate n Null) all
