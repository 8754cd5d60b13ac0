use Rattle.std.proofs.Common.{◌≡◌, ◌∙◌, ◌++◌, ℕ, replicate, ap, arith}
use Rattle.kilim_program.specs.declared.value.Value.TheVariants.{Null}
use Rattle.kilim_run_state.proofs.frames.Loops.{repeated}
use Rattle.kilim_run_state.proofs.frames.frame.fill.Goals as goal

pub loop-preserved : goal.loop-preserved
loop-preserved c = repeated c.args.items.now.items c.loop.items.items c.put.new.items.items c.loop.counter Null c.loop.invariant c.in-Ok.ensures

pub returns : goal.returns
returns c =
    let all : c.loop.counter ≡ c.args.count = omega arith in
    c.loop.invariant ∙ ap (λ (n : ℕ). c.args.items.now.items ++ replicate n Null) all
