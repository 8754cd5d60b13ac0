use Rattle.std.proofs.Common.{◌≡◌, ℕ, ap, arith, drop, refl, ◌+◌, ◌∙◌}
use Rattle.std.proofs.lemmas.List.{drop_all}
use Rattle.kilim_program.specs.declared.instr.Instr.{Instr}
use Rattle.kilim_weave_spec.specs.Weight.{switch_bytes, switches_bytes}
use Rattle.kilim_weave_file_sizes.proofs.Loops.{summed}
use Rattle.kilim_weave_file_sizes.proofs.sizes.switches_bytes.Goals as goal

pub loop-entry-preserved : goal.loop-entry-preserved
loop-entry-preserved c =
    summed (λ (e : ℕ × Instr). switch_bytes e.1) switches_bytes (λ e es. refl) c.args.code.now c.loop-entry.entry-index c.entry-item.result _ c.loop-entry.sum c.in-Ok.more (switches_bytes c.args.code.now)
    c.loop-entry-test.true c.entry-item.is (c.in-Ok.ensures ∙ ap (λ (n : ℕ). c.loop-entry.sum + n) c.switch_bytes.ensures) c.loop-entry.invariant

pub returns : goal.returns
returns c =
    let left : switches_bytes (drop c.loop-entry.entry-index c.args.code.now) ≡ 0 = ap switches_bytes (drop_all c.loop-entry.entry-index c.args.code.now c.loop-entry-test.false) in
    omega (arith, left, c.loop-entry.invariant)
