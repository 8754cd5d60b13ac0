use Rattle.std.proofs.Common.{◌≡◌, ◌∙◌, ◌+◌, ◌-◌, ◌≤◌, ℕ, List, ap, sym, subst, drop, length, arith}
use Rattle.kilim_program.specs.declared.verified.Frame.{Frame}
use Rattle.kilim_weave_method.specs.Flags.{AreFlags}
use Rattle.kilim_weave_method.proofs.Flagged.{flag_more, no_flags}
use Rattle.kilim_weave_method.proofs.flags.flags_of.Goals as goal

pub loop-left-init : goal.loop-left-init
loop-left-init c = (omega arith, no_flags c.args.frames.now c.new-flags.result.items c.new-flags.ensures.items)

pub loop-left-preserved : goal.loop-left-preserved
loop-left-preserved c =
    let one : c.loop-left.left - 1 + 1 ≡ c.loop-left.left = omega (arith, c.loop-left-test.true) in (
      omega (arith, c.loop-left.invariant.0),
      flag_more c.args.frames.now (c.loop-left.left - 1) c.entry_at-entry.result.now c.loop-left.flags.items c.flag.new.flags.items c.entry_at-entry.ensures c.in-Ok.ensures
          (subst (λ (n : ℕ). AreFlags (drop n c.args.frames.now) c.loop-left.flags.items) (sym one) c.loop-left.invariant.1),
    )
