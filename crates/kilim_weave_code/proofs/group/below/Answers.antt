use Rattle.std.proofs.Common.{◌∙◌, ◌-◌, ℕ, List, ap, length, reverse, take}
use Rattle.kilim_program.specs.declared.verified.VType.{VType}
use Rattle.kilim_weave_pieces.proofs.Lists.{reverse_drop}
use Rattle.kilim_weave_code.proofs.group.below.Goals as goal

pub returns : goal.returns
returns c =
    let stack = c.args.frame.now.stack in
    let front = c.split_at-parts.ensures.front
    ∙ (ap (λ (ts : List VType). take c.saturating_sub-left.result ts) c.as_slice-stack.ensures
    ∙ ap (λ (n : ℕ). take n stack) (c.saturating_sub-left.ensures ∙ (ap (λ (ts : List VType). length ts - c.in-Ok.count) c.as_slice-stack.ensures ∙ ap (λ (n : ℕ). length stack - n) c.in-Ok.ensures))) in
    ap reverse front ∙ reverse_drop stack _
