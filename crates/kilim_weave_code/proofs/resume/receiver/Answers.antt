use Rattle.std.proofs.Common.{◌<◌, ◌∙◌, ◌-◌, ℕ, List, ap, sym, length, slice_get, arith}
use Rattle.kilim_program.specs.declared.verified.VType.{VType}
use Rattle.kilim_weave_code.proofs.Showing.{a_receiver, no_receiver}
use Rattle.kilim_weave_code.proofs.resume.receiver.Goals as goal

pub returns-then-left-eq0 : goal.returns-then-left-eq0
returns-then-left-eq0 c =
    let stack = c.args.frame.now.stack in
    let left = c.saturating_sub-left.ensures ∙ (ap (λ (ts : List VType). length ts - c.len-depth.result) c.as_slice-stack.ensures ∙ ap (λ (n : ℕ). length stack - n) c.len-depth.ensures) in
    no_receiver stack (length c.args.callee.now.params) (sym left ∙ c.if-left-eq0.true)

pub returns : goal.returns
returns c =
    let stack = c.args.frame.now.stack in
    let left = c.saturating_sub-left.ensures ∙ (ap (λ (ts : List VType). length ts - c.len-depth.result) c.as_slice-stack.ensures ∙ ap (λ (n : ℕ). length stack - n) c.len-depth.ensures) in
    let some : 0 < c.saturating_sub-left.result = omega (arith, c.if-left-eq0.false) in
    a_receiver stack (length c.args.callee.now.params) c.saturating_sub-left.result c.type_at.result left some
    (ap (λ (ts : List VType). slice_get ts (c.saturating_sub-left.result - 1)) (sym c.as_slice-stack.ensures) ∙ c.type_at.ensures)
