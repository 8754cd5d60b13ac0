use Rattle.std.proofs.Common.{◌≡◌, ◌≤◌, ◌∙◌, ◌+◌, ◌-◌, ℕ, List, Option, ap, sym, arith, length, take, drop}
use Rattle.std.proofs.lemmas.List.{drop_all, take_all}
use Rattle.kilim_program.specs.declared.class.Method.{Method}
use Rattle.kilim_program.specs.declared.instr.Instr.{Instr}
use Rattle.kilim_weave_spec.specs.Weight.{calls_in}
use Rattle.kilim_weave_spec.specs.Woven.{blocks, count}
use Rattle.kilim_weave_pieces.specs.Meant.{meant}
use Rattle.kilim_weave_code.proofs.Pieces.{block_more, number_is}
use Rattle.kilim_weave_pieces.specs.Items.{items_of}
use Rattle.kilim_weave_code.proofs.resume.blocks.Goals as goal

pub number_before-mine-requires : goal.number_before-mine-requires
number_before-mine-requires c = let i = c.loop-left.invariant.1 in omega (arith, i)

pub block-requires : goal.block-requires
block-requires c = c.frame_at-frame.ensures c.entry_of-entry.result.now c.entry_of-entry.ensures

pub loop-left-init : goal.loop-left-init
loop-left-init c =
    let code = c.args.plan.now.method.now.code in
    let n = c.len-left.result in
    let all : length code ≤ n = omega (arith, c.len-left.ensures) in (
      omega (arith, c.len-left.ensures),
      c.requires.number ∙ sym (ap (λ (es : List (ℕ × Instr)). 1 + calls_in c.args.plan.now.program.now es) (take_all n code all)),
      c.requires.none ∙ sym (ap (λ (es : List (ℕ × Instr)). blocks (meant c.args.plan.now) c.args.number es) (drop_all n code all)),
    )

pub loop-left-preserved : goal.loop-left-preserved
loop-left-preserved c =
    let x = meant c.args.plan.now in
    let p = c.args.plan.now.program.now in
    let code = c.args.plan.now.method.now.code in
    let at = c.loop-left.left - 1 in
    let one : at + 1 ≡ c.loop-left.left = omega (arith, c.loop-left-test.true) in
    let n = c.loop-left.number in
    let mine = c.number_before-mine.result in
    let e = c.entry_of-entry.result.now in
    let is_o = c.pausable_callee-callee.ensures in (
      omega (arith, c.loop-left.invariant.0),
      number_is p code at n mine e c.entry_of-entry.ensures (c.loop-left.invariant.1 ∙ sym (ap (λ (k : ℕ). 1 + calls_in p (take k code)) one)) (sym (ap (λ (q : Option Method). count q mine) is_o) ∙ c.number_before-mine.ensures),
      block_more x at n mine c.place_behind-next.result e _ (items_of c.loop-left.items) (items_of c.block.new.items) c.entry_of-entry.ensures is_o c.number_before-mine.ensures c.place_behind-next.ensures
          (c.loop-left.invariant.2 ∙ sym (ap (λ (k : ℕ). blocks x n (drop k code)) one)) c.in-Ok.ensures,
    )
