use Rattle.std.proofs.Common.{◌≡◌, ◌∙◌, ℕ, ap, arith}
use Rattle.std.proofs.lemmas.List.{take_all}
use Rattle.kilim_program.specs.declared.instr.Instr.{Instr}
use Rattle.kilim_weave_method.proofs.Listing.{copied_more}
use Rattle.kilim_weave_method.proofs.copy.copy_code.Goals as goal

pub loop-at-preserved : goal.loop-at-preserved
loop-at-preserved c =
    copied_more c.args.code.now c.loop-at.at c.instr_at-entry.result.now (c.instr_at-entry.result.now.0, c.in-Ok.instr) c.loop-at.all c.push.new.self c.instr_at-entry.ensures c.loop-at.invariant
    (ap (λ (i : Instr). let e : ℕ × Instr = (c.instr_at-entry.result.now.0, i) in e) c.in-Ok.ensures) c.in-Ok-push.ensures.ok

pub returns : goal.returns
returns c = c.loop-at.invariant ∙ take_all c.loop-at.at c.args.code.now (omega arith)
