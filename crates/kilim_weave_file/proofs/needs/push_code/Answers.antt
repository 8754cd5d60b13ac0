use Rattle.std.proofs.Common.{ℕ, List, ◌++◌, refl, ap, ◌∙◌}
use Rattle.std.specs.Borrow.{Bor}
use Rattle.kilim_lemmas.proofs.Walks.{all_made}
use Rattle.kilim_class_code.specs.Code.{Placed}
use Rattle.kilim_program.specs.declared.instr.Instr.{Instr}
use Rattle.kilim_class_making.specs.declared.pool_needs.need.Need.{Need}
use Rattle.kilim_weave_file_spec.specs.Raw.{added_need, code_needs, listed, old_need}
use Rattle.kilim_weave_file.proofs.Loops.{of_added, of_old}
use Rattle.kilim_weave_file.proofs.needs.push_code.Goals as goal
use Rattle.kilim_weave_file.proofs.needs.push_code.Goals.{then-mark+in-len1-up-rest+in-Ok, else-mark+in-Ok-push_added}

pub loop-entry-preserved : goal.loop-entry-preserved
loop-entry-preserved c =
    let made = code_needs c.args.program.now c.args.pool.now in
    let whole : List Need = c.args.into.now ++ made c.args.code.now c.args.counted.now c.args.olds.now in
    elim c.if-mark.branch [
      | then-mark+in-len1-up-rest+in-Ok w ↦
          of_old made (λ (e : ℕ × Instr) (o : Placed). listed (old_need c.args.program.now c.args.pool.now e.1 o.1)) (λ e es ms o os. refl) c.args.code.now c.loop-entry.marks.now c.loop-entry.rest.now c.loop-entry.entry-index c.entry-item.result c.entry-item.result
          w.was-item.result c.if-mark.rest.now c.loop-entry.into c.if-mark.into whole c.loop-entry-test.true c.entry-item.is c.in-len1-up.len_at_least w.if-mark.true w.in-len1-up-rest.len_at_least w.was-item.is
          (ap (λ (r : Bor (List Placed)). r.now) w.rest-is) (w.into-is ∙ w.in-Ok.ensures) c.loop-entry.invariant
      | else-mark+in-Ok-push_added w ↦
          of_added made (λ (e : ℕ × Instr). listed (added_need c.args.program.now e.1)) (λ e es ms os. refl) c.args.code.now c.loop-entry.marks.now c.loop-entry.rest.now c.loop-entry.entry-index c.entry-item.result c.entry-item.result
          c.if-mark.rest.now c.loop-entry.into c.if-mark.into whole c.loop-entry-test.true c.entry-item.is c.in-len1-up.len_at_least w.if-mark.false
          (ap (λ (r : Bor (List Placed)). r.now) w.rest-is) (w.into-is ∙ w.in-Ok-push_added.ensures) c.loop-entry.invariant
    ]

pub returns : goal.returns
returns c =
    all_made (λ (code : List (ℕ × Instr)). code_needs c.args.program.now c.args.pool.now code c.loop-entry.marks.now c.loop-entry.rest.now) c.loop-entry.into
    (c.args.into.now ++ code_needs c.args.program.now c.args.pool.now c.args.code.now c.args.counted.now c.args.olds.now) c.args.code.now c.loop-entry.entry-index refl c.loop-entry-test.false c.loop-entry.invariant
