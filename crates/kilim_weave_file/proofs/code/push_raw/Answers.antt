use Rattle.std.proofs.Common.{◌≡◌, ℕ, Bool, true, false, List, [], ◌∷◌, ◌++◌, refl, ap, ◌∙◌}
use Rattle.std.specs.Borrow.{Bor}
use Rattle.kilim_lemmas.proofs.Walks.{all_made}
use Rattle.kilim_class_code.specs.Code.{Placed}
use Rattle.kilim_program.specs.declared.instr.Instr.{Instr}
use Rattle.kilim_program.specs.Program.{Program}
use Rattle.kilim_class_pool.specs.declared.entry.Entry.{Entry}
use Rattle.kilim_weave_file_spec.specs.Raw.{added_raw, moved_raw, raw_code}
use Rattle.kilim_weave_file.proofs.Loops.{of_added, of_old}
use Rattle.kilim_weave_file.proofs.code.push_raw.Goals as goal
use Rattle.kilim_weave_file.proofs.code.push_raw.Goals.{then-mark+in-len1-up-rest+in-Ok, else-mark+in-Ok-push_added}

old_first : (w : Program) (old pool : List Entry) (e : ℕ × Instr) (es : List (ℕ × Instr)) (marks : List Bool) (o : Placed) (olds : List Placed)
    → raw_code w old pool (e ∷ es) (true ∷ marks) (o ∷ olds) ≡ (e.0, moved_raw w old pool e.1 o.1) ∷ raw_code w old pool es marks olds
unfolding raw_code
old_first w old pool e es marks o olds = refl

added_first : (w : Program) (old pool : List Entry) (e : ℕ × Instr) (es : List (ℕ × Instr)) (marks : List Bool) (olds : List Placed)
    → raw_code w old pool (e ∷ es) (false ∷ marks) olds ≡ (e.0, added_raw w pool e.1) ∷ raw_code w old pool es marks olds
unfolding raw_code
added_first w old pool e es marks olds = refl

pub loop-entry-preserved : goal.loop-entry-preserved
loop-entry-preserved c =
    let made = raw_code c.args.program.now c.args.old.now c.args.pool.now in
    let whole : List Placed = c.args.into.now ++ made c.args.code.now c.args.counted.now c.args.olds.now in
    elim c.if-mark.branch [
      | then-mark+in-len1-up-rest+in-Ok w ↦
          of_old made (λ (e : ℕ × Instr) (o : Placed). (e.0, moved_raw c.args.program.now c.args.old.now c.args.pool.now e.1 o.1) ∷ []) (old_first c.args.program.now c.args.old.now c.args.pool.now)
          c.args.code.now c.loop-entry.marks.now c.loop-entry.rest.now c.loop-entry.entry-index c.entry-item.result c.entry-item.result
          w.was-item.result c.if-mark.rest.now c.loop-entry.into c.if-mark.into whole c.loop-entry-test.true c.entry-item.is c.in-len1-up.len_at_least w.if-mark.true w.in-len1-up-rest.len_at_least w.was-item.is
          (ap (λ (r : Bor (List Placed)). r.now) w.rest-is) (w.into-is ∙ w.in-Ok.ensures) c.loop-entry.invariant
      | else-mark+in-Ok-push_added w ↦
          of_added made (λ (e : ℕ × Instr). (e.0, added_raw c.args.program.now c.args.pool.now e.1) ∷ []) (added_first c.args.program.now c.args.old.now c.args.pool.now)
          c.args.code.now c.loop-entry.marks.now c.loop-entry.rest.now c.loop-entry.entry-index c.entry-item.result c.entry-item.result
          c.if-mark.rest.now c.loop-entry.into c.if-mark.into whole c.loop-entry-test.true c.entry-item.is c.in-len1-up.len_at_least w.if-mark.false
          (ap (λ (r : Bor (List Placed)). r.now) w.rest-is) (w.into-is ∙ w.in-Ok-push_added.ensures) c.loop-entry.invariant
    ]

pub returns : goal.returns
unfolding raw_code
returns c =
    all_made (λ (code : List (ℕ × Instr)). raw_code c.args.program.now c.args.old.now c.args.pool.now code c.loop-entry.marks.now c.loop-entry.rest.now) c.loop-entry.into
    (c.args.into.now ++ raw_code c.args.program.now c.args.old.now c.args.pool.now c.args.code.now c.args.counted.now c.args.olds.now) c.args.code.now c.loop-entry.entry-index refl c.loop-entry-test.false c.loop-entry.invariant
