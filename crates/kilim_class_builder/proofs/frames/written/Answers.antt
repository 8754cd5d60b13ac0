use Rattle.std.proofs.Common.{◌+◌, ◌++◌, List, ap, drop, sym, ◌∙◌, arith, refl, false}
use Rattle.kilim_lemmas.proofs.Lists.{drop_next}
use Rattle.kilim_lemmas.proofs.Walks.{all_made}
use Rattle.kilim_program.specs.declared.verified.VType.{VType}
use Rattle.kilim_class_builder.specs.Frames.{written}
use Rattle.kilim_class_builder.proofs.frames.written.Goals as goal

pub loop-index-preserved : goal.loop-index-preserved
loop-index-preserved c =
    c.in_ok-skips.ensures (drop (c.loop-index.index + 1) c.args.locals.now)
    ∙ (ap (λ (ts : List VType). c.loop-index.all.items ++ written c.loop-index.skips ts) (sym (drop_next c.args.locals.now c.loop-index.index c.local_at-of.result.now c.local_at-of.ensures)) ∙ c.loop-index.invariant)

pub returns : goal.returns
returns c = all_made (written c.loop-index.skips) c.loop-index.all.items (written false c.args.locals.now) c.args.locals.now c.loop-index.index refl (omega arith) c.loop-index.invariant
