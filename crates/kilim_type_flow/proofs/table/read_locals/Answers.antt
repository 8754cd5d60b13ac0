use Rattle.std.proofs.Common.{◌≡◌, ℕ, true, ◌∙◌, arith}
use Rattle.kilim_type_spec.specs.Typed.{reads}
use Rattle.kilim_type_flow.specs.Marks.{is_marked}
use Rattle.kilim_type_flow.proofs.Growing.{each_more}
use Rattle.kilim_type_flow.proofs.table.read_locals.Goals as goal

pub mark_read-requires : goal.mark_read-requires
mark_read-requires c k it =
    let h = c.requires c.loop-at.at k c.entry_of-entry.result.now c.entry_of-entry.ensures it in
    let s = c.loop-at.invariant.0 in
    omega (arith, h, s)

pub loop-at-preserved : goal.loop-at-preserved
loop-at-preserved c = (
  c.mark_read.ensures.same ∙ c.loop-at.invariant.0,
  each_more c.args.method.now.code (λ e. (k : ℕ) → reads e.1 k ≡ true → is_marked c.mark_read.new.marks.items k ≡ true) c.loop-at.at c.entry_of-entry.result.now c.entry_of-entry.ensures
      (λ at e lt there k it. c.mark_read.ensures.keeps k (c.loop-at.invariant.1 at e lt there k it)) c.mark_read.ensures.marked,
)

pub returns-clause-marked : goal.returns-clause-marked
returns-clause-marked c at k e lt there it = c.loop-at.invariant.1 at e (omega arith) there k it
