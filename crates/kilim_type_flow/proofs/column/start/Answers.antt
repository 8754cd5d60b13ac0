use Rattle.std.proofs.Common.{refl, ◌∙◌, arith}
use Rattle.kilim_type_flow.proofs.Growing.{read_more, reads_more}
use Rattle.kilim_type_flow.proofs.column.start.Goals as goal

pub visit_read-requires : goal.visit_read-requires
visit_read-requires c =
    let lt = c.requires.below c.loop-at.at c.entry_of-entry.result.now c.entry_of-entry.ensures in
    let s = c.loop-at.invariant.0 in
    omega (arith, lt, s)

pub loop-at-init : goal.loop-at-init
loop-at-init c = (refl, c.requires.marks, λ at e lt. absurd (omega arith))

pub loop-at-preserved : goal.loop-at-preserved
loop-at-preserved c =
    let m = c.args.method.now in
    let e = c.entry_of-entry.result.now in
    let g = c.in-Ok.ensures.grown in (
      g.same ∙ c.loop-at.invariant.0,
      read_more m c.args.local c.requires.rising c.loop-at.at e c.loop-at.marks.items c.loop-at.work.items c.visit_read.new.marks.items c.visit_read.new.work.items c.entry_of-entry.ensures g c.loop-at.invariant.1,
      reads_more m c.args.local c.loop-at.at e c.loop-at.marks.items c.visit_read.new.marks.items c.entry_of-entry.ensures g.keeps c.loop-at.invariant.2 c.in-Ok.ensures.marked,
    )
