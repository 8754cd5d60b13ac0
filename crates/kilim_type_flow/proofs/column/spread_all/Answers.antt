use Rattle.std.proofs.Common.{ℕ, List, ◌∷◌, [], length, ap, sym, subst, ◌∙◌, arith, length-append}
use Rattle.kilim_type_spec.specs.Typed.{Among}
use Rattle.kilim_type_flow.specs.Marks.{AreBefore, EachBelow, caught_tos, flow_tos}
use Rattle.kilim_type_flow.proofs.Growing.{before_below, column_is, reads_kept, turned, waits_within}
use Rattle.kilim_type_flow.proofs.column.spread_all.Goals as goal

pub row_at-row-requires : goal.row_at-row-requires
row_at-row-requires c =
    let lt = waits_within c.args.method.now c.args.local c.in-Some.place c.loop-place.marks.items c.pop.new.self.items c.loop-place.work.items c.in-Some.ensures.items c.loop-place.invariant.1 in
    let s = c.loop-place.invariant.0 in
    omega (arith, lt, s)

pub row_at-range-requires : goal.row_at-range-requires
row_at-range-requires c =
    let lt = waits_within c.args.method.now c.args.local c.in-Some.place c.loop-place.marks.items c.pop.new.self.items c.loop-place.work.items c.in-Some.ensures.items c.loop-place.invariant.1 in
    let s = c.loop-place.invariant.0 in
    let l = c.requires.caught.long in
    omega (arith, lt, s, l)

pub spread-requires : goal.spread-requires
spread-requires c x h =
    let b = before_below flow_tos c.args.method.now (length c.args.befores.now) c.args.befores.now c.in-Some.place x c.requires.befores c.requires.below (subst (λ (xs : List ℕ). Among xs x) c.row_at-row.ensures h) in
    let s = c.loop-place.invariant.0 in
    omega (arith, b, s)

pub spread_range-requires : goal.spread_range-requires
spread_range-requires c x h =
    let b = before_below (caught_tos c.args.method.now) c.args.method.now (length c.args.befores.now) c.args.caught.now c.in-Some.place x c.requires.caught c.requires.below (subst (λ (xs : List ℕ). Among xs x) c.row_at-range.ensures h) in
    let s = c.loop-place.invariant.0 in
    let g = c.in-Ok.ensures.grown.same in
    omega (arith, b, s, g)

pub loop-place-preserved : goal.loop-place-preserved
loop-place-preserved c =
    let m = c.args.method.now in
    let g = c.in-Ok.ensures.grown in
    let h = c.in-Ok-spread_range.ensures.grown in
    let s = c.loop-place.invariant.0 in (
      h.same ∙ (g.same ∙ s),
      turned m c.args.local c.in-Some.place c.args.befores.now c.args.caught.now c.row_at-row.result.now c.row_at-range.result.now c.args.passing.now c.args.everywhere.now c.loop-place.marks.items c.pop.new.self.items c.loop-place.work.items
          c.spread.new.marks.items c.spread.new.work.items c.spread_range.new.marks.items c.spread_range.new.work.items c.row_at-row.ensures c.row_at-range.ensures
          (subst (λ (n : ℕ). AreBefore flow_tos m n c.args.befores.now) (sym s) c.requires.befores) (subst (λ (n : ℕ). AreBefore (caught_tos m) m n c.args.caught.now) (sym s) c.requires.caught)
          c.requires.opens (λ x lt. c.requires.every x (omega (arith, lt, s))) (subst (λ (n : ℕ). EachBelow n m.code) (sym s) c.requires.below)
          c.in-Some.ensures.items c.loop-place.invariant.1 g c.in-Ok.ensures.all h c.in-Ok-spread_range.ensures.all,
      reads_kept m c.args.local (length m.code) c.spread.new.marks.items c.spread_range.new.marks.items h.keeps
          (reads_kept m c.args.local (length m.code) c.loop-place.marks.items c.spread.new.marks.items g.keeps c.loop-place.invariant.2),
    )

pub loop-place-smaller : goal.loop-place-smaller
loop-place-smaller c =
    let n = c.in-Ok.ensures.grown.count in
    let o = c.in-Ok-spread_range.ensures.grown.count in
    let l = ap length c.in-Some.ensures.items ∙ length-append c.pop.new.self.items (c.in-Some.place ∷ []) in
    omega (arith, n, o, l)

pub returns : goal.returns
returns c = column_is c.args.method.now c.args.local c.loop-place.marks.items c.loop-place.work.items (omega (arith, c.in_default.ensures.cases.0, c.loop-place.work.ok.0)) c.loop-place.invariant.1 c.loop-place.invariant.2
