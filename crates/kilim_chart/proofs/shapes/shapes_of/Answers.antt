use Rattle.std.proofs.Common.{ℕ, Option, cond, Some, [], sym, ap, ◌∙◌}
use Rattle.kilim_chart.specs.Shapes.{is_put_of, shapes_behind}
use Rattle.kilim_chart.specs.Places.{place_in}
use Rattle.kilim_chart.proofs.Steps.{got, put_more, shapes_more}
use Rattle.kilim_chart.proofs.shapes.shapes_of.Goals as goal

pub loop-at-preserved : goal.loop-at-preserved
loop-at-preserved c =
    let rows = c.args.rows.now in
    let at = c.loop-at.at in
    let r = c.row_at-row.result in
    let is = got rows at r c.row_at-row.ensures in (
      shapes_more rows at r (place_in c.loop-at.puts) c.loop-at.shapes c.push_shapes.new.shapes (shapes_behind [] rows) c.loop-at-test.true is c.loop-at.invariant.1 c.in-Ok.ensures.shapes c.loop-at.invariant.0,
      λ m. c.in-Ok.ensures.puts m ∙ (ap (λ (o : Option ℕ). cond (is_put_of m r.deed) (Some at) o) (c.loop-at.invariant.1 m) ∙ sym (put_more m rows at r c.loop-at-test.true is)),
    )
