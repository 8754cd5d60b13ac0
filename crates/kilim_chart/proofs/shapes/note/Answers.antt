use Rattle.std.proofs.Common.{cond, Some, sym, ap, ◌∙◌}
use Rattle.kilim_chart.specs.declared.rows.Deed.{Deed}
use Rattle.kilim_chart.specs.Shapes.{is_put_of}
use Rattle.kilim_chart.specs.Places.{place_in}
use Rattle.kilim_chart.proofs.Noted.{noted}
use Rattle.kilim_chart.proofs.shapes.note.Goals as goal

pub returns-in-Ok : goal.returns-in-Ok
returns-in-Ok c = λ m.
    noted c.args.puts.now c.insert.new.self c.key_of.result c.in-Put.name c.args.row c.key_of.ensures c.in-Ok.ensures.updates m
    ∙ ap (λ (d : Deed). cond (is_put_of m d) (Some c.args.row) (place_in c.args.puts.now m)) (sym c.in-Put.is)
