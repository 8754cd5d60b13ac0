use Rattle.std.proofs.Common.{◌≡◌, ◌++◌, [], take, drop}
use Rattle.kilim_chart.specs.declared.rows.MessageName.{MessageName}
use Rattle.kilim_chart.specs.Shapes.{put_of, shapes_behind}
use Rattle.kilim_chart.specs.Places.{place_in}
use Rattle.kilim_chart.proofs.shapes.shapes_of.Given as goal

abbrev pub invariant-loop-at : goal.invariant-loop-at
invariant-loop-at l =
    (l.shapes ++ shapes_behind (take l.at l.rows) (drop l.at l.rows) ≡ shapes_behind [] l.rows)
    × ((m : MessageName) → place_in l.puts m ≡ put_of m (take l.at l.rows))
