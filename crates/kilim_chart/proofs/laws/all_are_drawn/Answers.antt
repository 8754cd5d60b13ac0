use Rattle.kilim_chart.proofs.Counted.{marks_are_drawn, arrows_are_drawn}
use Rattle.kilim_chart.proofs.laws.all_are_drawn.Goals as goal

pub returns : goal.returns
returns c = record { marks = marks_are_drawn; arrows = arrows_are_drawn }
