use Rattle.std.proofs.Common.{ℤ, ap, rules, w64}
use Rattle.std.proofs.lemmas.Int.{to_z-of_z}
use Rattle.kilim_command.specs.DemoLine.{back_of}
use Rattle.kilim_command.proofs.Summed.{line_is}
use Rattle.kilim_command.proofs.line.demo_line.Goals as goal

pub returns : goal.returns
returns c =
    line_is c.args.number c.in-Ok.tasks c.count-puts.result c.count-takes.result c.count-prints.result c.sum_of-sum.result c.args.journal.now c.in-Ok-front_of.text.items _ c.push_back.new.text.items
    c.in-Ok.ensures c.count-puts.ensures.count c.count-takes.ensures.count c.count-prints.ensures.count c.sum_of-sum.ensures c.in-Ok-front_of.ensures
    (ap (λ (z : ℤ). back_of c.count-takes.result c.count-prints.result z) (to_z-of_z w64 c.sum_of-sum.result (search rules))) c.in-Ok-push_back.ensures
