use Rattle.std.proofs.Common.{◌≡◌, FitsSigned, rules, w32, w64, ◌∷◌}
use Rattle.std.proofs.lemmas.Int.{to_z-of_z}
use Rattle.kilim_program.specs.declared.value.Value.TheVariants.{Int}
use Rattle.kilim_run_machine.specs.Does.{compared}
use Rattle.kilim_run_rows.proofs.Arithmetic.{longs_compared}
use Rattle.kilim_run_rows.proofs.numbers.compare_longs.Goals as goal

pub returns-clause-step : goal.returns-clause-step
returns-clause-step c =
    let fits_a : FitsSigned w64 c.pop_long-a.result = search rules in
    let fits_b : FitsSigned w64 c.pop_long-b.result = search rules in
    let fits : FitsSigned w32 c.compare.result = search rules in
    let is : c.compare.result ≡ compared c.pop_long-a.result c.pop_long-b.result = simp to_z-of_z at c.compare.ensures in
    let pushed : c.push.new.self ≡ record c.pop_long-a.new.self { values = Int c.compare.result ∷ c.pop_long-a.new.self.values } = simp to_z-of_z at c.push.ensures in
    longs_compared c.args.program.now c.args.own.now c.args.next c.args.frame.now.locals c.args.frame.now.stack c.pop_long-b.new.self c.pop_long-a.new.self c.push.new.self c.args.heap.now c.pop_long-a.result c.pop_long-b.result c.compare.result
    c.pop_long-b.ensures c.pop_long-a.ensures pushed is
