use Rattle.std.proofs.Common.{refl, ◌≡◌, FitsSigned, rules, w32, None}
use Rattle.std.proofs.lemmas.Int.{to_z-of_z}
use Rattle.kilim_run_rows.specs.Outcome.{found_in}
use Rattle.kilim_run_rows.proofs.Elements.{no_reference}
use Rattle.kilim_run_rows.proofs.objects.read_reference.Goals as goal

pub returns-in_default-index_in-clause-step : goal.returns-in_default-index_in-clause-step
returns-in_default-index_in-clause-step c =
    let fits : FitsSigned w32 c.pop_int-i.result = search rules in
    let none : found_in c.args.heap.now c.in-Some.at c.pop_int-i.result ≡ None = simp to_z-of_z at (rw c.in_default-index_in.is at c.index_in.ensures) in
    (no_reference c.args.heap.now c.args.frame.now.stack c.pop_int-i.new.self c.pop_object.new.self c.pop_int-i.result c.in-Some.at c.pop_int-i.ensures (rw c.in-Some.is at c.pop_object.ensures) c.args.program.now c.args.own.now c.args.next c.args.frame.now.locals c.requires.fine none, refl, refl, refl)
