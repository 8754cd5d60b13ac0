use Rattle.std.proofs.Common.{◌≡◌, ap, length, arith}
use Rattle.kilim_program.specs.Program.{Program}
use Rattle.kilim_run_rows.proofs.Slots.{declared_written}
use Rattle.kilim_run_rows.proofs.objects.write_field.Goals as goal

pub get-declared-requires : goal.get-declared-requires
get-declared-requires c =
    let less = declared_written c.args.program.now c.args.own.now c.args.field c.args.next c.args.frame.now.locals c.args.heap.now c.args.frame.now.stack c.pop-value.new.self c.pop_object.new.self c.pop-value.result c.in-Some.at c.pop-value.ensures (rw c.in-Some.is at c.pop_object.ensures) c.requires.fine in
    let same : length c.program.inside.fields ≡ length c.args.program.now.fields = ap (λ (p : Program). length p.fields) c.program.view_is in
    omega (arith, less, same)
