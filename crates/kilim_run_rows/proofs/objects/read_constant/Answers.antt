use Rattle.std.proofs.Common.{◌≡◌, ap, length, arith}
use Rattle.kilim_program.specs.Program.{Program}
use Rattle.kilim_run_rows.proofs.Slots.{declared_read}
use Rattle.kilim_run_rows.proofs.objects.read_constant.Goals as goal

pub get-declared-requires : goal.get-declared-requires
get-declared-requires c =
    let less = declared_read c.args.program.now c.args.own.now c.args.field c.args.next c.args.frame.now.locals c.args.heap.now c.args.frame.now.stack.values c.requires.fine in
    let same : length c.program.inside.fields ≡ length c.args.program.now.fields = ap (λ (p : Program). length p.fields) c.program.view_is in
    omega (arith, less, same)
