use Rattle.std.proofs.Common.{refl, ◌∙◌, sym}
use Rattle.kilim_run_rows.proofs.Classes.{cast_found, cast_passes, cast_refused, cast_there}
use Rattle.kilim_run_rows.proofs.types.cast.Goals as goal

pub peek-requires : goal.peek-requires
peek-requires c = cast_there c.args.program.now c.args.own.now c.args.ty.now c.args.next c.args.frame.now.locals c.args.frame.now.stack.values c.args.heap.now c.requires.fine

pub type_of-requires : goal.type_of-requires
type_of-requires c = cast_found c.args.program.now c.args.own.now c.args.ty.now c.args.next c.args.frame.now.locals c.args.frame.now.stack.values c.args.heap.now c.peek.result.now c.peek.ensures c.requires.fine

pub returns-then-cast_fits-clause-step : goal.returns-then-cast_fits-clause-step
returns-then-cast_fits-clause-step c =
    cast_passes c.args.program.now c.args.own.now c.args.ty.now c.args.next c.args.frame.now.locals c.args.frame.now.stack.values c.args.heap.now c.peek.result.now c.peek.ensures c.in-Ok.class
    (rw c.in-Ok.is at c.type_of.ensures) (sym c.cast_fits.ensures ∙ c.if-cast_fits.true)

pub returns-else-cast_fits-clause-step : goal.returns-else-cast_fits-clause-step
returns-else-cast_fits-clause-step c = (
  cast_refused c.args.program.now c.args.own.now c.args.ty.now c.args.next c.args.frame.now.locals c.args.frame.now.stack.values c.args.heap.now c.peek.result.now c.peek.ensures c.in-Ok.class
      (rw c.in-Ok.is at c.type_of.ensures) (sym c.cast_fits.ensures ∙ c.if-cast_fits.false),
  refl,
  refl,
  refl,
)
