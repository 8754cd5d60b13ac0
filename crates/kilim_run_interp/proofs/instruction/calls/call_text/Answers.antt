use Rattle.std.proofs.Common.{refl, ◌≡◌, ◌∙◌, sym, ◌<◌, false, true, Some, length, slice_get}
use Rattle.kilim_run_machine.specs.Does.{is_null}
use Rattle.kilim_run_interp.proofs.instruction.Invokes.{text_many, text_null, text_there}
use Rattle.kilim_run_interp.proofs.instruction.calls.call_text.Goals as goal

pub peek-requires : goal.peek-requires
peek-requires c =
    rw c.len-count.ensures (text_there c.args.named.now (length c.args.named.now.params) c.args.next c.args.frame.now.locals c.args.frame.now.stack.values c.args.heap.now c.requires.fine)

pub returns-then-is_none-clause-step : goal.returns-then-is_none-clause-step
returns-then-is_none-clause-step c = (
  text_null c.args.named.now (length c.args.named.now.params) c.args.next c.args.frame.now.locals c.args.frame.now.stack.values c.args.heap.now c.peek.result.now
      (rw c.len-count.ensures at c.peek.ensures) (sym c.is_none.ensures ∙ c.if-is_none.true) c.requires.fine,
  refl,
  refl,
  refl,
)

pub unreachable-requires : goal.unreachable-requires
unreachable-requires c =
    text_many c.args.named.now (length c.args.named.now.params) c.args.next c.args.frame.now.locals c.args.frame.now.stack.values c.args.heap.now c.peek.result.now
    (rw c.len-count.ensures at c.if-count-gt1.true) (rw c.len-count.ensures at c.peek.ensures) (sym c.is_none.ensures ∙ c.if-is_none.false) c.requires.fine
