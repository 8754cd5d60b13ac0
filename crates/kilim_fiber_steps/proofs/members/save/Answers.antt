use Rattle.std.proofs.Common.{◌<◌, ◌≤◌, sym, subst, length, length-drop, arith}
use Rattle.kilim_run_state.specs.declared.frames.frame.Frame.{Frame}
use Rattle.kilim_fiber_steps.proofs.Operands.{save_done}
use Rattle.kilim_fiber_steps.proofs.members.save.Goals as goal

pub top_of-value-requires : goal.top_of-value-requires
top_of-value-requires c =
    let less : 2 ≤ length c.args.frame.now.stack.values = c.requires.there in
    subst (λ (f : Frame). 0 < length f.stack.values) (sym c.drop_fiber.ensures) (omega (arith, less, length-drop 1 c.args.frame.now.stack.values))

pub returns : goal.returns
returns c = save_done c.args.frame.now c.drop_fiber.new.frame c.top_of-value.new.frame c.top_of-value.result c.args.records.now c.save.new.self c.requires.last c.drop_fiber.ensures c.top_of-value.ensures c.in-Ok.ensures
