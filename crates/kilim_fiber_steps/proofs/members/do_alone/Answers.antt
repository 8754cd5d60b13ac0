use Rattle.std.proofs.Common.{◌<◌, sym, subst, length}
use Rattle.kilim_run_state.specs.declared.frames.frame.Frame.{Frame}
use Rattle.kilim_fiber_steps.specs.records.natives.Natives.{member_meant}
use Rattle.kilim_fiber_steps.proofs.Operands.{alone_done, gives_by}
use Rattle.kilim_fiber_steps.proofs.members.do_alone.Goals as goal

pub put_on-requires : goal.put_on-requires
put_on-requires c =
    let room = c.requires.room (gives_by (member_meant c.args.member) c.args.records.now c.result_of.new.records c.in-Ok.value c.in-Ok.ensures) in
    subst (λ (f : Frame). length f.stack.values < f.stack.room) (sym c.drop_fiber.ensures) room

pub returns : goal.returns
returns c = alone_done (member_meant c.args.member) c.args.frame.now c.drop_fiber.new.frame c.put_on.new.frame c.in-Ok.value c.args.records.now c.result_of.new.records c.requires.args c.in-Ok.ensures c.drop_fiber.ensures c.put_on.ensures
