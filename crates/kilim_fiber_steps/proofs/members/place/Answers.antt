use Rattle.std.proofs.Common.{◌<◌, ◌≤◌, sym, subst, length, length-drop, arith}
use Rattle.kilim_run_state.specs.declared.frames.frame.Frame.{Frame}
use Rattle.kilim_fiber_steps.proofs.Operands.{int_there, place_done, two_left}
use Rattle.kilim_fiber_steps.proofs.members.place.Goals as goal

pub top_of-receiver-requires : goal.top_of-receiver-requires
top_of-receiver-requires c =
    let less : 3 ≤ length c.args.frame.now.stack.values = c.requires.there in
    subst (λ (f : Frame). 0 < length f.stack.values) (sym c.drop_fiber.ensures) (omega (arith, less, length-drop 1 c.args.frame.now.stack.values))

pub top_of-int-requires : goal.top_of-int-requires
top_of-int-requires c = two_left c.args.frame.now c.drop_fiber.new.frame c.top_of-receiver.new.frame c.top_of-receiver.result c.drop_fiber.ensures c.top_of-receiver.ensures c.requires.there

pub number_of-number-requires : goal.number_of-number-requires
number_of-number-requires c = int_there c.args.frame.now c.drop_fiber.new.frame c.top_of-receiver.new.frame c.top_of-int.new.frame c.top_of-receiver.result c.top_of-int.result c.drop_fiber.ensures c.top_of-receiver.ensures c.top_of-int.ensures c.requires.first

pub returns : goal.returns
returns c =
    place_done c.args.frame.now c.drop_fiber.new.frame c.top_of-receiver.new.frame c.top_of-int.new.frame c.top_of-receiver.result c.top_of-int.result c.number_of-number.result c.args.records.now c.place.new.self
    c.requires.last c.drop_fiber.ensures c.top_of-receiver.ensures c.top_of-int.ensures c.number_of-number.ensures.0 c.place.ensures
