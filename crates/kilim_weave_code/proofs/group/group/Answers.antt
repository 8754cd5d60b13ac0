use Rattle.kilim_weave_pieces.specs.Meant.{meant}
use Rattle.kilim_weave_pieces.specs.Items.{items_of}
use Rattle.kilim_weave_code.proofs.Putting.{group_is, on_ok}
use Rattle.kilim_weave_code.proofs.group.group.Goals as goal

pub returns : goal.returns
returns c =
    on_ok c.declare.result
    (group_is (meant c.args.plan.now) c.args.number c.args.callee.now c.args.place c.args.next c.args.instr.now (items_of c.args.items.now) (items_of c.leave.new.items) (items_of c.drop_result.new.items) (items_of c.add.new.items) (items_of c.call_fiber.new.items)
    (items_of c.call_below.new.items) (items_of c.declare.new.items) c.in-Ok-at.behind c.in-Ok.ensures c.in-Ok-drop_result.ensures c.in-Ok-at.ensures c.in-Ok-add.ensures c.in-Ok-call_fiber.ensures c.in-Ok-call_below.ensures)
    c.declare.ensures
