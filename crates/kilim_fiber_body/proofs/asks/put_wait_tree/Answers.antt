use Rattle.std.proofs.Common.{inl, ap}
use Rattle.kilim_fiber_laws.specs.woven_kin.Nexts.{put_wait_next}
use Rattle.kilim_fiber_body.specs.Body.{behind_at}
use Rattle.kilim_fiber_body.proofs.Asking.{given_is, too_large}
use Rattle.kilim_fiber_body.proofs.asks.put_wait_tree.Goals as goal

pub returns-in-Ok-Tree-clause-comes : goal.returns-in-Ok-Tree-clause-comes
returns-in-Ok-Tree-clause-comes c =
    let gift = given_is c.args.plain.now c.args.root c.args.body.now.heap c.take_gift.new.heap _ c.in-Ok-Tree.tree c.in-Ok-Tree.shape c.in-Ok-Tree.field-0-is c.in-Ok-Tree.ensures in
    inl (c.args.root, record { heap = c.args.body.now.heap; out = gift.out }, ap (put_wait_next c.args.plain.now (behind_at 0 c.args.body.now) c.args.mailbox c.args.root) gift.has)

pub returns-in-Ok-TooLarge-clause-comes : goal.returns-in-Ok-TooLarge-clause-comes
returns-in-Ok-TooLarge-clause-comes c =
    ap (put_wait_next c.args.plain.now (behind_at 0 c.args.body.now) c.args.mailbox c.args.root) (too_large c.args.plain.now c.args.root c.args.body.now.heap c.take_gift.new.heap _ c.in-Ok-TooLarge.field-0-is c.in-Ok-TooLarge.ensures)
