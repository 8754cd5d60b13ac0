use Rattle.std.proofs.Common.{ap, sym}
use Rattle.kilim_fiber_laws.specs.woven_kin.Nexts.{wait_next}
use Rattle.kilim_fiber_body.specs.Body.{behind_at}
use Rattle.kilim_fiber_body.proofs.Asking.{any_name, come_by, name_by}
use Rattle.kilim_fiber_body.proofs.asks.put_wait.Goals as goal

pub returns-in-Null : goal.returns-in-Null
returns-in-Null c = record {
  comes =
      name_by c.args.body.now.heap c.raise_called.new.body c.raise_called.result _ _ c.raise_called.ensures.comes
      (λ x. ap (wait_next c.args.plain.now c.args.program.now (behind_at x c.args.body.now) c.args.mailbox) (sym c.in-Null.is));
  roomy = c.raise_called.ensures.roomy;
  counted = c.raise_called.ensures.counted;
  room = c.raise_called.ensures.room;
}

pub returns-in-Ref : goal.returns-in-Ref
returns-in-Ref c = record {
  comes =
      any_name c.args.body.now.heap (λ x. wait_next c.args.plain.now c.args.program.now (behind_at x c.args.body.now) c.args.mailbox c.args.message.now) c.put_wait_tree.new.body c.put_wait_tree.result
      (come_by 0 c.put_wait_tree.new.body c.put_wait_tree.result _ _ (ap (wait_next c.args.plain.now c.args.program.now (behind_at 0 c.args.body.now) c.args.mailbox) (sym c.in-Ref.is)) c.put_wait_tree.ensures.comes);
  roomy = c.put_wait_tree.ensures.roomy;
  counted = c.put_wait_tree.ensures.counted;
  room = c.put_wait_tree.ensures.room;
}
