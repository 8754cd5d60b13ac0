use Rattle.std.proofs.Common.{arith, length, ◌∙◌, sym, refl}
use Rattle.std.proofs.lemmas.Option.{slice_get_read}
use Rattle.kilim_run_board.proofs.waiting.WaitLists.{waits_first, waits_none, none_more}
use Rattle.kilim_run_board.proofs.waiting.parked.first_waiting.Goals as goal

pub returns-then-is_same-clause-index : goal.returns-then-is_same-clause-index
returns-then-is_same-clause-index g c =
    sym (waits_first c.args.waiters.now c.args.waits c.loop-i.i c.index-waiters-i.result c.loop-i.invariant (slice_get_read c.args.waiters.now (length c.args.waiters.now) c.loop-i.i c.index-waiters-i.result refl c.loop-i-test.true c.index-waiters-i.is) (sym c.is_same.ensures ∙ c.if-is_same.true))

pub loop-i-preserved : goal.loop-i-preserved
loop-i-preserved g c =
    none_more c.args.waiters.now c.args.waits c.loop-i.i c.index-waiters-i.result c.loop-i.invariant (slice_get_read c.args.waiters.now (length c.args.waiters.now) c.loop-i.i c.index-waiters-i.result refl c.loop-i-test.true c.index-waiters-i.is) (sym c.is_same.ensures ∙ c.if-is_same.false)

pub returns-clause-index : goal.returns-clause-index
returns-clause-index g c = sym (waits_none c.args.waiters.now c.args.waits (λ k h p e. c.loop-i.invariant k (omega arith) p e))
