use Rattle.std.proofs.Common.{ap, length, arith}
use Rattle.kilim_type_spec.specs.Typed.{frame_in}
use Rattle.kilim_type_step.proofs.Searched.{search_end, search_here, search_more}
use Rattle.kilim_type_step.proofs.entry.declared_at.Goals as goal

pub returns-then-entry-place : goal.returns-then-entry-place
returns-then-entry-place c =
    search_here c.as_slice-entry-items.result.now c.args.method.now.frames c.loop-entry.entry-index c.args.place c.entry-item.result _ (frame_in c.args.method.now.frames c.args.place) c.as_slice-entry-items.ensures c.loop-entry-test.true
    c.entry-item.is c.if-entry-place.true c.loop-entry.invariant

pub loop-entry-preserved : goal.loop-entry-preserved
loop-entry-preserved c =
    search_more c.as_slice-entry-items.result.now c.args.method.now.frames c.loop-entry.entry-index c.args.place c.entry-item.result _ (frame_in c.args.method.now.frames c.args.place) c.as_slice-entry-items.ensures c.loop-entry-test.true
    c.entry-item.is c.if-entry-place.false c.loop-entry.invariant

pub returns : goal.returns
returns c =
    search_end c.args.method.now.frames c.loop-entry.entry-index c.args.place (frame_in c.args.method.now.frames c.args.place) (omega (arith, ap length c.as_slice-entry-items.ensures)) c.loop-entry.invariant
