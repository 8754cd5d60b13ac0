use Rattle.std.proofs.Common.{arith}
use Rattle.kilim_class_attributes.proofs.parts.PartsLoop.{begins, fails, behind, leads_on, skips, all_read}
use Rattle.kilim_class_attributes.proofs.parts.annotation_reading.push_parts_at.Goals as goal

pub loop-next-init : goal.loop-next-init
loop-next-init c = record {
  fit = λ i. omega (arith, c.type_inv.bytes i);
  leads = rw (c.in-Ok.ensures.items, c.requires.none_to_come, c.requires.no_parts) (begins c.args.pool.now c.args.ends c.args.kind c.args.bytes.now);
}

pub returns-in-Err : goal.returns-in-Err
returns-in-Err c =
    fails c.args.pool.now c.args.ends c.args.kind c.args.bytes.now c.loop-next.parts c.loop-next.to_come.items c.pop.new.self.items c.in-Some.next c.loop-next.rest.now c.in-Some.ensures.items c.if-next-gt0.true c.loop-next.invariant.leads c.in-Err.fault c.in-Err.ensures

pub loop-next-smaller-in-Ok-part_at : goal.loop-next-smaller-in-Ok-part_at
loop-next-smaller-in-Ok-part_at c =
    let b = behind c.args.pool.now c.args.ends c.args.kind c.args.bytes.now c.loop-next.parts c.loop-next.to_come.items c.pop.new.self.items c.in-Some.next c.loop-next.rest.now c.in-Some.ensures.items c.if-next-gt0.true c.loop-next.invariant.leads c.in-Ok-part_at.part c.in-Ok-part_at.after.now c.loop-next.invariant.fit c.in-Ok-part_at.ensures in
    let popped = c.in-Some.ensures.len in
    let noted = c.in-Ok-note.ensures.len in
    omega arith

pub loop-next-preserved-in-Ok-part_at : goal.loop-next-preserved-in-Ok-part_at
loop-next-preserved-in-Ok-part_at c =
    let b = behind c.args.pool.now c.args.ends c.args.kind c.args.bytes.now c.loop-next.parts c.loop-next.to_come.items c.pop.new.self.items c.in-Some.next c.loop-next.rest.now c.in-Some.ensures.items c.if-next-gt0.true c.loop-next.invariant.leads c.in-Ok-part_at.part c.in-Ok-part_at.after.now c.loop-next.invariant.fit c.in-Ok-part_at.ensures in
    record {
      fit = b.1;
      leads = leads_on c.args.pool.now c.args.ends c.args.kind c.args.bytes.now c.loop-next.parts c.loop-next.to_come.items c.pop.new.self.items c.in-Some.next c.loop-next.rest.now c.in-Some.ensures.items c.if-next-gt0.true c.loop-next.invariant.leads c.in-Ok-part_at.part c.in-Ok-part_at.after.now c.loop-next.invariant.fit c.in-Ok-part_at.ensures
          c.note.new.to_come.items c.note.new.parts c.in-Ok-note.ensures.to_come c.in-Ok-note.ensures.parts;
    }

pub loop-next-smaller : goal.loop-next-smaller
loop-next-smaller c = let popped = c.in-Some.ensures.len in omega arith

pub loop-next-preserved : goal.loop-next-preserved
loop-next-preserved c = record {
  fit = c.loop-next.invariant.fit;
  leads = skips c.args.pool.now c.args.ends c.args.kind c.args.bytes.now c.loop-next.parts c.loop-next.to_come.items c.pop.new.self.items c.in-Some.next c.loop-next.rest.now c.in-Some.ensures.items c.if-next-gt0.false c.loop-next.invariant.leads;
}

pub returns : goal.returns
returns c = all_read c.args.pool.now c.args.ends c.args.kind c.args.bytes.now c.loop-next.parts c.loop-next.to_come.items c.loop-next.rest.now (omega (arith, c.loop-next.to_come.ok.0, c.in_default-pop.ensures.cases.0)) c.loop-next.invariant.leads
