use Rattle.std.proofs.Common.{◌≡◌, ◌≤◌, sym, subst, false}
use Rattle.kilim_run_machine.specs.Does.{does}
use Rattle.kilim_run_state.specs.Machine.{Objects}
use Rattle.kilim_run_state.specs.declared.frames.frame.Frame.{Frame}
use Rattle.kilim_run_rows.specs.Outcome.{SameFrame, Shows, height, is_stuck}
use Rattle.kilim_run_interp.proofs.instruction.table.act.Goals as goal

pub returns-in-Some : goal.returns-in-Some
returns-in-Some c = record { step = rw c.in-Some.is at c.act_near.ensures.step; same = c.act_near.ensures.same }

pub act_far-requires : goal.act_far-requires
act_far-requires c =
    let still = rw c.in-None.is at c.act_near.ensures.step in
    record {
      far = still.0;
      fine =
          subst (λ (h : Objects). is_stuck (does c.args.program.now c.args.own.now c.args.instr.now c.args.next c.act_near.new.frame.locals c.act_near.new.frame.stack.values h) ≡ false) (sym still.1.heap)
          (subst (λ (f : Frame). is_stuck (does c.args.program.now c.args.own.now c.args.instr.now c.args.next f.locals f.stack.values c.args.heap.now) ≡ false) (sym still.1.frame) c.requires.fine);
      room =
          subst (λ (h : Objects). height (does c.args.program.now c.args.own.now c.args.instr.now c.args.next c.act_near.new.frame.locals c.act_near.new.frame.stack.values h) ≤ c.act_near.new.frame.stack.room) (sym still.1.heap)
          (subst (λ (f : Frame). height (does c.args.program.now c.args.own.now c.args.instr.now c.args.next f.locals f.stack.values c.args.heap.now) ≤ f.stack.room) (sym still.1.frame) c.requires.room);
    }

pub returns-in-None : goal.returns-in-None
returns-in-None c =
    let still = rw c.in-None.is at c.act_near.ensures.step in
    record {
      step =
          subst (λ (h : Objects). Shows c.args.own.now (does c.args.program.now c.args.own.now c.args.instr.now c.args.next c.args.frame.now.locals c.args.frame.now.stack.values h) c.args.next c.act_far.result c.args.frame.now c.act_far.new.frame h c.act_far.new.heap) still.1.heap
          (subst (λ (f : Frame). Shows c.args.own.now (does c.args.program.now c.args.own.now c.args.instr.now c.args.next f.locals f.stack.values c.act_near.new.heap) c.args.next c.act_far.result f c.act_far.new.frame c.act_near.new.heap c.act_far.new.heap) still.1.frame c.act_far.ensures.step);
      same = subst (λ (f : Frame). SameFrame f c.act_far.new.frame) still.1.frame c.act_far.ensures.same;
    }
