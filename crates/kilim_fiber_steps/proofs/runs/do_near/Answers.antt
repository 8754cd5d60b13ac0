use Rattle.std.proofs.Common.{◌≡◌, ◌∙◌, ◌<◌, ◌+◌, refl, sym, ap, subst, ℕ, Bool, true, List, length, arith}
use Rattle.std.specs.Prelude.{◌&&◌}
use Rattle.kilim_program.specs.declared.instr.Instr.{Instr}
use Rattle.kilim_program.specs.Lengths.{first_place}
use Rattle.std.proofs.Common.{drop}
use Rattle.kilim_run_state.specs.declared.frames.frame.Frame.{Frame}
use Rattle.kilim_run_interp.specs.Step.{AreRoomy}
use Rattle.kilim_fiber_steps.specs.Legs.{IsOpen, standing}
use Rattle.kilim_fiber_steps.proofs.Counting.{over_by}
use Rattle.kilim_fiber_steps.proofs.Near.{behind_is, marked_own, near_fine, near_goes, near_open, near_room, near_roomy, near_still, place_is, same_mark}
use Rattle.kilim_fiber_steps.proofs.runs.do_near.Goals as goal

pub act_near-requires-clause-fine : goal.act_near-requires-clause-fine
act_near-requires-clause-fine c =
    let some : (c.mark_of-mark.result && c.args.live) ≡ true → 0 < c.args.left.now = λ e. c.is_spent.ensures.no c.if-is_spent.false (c.counts_by-costs.ensures ∙ e) in
    let is = marked_own c.args.own.now c.args.code.now c.args.marks.now c.args.at.now c.mark_of-mark.result c.requires.code c.mark_of-mark.ensures.has in
    near_fine c.args.program.now c.args.own.now c.args.frames.now c.args.frame.now c.args.at.now c.args.heap.now c.args.code.now c.instr_at-found.result.0.now c.instr_at-found.result.1
    (c.requires.fine c.mark_of-mark.result is some) c.requires.roomy c.requires.own c.requires.code c.instr_at-found.ensures.found

pub act_near-requires-clause-room : goal.act_near-requires-clause-room
act_near-requires-clause-room c =
    let some : (c.mark_of-mark.result && c.args.live) ≡ true → 0 < c.args.left.now = λ e. c.is_spent.ensures.no c.if-is_spent.false (c.counts_by-costs.ensures ∙ e) in
    let is = marked_own c.args.own.now c.args.code.now c.args.marks.now c.args.at.now c.mark_of-mark.result c.requires.code c.mark_of-mark.ensures.has in
    near_room c.args.program.now c.args.own.now c.args.frames.now c.args.frame.now c.args.at.now c.args.heap.now c.args.code.now c.instr_at-found.result.0.now c.instr_at-found.result.1
    (c.requires.fine c.mark_of-mark.result is some) c.requires.roomy c.requires.own c.requires.code c.instr_at-found.ensures.found

pub returns-then-next-code-clause-does : goal.returns-then-next-code-clause-does
returns-then-next-code-clause-does c =
    let some : (c.mark_of-mark.result && c.args.live) ≡ true → 0 < c.args.left.now = λ e. c.is_spent.ensures.no c.if-is_spent.false (c.counts_by-costs.ensures ∙ e) in
    let is = marked_own c.args.own.now c.args.code.now c.args.marks.now c.args.at.now c.mark_of-mark.result c.requires.code c.mark_of-mark.ensures.has in
    let same : length c.args.code.now ≡ length c.args.own.now.code = ap (λ (xs : List (ℕ × Instr)). length xs) c.requires.code in
    let less = c.if-next-code.true in
    record {
      counts = c.counts_by-costs.result;
      within = omega (arith, same, less);
      less = c.less_if.ensures;
      gone = record {
        mark = c.mark_of-mark.result;
        is = is;
        by = c.counts_by-costs.ensures;
        some = some;
        went = near_goes c.args.program.now c.args.own.now c.args.frames.now c.args.frame.now c.args.at.now c.args.heap.now c.args.code.now c.instr_at-found.result.0.now c.instr_at-found.result.1
            (c.requires.fine c.mark_of-mark.result is some) c.requires.roomy c.requires.own c.requires.code c.instr_at-found.ensures.found c.act_near.new.frame c.act_near.new.heap c.act_near.ensures.same
            c.instr_at-found.result.1 (c.args.at.now + 1) (rw (c.in-Some-Next.is, c.in-Some-Next.field-0-is) at c.act_near.ensures.step) (c.instr_at-found.ensures.next ∙ behind_is c.args.own.now c.args.code.now c.args.at.now (c.args.at.now + 1) c.requires.code refl);
      };
    }

pub returns-in-Some-number_of-clause-does : goal.returns-in-Some-number_of-clause-does
returns-in-Some-number_of-clause-does c =
    let some : (c.mark_of-mark.result && c.args.live) ≡ true → 0 < c.args.left.now = λ e. c.is_spent.ensures.no c.if-is_spent.false (c.counts_by-costs.ensures ∙ e) in
    let is = marked_own c.args.own.now c.args.code.now c.args.marks.now c.args.at.now c.mark_of-mark.result c.requires.code c.mark_of-mark.ensures.has in
    let there = c.in-Some-number_of.ensures in
    let same : length c.args.code.now ≡ length c.args.own.now.code = ap (λ (xs : List (ℕ × Instr)). length xs) c.requires.code in
    let less = there.0 in
    record {
      counts = c.counts_by-costs.result;
      within = omega (arith, same, less);
      less = c.less_if-in-Some-number_of.ensures;
      gone = record {
        mark = c.mark_of-mark.result;
        is = is;
        by = c.counts_by-costs.ensures;
        some = some;
        went = near_goes c.args.program.now c.args.own.now c.args.frames.now c.args.frame.now c.args.at.now c.args.heap.now c.args.code.now c.instr_at-found.result.0.now c.instr_at-found.result.1
            (c.requires.fine c.mark_of-mark.result is some) c.requires.roomy c.requires.own c.requires.code c.instr_at-found.ensures.found c.act_near.new.frame c.act_near.new.heap c.act_near.ensures.same
            c.in-Some-Jump.to c.in-Some-number_of.next (rw (c.in-Some-Jump.is, c.in-Some-Jump.field-0-is) at c.act_near.ensures.step) (place_is c.args.own.now c.args.code.now c.in-Some-number_of.next c.in-Some-Jump.to c.requires.code there.1);
      };
    }

pub returns-in-Some : goal.returns-in-Some
returns-in-Some c =
    let some : (c.mark_of-mark.result && c.args.live) ≡ true → 0 < c.args.left.now = λ e. c.is_spent.ensures.no c.if-is_spent.false (c.counts_by-costs.ensures ∙ e) in
    let is = marked_own c.args.own.now c.args.code.now c.args.marks.now c.args.at.now c.mark_of-mark.result c.requires.code c.mark_of-mark.ensures.has in
    let again = marked_own c.args.own.now c.args.code.now c.args.marks.now c.args.at.now c.mark_of-mark-in-Some.result c.requires.code c.mark_of-mark-in-Some.ensures.has in
    let e_mark = same_mark c.args.own.now.code c.args.marks.now c.args.own.now.code_length (first_place (drop c.args.at.now c.args.own.now.code) c.args.own.now.code_length) c.mark_of-mark.result c.mark_of-mark-in-Some.result is again in
    let e_next = c.instr_at-found.ensures.next ∙ sym c.instr_at-behind.ensures.next in
    let opened = near_open c.args.program.now c.args.own.now c.args.frames.now c.args.frame.now c.args.at.now c.args.heap.now c.args.code.now c.instr_at-found.result.0.now c.instr_at-found.result.1
    (c.requires.fine c.mark_of-mark.result is some) c.requires.roomy c.requires.own c.requires.code c.instr_at-found.ensures.found c.act_near.new.frame c.act_near.new.heap c.act_near.ensures.same
    c.args.marks.now c.args.live c.mark_of-mark.result c.args.left.now c.in-Some.moved (rw c.in-Some.is at c.act_near.ensures.step) is some in
    let open_marked = subst (λ (m : Bool). IsOpen c.args.program.now c.args.own.now c.args.marks.now c.args.live c.args.left.now (standing c.args.own.now c.args.frames.now c.args.frame.now c.args.at.now) c.args.heap.now m c.in-Some.moved c.instr_at-found.result.1 (standing c.args.own.now c.args.frames.now c.act_near.new.frame c.args.at.now) c.act_near.new.heap) e_mark opened in
    record {
      roomy = near_roomy c.args.program.now c.args.own.now c.args.frames.now c.args.frame.now c.args.at.now c.args.heap.now c.args.code.now c.instr_at-found.result.0.now c.instr_at-found.result.1
          (c.requires.fine c.mark_of-mark.result is some) c.requires.roomy c.requires.own c.requires.code c.instr_at-found.ensures.found c.act_near.new.frame c.act_near.new.heap c.act_near.ensures.same (first_place (drop c.args.at.now c.args.own.now.code) c.args.own.now.code_length);
      same = c.act_near.ensures.same.method;
      within = c.requires.within;
      does = record { same = refl; kept = refl; is = subst (λ (n : ℕ). IsOpen c.args.program.now c.args.own.now c.args.marks.now c.args.live c.args.left.now (standing c.args.own.now c.args.frames.now c.args.frame.now c.args.at.now) c.args.heap.now c.mark_of-mark-in-Some.result c.in-Some.moved n (standing c.args.own.now c.args.frames.now c.act_near.new.frame c.args.at.now) c.act_near.new.heap) e_next open_marked };
    }

pub returns-then-is_spent-clause-does : goal.returns-then-is_spent-clause-does
returns-then-is_spent-clause-does c =
    let is = marked_own c.args.own.now c.args.code.now c.args.marks.now c.args.at.now c.mark_of-mark.result c.requires.code c.mark_of-mark.ensures.has in
    let spent = c.is_spent.ensures.yes c.if-is_spent.true in
    record {
      same = refl;
      kept = refl;
      is = over_by c.args.own.now c.args.marks.now c.mark_of-mark.result c.args.live c.args.left.now (standing c.args.own.now c.args.frames.now c.args.frame.now c.args.at.now) c.args.heap.now is (sym c.counts_by-costs.ensures ∙ spent.0) spent.1;
    }

pub returns-in-None-clause-does : goal.returns-in-None-clause-does
returns-in-None-clause-does c =
    let still = rw c.in-None.is at c.act_near.ensures.step in
    record { same = refl; kept = refl; is = near_still c.args.own.now c.args.frames.now c.args.frame.now c.act_near.new.frame c.args.at.now c.args.heap.now c.act_near.new.heap still.1 }

pub returns-in-None-clause-roomy : goal.returns-in-None-clause-roomy
returns-in-None-clause-roomy c =
    let still = rw c.in-None.is at c.act_near.ensures.step in
    subst (λ (f : Frame). AreRoomy c.args.program.now (standing c.args.own.now c.args.frames.now f c.args.at.now)) (sym still.1.frame) c.requires.roomy
