use Rattle.std.proofs.Common.{◌≡◌, ◌∙◌, ◌<◌, refl, sym, ap, subst, ℕ, true, List, length, arith}
use Rattle.std.specs.Prelude.{◌&&◌}
use Rattle.kilim_program.specs.declared.instr.Instr.{Instr}
use Rattle.kilim_run_rows.specs.declared.outcome.Moved.{Moved}
use Rattle.kilim_fiber_steps.specs.Legs.{IsOpen, standing}
use Rattle.kilim_fiber_steps.proofs.Counting.{over_by}
use Rattle.kilim_fiber_steps.proofs.Near.{behind_is, marked_own, near_fine, near_open}
use Rattle.kilim_fiber_steps.proofs.Woven.{called_member, called_yield}
use Rattle.kilim_fiber_steps.proofs.runs.call_near.Goals as goal

pub returns-then-is_spent : goal.returns-then-is_spent
returns-then-is_spent c =
    let is = marked_own c.args.own.now c.args.code.now c.args.marks.now c.args.at c.mark_of-mark.result c.requires.code c.mark_of-mark.ensures.has in
    let spent = c.is_spent.ensures.yes c.if-is_spent.true in
    over_by c.args.own.now c.args.marks.now c.mark_of-mark.result c.args.live c.args.left (standing c.args.own.now c.args.frames.now c.args.frame.now c.args.at) c.args.heap.now is (sym c.counts_by-costs.ensures ∙ spent.0) spent.1

pub told-requires-clause-fine : goal.told-requires-clause-fine
told-requires-clause-fine c =
    let some : (c.mark_of-mark.result && c.args.live) ≡ true → 0 < c.args.left = λ e. c.is_spent.ensures.no c.if-is_spent.false (c.counts_by-costs.ensures ∙ e) in
    let is = marked_own c.args.own.now c.args.code.now c.args.marks.now c.args.at c.mark_of-mark.result c.requires.code c.mark_of-mark.ensures.has in
    near_fine c.args.program.now c.args.own.now c.args.frames.now c.args.frame.now c.args.at c.args.heap.now c.args.code.now c.instr_at-found.result.0.now c.instr_at-found.result.1
    (c.requires.fine c.mark_of-mark.result is some) c.requires.roomy c.requires.own c.requires.code c.instr_at-found.ensures.found

pub returns-in_default-moved : goal.returns-in_default-moved
returns-in_default-moved c =
    let some : (c.mark_of-mark.result && c.args.live) ≡ true → 0 < c.args.left = λ e. c.is_spent.ensures.no c.if-is_spent.false (c.counts_by-costs.ensures ∙ e) in
    let is = marked_own c.args.own.now c.args.code.now c.args.marks.now c.args.at c.mark_of-mark.result c.requires.code c.mark_of-mark.ensures.has in
    near_open c.args.program.now c.args.own.now c.args.frames.now c.args.frame.now c.args.at c.args.heap.now c.args.code.now c.instr_at-found.result.0.now c.instr_at-found.result.1
    (c.requires.fine c.mark_of-mark.result is some) c.requires.roomy c.requires.own c.requires.code c.instr_at-found.ensures.found c.args.frame.now c.args.heap.now (record { method = refl; room = refl })
    c.args.marks.now c.args.live c.mark_of-mark.result c.args.left c.in-Some.moved c.in-Some.ensures is some

pub returns-else-is_yield : goal.returns-else-is_yield
returns-else-is_yield c =
    let some : (c.mark_of-mark.result && c.args.live) ≡ true → 0 < c.args.left = λ e. c.is_spent.ensures.no c.if-is_spent.false (c.counts_by-costs.ensures ∙ e) in
    let is = marked_own c.args.own.now c.args.code.now c.args.marks.now c.args.at c.mark_of-mark.result c.requires.code c.mark_of-mark.ensures.has in
    let opened = near_open c.args.program.now c.args.own.now c.args.frames.now c.args.frame.now c.args.at c.args.heap.now c.args.code.now c.instr_at-found.result.0.now c.instr_at-found.result.1
    (c.requires.fine c.mark_of-mark.result is some) c.requires.roomy c.requires.own c.requires.code c.instr_at-found.ensures.found c.args.frame.now c.args.heap.now (record { method = refl; room = refl })
    c.args.marks.now c.args.live c.mark_of-mark.result c.args.left c.in-Some.moved c.in-Some.ensures is some in
    subst (λ (m : Moved). IsOpen c.args.program.now c.args.own.now c.args.marks.now c.args.live c.args.left (standing c.args.own.now c.args.frames.now c.args.frame.now c.args.at) c.args.heap.now c.mark_of-mark.result m c.instr_at-found.result.1 (standing c.args.own.now c.args.frames.now c.args.frame.now c.args.at) c.args.heap.now) c.in-Asked.is opened

pub returns-else-not-is_spent : goal.returns-else-not-is_spent
returns-else-not-is_spent c =
    let some : (c.mark_of-mark.result && c.args.live) ≡ true → 0 < c.args.left = λ e. c.is_spent.ensures.no c.if-is_spent.false (c.counts_by-costs.ensures ∙ e) in
    let is = marked_own c.args.own.now c.args.code.now c.args.marks.now c.args.at c.mark_of-mark.result c.requires.code c.mark_of-mark.ensures.has in
    let opened = near_open c.args.program.now c.args.own.now c.args.frames.now c.args.frame.now c.args.at c.args.heap.now c.args.code.now c.instr_at-found.result.0.now c.instr_at-found.result.1
    (c.requires.fine c.mark_of-mark.result is some) c.requires.roomy c.requires.own c.requires.code c.instr_at-found.ensures.found c.args.frame.now c.args.heap.now (record { method = refl; room = refl })
    c.args.marks.now c.args.live c.mark_of-mark.result c.args.left c.in-Some.moved c.in-Some.ensures is some in
    subst (λ (m : Moved). IsOpen c.args.program.now c.args.own.now c.args.marks.now c.args.live c.args.left (standing c.args.own.now c.args.frames.now c.args.frame.now c.args.at) c.args.heap.now c.mark_of-mark.result m c.instr_at-found.result.1 (standing c.args.own.now c.args.frames.now c.args.frame.now c.args.at) c.args.heap.now) c.in-Asked.is opened

pub returns-in-Some-member_at : goal.returns-in-Some-member_at
returns-in-Some-member_at c =
    let some : (c.mark_of-mark.result && c.args.live) ≡ true → 0 < c.args.left = λ e. c.is_spent.ensures.no c.if-is_spent.false (c.counts_by-costs.ensures ∙ e) in
    let is = marked_own c.args.own.now c.args.code.now c.args.marks.now c.args.at c.mark_of-mark.result c.requires.code c.mark_of-mark.ensures.has in
    let opened = near_open c.args.program.now c.args.own.now c.args.frames.now c.args.frame.now c.args.at c.args.heap.now c.args.code.now c.instr_at-found.result.0.now c.instr_at-found.result.1
    (c.requires.fine c.mark_of-mark.result is some) c.requires.roomy c.requires.own c.requires.code c.instr_at-found.ensures.found c.args.frame.now c.args.heap.now (record { method = refl; room = refl })
    c.args.marks.now c.args.live c.mark_of-mark.result c.args.left c.in-Some.moved c.in-Some.ensures is some in
    let asked = subst (λ (m : Moved). IsOpen c.args.program.now c.args.own.now c.args.marks.now c.args.live c.args.left (standing c.args.own.now c.args.frames.now c.args.frame.now c.args.at) c.args.heap.now c.mark_of-mark.result m c.instr_at-found.result.1 (standing c.args.own.now c.args.frames.now c.args.frame.now c.args.at) c.args.heap.now) c.in-Asked.is opened in
    let next = c.in-Some-number_behind.ensures in
    let same : length c.args.code.now ≡ length c.args.own.now.code = ap (λ (xs : List (ℕ × Instr)). length xs) c.requires.code in
    let less = next.1 in
    called_member c.args.program.now c.args.own.now c.args.marks.now c.args.live c.args.left c.args.frames.now c.args.frame.now c.args.at c.args.heap.now c.mark_of-mark.result c.in-Some-member_at.member c.in-Asked.id c.in-Asked.count c.instr_at-found.result.1 c.in-Some-number_behind.behind
    asked (omega (arith, same, less)) (c.instr_at-found.ensures.next ∙ behind_is c.args.own.now c.args.code.now c.args.at c.in-Some-number_behind.behind c.requires.code next.0) c.in-Some-member_at.ensures

pub returns-then-not-is_spent : goal.returns-then-not-is_spent
returns-then-not-is_spent c =
    let some : (c.mark_of-mark.result && c.args.live) ≡ true → 0 < c.args.left = λ e. c.is_spent.ensures.no c.if-is_spent.false (c.counts_by-costs.ensures ∙ e) in
    let is = marked_own c.args.own.now c.args.code.now c.args.marks.now c.args.at c.mark_of-mark.result c.requires.code c.mark_of-mark.ensures.has in
    let opened = near_open c.args.program.now c.args.own.now c.args.frames.now c.args.frame.now c.args.at c.args.heap.now c.args.code.now c.instr_at-found.result.0.now c.instr_at-found.result.1
    (c.requires.fine c.mark_of-mark.result is some) c.requires.roomy c.requires.own c.requires.code c.instr_at-found.ensures.found c.args.frame.now c.args.heap.now (record { method = refl; room = refl })
    c.args.marks.now c.args.live c.mark_of-mark.result c.args.left c.in-Some.moved c.in-Some.ensures is some in
    let asked = subst (λ (m : Moved). IsOpen c.args.program.now c.args.own.now c.args.marks.now c.args.live c.args.left (standing c.args.own.now c.args.frames.now c.args.frame.now c.args.at) c.args.heap.now c.mark_of-mark.result m c.instr_at-found.result.1 (standing c.args.own.now c.args.frames.now c.args.frame.now c.args.at) c.args.heap.now) c.in-Asked.is opened in
    let next = c.in-Some-number_behind.ensures in
    let same : length c.args.code.now ≡ length c.args.own.now.code = ap (λ (xs : List (ℕ × Instr)). length xs) c.requires.code in
    let less = next.1 in
    called_yield c.args.program.now c.args.own.now c.args.marks.now c.args.live c.args.left c.args.frames.now c.args.frame.now c.args.at c.args.heap.now c.mark_of-mark.result c.in-Asked.id c.in-Asked.count c.instr_at-found.result.1 c.in-Some-number_behind.behind
    asked (omega (arith, same, less)) (c.instr_at-found.ensures.next ∙ behind_is c.args.own.now c.args.code.now c.args.at c.in-Some-number_behind.behind c.requires.code next.0) (c.is_yield.ensures c.if-is_yield.true) (c.is_spent-then-is_yield.ensures.no c.if-not-is_spent.true)
