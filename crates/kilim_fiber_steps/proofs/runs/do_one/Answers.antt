use Rattle.std.proofs.Common.{◌≡◌, ◌∙◌, ◌<◌, refl, sym, true, arith}
use Rattle.std.specs.Prelude.{◌&&◌}
use Rattle.kilim_fiber_steps.specs.Marks.{IsNumber}
use Rattle.kilim_fiber_steps.proofs.Doing.{act_fine, act_room, goes_at, goes_made, shows_of}
use Rattle.kilim_fiber_steps.proofs.Counting.{over_by}
use Rattle.kilim_fiber_steps.proofs.runs.do_one.Goals as goal

pub returns-then-is_spent-clause-does : goal.returns-then-is_spent-clause-does
returns-then-is_spent-clause-does c =
    let number : IsNumber c.args.own.now.code c.args.marks.now c.args.own.now.code_length c.args.frames.now.top.pc c.in-Some.at c.in-Some.mark = grind (arith, c.as_slice-code.ensures, c.in-Some.ensures, c.in-Some.at-is, c.in-Some.mark-is) in
    let spent = c.is_spent.ensures.yes c.if-is_spent.true in
    over_by c.args.own.now c.args.marks.now c.in-Some.mark c.args.live c.args.left c.args.frames.now c.args.heap.now number.has (sym c.counts_by-counts.ensures ∙ spent.0) spent.1

pub act-moved-requires-clause-fine : goal.act-moved-requires-clause-fine
act-moved-requires-clause-fine c =
    let number : IsNumber c.args.own.now.code c.args.marks.now c.args.own.now.code_length c.args.frames.now.top.pc c.in-Some.at c.in-Some.mark = grind (arith, c.as_slice-code.ensures, c.in-Some.ensures, c.in-Some.at-is, c.in-Some.mark-is) in
    let some : (c.in-Some.mark && c.args.live) ≡ true → 0 < c.args.left = λ e. c.is_spent.ensures.no c.if-is_spent.false (c.counts_by-counts.ensures ∙ e) in
    let found = rw c.as_slice-code.ensures at c.instr_at-found.ensures.found in
    act_fine c.args.program.now c.args.own.now c.args.frames.now c.args.heap.now c.args.own.now.code c.in-Some.at c.instr_at-found.result.0.now c.instr_at-found.result.1
    (c.requires.fine c.in-Some.mark number.has some) c.requires.roomy c.requires.own refl found number.stands

pub act-moved-requires-clause-room : goal.act-moved-requires-clause-room
act-moved-requires-clause-room c =
    let number : IsNumber c.args.own.now.code c.args.marks.now c.args.own.now.code_length c.args.frames.now.top.pc c.in-Some.at c.in-Some.mark = grind (arith, c.as_slice-code.ensures, c.in-Some.ensures, c.in-Some.at-is, c.in-Some.mark-is) in
    let some : (c.in-Some.mark && c.args.live) ≡ true → 0 < c.args.left = λ e. c.is_spent.ensures.no c.if-is_spent.false (c.counts_by-counts.ensures ∙ e) in
    let found = rw c.as_slice-code.ensures at c.instr_at-found.ensures.found in
    act_room c.args.program.now c.args.own.now c.args.frames.now c.args.heap.now c.args.own.now.code c.in-Some.at c.instr_at-found.result.0.now c.instr_at-found.result.1
    (c.requires.fine c.in-Some.mark number.has some) c.requires.roomy c.requires.own refl found number.stands

pub returns-in-Next-clause-does : goal.returns-in-Next-clause-does
returns-in-Next-clause-does c =
    let number : IsNumber c.args.own.now.code c.args.marks.now c.args.own.now.code_length c.args.frames.now.top.pc c.in-Some.at c.in-Some.mark = grind (arith, c.as_slice-code.ensures, c.in-Some.ensures, c.in-Some.at-is, c.in-Some.mark-is) in
    let some : (c.in-Some.mark && c.args.live) ≡ true → 0 < c.args.left = λ e. c.is_spent.ensures.no c.if-is_spent.false (c.counts_by-counts.ensures ∙ e) in
    let found = rw c.as_slice-code.ensures at c.instr_at-found.ensures.found in
    record {
      mark = c.in-Some.mark;
      is = number.has;
      by = c.counts_by-counts.ensures;
      some = some;
      went = goes_at c.args.program.now c.args.own.now c.args.frames.now c.args.heap.now c.args.own.now.code c.in-Some.at c.instr_at-found.result.0.now c.instr_at-found.result.1
          (c.requires.fine c.in-Some.mark number.has some) c.requires.roomy c.requires.own refl found number.stands c.act-moved.new.frame c.act-moved.new.heap c.act-moved.ensures.same c.instr_at-found.result.1 (rw c.in-Next.is at c.act-moved.ensures.step);
    }

pub returns-in-Made-clause-does : goal.returns-in-Made-clause-does
returns-in-Made-clause-does c =
    let number : IsNumber c.args.own.now.code c.args.marks.now c.args.own.now.code_length c.args.frames.now.top.pc c.in-Some.at c.in-Some.mark = grind (arith, c.as_slice-code.ensures, c.in-Some.ensures, c.in-Some.at-is, c.in-Some.mark-is) in
    let some : (c.in-Some.mark && c.args.live) ≡ true → 0 < c.args.left = λ e. c.is_spent.ensures.no c.if-is_spent.false (c.counts_by-counts.ensures ∙ e) in
    let found = rw c.as_slice-code.ensures at c.instr_at-found.ensures.found in
    record {
      mark = c.in-Some.mark;
      is = number.has;
      by = c.counts_by-counts.ensures;
      some = some;
      went = goes_made c.args.program.now c.args.own.now c.args.frames.now c.args.heap.now c.args.own.now.code c.in-Some.at c.instr_at-found.result.0.now c.instr_at-found.result.1
          (c.requires.fine c.in-Some.mark number.has some) c.requires.roomy c.requires.own refl found number.stands c.act-moved.new.frame c.act-moved.new.heap c.act-moved.ensures.same c.in-Made.name (rw c.in-Made.is at c.act-moved.ensures.step);
    }

pub returns-in-Jump-clause-does : goal.returns-in-Jump-clause-does
returns-in-Jump-clause-does c =
    let number : IsNumber c.args.own.now.code c.args.marks.now c.args.own.now.code_length c.args.frames.now.top.pc c.in-Some.at c.in-Some.mark = grind (arith, c.as_slice-code.ensures, c.in-Some.ensures, c.in-Some.at-is, c.in-Some.mark-is) in
    let some : (c.in-Some.mark && c.args.live) ≡ true → 0 < c.args.left = λ e. c.is_spent.ensures.no c.if-is_spent.false (c.counts_by-counts.ensures ∙ e) in
    let found = rw c.as_slice-code.ensures at c.instr_at-found.ensures.found in
    record {
      mark = c.in-Some.mark;
      is = number.has;
      by = c.counts_by-counts.ensures;
      some = some;
      went = goes_at c.args.program.now c.args.own.now c.args.frames.now c.args.heap.now c.args.own.now.code c.in-Some.at c.instr_at-found.result.0.now c.instr_at-found.result.1
          (c.requires.fine c.in-Some.mark number.has some) c.requires.roomy c.requires.own refl found number.stands c.act-moved.new.frame c.act-moved.new.heap c.act-moved.ensures.same c.in-Jump.to (rw c.in-Jump.is at c.act-moved.ensures.step);
    }

pub returns-in_default-moved-clause-does : goal.returns-in_default-moved-clause-does
returns-in_default-moved-clause-does c =
    let number : IsNumber c.args.own.now.code c.args.marks.now c.args.own.now.code_length c.args.frames.now.top.pc c.in-Some.at c.in-Some.mark = grind (arith, c.as_slice-code.ensures, c.in-Some.ensures, c.in-Some.at-is, c.in-Some.mark-is) in
    let some : (c.in-Some.mark && c.args.live) ≡ true → 0 < c.args.left = λ e. c.is_spent.ensures.no c.if-is_spent.false (c.counts_by-counts.ensures ∙ e) in
    let found = rw c.as_slice-code.ensures at c.instr_at-found.ensures.found in
    record {
      is = number.has;
      some = some;
      shows = shows_of c.args.program.now c.args.own.now c.args.frames.now c.args.heap.now c.args.own.now.code c.in-Some.at c.instr_at-found.result.0.now c.instr_at-found.result.1
          (c.requires.fine c.in-Some.mark number.has some) c.requires.roomy c.requires.own refl found number.stands c.act-moved.new.frame c.act-moved.new.heap c.act-moved.ensures.same c.act-moved.result c.act-moved.ensures.step;
      same = sym c.act-moved.ensures.same.method;
      below = refl;
    }
