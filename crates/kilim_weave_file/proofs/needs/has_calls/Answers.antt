use Rattle.std.proofs.Common.{ℕ, ◌≤◌, ◌∙◌, List, ap, length, subst, sym}
use Rattle.std.proofs.lemmas.List.{drop_all}
use Rattle.std.specs.List.{list_any}
use Rattle.kilim_program.specs.declared.instr.Instr.{Instr}
use Rattle.kilim_weave_file_spec.specs.Raw.{is_pausable_call}
use Rattle.kilim_weave_file.proofs.Loops.{found_at, passed_at}
use Rattle.kilim_weave_file.proofs.needs.has_calls.Goals as goal

pub returns-then-is_pausable_call : goal.returns-then-is_pausable_call
returns-then-is_pausable_call c =
    found_at (λ (e : ℕ × Instr). is_pausable_call c.args.program.now e.1) c.as_slice-entry-items.result.now c.args.method.now.code c.loop-entry.entry-index c.entry-item.result c.is_pausable_call.result
    c.as_slice-entry-items.ensures c.loop-entry-test.true c.entry-item.is c.is_pausable_call.ensures c.loop-entry.invariant c.if-is_pausable_call.true

pub loop-entry-preserved : goal.loop-entry-preserved
loop-entry-preserved c =
    passed_at (λ (e : ℕ × Instr). is_pausable_call c.args.program.now e.1) c.as_slice-entry-items.result.now c.args.method.now.code c.loop-entry.entry-index c.entry-item.result c.is_pausable_call.result
    c.as_slice-entry-items.ensures c.loop-entry-test.true c.entry-item.is c.is_pausable_call.ensures c.loop-entry.invariant c.if-is_pausable_call.false

pub returns : goal.returns
returns c =
    let within : length c.args.method.now.code ≤ c.loop-entry.entry-index = subst (λ (code : List (ℕ × Instr)). length code ≤ c.loop-entry.entry-index) c.as_slice-entry-items.ensures c.loop-entry-test.false in
    ap (list_any (λ (e : ℕ × Instr). is_pausable_call c.args.program.now e.1)) (sym (drop_all c.loop-entry.entry-index c.args.method.now.code within)) ∙ c.loop-entry.invariant
