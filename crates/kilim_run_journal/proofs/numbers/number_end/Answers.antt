use Rattle.std.proofs.Common.{arith, sym, ◌∙◌, ◌≡◌, length}
use Rattle.std.proofs.lemmas.List.Sums.{prefix_len_is}
use Rattle.kilim_run_journal.specs.Fronts.{is_number_unit}
use Rattle.kilim_run_journal.proofs.numbers.number_end.Goals as goal

pub returns-then-not-is_number_unit-clause-place : goal.returns-then-not-is_number_unit-clause-place
returns-then-not-is_number_unit-clause-place c = sym (prefix_len_is is_number_unit c.args.bytes.now c.loop-i.i 0 (omega arith) c.loop-i.invariant (λ _. sym c.is_number_unit.ensures ∙ c.if-not-is_number_unit.true))

pub returns-clause-place : goal.returns-clause-place
returns-clause-place c =
    let at_end : c.loop-i.i ≡ length c.args.bytes.now = omega (arith, c.loop-i-test.false, c.loop-i.auto.i-end) in
    sym (prefix_len_is is_number_unit c.args.bytes.now c.loop-i.i 0 (omega arith) c.loop-i.invariant (λ lt. absurd (omega arith)) ∙ at_end)
