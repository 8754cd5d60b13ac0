use Rattle.std.proofs.Common.{◌≡◌, ◌≤◌, ℕ, zero, suc, List, [], ◌∷◌, ◌++◌, length, ◌∙◌, refl, sym, ap, arith, take}
use Rattle.kilim_class_mutf8.specs.Spelling.{spelling}
use Rattle.kilim_class_mutf8.proofs.Written.{one_written, taken_back}
use Rattle.kilim_class_mutf8.proofs.writing.write.Goals as goal

take_all : (units : List ℕ) (i : ℕ) → length units ≤ i → take i units ≡ units
take_all [] zero all = refl
take_all [] (suc i) all = refl
take_all (u ∷ units) zero all = absurd (omega arith)
take_all (u ∷ units) (suc i) all = ap (λ (us : List ℕ). u ∷ us) (take_all units i (omega arith))

pub returns-clause-ok : goal.returns-clause-ok
returns-clause-ok c =
    c.loop-unit.invariant.written
    ∙ ap (λ (units : List ℕ). c.args.into.now.items ++ spelling units) (take_all c.as_slice-unit-items.result.now c.loop-unit.unit-index (omega arith) ∙ c.as_slice-unit-items.ensures)

pub loop-unit-preserved : goal.loop-unit-preserved
loop-unit-preserved c = record {
  before = c.loop-unit.invariant.before;
  written = one_written c.push_unit.result c.as_slice-unit-items.result.now c.loop-unit.unit-index c.args.into.now.items c.loop-unit.into.items c.push_unit.new.into.items
      c.loop-unit-test.true c.loop-unit.invariant.written c.push_unit.ensures.ok (sym c.is_err.ensures.value ∙ c.if-is_err.false);
}

pub returns-then-is_err-clause-err : goal.returns-then-is_err-clause-err
returns-then-is_err-clause-err c =
    taken_back c.push_unit.result c.args.into.now.items c.loop-unit.into.items c.push_unit.new.into.items (spelling (take c.loop-unit.unit-index c.as_slice-unit-items.result.now)) c.truncate.new.self.items c.len-before.result
    c.loop-unit.invariant.before c.loop-unit.invariant.written c.push_unit.ensures.err (sym c.is_err.ensures.value ∙ c.if-is_err.true) c.truncate.ensures.items
