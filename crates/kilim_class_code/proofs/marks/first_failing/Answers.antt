use Rattle.std.specs.Prelude.{FitsSigned}
use Rattle.std.proofs.Common.{rules}
use Rattle.std.specs.Int.{w64}
use Rattle.std.proofs.lemmas.Int.{to_z-of_z}
use Rattle.kilim_class_code.specs.Code.{first_failing}
use Rattle.kilim_class_code.specs.Marks.{is_marked}
use Rattle.kilim_class_code.proofs.Marking.{found_failing, none_failing, all_passed}
use Rattle.kilim_class_code.proofs.marks.first_failing.Goals as goal

pub returns-in-Some : goal.returns-in-Some
returns-in-Some c =
    let fits : FitsSigned w64 c.in-Some.to = search rules in
    rw (to_z-of_z w64 c.in-Some.to fits)
    (found_failing (is_marked c.args.marks.now) c.args.code.now c.loop-at.at-index c.loop-at-item.result c.loop-at-test.true c.loop-at-item.is c.in-Some.to (first_failing (is_marked c.args.marks.now) c.args.code.now) c.in-Some.ensures c.loop-at.invariant)

pub loop-at-preserved : goal.loop-at-preserved
loop-at-preserved c =
    none_failing (is_marked c.args.marks.now) c.args.code.now c.loop-at.at-index c.loop-at-item.result c.loop-at-test.true c.loop-at-item.is (first_failing (is_marked c.args.marks.now) c.args.code.now) c.in_default.ensures c.loop-at.invariant

pub returns : goal.returns
returns c = all_passed (is_marked c.args.marks.now) c.args.code.now c.loop-at.at-index (first_failing (is_marked c.args.marks.now) c.args.code.now) c.loop-at-test.false c.loop-at.invariant
