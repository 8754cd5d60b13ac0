use Rattle.std.proofs.Common.{pos, get_or, add-one, rules, subst, sym, ℤ, List}
use Rattle.std.specs.Prelude.{FitsSigned}
use Rattle.std.specs.Int.{w32, w64}
use Rattle.std.proofs.lemmas.Int.{to_z-of_z}
use Rattle.std.proofs.lemmas.List.{drop_all}
use Rattle.std.specs.List.{AllByRecursion}
use Rattle.kilim_class_code.specs.opcodes.Instr.{TargetFits}
use Rattle.kilim_class_making.proofs.code_bytes.Lists.{all_from}
use Rattle.kilim_class_making.proofs.code_bytes.writing.all_far.Goals as goal

pub loop-to-preserved : goal.loop-to-preserved
loop-to-preserved c =
    let place : FitsSigned w64 (get_or c.args.targets.now c.loop-to.to-index (pos 0)) = search rules in
    λ rest. c.loop-to.invariant
    (all_from (TargetFits w32 c.args.at) c.args.targets.now c.loop-to.to-index (pos 0) c.loop-to-test.true (simp to_z-of_z at (c.is_far.ensures c.if-not-is_far.false)) (rw add-one at rest))

pub returns : goal.returns
returns c = λ holds. c.loop-to.invariant (subst (λ (targets : List ℤ). AllByRecursion (TargetFits w32 c.args.at) targets) (sym (drop_all c.loop-to.to-index c.args.targets.now c.loop-to-test.false)) tt)
