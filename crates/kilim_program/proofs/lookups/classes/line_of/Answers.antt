use Rattle.std.proofs.Common.{◌≡◌, ◌∙◌, sym, ap, ◌∷◌, [], ◌++◌, ◌-◌, List, Some, append_assoc, arith}
use Rattle.kilim_program.specs.declared.names.ClassId.{ClassId}
use Rattle.kilim_program.specs.Names.{class_at, line_of, line_up_to}
use Rattle.kilim_program.proofs.lookups.Steps.{line_step}
use Rattle.kilim_program.proofs.lookups.classes.line_of.Goals as goal

pub loop-left-preserved : goal.loop-left-preserved
loop-left-preserved c =
    let there : class_at c.args.program.now c.loop-left.at ≡ Some c.in-Some.found.now = grind (arith, c.in-Some.ensures, c.class_at.ensures) in
    let rest : List ClassId = line_up_to c.args.program.now (c.loop-left.left - 1) c.in-Some-superclass.up in
    let step = line_step c.args.program.now c.loop-left.left c.loop-left.at c.in-Some.found.now c.in-Some-superclass.up c.loop-left-test.true there c.in-Some-superclass.is in
    let pushed : c.push_class.new.line.items ≡ c.loop-left.line.items ++ c.loop-left.at ∷ [] = grind (arith, c.in_ok-push_class.ensures) in
    ap (λ (t : List ClassId). t ++ rest) pushed
    ∙ (append_assoc c.loop-left.line.items (c.loop-left.at ∷ []) rest
    ∙ (ap (λ (t : List ClassId). c.loop-left.line.items ++ t) (sym step) ∙ c.loop-left.invariant))
