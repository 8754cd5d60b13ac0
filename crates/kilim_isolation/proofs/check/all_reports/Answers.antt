use Rattle.std.proofs.Common.{◌≡◌, List, length, ap, subst, arith}
use Rattle.std.proofs.lemmas.List.{take_all}
use Rattle.std.specs.List.{flat_map}
use Rattle.kilim_program.specs.declared.class.Class.{Class}
use Rattle.kilim_isolation.specs.Faults.{AreReports, AreReportsOfAll}
use Rattle.kilim_isolation.proofs.check.all_reports.Goals as goal

pub returns : goal.returns
unfolding AreReports
returns c =
    let same : length c.classes_of-class-items.result.now ≡ length c.args.typed.now.program.classes = ap length c.classes_of-class-items.ensures in
    subst (λ (classes : List Class). AreReportsOfAll c.args.typed.now (flat_map (λ (class : Class). class.methods) classes) c.loop-class.reports)
    (take_all c.loop-class.class-index c.args.typed.now.program.classes (omega arith)) c.loop-class.invariant
