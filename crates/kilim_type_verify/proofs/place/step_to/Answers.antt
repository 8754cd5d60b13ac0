use Rattle.std.proofs.Common.{true, false, refl}
use Rattle.kilim_type_spec.specs.Step.{type_step}
use Rattle.kilim_type_verify.proofs.Rules.{no_flow, no_frame, stepped}
use Rattle.kilim_type_verify.proofs.place.step_to.Goals as goal

pub returns-then-not-all_flow : goal.returns-then-not-all_flow
returns-then-not-all_flow c = λ es e.
    no_flow c.args.program.now c.args.method.now c.args.instr.now es c.args.behind c.args.targets.now c.ends_path-ends.result e c.requires c.ends_path-ends.ensures
    (type_step c.args.program.now c.args.method.now c.args.at c.args.instr.now c.args.state.now) c.type_step-stepped.new.state false c.targets_declared-followed.result c.in-Ok.ensures c.if-not-all_flow.ensures c.targets_declared-followed.ensures refl

pub returns-then-not-followed : goal.returns-then-not-followed
returns-then-not-followed c = λ es e.
    no_frame c.args.program.now c.args.method.now c.args.instr.now es c.args.behind c.args.targets.now c.ends_path-ends.result e c.requires c.ends_path-ends.ensures
    (type_step c.args.program.now c.args.method.now c.args.at c.args.instr.now c.args.state.now) c.type_step-stepped.new.state true c.targets_declared-followed.result c.in-Ok.ensures c.if-not-all_flow.ensures c.targets_declared-followed.ensures refl c.if-not-followed.true

pub returns-else-not-followed : goal.returns-else-not-followed
returns-else-not-followed c = λ es e.
    stepped c.args.program.now c.args.method.now c.args.instr.now es c.args.behind c.args.targets.now c.ends_path-ends.result e c.requires c.ends_path-ends.ensures
    (type_step c.args.program.now c.args.method.now c.args.at c.args.instr.now c.args.state.now) c.type_step-stepped.new.state true c.targets_declared-followed.result c.in-Ok.ensures c.if-not-all_flow.ensures c.targets_declared-followed.ensures refl c.if-not-followed.false
