use Rattle.std.proofs.Common.{◌+◌, ◌-◌, Bool, Option, Some, not, ap, sym, subst, ◌∙◌}
use Rattle.std.specs.Prelude.{◌&&◌}
use Rattle.kilim_run_state.specs.declared.frames.frames.Frames.{Frames}
use Rattle.kilim_fiber_steps.specs.Woven.{HasFiberRun, IsFiberSafe}
use Rattle.kilim_fiber_body.specs.Body.{calls_in, standing_at}
use Rattle.kilim_fiber_body.specs.Legs.{HasGone}
use Rattle.kilim_fiber_body.specs.Steps.{setting_of}
use Rattle.kilim_fiber_body.proofs.Going.{whole_limit}
use Rattle.kilim_fiber_body.proofs.Running.{fiber_gone, fiber_safe}
use Rattle.kilim_fiber_body.proofs.legs.go.Goals as goal

pub run_counted-requires-clause-safe : goal.run_counted-requires-clause-safe
run_counted-requires-clause-safe c =
    let steps = c.args.limits.now.steps in
    let count = c.args.body.now.count in
    subst (λ (o : Option Frames). IsFiberSafe c.args.code.now.program c.args.code.now.counted (steps - count) (calls_in o) c.args.body.now.heap c.args.body.now.records) c.in-Some.is
    (fiber_safe (setting_of c.args.code.now c.args.limits.now c.args.main) c.args.code.now.program c.args.code.now.counted c.args.task c.args.body.now (steps - count) (whole_limit count steps c.requires.most) c.requires.ready)

pub returns-clause-gone : goal.returns-clause-gone
returns-clause-gone c =
    let set = setting_of c.args.code.now c.args.limits.now c.args.main in
    let steps = c.args.limits.now.steps in
    let count = c.args.body.now.count in
    subst (λ (counts : Bool). HasGone set c.args.code.now.program c.args.code.now.counted c.args.task (standing_at 0 c.args.body.now)
    (record c.args.body.now { frames = Some c.run_counted.new.frames; records = c.run_counted.new.records; heap = c.run_counted.new.heap; count = count + c.in-Ok.ran.steps }) counts c.in-Ok.ran.halted)
    (sym (c.counts_by.ensures ∙ ap (λ (b : Bool). c.in-Ok.ran.mark && not b) c.is_rewinding-live.ensures))
    (fiber_gone (setting_of c.args.code.now c.args.limits.now c.args.main) c.args.code.now.program c.args.code.now.counted c.args.task c.args.body.now (steps - count) (whole_limit count steps c.requires.most)
    c.in-Ok.ran.steps c.in-Ok.ran.mark c.in-Ok.ran.halted c.run_counted.new.frames c.run_counted.new.heap c.run_counted.new.records c.requires.ready
    (subst (λ (o : Option Frames). HasFiberRun c.args.code.now.program c.args.code.now.counted (steps - count) (calls_in o) c.args.body.now.heap c.args.body.now.records c.in-Ok.ran.steps c.in-Ok.ran.mark c.in-Ok.ran.halted c.run_counted.new.frames c.run_counted.new.heap c.run_counted.new.records)
    (sym c.in-Some.is) c.in-Ok.ensures.run))
