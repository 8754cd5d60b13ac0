use Rattle.std.proofs.Common.{◌∙◌, sym, ap, refl, List, ◌∷◌, None, map}
use Rattle.kilim_run_state.specs.declared.frames.frame.Frame.{Frame}
use Rattle.kilim_run_state.specs.frames.Calls.{activation}
use Rattle.kilim_run_interp.proofs.Entering.{callers_roomy, ends_all, leaves}
use Rattle.kilim_run_interp.proofs.machine.leave.Goals as goal

pub returns-then-go_back-clause-roomy : goal.returns-then-go_back-clause-roomy
returns-then-go_back-clause-roomy c =
    let all = callers_roomy c.args.program.now c.args.frames.now.below c.go_back.new.self c.go_back.new.top (c.go_back.ensures.yes c.if-go_back.true) c.requires.below in
    record { top = all.0; below = all.1 }

pub returns-then-go_back-clause-steps : goal.returns-then-go_back-clause-steps
returns-then-go_back-clause-steps c heap =
    leaves None c.args.frames.now.below c.go_back.new.self c.go_back.new.top (activation c.go_back.new.top ∷ map activation c.go_back.new.self) heap (c.go_back.ensures.yes c.if-go_back.true) refl

pub returns-else-go_back-clause-steps : goal.returns-else-go_back-clause-steps
returns-else-go_back-clause-steps c heap =
    let none = c.go_back.ensures.no c.if-go_back.false in
    (ends_all None c.args.frames.now.below heap none.0, record { frames = ap (λ (b : List Frame). activation c.go_back.new.top ∷ map activation b) (none.1 ∙ sym none.0) ∙ ap (λ (f : Frame). activation f ∷ map activation c.args.frames.now.below) none.2; heap = refl })
