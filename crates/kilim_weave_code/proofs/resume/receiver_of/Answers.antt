use Rattle.std.proofs.Common.{List, ◌∷◌, ap, sym, ◌∙◌}
use Rattle.kilim_program.specs.declared.verified.VType.{VType}
use Rattle.kilim_weave_spec.specs.Woven as form
use Rattle.kilim_weave_pieces.specs.Meant.{meant}
use Rattle.kilim_weave_pieces.specs.Items.{items_of}
use Rattle.kilim_weave_code.proofs.Putting.{on_ok}
use Rattle.kilim_weave_code.proofs.resume.receiver_of.Goals as goal

pub returns-in-Ok : goal.returns-in-Ok
returns-in-Ok c =
    let x = meant c.args.plan.now in
    let old = items_of c.args.items.now in
    on_ok c.call_fiber.result
    (λ e. e ∙ (ap (λ (items : List form.Item). form.load_fiber x ∷ form.calls_member x 10 ∷ items) c.in-Ok.ensures ∙ ap (λ (t : VType). form.receiver_of x t old) (sym c.in-Object.is)))
    c.call_fiber.ensures
