use Rattle.std.proofs.Common.{◌≡◌, ◌∙◌, ℕ, Option, Some, None, ap}
use Rattle.std.specs.Prelude.{◌==◌, if◌then◌else◌}
use Rattle.kilim_weave_method.specs.Found.{or_first}
use Rattle.kilim_weave_method.proofs.find.note.Goals as goal

pub returns : goal.returns
returns c k = c.fill.ensures k ∙ ap (λ (o : Option ℕ). or_first o (if k == c.args.number then Some c.args.place else None)) (c.in_ok-grow.ensures.same k)
