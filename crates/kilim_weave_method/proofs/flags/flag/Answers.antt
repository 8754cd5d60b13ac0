use Rattle.std.proofs.Common.{◌≡◌, ◌∙◌, ℕ, Bool, List, true, false, ap, get_or}
use Rattle.std.specs.Prelude.{◌==◌, if◌then◌else◌}
use Rattle.kilim_weave_method.proofs.Flagged.{raised}
use Rattle.kilim_weave_method.proofs.flags.flag.Goals as goal

pub returns : goal.returns
returns c k =
    ap (λ (t : List Bool). get_or t k false) c.raise.ensures
    ∙ (raised c.grow.new.flags.items c.args.place c.in_ok-grow.ensures.room k ∙ ap (λ (b : Bool). if c.args.place == k then true else b) (c.in_ok-grow.ensures.same k))
